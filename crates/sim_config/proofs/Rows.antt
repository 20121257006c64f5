-- The rows of the keys, read from the constants of the code.
use Rattle.std.specs.Prelude.{refl}
use Rattle.sim_config.specs.Rows.{TopRows, MapRows, PartRows, AgentRows, MemoryRows, CacheRows, CoreRows, LinkRows, WordRows, CacheWordRows}

pub top_rows : TopRows
top_rows = record { version = refl; until = refl; maps = refl; parts = refl; links = refl; programs = refl }

pub map_rows : MapRows
map_rows = record { ranges = refl; base = refl; size = refl; to = refl; granule = refl; address_limit = refl }

pub part_rows : PartRows
part_rows = record { period = refl; buffer = refl; token = refl }

pub agent_rows : AgentRows
agent_rows = record { base = refl; span = refl; count = refl; window = refl; gap = refl; start = refl; draw = refl }

pub memory_rows : MemoryRows
memory_rows = record { size = refl; latency = refl; depth = refl; words = refl; word_values = refl }

pub cache_rows : CacheRows
cache_rows = record { line = refl; sets = refl; ways = refl; misses = refl }

pub core_rows : CoreRows
core_rows = record { pc = refl }

pub link_rows : LinkRows
link_rows = record { ports = refl }

pub word_rows : WordRows
word_rows = record { top = refl; map = refl; range = refl; part = refl; relay = λ _. refl; agent = λ _. refl; memory = λ _. refl; core = λ _. refl; link = refl; direct = refl; program = refl }

pub cache_word_rows : CacheWordRows
cache_word_rows = record { one = refl; two = refl }
