-- The words of the phases of caches.
use Rattle.std.specs.Prelude.{ℕ, List, codes}
use Rattle.cache_comp.specs.declared.phase.CachePhase.{CachePhase}
use Rattle.cache_comp.specs.declared.phase.CachePhase.TheVariants.{Idle, Evict, WaitEvict, Fill, WaitFill, Reply, Flush, WaitFlush, Down, WaitDown, Run}

abbrev pub cache_phase_word : CachePhase → List ℕ
cache_phase_word Idle = codes "idle"
cache_phase_word Evict = codes "evict"
cache_phase_word WaitEvict = codes "wait-evict"
cache_phase_word Fill = codes "fill"
cache_phase_word WaitFill = codes "wait-fill"
cache_phase_word Reply = codes "reply"
cache_phase_word Flush = codes "flush"
cache_phase_word WaitFlush = codes "wait-flush"
cache_phase_word Down = codes "down"
cache_phase_word WaitDown = codes "wait-down"
cache_phase_word Run = codes "run"
