-- Programs in a plan: where their bytes go, and the first segment that has a byte without a place.
use Rattle.std.specs.Prelude.{ℕ, ◌+◌, ◌-◌, nat_le, nat_lt, Bool, ◌&&◌, if◌then◌else◌, List, [], ◌∷◌, ◌++◌, map, length, replicate, flat_map, find, slice_get, slice_index, Option, Some, None, option_map, unwrap_or}
use Rattle.std.specs.Option.{option_or}
use Rattle.std.specs.Int.{w32, to_le_bytes}
use Rattle.sim_base.specs.declared.numbers.PortNo.{PortNo}
use Rattle.sim_config.specs.Tables.{PlanTables, RangeTable, ProgramTable}
use Rattle.sim_config.specs.declared.part_text.PartKeys.{PartKeys}
use Rattle.sim_config.specs.declared.part_text.PartKeys.TheVariants.{Core}
use Rattle.addr_map.specs.declared.range.Range.{Range}
use Rattle.elf_load.specs.declared.image.Image.{Image}
use Rattle.elf_load.specs.declared.segment.Segment.{Segment}
use Rattle.plan_rules.specs.Text.{◌>>=◌, part_no, program_no, ranges_by}
use Rattle.plan_rules.specs.Rules.{is_uncovered, keys_of}
use Rattle.plan_check.specs.Maps.{range_of}
use Rattle.plan_check.specs.Caches.{Way, all_caches, end_of, is_at}
use Rattle.plan_check.specs.declared.caches.CacheMap.{CacheMap}
use Rattle.plan_check.specs.declared.unmapped.Unmapped.{Unmapped}

-- the ranges of a core's data map, none for a part of another kind
abbrev pub data_ranges_of : PlanTables → Option PartKeys → List RangeTable
data_ranges_of text (Some (Core inst_map data_map pc)) = ranges_by text data_map
data_ranges_of text _ = []

-- those of the core of a program
abbrev pub data_ranges : PlanTables → ProgramTable → List RangeTable
data_ranges text program = data_ranges_of text (keys_of text (part_no text program.core))

-- the map by which the core of a program finds data
abbrev pub data_map : PlanTables → ProgramTable → List Range
data_map text program = map (range_of text) (data_ranges text program)

-- a segment, the file that has its bytes, and the way by which they come to memories
pub record Load : Type 0 where
  pub way : Way
  pub file : List ℕ
  pub segment : Segment

-- the segments of a program, in the order of their headers
abbrev pub program_loads : Way → List ℕ → List Segment → List Load
program_loads way file segments = map (λ s. record { way = way; file = file; segment = s }) segments

-- the segments of the programs of cores with these data maps, one program after the other
abbrev pub loads_of : List CacheMap → List (List Range) → List Image → List Load
loads_of caches [] images = []
loads_of caches (to ∷ maps) [] = []
loads_of caches (to ∷ maps) (image ∷ images) = program_loads (record { map = to; caches = caches }) image.file image.segments ++ loads_of caches maps images

-- the segments of all programs
abbrev pub all_loads : PlanTables → List Image → List Load
all_loads text images = loads_of (all_caches text) (map (data_map text) text.programs) images

-- an address is one of a segment's
abbrev pub has_address : Segment → ℕ → Bool
has_address s addr = nat_le s.vaddr addr && nat_lt addr (s.vaddr + s.mem_size)

-- the byte of a segment at one of its addresses: that of its file, and 0 behind the bytes that the file has for it
abbrev pub segment_byte : List ℕ → Segment → ℕ → ℕ
segment_byte file s addr = if nat_lt (addr - s.vaddr) s.file_size then slice_index file (s.from + (addr - s.vaddr)) else 0

-- the byte that a segment puts at an address of the memory of a port: none where it has no such address, or where the address
-- ends up at another port
abbrev pub byte_for : PortNo → Load → ℕ → Option ℕ
byte_for port load addr = if has_address load.segment addr && is_at port (end_of load.way addr) then Some (segment_byte load.file load.segment addr) else None

-- the byte of the last segment that puts one there
abbrev pub last_byte : PortNo → List Load → ℕ → Option ℕ
last_byte port [] addr = None
last_byte port (load ∷ loads) addr = option_or (last_byte port loads addr) (byte_for port load addr)

-- the bytes from an address on, each with the new one in its place where there is one
abbrev pub written_over : ℕ → (ℕ → Option ℕ) → List ℕ → List ℕ
written_over addr new [] = []
written_over addr new (byte ∷ bytes) = unwrap_or (new addr) byte ∷ written_over (addr + 1) new bytes

-- words in bytes, the lowest byte of each first, and zeros behind them
unfoldable pub word_bytes : ℕ → List ℕ → List ℕ
word_bytes size words = flat_map (to_le_bytes w32) words ++ replicate (size - length (flat_map (to_le_bytes w32) words)) 0

-- the bytes of a memory at first, from its base on: at each address that of the last segment that puts one there, else that of its words
abbrev pub opening_bytes : List Load → PortNo → ℕ → ℕ → List ℕ → List ℕ
opening_bytes loads port base size words = written_over base (last_byte port loads) (word_bytes size words)

-- the address of a core's first instruction: where its program begins, else its key
abbrev pub entry_or : Option Image → ℕ → ℕ
entry_or None pc = pc
entry_or (Some image) pc = image.entry

abbrev pub first_pc : PlanTables → List Image → List ℕ → ℕ → ℕ
first_pc text images core pc = entry_or (program_no text core >>= slice_get images) pc

-- where the address of a segment stands in its file: at byte 8 of its program header
abbrev pub address_place : Segment → ℕ
address_place s = s.header + 8

-- that of the first segment that has a byte in none of these ranges
abbrev pub unmapped_in : List RangeTable → List Segment → Option ℕ
unmapped_in ranges segments = option_map address_place (find (λ s. is_uncovered ranges s.vaddr s.mem_size) segments)

-- what is told of the program of a number where it has such a segment, else of those behind it
abbrev pub told_or : ℕ → Option ℕ → Option Unmapped → Option Unmapped
told_or program None later = later
told_or program (Some at) later = Some (record { program = program; at = at })

-- the first such segment of these programs, counted from a number
abbrev pub unmapped_from : PlanTables → ℕ → List ProgramTable → List Image → Option Unmapped
unmapped_from text number [] images = None
unmapped_from text number (program ∷ programs) [] = None
unmapped_from text number (program ∷ programs) (image ∷ images) = told_or number (unmapped_in (data_ranges text program) image.segments) (unmapped_from text (number + 1) programs images)

-- the first segment of all programs that has a byte to which the data map of the program's core gives no port
abbrev pub first_unmapped : PlanTables → List Image → Option Unmapped
first_unmapped text images = unmapped_from text 0 text.programs images
