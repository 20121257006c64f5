-- The lines of a cache: where they stand, which one gives way to another, and what is done to one.
use Rattle.std.specs.Prelude.{◌≡◌, ℕ, ◌+◌, ◌-◌, ◌*◌, ◌/◌, ◌%◌, ◌^◌, ◌<◌, ◌≤◌, ◌&&◌, ◌||◌, ◌==◌, ◌++◌, List, length, take, drop, map, min, not, cond, fold, position, replicate, Option, Some, None, Bool, true, false, nat_lt, nat_le, option_map, slice_get, slice_set, slice_index_or}
use Rattle.port_msg.specs.Kinds.{is_request, is_write}
use Rattle.port_msg.specs.declared.message.Msg.{Msg}
use Rattle.cache_comp.specs.Counts.{rose}
use Rattle.cache_comp.specs.declared.line_tag.LineTag.{LineTag}

-- the tags of the lines by set and then by way, and their bytes in the same order
pub record LinesState : Type 0 where
  -- how many bytes a line has
  pub line : ℕ
  pub sets : ℕ
  -- how many lines a set has
  pub ways : ℕ
  pub tags : List LineTag
  pub bytes : List ℕ
  -- the greatest use number that was given to a line
  pub greatest : ℕ

-- how many lines there are
abbrev pub places : LinesState → ℕ
places l = l.sets * l.ways

-- lines that a cache can have
pub record IsLines (l : LinesState) : Type 0 where
  pub line_some : 0 < l.line
  pub line_most : l.line ≤ 64
  pub sets_some : 0 < l.sets
  pub sets_most : l.sets ≤ 1024
  pub ways_some : 0 < l.ways
  pub ways_most : l.ways ≤ 16
  pub tags_all : length l.tags ≡ places l
  pub bytes_all : length l.bytes ≡ places l * l.line

-- the same sizes
pub record SameSizes (l k : LinesState) : Type 0 where
  pub line : k.line ≡ l.line
  pub sets : k.sets ≡ l.sets
  pub ways : k.ways ≡ l.ways

-- a line before its first use
abbrev pub unused : LineTag
unused = record { valid = false; dirty = false; reserved = false; tag = 0; used = 0 }

-- so many sets of so many lines, none of which was used
abbrev pub unused_lines : ℕ → ℕ → ℕ → LinesState
unused_lines line sets ways = record { line = line; sets = sets; ways = ways; tags = replicate (sets * ways) unused; bytes = replicate (sets * ways * line) 0; greatest = 0 }

-- the address of the line that an address lies in
abbrev pub line_address : ℕ → ℕ → ℕ
line_address line addr = addr - addr % line

-- the set of an address
abbrev pub set_of : LinesState → ℕ → ℕ
set_of l addr = (addr / l.line) % l.sets

-- where the ways of the set of an address begin among all lines
abbrev pub first_place : LinesState → ℕ → ℕ
first_place l addr = set_of l addr * l.ways

-- the ways of the set of an address
abbrev pub ways_of : LinesState → ℕ → List LineTag
ways_of l addr = take l.ways (drop (first_place l addr) l.tags)

-- the place among all lines of a way of the set of an address
abbrev pub place_of : LinesState → ℕ → Option ℕ → Option ℕ
place_of l addr way = option_map (λ k. first_place l addr + k) way

-- what is kept of the line at a place
abbrev pub tag_at : LinesState → ℕ → LineTag
tag_at l place = slice_index_or l.tags place unused

-- it is valid and has this line
abbrev pub holds : ℕ → LineTag → Bool
holds line t = t.valid && t.tag == line

-- it is valid and has to be written down
abbrev pub is_dirty : LineTag → Bool
is_dirty t = t.valid && t.dirty

-- it is not reserved for a line that is on its way
abbrev pub is_free : LineTag → Bool
is_free t = not t.reserved

-- it is free and invalid
abbrev pub is_vacant : LineTag → Bool
is_vacant t = is_free t && not t.valid

-- where the valid line of an address stands: at the least way of its set that has it
abbrev pub hit_place : LinesState → ℕ → Option ℕ
hit_place l addr = place_of l addr (position (holds (line_address l.line addr)) (ways_of l addr))

-- the lesser of a use number and that of a free line
abbrev pub lesser : ℕ → LineTag → ℕ
lesser least t = cond (is_free t) (min least t.used) least

-- the least use number of the free lines among these
abbrev pub least_use : List LineTag → ℕ
least_use ways = fold lesser (2 ^ 64 - 1) ways

-- it is free and has this use number
abbrev pub is_least : ℕ → LineTag → Bool
is_least least t = is_free t && t.used == least

abbrev pub else_way : Option ℕ → Option ℕ → Option ℕ
else_way (Some way) other = Some way
else_way None other = other

-- the victim among the free ways: the invalid one of least number, else the first of least use number
abbrev pub victim_way : List LineTag → Option ℕ
victim_way ways = else_way (position is_vacant ways) (position (is_least (least_use ways)) ways)

-- where the line of an address can be put
abbrev pub victim_place : LinesState → ℕ → Option ℕ
victim_place l addr = place_of l addr (victim_way (ways_of l addr))

-- the first line, by set and then by way, that has to be written down
abbrev pub first_dirty : LinesState → Option ℕ
first_dirty l = position is_dirty l.tags

-- the bytes of the line at a place
abbrev pub line_bytes : LinesState → ℕ → List ℕ
line_bytes l place = take l.line (drop (place * l.line) l.bytes)

-- bytes with others put over them from a place on
abbrev pub put_over : List ℕ → ℕ → List ℕ → List ℕ
put_over bytes at others = take at bytes ++ others ++ drop (at + length others) bytes

-- bytes with zeros behind them, 64 in all
abbrev pub filled : List ℕ → List ℕ
filled bytes = bytes ++ replicate (64 - length bytes) 0

-- a message is about 1 to 64 bytes that all lie in one line
abbrev pub lies_in_line : ℕ → Msg → Bool
lies_in_line line m = nat_lt 0 m.len && nat_le m.len 64 && nat_le (m.addr % line + m.len) line

-- the bytes that a message is about lie in one line
abbrev pub LiesInLine : ℕ → Msg → Type 0
LiesInLine line m = m.addr % line + m.len ≤ line

-- a read or a write that a cache with such lines takes
abbrev pub accepts : ℕ → Msg → Bool
accepts line m = is_request m.kind && lies_in_line line m

-- where the bytes that a message is about begin, at the line of this place
abbrev pub begin_of : LinesState → ℕ → Msg → ℕ
begin_of l place m = place * l.line + m.addr % l.line

-- the bytes that a message is about, at the line of this place
abbrev pub read : LinesState → ℕ → Msg → List ℕ
read l place m = take m.len (drop (begin_of l place m) l.bytes)

-- the bytes after the message's bytes were put into the line
abbrev pub written : LinesState → ℕ → Msg → List ℕ
written l place m = put_over l.bytes (begin_of l place m) (take m.len m.bytes)

-- the bytes after an access: a write puts its bytes into the line
abbrev pub stored : LinesState → ℕ → Msg → List ℕ
stored l place m = cond (is_write m.kind) (written l place m) l.bytes

-- the tag of a line that is used: a write marks it dirty, and it gets the greatest use number
abbrev pub used_tag : LinesState → ℕ → Bool → LineTag
used_tag l place writes = record (tag_at l place) { dirty = writes || (tag_at l place).dirty; used = rose l.greatest }

-- the line at a place is used
abbrev pub note_use : ℕ → Bool → LinesState → LinesState
note_use place writes l = record l { tags = slice_set l.tags place (used_tag l place writes); greatest = rose l.greatest }

-- an access of the line at a place: it is used, and read or written
abbrev pub access : ℕ → Msg → LinesState → LinesState
access place m l = record (note_use place (is_write m.kind) l) { bytes = stored l place m }

-- a line that becomes invalid becomes clean, and keeps the rest
abbrev pub invalid_tag : LineTag → LineTag
invalid_tag t = record t { valid = false; dirty = false }

-- the line at a place becomes invalid
abbrev pub invalidate : ℕ → LinesState → LinesState
invalidate place l = record l { tags = slice_set l.tags place (invalid_tag (tag_at l place)) }

-- all lines become invalid
abbrev pub invalidate_all : LinesState → LinesState
invalidate_all l = record l { tags = map invalid_tag l.tags }

-- the line at a place becomes invalid, and its place is reserved
abbrev pub reserve : ℕ → LinesState → LinesState
reserve place l = record l { tags = slice_set l.tags place (record (invalid_tag (tag_at l place)) { reserved = true }) }

-- the line at a place becomes clean
abbrev pub clean : ℕ → LinesState → LinesState
clean place l = record l { tags = slice_set l.tags place (record (tag_at l place) { dirty = false }) }

-- the tag of a line that came: it is valid and clean, and its place is no longer reserved
abbrev pub came_tag : LineTag → ℕ → LineTag
came_tag t line = record t { valid = true; dirty = false; reserved = false; tag = line }

-- the line of this address is put at a place, with these bytes
abbrev pub put_line : ℕ → ℕ → List ℕ → LinesState → LinesState
put_line place line bytes l = record l { tags = slice_set l.tags place (came_tag (tag_at l place) line); bytes = put_over l.bytes (place * l.line) (take l.line bytes) }

abbrev pub byte_of : LinesState → ℕ → Option ℕ → Option ℕ
byte_of l addr None = None
byte_of l addr (Some place) = slice_get l.bytes (place * l.line + addr % l.line)

-- the byte of an address, or none where no valid line holds it
abbrev pub byte_at : LinesState → ℕ → Option ℕ
byte_at l addr = byte_of l addr (hit_place l addr)
