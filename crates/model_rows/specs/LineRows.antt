-- Steps of a cache of one miss and one set of two lines of 16 bytes, those of the addresses 256 and 512.
use Rattle.std.specs.Prelude.{◌≡◌, ℕ, List, [], ◌∷◌, ◌++◌, Bool, true, false}
use Rattle.port_msg.specs.PortView.{PortView, port_view}
use Rattle.port_msg.specs.declared.message.Msg.{Msg}
use Rattle.port_msg.specs.declared.message.MsgKind.TheVariants.{Read, Write, ReadRsp, WriteRsp}
use Rattle.port_msg.specs.declared.records.What.TheVariants.{Send, Take}
use Rattle.addr_map.specs.Range.{range_of}
use Rattle.cache_comp.specs.declared.line_tag.LineTag.{LineTag}
use Rattle.cache_comp.specs.declared.stage.Stage.{Stage}
use Rattle.cache_comp.specs.declared.stage.Stage.TheVariants.{Idle, Evict, WaitEvict, Fill, WaitFill, Reply}
use Rattle.cache_comp.specs.Lines.{LinesState}
use Rattle.cache_comp.specs.Cache.{CacheState, cache}
use Rattle.model_rows.specs.Messages.{port, id, message}

-- the cache of part 2 at ports 2 and 3, with what it does, its hits, misses and requests, and its lines
abbrev pub cache_with : Stage → ℕ → ℕ → ℕ → LinesState → CacheState
cache_with stage hits misses requests lines = record {
  part = record { 0 = 2 };
  top = port 2;
  bottom = port 3;
  period = 1000;
  below = range_of 0 1024 64 (port 4 ∷ []) ∷ [];
  caches = [];
  miss_room = 1;
  lines = lines;
  hits = hits;
  misses = misses;
  requests = requests;
  stage = stage;
  table = [];
  ready = [];
}

-- a line, which is valid or not and dirty or not, with its address and its use number
abbrev pub tag : Bool → Bool → ℕ → ℕ → LineTag
tag valid dirty address used = record { valid = valid; dirty = dirty; reserved = false; tag = address; used = used }

-- both lines with their bytes, and the greatest use number that was given
abbrev pub lines_of : LineTag → LineTag → List ℕ → ℕ → LinesState
lines_of first second bytes greatest = record { line = 16; sets = 1; ways = 2; tags = first ∷ second ∷ []; bytes = bytes; greatest = greatest }

abbrev pub first_bytes : List ℕ
first_bytes = 1 ∷ 2 ∷ 3 ∷ 4 ∷ 5 ∷ 6 ∷ 7 ∷ 8 ∷ 9 ∷ 10 ∷ 11 ∷ 12 ∷ 13 ∷ 14 ∷ 15 ∷ 16 ∷ []

abbrev pub written_bytes : List ℕ
written_bytes = 1 ∷ 170 ∷ 187 ∷ 4 ∷ 5 ∷ 6 ∷ 7 ∷ 8 ∷ 9 ∷ 10 ∷ 11 ∷ 12 ∷ 13 ∷ 14 ∷ 15 ∷ 16 ∷ []

abbrev pub second_bytes : List ℕ
second_bytes = 101 ∷ 102 ∷ 103 ∷ 104 ∷ 105 ∷ 106 ∷ 107 ∷ 108 ∷ 109 ∷ 110 ∷ 111 ∷ 112 ∷ 113 ∷ 114 ∷ 115 ∷ 116 ∷ []

abbrev pub third_bytes : List ℕ
third_bytes = 201 ∷ 202 ∷ 203 ∷ 204 ∷ 205 ∷ 206 ∷ 207 ∷ 208 ∷ 209 ∷ 210 ∷ 211 ∷ 212 ∷ 213 ∷ 214 ∷ 215 ∷ 216 ∷ []

-- the second line is dirty, and the first one was used after it
abbrev pub lines : LinesState
lines = lines_of (tag true false 256 7) (tag true true 512 5) (first_bytes ++ second_bytes) 7

-- request 9 of part 7, from port 0: to read 4 bytes, or to write two bytes
abbrev pub read : ℕ → Msg
read addr = message Read (id 7 9) 0 2 addr 4 []

abbrev pub write : ℕ → Msg
write addr = message Write (id 7 9) 0 2 addr 2 (170 ∷ 187 ∷ [])

abbrev pub read_answer : ℕ → List ℕ → Msg
read_answer addr bytes = message ReadRsp (id 7 9) 2 0 addr 4 bytes

abbrev pub write_answer : ℕ → Msg
write_answer addr = message WriteRsp (id 7 9) 2 0 addr 0 []

-- what came from above, what came from below, and what is to go down
abbrev pub ports : List Msg → List Msg → List Msg → List PortView
ports above below down = port_view above [] 4 ∷ port_view below down 4 ∷ []

pub record UsedLines : Type 0 where
  -- the bytes that are read lie at place 4 of the second line, which is the one used last then
  pub read_hit : cache.step (cache_with Idle 3 2 2 lines) (ports (read 516 ∷ []) [] []) 10
      ≡ record { state = cache_with (Reply (read_answer 516 (105 ∷ 106 ∷ 107 ∷ 108 ∷ []))) 4 2 2 (lines_of (tag true false 256 7) (tag true true 512 8) (first_bytes ++ second_bytes) 8); ports = ports [] [] []; records = Take (read 516) ∷ []; flag = true }
  -- a write changes two bytes of the first line, and makes it dirty
  pub write_hit : cache.step (cache_with Idle 3 2 2 lines) (ports (write 257 ∷ []) [] []) 10
      ≡ record { state = cache_with (Reply (write_answer 257)) 4 2 2 (lines_of (tag true true 256 8) (tag true true 512 5) (written_bytes ++ second_bytes) 8); ports = ports [] [] []; records = Take (write 257) ∷ []; flag = true }
  -- bytes of two lines are not read
  pub two_lines : cache.step (cache_with Idle 3 2 2 lines) (ports (read 525 ∷ []) [] []) 10
      ≡ record { state = cache_with Idle 3 2 2 lines; ports = ports (read 525 ∷ []) [] []; records = []; flag = false }

pub record Victims : Type 0 where
  -- the line that was used first gives way, and it is to be written down
  pub least_used : cache.step (cache_with Idle 3 2 2 lines) (ports (read 768 ∷ []) [] []) 10
      ≡ record { state = cache_with (Evict (read 768) 1) 3 3 2 lines; ports = ports [] [] []; records = Take (read 768) ∷ []; flag = true }
  -- an invalid line gives way before a valid one that was used before it
  pub invalid_first : cache.step (cache_with Idle 3 2 2 (lines_of (tag true true 256 3) (tag false false 512 5) (first_bytes ++ second_bytes) 5)) (ports (read 768 ∷ []) [] []) 10
      ≡ record { state = cache_with (Fill (read 768) 1) 3 3 2 (lines_of (tag true true 256 3) (tag false false 512 5) (first_bytes ++ second_bytes) 5); ports = ports [] [] []; records = Take (read 768) ∷ []; flag = true }
  -- the write of the second line, which is request 2 of the cache
  pub evicts : cache.step (cache_with (Evict (read 768) 1) 3 3 2 lines) (ports [] [] []) 10
      ≡ record { state = cache_with (WaitEvict (read 768) 1) 3 3 3 lines; ports = ports [] [] (message Write (id 2 2) 3 4 512 16 second_bytes ∷ []); records = Send (message Write (id 2 2) 3 4 512 16 second_bytes) ∷ []; flag = true }
  -- the line of 768 is put in its place, and read
  pub fills : cache.step (cache_with (WaitFill (read 768) 1) 3 3 4 (lines_of (tag true false 256 7) (tag false false 512 5) (first_bytes ++ second_bytes) 7)) (ports [] (message ReadRsp (id 2 3) 4 3 768 16 third_bytes ∷ []) []) 10
      ≡ record { state = cache_with (Reply (read_answer 768 (201 ∷ 202 ∷ 203 ∷ 204 ∷ []))) 3 3 4 (lines_of (tag true false 256 7) (tag true false 768 8) (first_bytes ++ third_bytes) 8); ports = ports [] [] []; records = Take (message ReadRsp (id 2 3) 4 3 768 16 third_bytes) ∷ []; flag = true }
