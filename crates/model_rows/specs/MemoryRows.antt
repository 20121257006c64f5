-- Steps of a memory of 8 bytes from address 256 on, with a latency of 3 cycles.
use Rattle.std.specs.Prelude.{◌≡◌, ℕ, List, [], ◌∷◌, true, false}
use Rattle.port_msg.specs.PortView.{port_view}
use Rattle.port_msg.specs.declared.message.Msg.{Msg}
use Rattle.port_msg.specs.declared.message.MsgKind.TheVariants.{Read, Write, ReadRsp, WriteRsp}
use Rattle.port_msg.specs.declared.records.What.TheVariants.{Send, Take}
use Rattle.mem_ctrl.specs.declared.waiting.Waiting.{Waiting}
use Rattle.mem_ctrl.specs.Memory.{MemoryState, memory}
use Rattle.model_rows.specs.Messages.{port, id, message}

-- the memory at port 5, with its bytes, the requests that wait and how many it has served
abbrev pub memory_with : List ℕ → List Waiting → ℕ → MemoryState
memory_with bytes queue served = record { top = port 5; period = 1000; base = 256; latency = 3; depth = 2; bytes = bytes; queue = queue; served = served }

-- request 9 of part 7, from port 3: to read 4 bytes from address 258 on, or to write two bytes there
abbrev pub read : Msg
read = message Read (id 7 9) 3 5 258 4 []

abbrev pub write : Msg
write = message Write (id 7 9) 3 5 258 2 (170 ∷ 187 ∷ [])

abbrev pub waits_until : ℕ → Msg → Waiting
waits_until deadline m = record { request = m; deadline = deadline }

-- the answers go back to port 3 with the request's id and address; that to a read has its length and the bytes from there on
abbrev pub read_answer : Msg
read_answer = message ReadRsp (id 7 9) 5 3 258 4 (3 ∷ 4 ∷ 5 ∷ 6 ∷ [])

abbrev pub write_answer : Msg
write_answer = message WriteRsp (id 7 9) 5 3 258 0 []

pub record WholeAnswers : Type 0 where
  -- taken at cycle 10, to be served from cycle 13 on
  pub taken : memory.step (memory_with (1 ∷ 2 ∷ 3 ∷ 4 ∷ 5 ∷ 6 ∷ 7 ∷ 8 ∷ []) [] 0) (port_view (read ∷ []) [] 4 ∷ []) 10
      ≡ record { state = memory_with (1 ∷ 2 ∷ 3 ∷ 4 ∷ 5 ∷ 6 ∷ 7 ∷ 8 ∷ []) (waits_until 13 read ∷ []) 0; ports = port_view [] [] 4 ∷ []; records = Take read ∷ []; flag = true }
  -- not before
  pub waits : memory.step (memory_with (1 ∷ 2 ∷ 3 ∷ 4 ∷ 5 ∷ 6 ∷ 7 ∷ 8 ∷ []) (waits_until 13 read ∷ []) 0) (port_view [] [] 4 ∷ []) 12
      ≡ record { state = memory_with (1 ∷ 2 ∷ 3 ∷ 4 ∷ 5 ∷ 6 ∷ 7 ∷ 8 ∷ []) (waits_until 13 read ∷ []) 0; ports = port_view [] [] 4 ∷ []; records = []; flag = false }
  pub is_read : memory.step (memory_with (1 ∷ 2 ∷ 3 ∷ 4 ∷ 5 ∷ 6 ∷ 7 ∷ 8 ∷ []) (waits_until 13 read ∷ []) 0) (port_view [] [] 4 ∷ []) 13
      ≡ record { state = memory_with (1 ∷ 2 ∷ 3 ∷ 4 ∷ 5 ∷ 6 ∷ 7 ∷ 8 ∷ []) [] 1; ports = port_view [] (read_answer ∷ []) 4 ∷ []; records = Send read_answer ∷ []; flag = true }
  pub is_written : memory.step (memory_with (1 ∷ 2 ∷ 3 ∷ 4 ∷ 5 ∷ 6 ∷ 7 ∷ 8 ∷ []) (waits_until 13 write ∷ []) 0) (port_view [] [] 4 ∷ []) 13
      ≡ record { state = memory_with (1 ∷ 2 ∷ 170 ∷ 187 ∷ 5 ∷ 6 ∷ 7 ∷ 8 ∷ []) [] 1; ports = port_view [] (write_answer ∷ []) 4 ∷ []; records = Send write_answer ∷ []; flag = true }
