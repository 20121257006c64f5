-- A memory: what its state is, and what it does in a step.
use Rattle.std.specs.Prelude.{ℕ, ◌+◌, ◌-◌, ◌*◌, ◌^◌, ◌<◌, ◌≤◌, ◌&&◌, ◌++◌, ◌==◌, List, [], ◌∷◌, length, take, drop, min, Option, Some, None, Bool, true, false, IsTrue, nat_lt, nat_le, cond, slice_get, replicate, All}
use Rattle.sim_base.specs.declared.time.TheConstants.{LATEST_TICK, LONGEST_PERIOD}
use Rattle.port_msg.specs.Kinds.{is_request, is_write}
use Rattle.port_msg.specs.PortView.{PortView}
use Rattle.port_msg.specs.declared.message.Msg.{Msg}
use Rattle.port_msg.specs.declared.message.MsgKind.TheVariants.{ReadRsp, WriteRsp}
use Rattle.port_msg.specs.declared.records.What.TheVariants.{Send, Take}
use Rattle.sim_base.specs.declared.numbers.PortNo.{PortNo}
use Rattle.tick_law.specs.Machine.{Machine}
use Rattle.tick_law.specs.OnePort.{Act, nothing, act_where, then_rule, with_port, head_of, has_room}
use Rattle.tick_law.specs.Timer.{timer_above}
use Rattle.mem_ctrl.specs.declared.memory.MemoryText.{MemoryText}
use Rattle.mem_ctrl.specs.declared.waiting.Waiting.{Waiting}

pub record MemoryState : Type 0 where
  pub top : PortNo
  pub period : ℕ
  pub base : ℕ
  pub latency : ℕ
  pub depth : ℕ
  pub bytes : List ℕ
  pub queue : List Waiting
  pub served : ℕ

-- the state that a memory starts in
abbrev pub opening : MemoryText → MemoryState
opening text = record { top = text.top; period = text.period; base = text.base; latency = text.latency; depth = text.depth; bytes = text.bytes; queue = []; served = 0 }

-- the byte at an address, or none outside the memory
abbrev pub byte_at : MemoryState → ℕ → Option ℕ
byte_at s addr = cond (nat_le s.base addr) (slice_get s.bytes (addr - s.base)) None

-- a message is about 1 to 64 bytes that all lie in a memory of this base and size
abbrev pub lies_within : ℕ → ℕ → Msg → Bool
lies_within base size m = nat_lt 0 m.len && nat_le m.len 64 && nat_le base m.addr && nat_le (m.addr + m.len) (base + size)

-- a memory of this base and size takes a message: a read or a write of its bytes
abbrev pub accepts : ℕ → ℕ → Msg → Bool
accepts base size m = is_request m.kind && lies_within base size m

-- a request that waits is one that the memory takes, and its deadline is no later than any that it can get
pub record IsWaiting (base size period : ℕ) (w : Waiting) : Type 0 where
  pub accepted : IsTrue (accepts base size w.request)
  pub early : w.deadline * period ≤ LATEST_TICK + 1000000 * period

-- a state that a memory can be in
pub record IsMemory (s : MemoryState) : Type 0 where
  pub period_some : 0 < s.period
  pub period_short : s.period ≤ LONGEST_PERIOD
  pub latency_short : s.latency ≤ 1000000
  pub depth_most : s.depth ≤ 64
  pub size_most : length s.bytes ≤ 268435456
  pub within_addresses : s.base + length s.bytes ≤ 2 ^ 32
  pub waiting : All (IsWaiting s.base (length s.bytes) s.period) s.queue

-- the place among the memory's bytes of a message's first byte
abbrev pub place_of : MemoryState → Msg → ℕ
place_of s m = m.addr - s.base

-- the bytes that a message is about
abbrev pub read : MemoryState → Msg → List ℕ
read s m = take m.len (drop (place_of s m) s.bytes)

-- bytes with others put over them from a place on
abbrev pub put_over : List ℕ → ℕ → List ℕ → List ℕ
put_over bytes at others = take at bytes ++ others ++ drop (at + length others) bytes

-- bytes with zeros behind them, 64 in all
abbrev pub filled : List ℕ → List ℕ
filled bytes = bytes ++ replicate (64 - length bytes) 0

-- the answer to a read has the bytes as they are now
unfoldable pub read_answer : MemoryState → Msg → Msg
read_answer s m = record { id = m.id; src = s.top; dst = m.src; kind = ReadRsp; addr = m.addr; len = m.len; bytes = filled (read s m) }

-- the answer to a write has none
unfoldable pub write_answer : MemoryState → Msg → Msg
write_answer s m = record { id = m.id; src = s.top; dst = m.src; kind = WriteRsp; addr = m.addr; len = 0; bytes = replicate 64 0 }

-- the answer to a request: it has the request's id and address, and goes from the memory's port to where the request came from
abbrev pub answer : MemoryState → Msg → Msg
answer s m = cond (is_write m.kind) (write_answer s m) (read_answer s m)

-- the bytes after a request: a write stores its bytes
abbrev pub stored : MemoryState → Msg → List ℕ
stored s m = cond (is_write m.kind) (put_over s.bytes (place_of s m) (take m.len m.bytes)) s.bytes

-- a request is answered and leaves the queue
abbrev pub served : MemoryState → PortView → Msg → Act MemoryState
served s p m = record { state = record s { bytes = stored s m; queue = drop 1 s.queue; served = min (s.served + 1) (2 ^ 64 - 1) }; port = record p { outgoing = p.outgoing ++ answer s m ∷ [] }; records = Send (answer s m) ∷ []; flag = true }

abbrev pub serve_of : MemoryState → PortView → ℕ → Option Waiting → Act MemoryState
serve_of s p n None = nothing s p
serve_of s p n (Some w) = act_where (nat_le w.deadline n && has_room p) (served s p w.request) s p

-- where the deadline of the queue's head is not above the cycle and there is room, it is served
abbrev pub serve : MemoryState → PortView → ℕ → Act MemoryState
serve s p n = serve_of s p n (slice_get s.queue 0)

-- a request stands in the queue, to be served the latency later
abbrev pub waiting_from : MemoryState → Msg → ℕ → Waiting
waiting_from s m n = record { request = m; deadline = n + s.latency }

abbrev pub taken : MemoryState → PortView → Msg → ℕ → Act MemoryState
taken s p m n = record { state = record s { queue = s.queue ++ waiting_from s m n ∷ [] }; port = record p { incoming = drop 1 p.incoming }; records = Take m ∷ []; flag = true }

abbrev pub has_place : MemoryState → Bool
has_place s = nat_lt (length s.queue) s.depth

abbrev pub take_of : MemoryState → PortView → ℕ → Option Msg → Act MemoryState
take_of s p n None = nothing s p
take_of s p n (Some m) = act_where (accepts s.base (length s.bytes) m && has_place s) (taken s p m n) s p

-- where the queue is shorter than its depth and a request that it takes is at the head, it is taken and queued
abbrev pub take_request : ℕ → MemoryState → PortView → Act MemoryState
take_request n s p = take_of s p n (head_of p)

abbrev pub deadline_of : Option Waiting → ℕ → Option ℕ
deadline_of None n = None
deadline_of (Some w) n = timer_above w.deadline n

-- both rules in one step, the serving first; the timer is the deadline of the queue's head, and it is done where none waits
abbrev pub memory : Machine MemoryState
memory = record {
  is_part = true;
  step = with_port (λ s p n. then_rule (take_request n) (serve s p n));
  due = λ s n. deadline_of (slice_get s.queue 0) n;
  period = λ s. s.period;
  done = λ s. length s.queue == 0;
  own = λ s. 1;
}
