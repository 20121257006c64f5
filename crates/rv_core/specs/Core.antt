-- A core: what its state is, and what it does in a step.
use Rattle.std.specs.Prelude.{ℕ, ◌+◌, ◌-◌, ◌%◌, ◌^◌, ◌<◌, ◌≤◌, ◌==◌, ◌++◌, List, [], ◌∷◌, length, drop, min, Option, Some, None, Bool, true, false, nat_lt, slice_get, slice_set, replicate}
use Rattle.std.specs.Int.{w32, to_le_bytes, from_le_bytes}
use Rattle.port_msg.specs.PortView.{PortView}
use Rattle.port_row.specs.Row.{PortsView}
use Rattle.port_msg.specs.declared.message.Msg.{Msg}
use Rattle.port_msg.specs.declared.message.MsgKind.{MsgKind}
use Rattle.port_msg.specs.declared.message.MsgKind.TheVariants.{Token, Read, Write, ReadRsp, WriteRsp, Flush as FlushKind, FlushRsp}
use Rattle.port_msg.specs.declared.records.Cause.{Cause}
use Rattle.port_msg.specs.declared.records.Cause.TheVariants.{Exit, Illegal, BadCall, Break as BreakCause, MisalignedJump, MisalignedLoad, MisalignedStore, UnmappedFetch, UnmappedLoad, UnmappedStore}
use Rattle.port_msg.specs.declared.records.What.{What}
use Rattle.port_msg.specs.declared.records.What.TheVariants.{Send, Take, Out, Halt}
use Rattle.sim_base.specs.declared.numbers.PartNo.{PartNo}
use Rattle.sim_base.specs.declared.numbers.PortNo.{PortNo}
use Rattle.addr_map.specs.declared.range.Range.{Range}
use Rattle.addr_map.specs.Range.{target_at}
use Rattle.rv_isa.specs.declared.effect.Effect.{Effect}
use Rattle.rv_isa.specs.declared.effect.Effect.TheVariants.{Go, Load as LoadEffect, Store as StoreEffect, Fence, Call, Break, BadTarget}
use Rattle.rv_isa.specs.Effect.{word_effect, wrapped, loaded, IsWidth}
use Rattle.rv_isa.specs.Regs.{register, written}
use Rattle.tick_law.specs.Machine.{Machine, Outcome}
use Rattle.tick_law.specs.OnePort.{Act, nothing, act_where, head_of, has_room}
use Rattle.tick_law.specs.Pass.{port_at}
use Rattle.rv_core.specs.declared.access.Access.{Access}
use Rattle.rv_core.specs.declared.access.Deed.{Deed}
use Rattle.rv_core.specs.declared.access.Deed.TheVariants.{Load, Store}
use Rattle.rv_core.specs.declared.phase.CorePhase.{CorePhase}
use Rattle.rv_core.specs.declared.phase.CorePhase.TheVariants.{Fetch as InFetch, WaitInst as InWaitInst, Mem as InMem, WaitData as InWaitData, Flush as InFlush, WaitFlush as InWaitFlush, Halted as InHalted}
use Rattle.rv_core.specs.declared.stage.Stage.{Stage}
use Rattle.rv_core.specs.declared.stage.Stage.TheVariants.{Fetch, WaitInst, Mem, WaitData, Flush, WaitFlush, Halted}
use Rattle.rv_core.specs.declared.core_part.CoreText.{CoreText}

pub record CoreState : Type 0 where
  pub part : PartNo
  pub inst_port : PortNo
  pub data_port : PortNo
  pub period : ℕ
  pub inst_map : List Range
  pub data_map : List Range
  pub caches : List PortNo
  pub regs : List ℕ
  pub pc : ℕ
  pub retired : ℕ
  pub requests : ℕ
  pub stage : Stage

-- a load writes one of the 32 registers
abbrev pub IsDeed : Deed → Type 0
IsDeed (Load rd signed) = rd < 32
IsDeed (Store value) = Unit {0}

-- a load or a store that a core can have under way
pub record IsAccess (access : Access) : Type 0 where
  pub width : IsWidth access.bytes
  pub deed : IsDeed access.deed

-- a phase that a core with these caches can be in: a cache that is flushed is one of them
abbrev pub IsStage : List PortNo → Stage → Type 0
IsStage caches Fetch = Unit {0}
IsStage caches WaitInst = Unit {0}
IsStage caches (Mem to access) = IsAccess access
IsStage caches (WaitData access) = IsAccess access
IsStage caches (Flush cache) = cache < length caches
IsStage caches (WaitFlush cache) = cache < length caches
IsStage caches (Halted cause) = Unit {0}

-- a state that a core can be in
pub record IsCore (s : CoreState) : Type 0 where
  pub period_some : 0 < s.period
  pub period_short : s.period ≤ 1000000000
  pub stage : IsStage s.caches s.stage

-- the state that a core starts in
abbrev pub opening : CoreText → CoreState
opening text = record { part = record { 0 = text.actor.0 }; inst_port = text.inst_port; data_port = text.data_port; period = text.period; inst_map = text.inst_map; data_map = text.data_map; caches = text.caches; regs = replicate 32 0; pc = text.pc; retired = 0; requests = 0; stage = Fetch }

-- the phase without what it is about
abbrev pub phase_of : Stage → CorePhase
phase_of Fetch = InFetch
phase_of WaitInst = InWaitInst
phase_of (Mem to access) = InMem
phase_of (WaitData access) = InWaitData
phase_of (Flush cache) = InFlush
phase_of (WaitFlush cache) = InWaitFlush
phase_of (Halted cause) = InHalted

-- why it halted, or none while it runs
abbrev pub cause_of : Stage → Option Cause
cause_of Fetch = None
cause_of WaitInst = None
cause_of (Mem to access) = None
cause_of (WaitData access) = None
cause_of (Flush cache) = None
cause_of (WaitFlush cache) = None
cause_of (Halted cause) = Some cause

abbrev pub is_halted : Stage → Bool
is_halted Fetch = false
is_halted WaitInst = false
is_halted (Mem to access) = false
is_halted (WaitData access) = false
is_halted (Flush cache) = false
is_halted (WaitFlush cache) = false
is_halted (Halted cause) = true

-- a count of 64 bits goes up by one, or stays at its greatest number
abbrev pub rose : ℕ → ℕ
rose n = min (n + 1) (2 ^ 64 - 1)

-- an instruction retires: it counts, and the one at this address is fetched
abbrev pub retire_to : CoreState → ℕ → CoreState
retire_to s next = record s { pc = next; retired = rose s.retired; stage = Fetch }

-- an instruction retires, and the one at the next word is fetched
abbrev pub retire : CoreState → CoreState
retire s = retire_to s (wrapped (s.pc + 4))

-- a register is written
abbrev pub with_register : CoreState → ℕ → ℕ → CoreState
with_register s rd value = record s { regs = written s.regs rd value }

-- what is done to the state, and what is recorded
pub record Change : Type 0 where
  pub state : CoreState
  pub records : List What

-- of which nothing is recorded
abbrev pub became : CoreState → Change
became s = record { state = s; records = [] }

-- a halt is recorded; pc stays at the instruction, and no register is written
abbrev pub halt : Cause → CoreState → Change
halt cause s = record { state = record s { stage = Halted cause }; records = Halt cause ∷ [] }

-- a change without a message
abbrev pub acted : Change → PortView → Act CoreState
acted c p = record { state = c.state; port = p; records = c.records; flag = true }

-- an answer was taken, and the change followed from it
abbrev pub took : Msg → Change → PortView → Act CoreState
took m c p = record { state = c.state; port = record p { incoming = drop 1 p.incoming }; records = Take m ∷ c.records; flag = true }

-- a request was sent, whose answer is waited for in this phase
abbrev pub sent : Msg → Stage → CoreState → PortView → Act CoreState
sent m stage s p = record { state = record s { requests = rose s.requests; stage = stage }; port = record p { outgoing = p.outgoing ++ m ∷ [] }; records = Send m ∷ []; flag = true }

-- with room, a request is sent
abbrev pub send : Msg → Stage → CoreState → PortView → Act CoreState
send m stage s p = act_where (has_room p) (sent m stage s p) s p

-- a request to read bytes: its number is how many requests were sent before
unfoldable pub read_request : CoreState → PortNo → PortNo → ℕ → ℕ → Msg
read_request s src dst addr bytes = record { id = record { part = s.part; seq = s.requests }; src = src; dst = dst; kind = Read; addr = addr; len = bytes; bytes = replicate 64 0 }

-- a request to write the low bytes of a value, the lowest first
unfoldable pub write_request : CoreState → PortNo → ℕ → ℕ → ℕ → Msg
write_request s dst addr bytes value = record { id = record { part = s.part; seq = s.requests }; src = s.data_port; dst = dst; kind = Write; addr = addr; len = bytes; bytes = to_le_bytes w32 value ++ replicate 60 0 }

-- a request to a cache to write its lines down
unfoldable pub flush_request : CoreState → PortNo → Msg
flush_request s dst = record { id = record { part = s.part; seq = s.requests }; src = s.data_port; dst = dst; kind = FlushKind; addr = 0; len = 0; bytes = replicate 64 0 }

-- the request of a load or a store
abbrev pub access_request_of : CoreState → PortNo → ℕ → ℕ → Deed → Msg
access_request_of s dst addr bytes (Load rd signed) = read_request s s.data_port dst addr bytes
access_request_of s dst addr bytes (Store value) = write_request s dst addr bytes value

abbrev pub access_request : CoreState → PortNo → Access → Msg
access_request s dst access = access_request_of s dst access.addr access.bytes access.deed

-- the answer to a read of so many bytes
abbrev pub is_read_answer : ℕ → MsgKind → ℕ → Bool
is_read_answer bytes ReadRsp len = len == bytes
is_read_answer bytes Read len = false
is_read_answer bytes Write len = false
is_read_answer bytes WriteRsp len = false
is_read_answer bytes FlushKind len = false
is_read_answer bytes FlushRsp len = false
is_read_answer bytes Token len = false

-- the answer to a write
abbrev pub is_write_answer : MsgKind → ℕ → Bool
is_write_answer WriteRsp len = len == 0
is_write_answer Read len = false
is_write_answer Write len = false
is_write_answer ReadRsp len = false
is_write_answer FlushKind len = false
is_write_answer FlushRsp len = false
is_write_answer Token len = false

-- the answer to a flush
abbrev pub is_flush_answer : MsgKind → ℕ → Bool
is_flush_answer FlushRsp len = len == 0
is_flush_answer Read len = false
is_flush_answer Write len = false
is_flush_answer ReadRsp len = false
is_flush_answer WriteRsp len = false
is_flush_answer FlushKind len = false
is_flush_answer Token len = false

-- the answer to a load or a store of so many bytes
abbrev pub is_answer : Deed → ℕ → MsgKind → ℕ → Bool
is_answer (Load rd signed) bytes kind len = is_read_answer bytes kind len
is_answer (Store value) bytes kind len = is_write_answer kind len

abbrev pub fetch_to : Option PortNo → CoreState → PortView → Act CoreState
fetch_to None s p = acted (halt UnmappedFetch s) p
fetch_to (Some to) s p = send (read_request s s.inst_port to s.pc 4) WaitInst s p

abbrev pub fetch_where : Bool → CoreState → PortView → Act CoreState
fetch_where false s p = acted (halt MisalignedJump s) p
fetch_where true s p = fetch_to (target_at s.inst_map s.pc) s p

-- where pc is no multiple of 4 it halts, and where no port has its address; else with room it sends a read of 4 bytes there
abbrev pub fetch : CoreState → PortView → Act CoreState
fetch s p = fetch_where (s.pc % 4 == 0) s p

abbrev pub misaligned : Deed → Cause
misaligned (Load rd signed) = MisalignedLoad
misaligned (Store value) = MisalignedStore

abbrev pub unmapped : Deed → Cause
unmapped (Load rd signed) = UnmappedLoad
unmapped (Store value) = UnmappedStore

abbrev pub access_to : Access → Option PortNo → CoreState → Change
access_to access None s = halt (unmapped access.deed) s
access_to access (Some to) s = became (record s { stage = Mem to access })

abbrev pub access_where : Access → Bool → CoreState → Change
access_where access false s = halt (misaligned access.deed) s
access_where access true s = access_to access (target_at s.data_map access.addr) s

-- a load or a store halts where its address is no multiple of its bytes, and where no port has it; else it is to be sent there
abbrev pub begin_access : Access → CoreState → Change
begin_access access s = access_where access (access.addr % access.bytes == 0) s

abbrev pub flush_where : ℕ → Bool → CoreState → CoreState
flush_where cache true s = record s { stage = Flush cache }
flush_where cache false s = retire s

-- the caches from a place on are to be flushed; where there is none, the FENCE retires
abbrev pub flush_from : ℕ → CoreState → CoreState
flush_from cache s = flush_where cache (nat_lt cache (length s.caches)) s

-- the program ends with the code in x10: the call retires and halts
abbrev pub exit : CoreState → Change
exit s = halt (Exit (register s.regs 10)) (record s { retired = rose s.retired })

-- the low byte of x10 is written
abbrev pub put_byte : CoreState → Change
put_byte s = record { state = retire s; records = Out (register s.regs 10 % 256) ∷ [] }

abbrev pub other_call : Bool → CoreState → Change
other_call true s = put_byte s
other_call false s = halt BadCall s

abbrev pub call_where : Bool → CoreState → Change
call_where true s = exit s
call_where false s = other_call (register s.regs 17 == 1) s

-- an environment call by x17: 93 ends the program, 1 writes a byte, and every other halts
abbrev pub call : CoreState → Change
call s = call_where (register s.regs 17 == 93) s

-- what the effect of an instruction makes the core do
abbrev pub obey : Effect → CoreState → Change
obey (Go rd value next) s = became (retire_to (with_register s rd value) next)
obey (LoadEffect rd bytes signed addr) s = begin_access (record { addr = addr; bytes = bytes; deed = Load rd signed }) s
obey (StoreEffect bytes addr value) s = begin_access (record { addr = addr; bytes = bytes; deed = Store value }) s
obey Fence s = became (flush_from 0 s)
obey Call s = call s
obey Break s = halt BreakCause s
obey BadTarget s = halt MisalignedJump s

abbrev pub obey_if : Option Effect → CoreState → Change
obey_if None s = halt Illegal s
obey_if (Some effect) s = obey effect s

-- a word is an instruction whose effect is obeyed, or else it halts
abbrev pub run : ℕ → CoreState → Change
run word s = obey_if (word_effect s.regs s.pc word) s

-- what is at the head is taken where a test of it passes, and a change follows
abbrev pub taking : (Msg → Bool) → (Msg → Change) → Option Msg → CoreState → PortView → Act CoreState
taking test change None s p = nothing s p
taking test change (Some m) s p = act_where (test m) (took m (change m) p) s p

-- with the answer to its fetch at the head, it takes it and runs the word
abbrev pub take_inst : CoreState → PortView → Act CoreState
take_inst s p = taking (λ m. is_read_answer 4 m.kind m.len) (λ m. run (from_le_bytes w32 m.bytes) s) (head_of p) s p

-- with room, it sends the request of a load or a store
abbrev pub send_access : PortNo → Access → CoreState → PortView → Act CoreState
send_access to access s p = send (access_request s to access) (WaitData access) s p

-- a load writes its register, and a load or a store retires
abbrev pub end_access : ℕ → Deed → ℕ → CoreState → CoreState
end_access bytes (Load rd signed) word s = retire (with_register s rd (loaded bytes signed word))
end_access bytes (Store value) word s = retire s

-- with the answer to a load or a store at the head, it takes it and ends the access
abbrev pub take_answer : Access → CoreState → PortView → Act CoreState
take_answer access s p = taking (λ m. is_answer access.deed access.bytes m.kind m.len) (λ m. became (end_access access.bytes access.deed (from_le_bytes w32 m.bytes) s)) (head_of p) s p

abbrev pub flush_to : ℕ → Option PortNo → CoreState → PortView → Act CoreState
flush_to cache None s p = nothing s p
flush_to cache (Some to) s p = send (flush_request s to) (WaitFlush cache) s p

-- with room, it sends a flush to the cache at a place of its list
abbrev pub send_flush : ℕ → CoreState → PortView → Act CoreState
send_flush cache s p = flush_to cache (slice_get s.caches cache) s p

-- with the answer to its flush at the head, it takes it and goes on to the next cache
abbrev pub take_flushed : ℕ → CoreState → PortView → Act CoreState
take_flushed cache s p = taking (λ m. is_flush_answer m.kind m.len) (λ m. became (flush_from (cache + 1) s)) (head_of p) s p

-- the port `inst` of a core, and its port `data`
abbrev pub inst_of : PortsView → PortView
inst_of ports = port_at ports.ports 0

abbrev pub data_of : PortsView → PortView
data_of ports = port_at ports.ports 1

-- the ports after the one at this place was changed
abbrev pub with_port : PortsView → ℕ → PortView → PortsView
with_port ports k p = record ports { ports = slice_set ports.ports k p }

-- what a phase does, at the own port of this place
abbrev pub at_place : ℕ → (CoreState → PortView → Act CoreState) → CoreState → List PortView → Outcome CoreState
at_place k rule s ports =
    let a = rule s (port_at ports k) in
    record { state = a.state; ports = slice_set ports k a.port; records = a.records; flag = a.flag }

-- one phase acts in a step: those of the instruction at the port `inst`, which is the first, the others at the port `data`
abbrev pub step_in : Stage → CoreState → List PortView → Outcome CoreState
step_in Fetch s ports = at_place 0 fetch s ports
step_in WaitInst s ports = at_place 0 take_inst s ports
step_in (Mem to access) s ports = at_place 1 (send_access to access) s ports
step_in (WaitData access) s ports = at_place 1 (take_answer access) s ports
step_in (Flush cache) s ports = at_place 1 (send_flush cache) s ports
step_in (WaitFlush cache) s ports = at_place 1 (take_flushed cache) s ports
step_in (Halted cause) s ports = record { state = s; ports = ports; records = []; flag = false }

-- it has no timers, and is done where it has halted
abbrev pub core : Machine CoreState
core = record {
  is_part = true;
  step = λ s ports n. step_in s.stage s ports;
  due = λ s n. None;
  period = λ s. s.period;
  done = λ s. is_halted s.stage;
  own = λ s. 2;
}
