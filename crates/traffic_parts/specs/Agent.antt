-- An agent: what its state is, and what it does in a step.
use Rattle.std.specs.Prelude.{ℕ, ◌+◌, ◌-◌, ◌*◌, ◌%◌, ◌^◌, ◌<◌, ◌≤◌, ◌==◌, ◌&&◌, ◌++◌, List, [], ◌∷◌, drop, Option, Some, None, Bool, true, false, cond, nat_lt, nat_le, replicate}
use Rattle.std.specs.Int.{w32, to_le_bytes, from_le_bytes}
use Rattle.sim_base.specs.declared.time.TheConstants.{LATEST_TICK, LONGEST_PERIOD}
use Rattle.port_msg.specs.PortView.{PortView}
use Rattle.port_msg.specs.declared.message.Msg.{Msg}
use Rattle.port_msg.specs.declared.message.MsgKind.{MsgKind}
use Rattle.port_msg.specs.declared.message.MsgKind.TheVariants.{Token, Read, Write, ReadRsp, WriteRsp, Flush, FlushRsp}
use Rattle.port_msg.specs.declared.records.What.TheVariants.{Send, Take}
use Rattle.sim_base.specs.declared.mode.Mode.{Mode}
use Rattle.sim_base.specs.declared.numbers.PartNo.{PartNo}
use Rattle.sim_base.specs.declared.numbers.PortNo.{PortNo}
use Rattle.addr_map.specs.declared.range.Range.{Range}
use Rattle.addr_map.specs.Range.{target_at}
use Rattle.tick_law.specs.Machine.{Machine}
use Rattle.tick_law.specs.OnePort.{Act, nothing, act_where, then_rule, with_port, head_of, has_room}
use Rattle.tick_law.specs.Timer.{timer_above}
use Rattle.traffic_parts.specs.Draw.{value_after, address_of, writes}
use Rattle.traffic_parts.specs.declared.agent.AgentText.{AgentText}

pub record AgentState : Type 0 where
  pub part : PartNo
  pub io : PortNo
  pub period : ℕ
  pub ranges : List Range
  pub base : ℕ
  pub span : ℕ
  pub count : ℕ
  pub window : ℕ
  pub gap : ℕ
  pub mode : Mode
  pub issued : ℕ
  pub answered : ℕ
  pub total : ℕ
  pub next : ℕ
  pub value : ℕ

-- a state that an agent can be in
pub record IsAgent (s : AgentState) : Type 0 where
  pub period_some : 0 < s.period
  pub period_short : s.period ≤ LONGEST_PERIOD
  pub span_some : 4 ≤ s.span
  pub within_addresses : s.base + s.span ≤ 2 ^ 32
  pub count_most : s.count ≤ 1000000
  pub gap_short : s.gap ≤ 1000000
  pub answered_issued : s.answered ≤ s.issued
  pub issued_few : s.issued ≤ s.count
  pub early : s.next * s.period ≤ LATEST_TICK + 1000000 * s.period

-- the state that an agent starts in
abbrev pub agent_opening : AgentText → AgentState
agent_opening text = record { part = record { 0 = text.actor.0 }; io = text.io; period = text.period; ranges = text.map; base = text.base; span = text.span; count = text.count; window = text.window; gap = text.gap; mode = text.mode; issued = 0; answered = 0; total = 0; next = text.start; value = text.draw }

-- the answer to a read of 4 bytes, or to a write
abbrev pub is_answer : MsgKind → ℕ → Bool
is_answer ReadRsp len = len == 4
is_answer WriteRsp len = len == 0
is_answer Read len = false
is_answer Write len = false
is_answer Flush len = false
is_answer FlushRsp len = false
is_answer Token len = false

-- the sum after an answer: the word of the answer to a read, its first 4 bytes in little-endian order, is added
abbrev pub total_after : ℕ → MsgKind → List ℕ → ℕ
total_after total ReadRsp bytes = (total + from_le_bytes w32 bytes) % 2 ^ 32
total_after total WriteRsp bytes = total
total_after total Read bytes = total
total_after total Write bytes = total
total_after total Flush bytes = total
total_after total FlushRsp bytes = total
total_after total Token bytes = total

abbrev pub answer_taken : AgentState → PortView → Msg → Act AgentState
answer_taken s p m = record { state = record s { answered = s.answered + 1; total = total_after s.total m.kind m.bytes }; port = record p { incoming = drop 1 p.incoming }; records = Take m ∷ []; flag = true }

abbrev pub answer_of : AgentState → PortView → Option Msg → Act AgentState
answer_of s p None = nothing s p
answer_of s p (Some m) = act_where (nat_lt s.answered s.issued && is_answer m.kind m.len) (answer_taken s p m) s p

-- where fewer are answered than issued and an answer is at the head, it is taken
abbrev pub take_answer : AgentState → PortView → Act AgentState
take_answer s p = answer_of s p (head_of p)

-- a request to write a word
unfoldable pub write_request : AgentState → ℕ → PortNo → Msg
write_request s value dst = record { id = record { part = s.part; seq = s.issued }; src = s.io; dst = dst; kind = Write; addr = address_of s.base s.span value; len = 4; bytes = to_le_bytes w32 value ++ replicate 60 0 }

-- a request to read a word
unfoldable pub read_request : AgentState → ℕ → PortNo → Msg
read_request s value dst = record { id = record { part = s.part; seq = s.issued }; src = s.io; dst = dst; kind = Read; addr = address_of s.base s.span value; len = 4; bytes = replicate 64 0 }

-- the request that a drawn value says: its number is how many were issued before
abbrev pub request : AgentState → ℕ → PortNo → Msg
request s value dst = cond (writes s.mode value) (write_request s value dst) (read_request s value dst)

-- fewer were issued than its count, and fewer wait for their answers than its window
abbrev pub is_open : AgentState → Bool
is_open s = nat_lt s.issued s.count && nat_lt (s.issued - s.answered) s.window

-- it is open, and its next cycle has come
abbrev pub is_ready : AgentState → ℕ → Bool
is_ready s n = is_open s && nat_le s.next n

-- the value that the next request is drawn by
unfoldable pub drawn : AgentState → ℕ
drawn s = value_after s.value

-- the port that its map gives for the drawn address
unfoldable pub target : AgentState → Option PortNo
target s = target_at s.ranges (address_of s.base s.span (value_after s.value))

-- a request was sent at a cycle: it counts, its value was drawn, and the next one comes the gap later
abbrev pub request_noted : AgentState → ℕ → ℕ → AgentState
request_noted s n value = record s { issued = s.issued + 1; next = n + s.gap; value = value }

abbrev pub request_sent : AgentState → PortView → ℕ → PortNo → Act AgentState
request_sent s p n dst = record { state = request_noted s n (drawn s); port = record p { outgoing = p.outgoing ++ request s (drawn s) dst ∷ [] }; records = Send (request s (drawn s) dst) ∷ []; flag = true }

abbrev pub request_where : AgentState → PortView → ℕ → Bool → Option PortNo → Act AgentState
request_where s p n false dst = nothing s p
request_where s p n true None = nothing s p
request_where s p n true (Some dst) = act_where (has_room p) (request_sent s p n dst) s p

-- where it is ready, its map has a port for the drawn address and there is room, it sends a request there
abbrev pub send_request : ℕ → AgentState → PortView → Act AgentState
send_request n s p = request_where s p n (is_ready s n) (target s)

abbrev pub next_of : AgentState → ℕ → Bool → Option ℕ
next_of s n true = timer_above s.next n
next_of s n false = None

-- both rules in one step, the taking first; the timer is its next cycle, where it is open; it is done where all its requests are answered
abbrev pub agent : Machine AgentState
agent = record {
  is_part = true;
  step = with_port (λ s p n. then_rule (send_request n) (take_answer s p));
  due = λ s n. next_of s n (is_open s);
  period = λ s. s.period;
  done = λ s. s.answered == s.count;
  own = λ s. 1;
}
