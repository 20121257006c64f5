-- Steps of an agent at port 0, whose map gives port 1 for the addresses 0 to 511 and which asks for words below 64.
use Rattle.std.specs.Prelude.{◌≡◌, ℕ, List, [], ◌∷◌, map, true, false}
use Rattle.port_msg.specs.PortView.{port_view}
use Rattle.port_msg.specs.declared.message.Msg.{Msg}
use Rattle.port_msg.specs.declared.message.MsgKind.TheVariants.{Read, Write, ReadRsp, WriteRsp}
use Rattle.port_msg.specs.declared.records.What.TheVariants.{Send, Take}
use Rattle.sim_base.specs.declared.mode.Mode.{Mode}
use Rattle.addr_map.specs.declared.range.Range.{Range}
use Rattle.traffic_parts.specs.Draw.{value_after, address_of, writes}
use Rattle.traffic_parts.specs.Agent.{AgentState, agent}
use Rattle.model_rows.specs.Messages.{port, id, message}

abbrev pub lower : Range
lower = record { base = 0; size = 512; granule = 64; to = port 1 ∷ [] }

-- the agent, of 8 requests two cycles apart and at most 2 of them open, with how many it has sent and were answered, the sum over the
-- answers, its next cycle and its value
abbrev pub agent_with : Mode → ℕ → ℕ → ℕ → ℕ → ℕ → AgentState
agent_with mode issued answered total next value = record {
  part = record { 0 = 0 };
  io = port 0;
  period = 1000;
  ranges = lower ∷ [];
  base = 0;
  span = 64;
  count = 8;
  window = 2;
  gap = 2;
  mode = mode;
  issued = issued;
  answered = answered;
  total = total;
  next = next;
  value = value;
}

-- its first five values from 0: 3C6EF35F, 47502932, D1CCF6E9, AAF95334 and 6252E503 in hexadecimal
pub record DrawnValues : Type 0 where
  pub first : value_after 0 ≡ 1013904223
  pub second : value_after 1013904223 ≡ 1196435762
  pub third : value_after 1196435762 ≡ 3519870697
  pub fourth : value_after 3519870697 ≡ 2868466484
  pub fifth : value_after 2868466484 ≡ 1649599747
  -- their last digits but one are 5, 3, E, 3 and 0
  pub mixed : map (writes Mode.Mixed) (1013904223 ∷ 1196435762 ∷ 3519870697 ∷ 2868466484 ∷ 1649599747 ∷ []) ≡ true ∷ true ∷ false ∷ true ∷ false ∷ []
  pub reads : map (writes Mode.Read) (1013904223 ∷ 3519870697 ∷ []) ≡ false ∷ false ∷ []
  pub all_writes : map (writes Mode.Write) (1013904223 ∷ 3519870697 ∷ []) ≡ true ∷ true ∷ []
  -- the digits before the last two say the word: 3C6EF3 is 3, and D1CCF6 is 6, modulo 16
  pub fourth_word : address_of 0 64 1013904223 ≡ 12
  pub seventh_word : address_of 4096 64 3519870697 ≡ 4120

-- the value 3C88596C in hexadecimal, from 1, says word 9
abbrev pub drawn_from_1 : Msg
drawn_from_1 = message Write (id 0 0) 0 1 36 4 (108 ∷ 89 ∷ 136 ∷ 60 ∷ [])

abbrev pub mixed_write : Msg
mixed_write = message Write (id 0 0) 0 1 12 4 (95 ∷ 243 ∷ 110 ∷ 60 ∷ [])

abbrev pub mixed_read : Msg
mixed_read = message Read (id 0 2) 0 1 24 4 []

pub record DrawnRequests : Type 0 where
  pub writing : agent.step (agent_with Mode.Write 0 0 0 0 1) (port_view [] [] 4 ∷ []) 0
      ≡ record { state = agent_with Mode.Write 1 0 0 2 1015568748; ports = port_view [] (drawn_from_1 ∷ []) 4 ∷ []; records = Send drawn_from_1 ∷ []; flag = true }
  pub mixed_first : agent.step (agent_with Mode.Mixed 0 0 0 0 0) (port_view [] [] 4 ∷ []) 5
      ≡ record { state = agent_with Mode.Mixed 1 0 0 7 1013904223; ports = port_view [] (mixed_write ∷ []) 4 ∷ []; records = Send mixed_write ∷ []; flag = true }
  pub mixed_third : agent.step (agent_with Mode.Mixed 2 1 0 9 1196435762) (port_view [] [] 4 ∷ []) 9
      ≡ record { state = agent_with Mode.Mixed 3 1 0 11 3519870697; ports = port_view [] (mixed_read ∷ []) 4 ∷ []; records = Send mixed_read ∷ []; flag = true }
  -- not before its next cycle, and not while two are open
  pub too_early : agent.step (agent_with Mode.Mixed 2 1 0 9 1196435762) (port_view [] [] 4 ∷ []) 8
      ≡ record { state = agent_with Mode.Mixed 2 1 0 9 1196435762; ports = port_view [] [] 4 ∷ []; records = []; flag = false }
  pub all_open : agent.step (agent_with Mode.Mixed 2 0 0 4 1196435762) (port_view [] [] 4 ∷ []) 9
      ≡ record { state = agent_with Mode.Mixed 2 0 0 4 1196435762; ports = port_view [] [] 4 ∷ []; records = []; flag = false }

-- the answer to a read with these bytes, and that to a write
abbrev pub read_answer : List ℕ → Msg
read_answer bytes = message ReadRsp (id 0 0) 1 0 36 4 bytes

abbrev pub write_answer : Msg
write_answer = message WriteRsp (id 0 0) 1 0 36 0 []

pub record SummedAnswers : Type 0 where
  -- the bytes 1, 2, 3, 4 are the word 04030201 in hexadecimal
  pub lowest_first : agent.step (agent_with Mode.Read 1 0 0 20 0) (port_view (read_answer (1 ∷ 2 ∷ 3 ∷ 4 ∷ []) ∷ []) [] 4 ∷ []) 10
      ≡ record { state = agent_with Mode.Read 1 1 67305985 20 0; ports = port_view [] [] 4 ∷ []; records = Take (read_answer (1 ∷ 2 ∷ 3 ∷ 4 ∷ [])) ∷ []; flag = true }
  -- 4294967295 + 2 is 1 modulo 2^32
  pub round : agent.step (agent_with Mode.Read 2 1 4294967295 20 0) (port_view (read_answer (2 ∷ 0 ∷ 0 ∷ 0 ∷ []) ∷ []) [] 4 ∷ []) 10
      ≡ record { state = agent_with Mode.Read 2 2 1 20 0; ports = port_view [] [] 4 ∷ []; records = Take (read_answer (2 ∷ 0 ∷ 0 ∷ 0 ∷ [])) ∷ []; flag = true }
  pub of_a_write : agent.step (agent_with Mode.Write 1 0 5 20 0) (port_view (write_answer ∷ []) [] 4 ∷ []) 10
      ≡ record { state = agent_with Mode.Write 1 1 5 20 0; ports = port_view [] [] 4 ∷ []; records = Take write_answer ∷ []; flag = true }
