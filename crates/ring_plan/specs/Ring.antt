-- A ring of relays r0 to r(n-1) on one direct link, and its plan.
use Rattle.std.specs.Prelude.{ℕ, ◌+◌, ◌*◌, ◌%◌, List, [], ◌∷◌, ◌++◌, map, Option, Some, None, codes}
use Rattle.std.specs.Fmt.{decimal}
use Rattle.std.proofs.Common.{zero, suc}
use Rattle.sim_base.specs.declared.numbers.PortNo.{PortNo}
use Rattle.tick_law.specs.PlanView.{PlanView, system_of}
use Rattle.tick_law.specs.SerialLoop.{System}
use Rattle.tick_law.specs.declared.port_plan.PortPlan.{PortPlan}
use Rattle.traffic_parts.specs.Relay.{RelayState}
use Rattle.direct_link.specs.Direct.{DirectState}
use Rattle.part_kind.specs.Part.{part}
use Rattle.part_kind.specs.LinkKind.{link}
use Rattle.part_kind.specs.declared.part.Part.{Part}
use Rattle.part_kind.specs.declared.part.Part.TheVariants.{Relay}
use Rattle.part_kind.specs.declared.link_kind.LinkKind.{LinkKind}
use Rattle.part_kind.specs.declared.link_kind.LinkKind.TheVariants.{Direct}

-- 0, 1, .. up to and without n
abbrev pub up_to : ℕ → List ℕ
up_to zero = []
up_to (suc n) = up_to n ++ n ∷ []

abbrev pub port_no : ℕ → PortNo
port_no i = record { 0 = i }

-- the token that relay i holds at the start: the first one has a token of 2 n hops, the others have none
abbrev pub token_of : ℕ → ℕ → Option ℕ
token_of n zero = Some (2 * n)
token_of n (suc i) = None

-- relay i of n, with a period of 1000 ps: it addresses the next one, and the last one the first
abbrev pub ring_relay : ℕ → ℕ → RelayState
ring_relay n i = record { part = record { 0 = i }; io = port_no i; to = port_no ((i + 1) % n); period = 1000; holds = token_of n i; sent = 0; ended = 0 }

-- the link, with a period of 1000 ps and the ports of all relays in order
abbrev pub ring_link : ℕ → DirectState
ring_link n = record { numbers = map port_no (up_to n); period = 1000; pointer = 0; moved = 0 }

-- `r` and the number of the relay
abbrev pub relay_name : ℕ → List ℕ
relay_name i = codes "r" ++ decimal i

-- what is shown of a relay: the tokens that ended, the hops held, the tokens sent
abbrev pub relay_fields : List (List ℕ)
relay_fields = codes "ended" ∷ codes "holds" ∷ codes "sent" ∷ []

-- port i is the port `io` of relay i, with room for 4 messages each way
abbrev pub ring_port : ℕ → PortPlan
ring_port i = record { cap = 4; part = record { 0 = i }; link = record { 0 = 0 }; word = codes "io" }

-- the plan of a ring of n relays up to a time
abbrev pub ring_plan : ℕ → ℕ → PlanView Part LinkKind
ring_plan n until = record {
  parts = map (λ i. Relay (ring_relay n i)) (up_to n);
  links = Direct (ring_link n) ∷ [];
  part_names = map relay_name (up_to n);
  link_names = codes "net" ∷ [];
  fields = map (λ i. relay_fields) (up_to n);
  ports = map ring_port (up_to n);
  own = map (λ i. i ∷ []) (up_to n) ++ up_to n ∷ [];
  until = until;
}

-- the system that the serial loop runs
abbrev pub ring_system : ℕ → ℕ → System Part LinkKind
ring_system n until = system_of part link (ring_plan n until)
