-- Steps of a direct link of three ports. The first two have messages to the third, whose incoming list has room for one.
use Rattle.std.specs.Prelude.{◌≡◌, ℕ, List, [], ◌∷◌, true, false}
use Rattle.port_msg.specs.PortView.{PortView, port_view}
use Rattle.port_msg.specs.declared.message.Msg.{Msg}
use Rattle.port_msg.specs.declared.message.MsgKind.TheVariants.{Token}
use Rattle.port_msg.specs.declared.records.What.TheVariants.{Move}
use Rattle.direct_link.specs.Direct.{DirectState, direct_step}
use Rattle.model_rows.specs.Messages.{port, id, message}

-- the link, with the place of the port that is served first and how many messages it has moved
abbrev pub link : ℕ → ℕ → DirectState
link pointer moved = record { numbers = port 0 ∷ port 1 ∷ port 2 ∷ []; period = 1000; pointer = pointer; moved = moved }

-- the token of this number of part 0, and of part 1, to port 2
abbrev pub from_first : ℕ → Msg
from_first seq = message Token (id 0 seq) 0 2 1 0 []

abbrev pub from_second : ℕ → Msg
from_second seq = message Token (id 1 seq) 1 2 1 0 []

-- what stands in the outgoing lists of the first two ports and in the incoming list of the third
abbrev pub ports : List Msg → List Msg → List Msg → List PortView
ports first second third = port_view [] first 2 ∷ port_view [] second 2 ∷ port_view third [] 1 ∷ []

pub record InTurn : Type 0 where
  -- from the first port on: one of its messages fills the third port, so its next one stays, and that of the second port too
  pub first_port : direct_step (link 0 0) (ports (from_first 0 ∷ from_first 1 ∷ []) (from_second 0 ∷ []) []) 0
      ≡ record { state = link 1 1; ports = ports (from_first 1 ∷ []) (from_second 0 ∷ []) (from_first 0 ∷ []); records = Move (from_first 0) ∷ []; flag = true }
  -- while the third port is full nothing is moved, and the turn stays
  pub no_room : direct_step (link 1 1) (ports (from_first 1 ∷ []) (from_second 0 ∷ []) (from_first 0 ∷ [])) 1
      ≡ record { state = link 1 1; ports = ports (from_first 1 ∷ []) (from_second 0 ∷ []) (from_first 0 ∷ []); records = []; flag = false }
  -- once there is room it is the turn of the second port
  pub second_port : direct_step (link 1 1) (ports (from_first 1 ∷ []) (from_second 0 ∷ []) []) 2
      ≡ record { state = link 2 2; ports = ports (from_first 1 ∷ []) [] (from_second 0 ∷ []); records = Move (from_second 0) ∷ []; flag = true }
  -- the third port has nothing to send, so the first one is served next, and the turn goes round to the first place
  pub round : direct_step (link 2 2) (ports (from_first 1 ∷ []) [] []) 3
      ≡ record { state = link 0 3; ports = ports [] [] (from_first 1 ∷ []); records = Move (from_first 1) ∷ []; flag = true }
