-- What contracts see of a world.
use Rattle.std.specs.Prelude.{ℕ, List}
use Rattle.port_msg.specs.PortView.{PortView}

-- what contracts see of the ports in hand
pub record InHand : Type 0 where
  pub ports : List PortView
  pub room : ℕ
