-- Edges, computed by hand.
use Rattle.std.specs.Prelude.{◌≡◌, Some, None, true, false, refl}
use Rattle.sim_base.specs.Edge.{edge_from}
use Rattle.tick_law.specs.NextTime.{next_at, times}

pub edge_from_0 : edge_from 7 0 ≡ 0
edge_from_0 = refl

pub edge_from_1 : edge_from 7 1 ≡ 7
edge_from_1 = refl

pub edge_from_7 : edge_from 7 7 ≡ 7
edge_from_7 = refl

pub edge_from_8 : edge_from 7 8 ≡ 14
edge_from_8 = refl

-- progress at the edge before
pub next_at_flag : next_at 3 (λ t. true) (λ t. false) (λ t. None) 4 6 ≡ Some 6
next_at_flag = refl

-- nothing happened, and there is no timer
pub next_at_nothing : next_at 3 (λ t. false) (λ t. false) (λ t. None) 6 6 ≡ None
next_at_nothing = refl

-- nothing happened, and the timer after the edge before is cycle 5
pub next_at_timer : next_at 3 (λ t. false) (λ t. false) (λ t. times 3 (Some 5)) 6 6 ≡ Some 15
next_at_timer = refl
