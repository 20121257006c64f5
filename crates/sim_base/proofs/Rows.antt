-- Edges that were computed by hand.
use Rattle.std.proofs.Common.{◌≡◌, refl}
use Rattle.sim_base.specs.Edge.{edge_after, edge_from}

pub edge_after_21 : edge_after 21 3 ≡ 24
edge_after_21 = refl

pub edge_from_21 : edge_from 7 21 ≡ 21
edge_from_21 = refl

pub edge_from_22 : edge_from 7 22 ≡ 28
edge_from_22 = refl

pub edge_after_0 : edge_after 0 1000 ≡ 1000
edge_after_0 = refl
