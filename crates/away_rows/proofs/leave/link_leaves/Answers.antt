use Rattle.away_rows.proofs.SeatLaws.{row_some}
use Rattle.away_rows.proofs.leave.link_leaves.Goals as goal

pub rise-body-requires : goal.rise-body-requires
rise-body-requires g c = record { here = row_some _ _ c.requires.here }
