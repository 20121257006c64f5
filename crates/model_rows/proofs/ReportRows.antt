-- The reports, computed.
use Rattle.std.specs.Prelude.{refl}
use Rattle.std.specs.Fmt.{digits}
use Rattle.hex.specs.Hex.{encode_with}
use Rattle.model_rows.specs.ReportRows.{Printed}

pub printed : Printed
unfolding digits encode_with
printed = record { stuck = refl; finished = refl; cut = refl; whole = refl }
