-- The lines of cores, computed.
use Rattle.std.specs.Prelude.{refl}
use Rattle.std.specs.Fmt.{digits}
use Rattle.hex.specs.Hex.{encode_with}
use Rattle.state_view.specs.RegsLine.{register_words}
use Rattle.model_rows.specs.CoreRows.{PrintedCores}

pub printed_cores : PrintedCores
unfolding digits encode_with register_words
printed_cores = record { ended = refl; broken = refl; waits = refl; registers = refl }
