-- The lines of caches, computed.
use Rattle.std.specs.Prelude.{refl}
use Rattle.std.specs.Fmt.{digits}
use Rattle.model_rows.specs.CacheRows.{PrintedCaches}

pub printed_caches : PrintedCaches
unfolding digits
printed_caches = record { idle = refl; answers = refl; runs = refl; ready = refl }
