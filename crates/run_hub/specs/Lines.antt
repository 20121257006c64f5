-- The records of a side whose actors are back.
use Rattle.std.specs.Prelude.{ℕ, List, [], ◌++◌, Option, Some, None, Bool, Box}
use Rattle.std.proofs.Common.{Global, zero, suc}
use Rattle.bit_set.specs.Bits.{is_in}
use Rattle.port_msg.specs.declared.records.Record.{Record}
use Rattle.tick_law.specs.SerialLoop.{pick}
use Rattle.away_rows.specs.declared.body.Body.{Body}
use Rattle.away_rows.specs.Bodies.{body_at}

module _ {S : Type 0} where
  abbrev pub records_in : Option (Body S) → List Record
  records_in None = []
  records_in (Some b) = b.recs.items

  -- those of the first so many, in the order of their numbers
  abbrev pub side_records : List Bool → List (Option (Box (Body S) Global)) → ℕ → List Record
  side_records back seats zero = []
  side_records back seats (suc n) = side_records back seats n ++ pick (is_in back n) (records_in (body_at seats n)) []
