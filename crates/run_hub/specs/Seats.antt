-- The actors of seats.
use Rattle.std.specs.Prelude.{List, [], ◌∷◌, Option, Some, None, Box}
use Rattle.std.proofs.Common.{Global}
use Rattle.away_rows.specs.declared.body.Body.{Body}

-- those who sit there, in order
abbrev pub actors_in : {S : Type 0} → List (Option (Box (Body S) Global)) → List S
actors_in [] = []
actors_in (None ∷ seats) = actors_in seats
actors_in (Some b ∷ seats) = b.value.actor ∷ actors_in seats
