-- Records that are not kept.
use Rattle.std.specs.Prelude.{◌≡◌, ℕ, ◌<◌, ◌≤◌, ◌⊎◌, List, [], length, Option, Some, Bool, true, false, Box}
use Rattle.std.proofs.Common.{Global}
use Rattle.bit_set.specs.Bits.{is_in}
use Rattle.away_rows.specs.declared.body.Body.{Body}
use Rattle.away_rows.specs.Bodies.{body_at}

module _ {S : Type 0} where
  -- an actor without records
  abbrev pub forgotten : Body S → Body S
  forgotten b = record b { recs = record b.recs { items = [] } }

  -- the first so many of a set have no records any more, and the others are as they were
  pub record Forgot (back : List Bool) (at : ℕ) (old new : List (Option (Box (Body S) Global))) : Type 0 where
    pub long : length new ≡ length old
    pub gone : (i : ℕ) (b : Body S) → i < at → is_in back i ≡ true → body_at old i ≡ Some b → body_at new i ≡ Some (forgotten b)
    pub others : (i : ℕ) → (at ≤ i) ⊎ (is_in back i ≡ false) → body_at new i ≡ body_at old i
