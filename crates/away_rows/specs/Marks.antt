-- The marks of the actors of one side in a pass.
use Rattle.std.specs.Prelude.{◌≡◌, ℕ, replicate, slice_set, true, false}
use Rattle.bit_set.specs.Bits.{is_in}
use Rattle.away_rows.specs.declared.marks.Marks.{Marks}

-- nobody of so many actors has a mark
abbrev pub no_marks : ℕ → Marks
no_marks count = record { waiting = replicate count false; out = replicate count false; back = replicate count false }

-- actor i waited, and is out
abbrev pub claimed : Marks → ℕ → Marks
claimed marks i = record marks { waiting = slice_set marks.waiting i false; out = slice_set marks.out i true }

-- actor i was out, and is back
abbrev pub finished : Marks → ℕ → Marks
finished marks i = record marks { out = slice_set marks.out i false; back = slice_set marks.back i true }

-- nobody waits, and nobody is out
pub record IsQuiet (marks : Marks) : Type 0 where
  pub none_waits : (i : ℕ) → is_in marks.waiting i ≡ false
  pub none_out : (i : ℕ) → is_in marks.out i ≡ false
