-- A text with zeros behind it gives the text back.
use Rattle.std.proofs.Common.{◌≡◌, ◌-◌, length, take}
use Rattle.std.specs.Prelude.{ℕ, List, replicate}
use Rattle.std.proofs.Math.Seq.{take-append_seam}
use Rattle.sim_base.specs.Name.{padded}

pub take_padded : (text : List ℕ) → take (length text) (padded text) ≡ text
take_padded text = take-append_seam text (replicate (32 - length text) 0)
