-- What a writer got of a piece, and what is left of it.
use Rattle.std.proofs.Common.{◌≡◌, ℕ, ◌+◌, ◌≤◌, List, length, take, drop, Option, Some, None, append_assoc, ap, sym, ◌∙◌, arith, refl, subst, length-drop, ◌-◌}
use Rattle.std.proofs.Math.Seq.{take-add}
use Rattle.std.proofs.lemmas.List.{take_all, append-nil, drop-drop}
use Rattle.std.specs.Io.KnownBytes.{Appends}

-- the writer got the first bytes of the piece, and the rest of it is left
pub record HasWritten (old new : Option (List ℕ)) (piece rest : List ℕ) : Type 0 where
  pub count : ℕ
  pub within : count ≤ length piece
  pub left : rest ≡ drop count piece
  pub got : Appends old new (take count piece)

-- the next n bytes of the piece come after its first k
Appends-more : (old mid new : Option (List ℕ)) (piece : List ℕ) (k n : ℕ) → Appends old mid (take k piece) → Appends mid new (take n (drop k piece)) → Appends old new (take (k + n) piece)
Appends-more None mid new piece k n a b = tt
Appends-more (Some xs) None new piece k n a b = absurd a
Appends-more (Some xs) (Some ys) None piece k n a b = absurd b
Appends-more (Some xs) (Some ys) (Some zs) piece k n a b = rw (b, a, take-add, append_assoc)

pub nothing_written : (known : Option (List ℕ)) (piece : List ℕ) → HasWritten known known piece piece
nothing_written None piece = record { count = 0; within = omega arith; left = refl; got = tt }
nothing_written (Some xs) piece = record { count = 0; within = omega arith; left = refl; got = sym (append-nil xs) }

pub written_more : (old mid new : Option (List ℕ)) (piece rest : List ℕ) (n : ℕ) → HasWritten old mid piece rest → n ≤ length rest → Appends mid new (take n rest) → HasWritten old new piece (take (length rest - n) (drop n rest))
written_more old mid new piece rest n h fits a =
    let far : length rest ≡ length piece - h.count = ap length h.left ∙ length-drop h.count piece in
    let next : Appends mid new (take n (drop h.count piece)) = subst (λ (r : List ℕ). Appends mid new (take n r)) h.left a in
    record {
      count = h.count + n;
      within = let w = h.within in omega arith;
      left = take_all (length rest - n) (drop n rest) (simp length-drop (omega arith)) ∙ ap (drop n) h.left ∙ drop-drop n h.count piece;
      got = Appends-more old mid new piece h.count n h.got next;
    }

pub written_part : (old new : Option (List ℕ)) (piece rest : List ℕ) → HasWritten old new piece rest → (k : ℕ) × Appends old new (take k piece)
written_part old new piece rest h = (h.count, h.got)

pub written_all : (old new : Option (List ℕ)) (piece rest : List ℕ) → HasWritten old new piece rest → length rest ≡ 0 → Appends old new piece
written_all old new piece rest h none =
    let far : length rest ≡ length piece - h.count = ap length h.left ∙ length-drop h.count piece in
    let end : length piece ≤ h.count = let w = h.within in omega arith in
    subst (λ (p : List ℕ). Appends old new p) (take_all h.count piece end) h.got

pub ruleset writing = (nothing_written, written_more, written_part, written_all)
