-- The search for the first segment without a place, one program further.
use Rattle.std.proofs.Common.{◌≡◌, ℕ, ◌+◌, ◌≤◌, zero, suc, List, [], ◌∷◌, drop, length, refl, ap, arith, ◌∙◌, sym, add-one}
use Rattle.std.specs.Prelude.{Some, None, slice_get}
use Rattle.sim_config.specs.Tables.{PlanTables, ProgramTable}
use Rattle.elf_load.specs.declared.image.Image.{Image}
use Rattle.plan_check.specs.Programs.{data_ranges, told_or, unmapped_from, unmapped_in}

drop_next : {A : Type 0} (xs : List A) (n : ℕ) (x : A) → slice_get xs n ≡ Some x → drop n xs ≡ x ∷ drop (n + 1) xs
drop_next xs n x there = at xs n there ∙ ap (λ k. x ∷ drop k xs) (sym (add-one n))
  where
    at : {A : Type 0} {x : A} (xs : List A) (n : ℕ) → slice_get xs n ≡ Some x → drop n xs ≡ x ∷ drop (suc n) xs
    at [] n e = absurd (cc)
    at {A} {x} (y ∷ ys) zero e = ap (λ z. z ∷ ys) (let same : y ≡ x = cc in same)
    at (y ∷ ys) (suc n) e = at ys n e

drop_all : {A : Type 0} (xs : List A) (n : ℕ) → length xs ≤ n → drop n xs ≡ []
drop_all [] zero b = refl
drop_all [] (suc n) b = refl
drop_all (x ∷ xs) zero b = absurd (omega arith)
drop_all (x ∷ xs) (suc n) b = drop_all xs n (omega arith)

-- the programs from a number on begin with that one
pub from_here : (text : PlanTables) (n : ℕ) (programs : List ProgramTable) (images : List Image) (program : ProgramTable) (image : Image) → slice_get programs n ≡ Some program → slice_get images n ≡ Some image → unmapped_from text n (drop n programs) (drop n images) ≡ told_or n (unmapped_in (data_ranges text program) image.segments) (unmapped_from text (n + 1) (drop (n + 1) programs) (drop (n + 1) images))
from_here text n programs images program image here there =
    ap (λ ps. unmapped_from text n ps (drop n images)) (drop_next programs n program here) ∙ ap (unmapped_from text n (program ∷ drop (n + 1) programs)) (drop_next images n image there)

pub from_end : (text : PlanTables) (n : ℕ) (programs : List ProgramTable) (images : List Image) → length programs ≤ n → unmapped_from text n (drop n programs) (drop n images) ≡ None
from_end text n programs images past = ap (λ ps. unmapped_from text n ps (drop n images)) (drop_all programs n past)
