-- How many there are of each.
use Rattle.std.proofs.Common.{◌≡◌, ℕ, ◌+◌, List, [], ◌∷◌, ◌++◌, length, length-append, zero, suc, refl, ap, ◌∙◌, arith}
use Rattle.storm_gen.specs.Storm.{each}

pub length-each : {A : Type 0} (f : ℕ → A) (n : ℕ) → length (each f n) ≡ n
length-each f zero = refl
length-each f (suc n) =
    let front = length-each f n in
    let all = length-append (each f n) (f n ∷ []) in
    omega (arith, front, all)

pub length-both : {A : Type 0} (f g : ℕ → A) (n m : ℕ) → length (each f n ++ each g m) ≡ n + m
length-both f g n m =
    let all = length-append (each f n) (each g m) in
    let front = length-each f n in
    let back = length-each g m in
    omega (arith, all, front, back)
