-- Whether the actors are done, one more at a time.
use Rattle.std.proofs.Common.{◌≡◌, ℕ, ◌+◌, ◌<◌, List, [], ◌∷◌, length, take, get_or, zero, suc, ◌∙◌, ap, arith, refl}
use Rattle.std.specs.Prelude.{Bool, true, false, ◌&&◌}
use Rattle.tick_law.specs.Machine.{Machine}
use Rattle.tick_law.specs.Verdict.{all_done}

and_over : (a b c : Bool) → (a && (b && c)) ≡ ((a && b) && c)
and_over true b c = refl
and_over false b c = refl

and_end : (a : Bool) → (a && true) ≡ (true && a)
and_end true = refl
and_end false = refl

-- one actor more
pub done_more : {S : Type 0} (m : Machine S) (xs : List S) (k : ℕ) (d : S) → k < length xs → all_done m (take (suc k) xs) ≡ (all_done m (take k xs) && m.done (get_or xs k d))
done_more m [] k d b = absurd (omega arith)
done_more m (x ∷ xs) zero d b = and_end (m.done x)
done_more m (x ∷ xs) (suc k) d b = ap (λ b. m.done x && b) (done_more m xs k d (omega arith)) ∙ and_over (m.done x) (all_done m (take k xs)) (m.done (get_or xs k d))
