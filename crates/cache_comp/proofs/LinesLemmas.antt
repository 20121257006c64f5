-- A list whose first items were changed by a function, one more of them.
use Rattle.std.proofs.Common.{◌≡◌, ℕ, ◌+◌, ◌<◌, List, [], ◌∷◌, ◌++◌, length, map, take, drop, get_or, set, sym, ◌∙◌, ap, append_assoc, arith}
use Rattle.std.proofs.lemmas.List.{length-map, length-take-le, drop_more, get_or_at, set_at, map_more}

pub mapped_more : {X : Type 0} (f : X → X) (xs ys : List X) (i : ℕ) (d : X) → ys ≡ map f (take i xs) ++ drop i xs → i < length xs → set ys i (f (get_or ys i d)) ≡ map f (take (i + 1) xs) ++ drop (i + 1) xs
mapped_more f xs ys i d e h =
    let before = map f (take i xs) in
    let x = get_or xs i d in
    let rest = drop (i + 1) xs in
    let long : length before ≡ i = length-map (take i xs) f ∙ length-take-le i xs (omega arith) in
    let split : ys ≡ before ++ x ∷ rest = e ∙ ap (λ l. before ++ l) (drop_more xs i d h) in
    let here : get_or ys i d ≡ x = ap (λ l. get_or l i d) split ∙ get_or_at before x rest d i long in
    let changed : set ys i (f (get_or ys i d)) ≡ before ++ f x ∷ rest = ap (λ y. set ys i (f y)) here ∙ ap (λ l. set l i (f x)) split ∙ set_at before x rest (f x) i long in
    changed ∙ sym (append_assoc before (f x ∷ []) rest) ∙ ap (λ l. l ++ rest) (sym (map_more f xs i d h))
