-- Lists that are filled item by item.
use Rattle.std.proofs.Common.{◌≡◌, ℕ, ◌+◌, ◌<◌, List, [], ◌∷◌, ◌++◌, length, take, map, get_or, sym, ◌∙◌, ap}
use Rattle.std.proofs.lemmas.List.{take_more, map-append}

-- one item more on both sides
pub mapped_more : {A B C : Type 0} (f : A → C) (g : B → C) (xs new : List A) (ys : List B) (k : ℕ) (x : A) (y : B) → k < length ys → y ≡ get_or ys k y → new ≡ xs ++ x ∷ [] → f x ≡ g y → map f xs ≡ map g (take k ys) → map f new ≡ map g (take (k + 1) ys)
mapped_more f g xs new ys k x y b is e h was =
    ap (λ l. map f l) e ∙ map-append f xs (x ∷ []) ∙ ap (λ l. l ++ f x ∷ []) was ∙ ap (λ z. map g (take k ys) ++ z ∷ []) (h ∙ ap g is)
    ∙ sym (map-append g (take k ys) (get_or ys k y ∷ [])) ∙ ap (λ l. map g l) (sym (take_more ys k y b))
