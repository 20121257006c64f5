-- The keys of a table beside the words of its members.
use Rattle.std.proofs.Common.{◌≡◌, ℕ, Bool, true, false, ◌||◌, ◌++◌, List, [], ◌∷◌, map, String, Global, string_bytes, Bor, refl, ap, ◌∙◌}
use Rattle.std.specs.Prelude.{bytes_eq}
use Rattle.std.specs.List.{list_all, list_any}
use Rattle.std.specs.Map.{keys_of}
use Rattle.toml.specs.declared.value.Value.{Value}
use Rattle.toml.specs.View.{members_view}
use Rattle.sim_config.specs.Values.{has_only, texts}

or_assoc : (a b c : Bool) → ((a || b) || c) ≡ (a || (b || c))
or_assoc true b c = refl
or_assoc false b c = refl

list_any-map : {X Y : Type 0} (p : Y → Bool) (f : X → Y) (xs : List X) → list_any (λ x. p (f x)) xs ≡ list_any p (map f xs)
list_any-map p f [] = refl
list_any-map p f (x ∷ xs) = rw (list_any-map p f xs)

-- a word of one of two lists
one_of : (key : List ℕ) (words own : List (Bor (List ℕ))) → (list_any (λ w. bytes_eq key w.now) words || list_any (λ w. bytes_eq key w.now) own) ≡ list_any (bytes_eq key) (texts words ++ texts own)
one_of key [] own = list_any-map (bytes_eq key) (λ (w : Bor (List ℕ)). w.now) own
one_of key (w ∷ ws) own = or_assoc (bytes_eq key w.now) _ _ ∙ ap (λ b. bytes_eq key w.now || b) (one_of key ws own)

pub only_words : (words own : List (Bor (List ℕ))) (es : List (String Global × Value))
    → list_all (λ k. list_any (λ w. bytes_eq (string_bytes k) w.now) words || list_any (λ w. bytes_eq (string_bytes k) w.now) own) (keys_of es)
    ≡ has_only (texts words ++ texts own) (members_view es)
only_words words own [] = refl
only_words words own (e ∷ es) = rw (one_of (string_bytes e.0) words own, only_words words own es)
