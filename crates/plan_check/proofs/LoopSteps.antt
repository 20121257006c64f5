-- One table further in the lists of a plan.
use Rattle.std.proofs.Common.{◌≡◌, ℕ, ◌+◌, zero, suc, List, [], ◌∷◌, ◌++◌, map, take, ap, ◌∙◌, sym, add-one, append_assoc}
use Rattle.std.specs.Prelude.{Option, Some, slice_get, option_to_list}
use Rattle.std.proofs.lemmas.List.{map-append}
use Rattle.sim_config.specs.Tables.{PlanTables, PartTable, LinkTable}
use Rattle.elf_load.specs.declared.image.Image.{Image}
use Rattle.part_kind.specs.declared.part.Part.{Part}
use Rattle.part_kind.specs.declared.link_kind.LinkKind.{LinkKind}
use Rattle.plan_rules.specs.Kinds.{port_count}
use Rattle.plan_rules.specs.Text.{◌>>=◌, first_port}
use Rattle.plan_check.specs.Plan.{count_of, link_with, links_to, numbers_from, own_of_link, own_to, part_of, parts_to}

pub take_next : {A : Type 0} (xs : List A) (n : ℕ) (x : A) → slice_get xs n ≡ Some x → take (n + 1) xs ≡ take n xs ++ x ∷ []
take_next xs n x there = ap (λ k. take k xs) (add-one n) ∙ at xs n there
  where
    at : {A : Type 0} {x : A} (xs : List A) (n : ℕ) → slice_get xs n ≡ Some x → take (suc n) xs ≡ take n xs ++ x ∷ []
    at [] n e = absurd (cc)
    at {A} {x} (y ∷ ys) zero e = ap (λ z. z ∷ []) (let same : y ≡ x = cc in same)
    at (y ∷ ys) (suc n) e = ap (λ l. y ∷ l) (at ys n e)

pub links_step : (text : PlanTables) (n : ℕ) (table : LinkTable) (l : LinkKind) (so_far now : List LinkKind) → slice_get text.links n ≡ Some table → l ≡ link_with text n table → so_far ≡ links_to text n → now ≡ so_far ++ l ∷ [] → now ≡ links_to text (n + 1)
links_step text n table l so_far now there is before pushed =
    pushed ∙ ap (λ xs. xs ++ l ∷ []) before ∙ ap (λ x. links_to text n ++ x ∷ []) is
    ∙ ap (λ o. links_to text n ++ option_to_list (o >>= (λ t. Some (link_with text n t)))) (sym there) ∙ ap (links_to text) (sym (add-one n))

pub parts_step : (text : PlanTables) (images : List Image) (n : ℕ) (table : PartTable) (p : Part) (so_far now : List Part) → slice_get text.parts n ≡ Some table → p ≡ part_of text images n table → so_far ≡ parts_to text images n → now ≡ so_far ++ p ∷ [] → now ≡ parts_to text images (n + 1)
parts_step text images n table p so_far now there is before pushed =
    pushed ∙ ap (λ xs. xs ++ p ∷ []) before ∙ ap (λ x. parts_to text images n ++ x ∷ []) is
    ∙ ap (λ o. parts_to text images n ++ option_to_list (o >>= (λ t. Some (part_of text images n t)))) (sym there) ∙ ap (parts_to text images) (sym (add-one n))

pub mapped_step : {A B C : Type 0} (f : A → C) (g : B → C) (so_far now : List A) (x : A) (ys : List B) (n : ℕ) (y : B) → map f so_far ≡ map g (take n ys) → now ≡ so_far ++ x ∷ [] → f x ≡ g y → slice_get ys n ≡ Some y → map f now ≡ map g (take (n + 1) ys)
mapped_step f g so_far now x ys n y before pushed same there =
    ap (map f) pushed ∙ map-append f so_far (x ∷ []) ∙ ap (λ l. l ++ f x ∷ []) before ∙ ap (λ v. map g (take n ys) ++ v ∷ []) same
    ∙ sym (map-append g (take n ys) (y ∷ [])) ∙ ap (map g) (sym (take_next ys n y there))

pub own_step : {V : Type 0} (items : V → List ℕ) (text : PlanTables) (n : ℕ) (table : PartTable) (so_far now : List V) (v : V) → slice_get text.parts n ≡ Some table → items v ≡ numbers_from (first_port text n) (port_count table.kind) → map items so_far ≡ own_to text n → now ≡ so_far ++ v ∷ [] → map items now ≡ own_to text (n + 1)
own_step items text n table so_far now v there is before pushed =
    ap (map items) pushed ∙ map-append items so_far (v ∷ []) ∙ ap (λ l. l ++ items v ∷ []) before ∙ ap (λ x. own_to text n ++ x ∷ []) is
    ∙ ap (λ o. own_to text n ++ numbers_from (first_port text n) (count_of o) ∷ []) (sym there) ∙ ap (own_to text) (sym (add-one n))

pub joined_step : {V : Type 0} (items : V → List ℕ) (front : List (List ℕ)) (so_far now : List V) (v : V) (lists : List (List (Option ℕ))) (n : ℕ) (x : List (Option ℕ)) → slice_get lists n ≡ Some x → items v ≡ own_of_link x → map items so_far ≡ front ++ map own_of_link (take n lists) → now ≡ so_far ++ v ∷ [] → map items now ≡ front ++ map own_of_link (take (n + 1) lists)
joined_step items front so_far now v lists n x there is before pushed =
    ap (map items) pushed ∙ map-append items so_far (v ∷ []) ∙ ap (λ l. l ++ items v ∷ []) before ∙ append_assoc front (map own_of_link (take n lists)) (items v ∷ [])
    ∙ ap (λ z. front ++ (map own_of_link (take n lists) ++ z ∷ [])) is
    ∙ ap (λ l. front ++ l) (sym (map-append own_of_link (take n lists) (x ∷ [])) ∙ ap (map own_of_link) (sym (take_next lists n x there)))

pub copied_step : {B C : Type 0} (g : B → C) (so_far now : List C) (x : C) (ys : List B) (n : ℕ) (y : B) → so_far ≡ map g (take n ys) → now ≡ so_far ++ x ∷ [] → x ≡ g y → slice_get ys n ≡ Some y → now ≡ map g (take (n + 1) ys)
copied_step g so_far now x ys n y before pushed same there =
    pushed ∙ ap (λ l. l ++ x ∷ []) before ∙ ap (λ v. map g (take n ys) ++ v ∷ []) same
    ∙ sym (map-append g (take n ys) (y ∷ [])) ∙ ap (map g) (sym (take_next ys n y there))
