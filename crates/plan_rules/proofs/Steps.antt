-- The list of all tables, one map further.
use Rattle.std.proofs.Common.{◌≡◌, ℕ, ◌+◌, suc, List, [], ◌∷◌, ◌++◌, length, refl, ap, ◌∙◌, sym, add-one, append_assoc}
use Rattle.std.proofs.lemmas.Grind.{flat_map-append}
use Rattle.std.specs.Prelude.{flat_map}
use Rattle.sim_config.specs.Tables.{PlanTables}
use Rattle.sim_config.specs.declared.fault.TableNo.{TableNo}
use Rattle.plan_rules.specs.declared.tables.Sort.TheVariants.{Ranges}
use Rattle.plan_rules.specs.First.{ranges_to, tables_of, up_to}
use Rattle.plan_rules.specs.Text.{ranges_at}

append_none : {A : Type 0} (xs : List A) → xs ++ [] ≡ xs
append_none [] = refl
append_none (x ∷ xs) = ap (λ l. x ∷ l) (append_none xs)

pub ranges_to_more : (text : PlanTables) (n : ℕ) → ranges_to text (suc n) ≡ ranges_to text n ++ tables_of (Ranges n) (length (ranges_at text n))
ranges_to_more text n =
    let of_map = λ (m : ℕ). tables_of (Ranges m) (length (ranges_at text m)) in
    flat_map-append of_map (up_to n) (n ∷ []) ∙ ap (λ l. ranges_to text n ++ l) (append_none (of_map n))

pub ranges_step : (text : PlanTables) (before so_far now : List TableNo) (n count : ℕ) → so_far ≡ before ++ ranges_to text n → count ≡ length (ranges_at text n) → now ≡ so_far ++ tables_of (Ranges n) count → now ≡ before ++ ranges_to text (n + 1)
ranges_step text before so_far now n count so_far_is count_is now_is =
    now_is ∙ ap (λ c. so_far ++ tables_of (Ranges n) c) count_is ∙ ap (λ l. l ++ tables_of (Ranges n) (length (ranges_at text n))) so_far_is
    ∙ append_assoc before (ranges_to text n) _ ∙ ap (λ l. before ++ l) (sym (ranges_to_more text n)) ∙ ap (λ k. before ++ ranges_to text k) (sym (add-one n))
