-- A text with no table too many.
use Rattle.std.proofs.Common.{◌≡◌, ℕ, ◌+◌, ◌-◌, ◌<◌, ◌≤◌, zero, suc, Bool, true, false, cond, List, [], ◌∷◌, ◌++◌, map, take, drop, get_or, length, sum_by, refl, ap, arith, ◌∙◌, sym, subst, inl, inr}
use Rattle.std.specs.Prelude.{Option, Some, None, find, nat_lt, nat_le, ◌||◌, ◌⊎◌}
use Rattle.std.proofs.lemmas.Bool.Decides.{nat_tests}
use Rattle.std.proofs.lemmas.List.{map-append}
use Rattle.std.proofs.lemmas.List.Sums.{sum_by-take-le}
use Rattle.sim_config.specs.Tables.{PlanTables, PartTable}
use Rattle.sim_config.specs.declared.fault.TableNo.{TableNo}
use Rattle.sim_config.specs.declared.fault.TableNo.TheVariants.{Map, Range, Part, Link, Program}
use Rattle.plan_rules.specs.declared.breach.Breach.{Breach}
use Rattle.plan_rules.specs.declared.rule.PlanRule.{PlanRule}
use Rattle.plan_rules.specs.declared.rule.PlanRule.TheVariants.{TooMany}
use Rattle.plan_rules.specs.declared.rule.TheConstants.{RULES}
use Rattle.plan_rules.specs.declared.tables.Sort.{Sort}
use Rattle.plan_rules.specs.declared.tables.Sort.TheVariants.{Maps, Ranges, Parts, Links, Programs}
use Rattle.plan_rules.proofs.Steps.{ranges_to_more}
use Rattle.plan_rules.specs.Kinds.{port_count}
use Rattle.plan_rules.specs.Numbers.{IsFew}
use Rattle.plan_rules.specs.Text.{first_port, ranges_at}
use Rattle.plan_rules.specs.Rules.{breaks, too_many}
use Rattle.plan_rules.specs.First.{all_tables, first_broken, first_of, first_table, ranges_to, table_of, tables_of, told_or, up_to}

-- a search that finds nothing finds nothing in either part
find_none : {A : Type 0} (p : A → Bool) (xs ys : List A) → find p (xs ++ ys) ≡ None → (find p xs ≡ None) × (find p ys ≡ None)
find_none p [] ys none = (refl, none)
find_none {A} p (x ∷ xs) ys none = at (p x) none (λ h. find_none p xs ys h)
  where
    at : (b : Bool) → cond b (Some x) (find p (xs ++ ys)) ≡ None → (find p (xs ++ ys) ≡ None → (find p xs ≡ None) × (find p ys ≡ None)) → (cond b (Some x) (find p xs) ≡ None) × (find p ys ≡ None)
    at true h rest = absurd (cc)
    at false h rest = rest h

find_none_one : {A : Type 0} (p : A → Bool) (x : A) → find p (x ∷ []) ≡ None → p x ≡ false
find_none_one {A} p x none = at (p x) none
  where
    at : (b : Bool) → cond b (Some x) None ≡ None → b ≡ false
    at true h = absurd (cc)
    at false h = refl

one_below : (k n : ℕ) → k < suc n → (k < n) ⊎ (k ≡ n)
one_below k n below = at (nat_lt k n) refl
  where
    at : (x : Bool) → nat_lt k n ≡ x → (k < n) ⊎ (k ≡ n)
    at true e = inl (grind (arith, nat_tests))
    at false e = inr (let g : n ≤ k = grind (arith, nat_tests) in omega arith)

-- no table of a sort passes
pub none_of : (p : TableNo → Bool) (sort : Sort) (n : ℕ) → find p (tables_of sort n) ≡ None → (k : ℕ) → k < n → p (table_of sort k) ≡ false
none_of p sort zero none k below = absurd (omega arith)
none_of p sort (suc n) none k below =
    let parts = find_none p (tables_of sort n) (table_of sort n ∷ []) (ap (find p) (sym (map-append (table_of sort) (up_to n) (n ∷ []))) ∙ none) in
    at (one_below k n below) parts.0 (find_none_one p (table_of sort n) parts.1) (λ h. none_of p sort n h k)
  where
    at : (k < n) ⊎ (k ≡ n) → find p (tables_of sort n) ≡ None → p (table_of sort n) ≡ false → (find p (tables_of sort n) ≡ None → k < n → p (table_of sort k) ≡ false) → p (table_of sort k) ≡ false
    at (inl b) h here rest = rest h b
    at (inr e) h here rest = ap (λ j. p (table_of sort j)) e ∙ here

-- no table of any sort passes
pub record NonePass (text : PlanTables) (p : TableNo → Bool) : Type 0 where
  pub maps : find p (tables_of Maps (length text.maps)) ≡ None
  pub ranges : find p (ranges_to text (length text.maps)) ≡ None
  pub parts : find p (tables_of Parts (length text.parts)) ≡ None
  pub links : find p (tables_of Links (length text.links)) ≡ None
  pub programs : find p (tables_of Programs (length text.programs)) ≡ None

pub none_pass : (text : PlanTables) (p : TableNo → Bool) → find p (all_tables text) ≡ None → NonePass text p
unfolding all_tables
none_pass text p none =
    let a = find_none p (tables_of Maps (length text.maps) ++ ranges_to text (length text.maps) ++ tables_of Parts (length text.parts) ++ tables_of Links (length text.links)) (tables_of Programs (length text.programs)) none in
    let b = find_none p (tables_of Maps (length text.maps) ++ ranges_to text (length text.maps) ++ tables_of Parts (length text.parts)) (tables_of Links (length text.links)) a.0 in
    let c = find_none p (tables_of Maps (length text.maps) ++ ranges_to text (length text.maps)) (tables_of Parts (length text.parts)) b.0 in
    let d = find_none p (tables_of Maps (length text.maps)) (ranges_to text (length text.maps)) c.0 in
    record { maps = d.0; ranges = d.1; parts = c.1; links = b.1; programs = a.1 }

-- no range of a map passes
pub none_in_map : (text : PlanTables) (p : TableNo → Bool) (n : ℕ) → find p (ranges_to text n) ≡ None → (m : ℕ) → m < n → find p (tables_of (Ranges m) (length (ranges_at text m))) ≡ None
none_in_map text p zero none m below = absurd (omega arith)
none_in_map text p (suc n) none m below =
    let parts = find_none p (ranges_to text n) (tables_of (Ranges n) (length (ranges_at text n))) (ap (find p) (sym (ranges_to_more text n)) ∙ none) in
    at (one_below m n below) parts.0 parts.1 (λ h b. none_in_map text p n h m b)
  where
    at : (m < n) ⊎ (m ≡ n) → find p (ranges_to text n) ≡ None → find p (tables_of (Ranges n) (length (ranges_at text n))) ≡ None → (find p (ranges_to text n) ≡ None → m < n → find p (tables_of (Ranges m) (length (ranges_at text m))) ≡ None) → find p (tables_of (Ranges m) (length (ranges_at text m))) ≡ None
    at (inl b) front here rest = rest front b
    at (inr e) front here rest = ap (λ j. find p (tables_of (Ranges j) (length (ranges_at text j)))) e ∙ here

-- no part, no link and no range passes
pub no_part : (text : PlanTables) (p : TableNo → Bool) → find p (all_tables text) ≡ None → (i : ℕ) → i < length text.parts → p (Part i) ≡ false
no_part text p none = none_of p Parts (length text.parts) (none_pass text p none).parts

pub no_link : (text : PlanTables) (p : TableNo → Bool) → find p (all_tables text) ≡ None → (l : ℕ) → l < length text.links → p (Link l) ≡ false
no_link text p none = none_of p Links (length text.links) (none_pass text p none).links

pub no_range : (text : PlanTables) (p : TableNo → Bool) → find p (all_tables text) ≡ None → (m r : ℕ) → m < length text.maps → r < length (ranges_at text m) → p (Range m r) ≡ false
no_range text p none m r below inside = none_of p (Ranges m) (length (ranges_at text m)) (none_in_map text p (length text.maps) (none_pass text p none).ranges m below) r inside

or_false : (a b : Bool) → (a || b) ≡ false → (a ≡ false) × (b ≡ false)
or_false true b h = absurd (cc)
or_false false b h = (refl, h)

-- where the table of number `most` would be too many, there are no more than so many
at_most : (n most : ℕ) → ((k : ℕ) → k < n → nat_le most k ≡ false) → n ≤ most
at_most n most none = at (nat_lt most n) refl
  where
    at : (b : Bool) → nat_lt most n ≡ b → n ≤ most
    at true e = let below : most < n = grind (arith, nat_tests) in let f = none most below in absurd (grind (arith, nat_tests))
    at false e = grind (arith, nat_tests)

take_all : {A : Type 0} (xs : List A) → take (length xs) xs ≡ xs
take_all [] = refl
take_all (x ∷ xs) = ap (λ l. x ∷ l) (take_all xs)

pub first_port_all : (text : PlanTables) → first_port text (length text.parts) ≡ sum_by (λ (p : PartTable). port_count p.kind) text.parts
unfolding first_port
first_port_all text = ap (sum_by (λ (p : PartTable). port_count p.kind)) (take_all text.parts)

pub first_port_le : (text : PlanTables) (i : ℕ) → first_port text i ≤ sum_by (λ (p : PartTable). port_count p.kind) text.parts
unfolding first_port
first_port_le text i = sum_by-take-le (λ (p : PartTable). port_count p.kind) text.parts i

few_ports : (text : PlanTables) (n : ℕ) → length text.parts ≡ n → ((k : ℕ) → k < n → nat_lt 1024 (first_port text (k + 1)) ≡ false) → sum_by (λ (p : PartTable). port_count p.kind) text.parts ≤ 1024
few_ports text zero count none = let e : 0 ≡ length text.parts = sym count in let l = first_port_all text in let z = none_in text.parts count in omega (arith, z)
  where
    none_in : (parts : List PartTable) → length parts ≡ 0 → sum_by (λ (p : PartTable). port_count p.kind) parts ≡ 0
    none_in [] e = refl
    none_in (p ∷ ps) e = absurd (omega arith)
few_ports text (suc n) count none =
    let f = none n (omega arith) in
    let same : first_port text (n + 1) ≡ sum_by (λ (p : PartTable). port_count p.kind) text.parts = ap (first_port text) (let e : n + 1 ≡ length text.parts = omega (arith, count) in e) ∙ first_port_all text in
    at_most_from (first_port text (n + 1)) _ same f
  where
    at_most_from : (a b : ℕ) → a ≡ b → nat_lt 1024 a ≡ false → b ≤ 1024
    at_most_from a b e f = let g : a ≤ 1024 = grind (arith, nat_tests) in omega (arith, e, g)

pub is_few : (text : PlanTables) → find (too_many text) (all_tables text) ≡ None → IsFew text
unfolding too_many
is_few text none =
    let n = none_pass text (too_many text) none in
    let parts = none_of (too_many text) Parts (length text.parts) n.parts in
    record {
      maps = at_most (length text.maps) 64 (none_of (too_many text) Maps (length text.maps) n.maps);
      parts = at_most (length text.parts) 256 (λ k b. (or_false _ _ (parts k b)).0);
      links = at_most (length text.links) 64 (none_of (too_many text) Links (length text.links) n.links);
      programs = at_most (length text.programs) 256 (none_of (too_many text) Programs (length text.programs) n.programs);
      ports = few_ports text (length text.parts) refl (λ k b. (or_false _ _ (parts k b)).1);
    }

-- a broken rule is told in front of those behind it
told_first : (text : PlanTables) (rule : PlanRule) (rules : List PlanRule) (table : TableNo) → first_table text rule ≡ Some table → first_of text (rule ∷ rules) ≡ Some (record { rule = rule; table = table })
told_first text rule rules table found = ap (λ t. told_or rule t (first_of text rules)) found

-- so is the rule of number i, among those from it on
pub told_here : (text : PlanTables) (rules : List PlanRule) (i : ℕ) (d : PlanRule) (table : TableNo) → i < length rules → first_table text (get_or rules i d) ≡ Some table → first_of text (drop i rules) ≡ Some (record { rule = get_or rules i d; table = table })
told_here text [] i d table below found = absurd (omega arith)
told_here text (rule ∷ rules) zero d table below found = told_first text rule rules table found
told_here text (rule ∷ rules) (suc i) d table below found = told_here text rules i d table (omega arith) found

-- a table too many is told before all else
pub too_many-first : (text : PlanTables) (table : TableNo) → find (too_many text) (all_tables text) ≡ Some table → first_broken text ≡ Some (record { rule = TooMany; table = table })
unfolding first_broken breaks
too_many-first text table found = told_first text TooMany (drop 1 RULES) table found
