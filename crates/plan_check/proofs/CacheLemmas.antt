-- The caches of a plan, one part further, and ports that are added each once.
use Rattle.std.proofs.Common.{◌≡◌, ℕ, ◌+◌, Bool, true, false, List, [], ◌∷◌, ◌++◌, take, ap, ◌∙◌, sym, add-one, append_assoc}
use Rattle.std.specs.Prelude.{Option, Some, if◌then◌else◌, filter, flat_map, option_to_list, slice_get}
use Rattle.std.specs.List.{list_any}
use Rattle.std.proofs.lemmas.List.{append-nil}
use Rattle.std.proofs.lemmas.List.Concat.{flat_map-append}
use Rattle.std.proofs.lemmas.List.Elements.{filter-append}
use Rattle.sim_base.specs.declared.numbers.PortNo.{PortNo}
use Rattle.sim_config.specs.Tables.{PlanTables}
use Rattle.plan_check.specs.Caches.{cache_at, caches_to, is_port, unseen}
use Rattle.plan_check.specs.declared.caches.CacheMap.{CacheMap}
use Rattle.plan_check.proofs.LoopSteps.{take_next}

-- one part further, which may be a cache
pub caches_more : (text : PlanTables) (n : ℕ) (o : Option CacheMap) (so_far now : List CacheMap) → o ≡ cache_at text n → so_far ≡ caches_to text n → now ≡ so_far ++ option_to_list o → now ≡ caches_to text (n + 1)
caches_more text n o so_far now is before pushed =
    pushed ∙ ap (λ xs. xs ++ option_to_list o) before ∙ ap (λ x. caches_to text n ++ option_to_list x) is ∙ ap (caches_to text) (sym (add-one n))

-- the new ports of two lists are those of the first, and then those of the second that are new behind them
pub unseen-append : (seen xs ys : List PortNo) → unseen seen (xs ++ ys) ≡ unseen seen xs ++ unseen (seen ++ unseen seen xs) ys
unseen-append seen [] ys = ap (λ s. unseen s ys) (sym (append-nil seen))
unseen-append seen (x ∷ xs) ys = at (list_any (is_port x) seen) (unseen-append seen xs ys) (unseen-append (seen ++ x ∷ []) xs ys)
  where
    at : (b : Bool) → unseen seen (xs ++ ys) ≡ unseen seen xs ++ unseen (seen ++ unseen seen xs) ys
        → unseen (seen ++ x ∷ []) (xs ++ ys) ≡ unseen (seen ++ x ∷ []) xs ++ unseen ((seen ++ x ∷ []) ++ unseen (seen ++ x ∷ []) xs) ys
        → (if b then unseen seen (xs ++ ys) else x ∷ unseen (seen ++ x ∷ []) (xs ++ ys))
        ≡ (if b then unseen seen xs else x ∷ unseen (seen ++ x ∷ []) xs) ++ unseen (seen ++ (if b then unseen seen xs else x ∷ unseen (seen ++ x ∷ []) xs)) ys
    at true old new = old
    at false old new = ap (λ l. x ∷ l) (new ∙ ap (λ s. unseen (seen ++ x ∷ []) xs ++ unseen s ys) (append_assoc seen (x ∷ []) (unseen (seen ++ x ∷ []) xs)))

-- ports are added behind those that were added before
pub added_behind : (old xs ys now next : List PortNo) → now ≡ old ++ unseen old xs → next ≡ now ++ unseen now ys → next ≡ old ++ unseen old (xs ++ ys)
added_behind old xs ys now next so_far added =
    added ∙ ap (λ s. s ++ unseen s ys) so_far ∙ append_assoc old (unseen old xs) (unseen (old ++ unseen old xs) ys)
    ∙ ap (λ l. old ++ l) (sym (unseen-append old xs ys))

-- what passes a test, one element further
pub filter_next : {A : Type 0} (test : A → Bool) (xs : List A) (n : ℕ) (x : A) → slice_get xs n ≡ Some x → filter test (take (n + 1) xs) ≡ filter test (take n xs) ++ filter test (x ∷ [])
filter_next test xs n x there = ap (filter test) (take_next xs n x there) ∙ filter-append test (take n xs) (x ∷ [])

-- the same where each element gives a list
pub filter_next_all : {A B : Type 0} (test : B → Bool) (f : A → List B) (xs : List A) (n : ℕ) (x : A) → slice_get xs n ≡ Some x → filter test (flat_map f (take (n + 1) xs)) ≡ filter test (flat_map f (take n xs)) ++ filter test (f x)
filter_next_all test f xs n x there =
    ap (λ l. filter test (flat_map f l)) (take_next xs n x there)
    ∙ ap (filter test) (flat_map-append f (take n xs) (x ∷ []) ∙ ap (λ l. flat_map f (take n xs) ++ l) (append-nil (f x)))
    ∙ filter-append test (flat_map f (take n xs)) (f x)
