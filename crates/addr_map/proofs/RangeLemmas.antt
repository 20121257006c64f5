-- Turns of targets, and ranges that do not overlap.
use Rattle.std.proofs.Common.{◌≡◌, ℕ, ◌<◌, ◌%◌, true, List, length, get_or, Some, None, [], All, AllPairs, Contains, refl, subst, sym, ◌∙◌, ap, arith}
use Rattle.std.specs.Prelude.{slice_get}
use Rattle.std.specs.Int.{IsPowerOfTwo}
use Rattle.std.proofs.lemmas.Bool.{and_parts, and_from, leb-true, ltb-true, le-leb, lt-ltb, false_from_ne_true}
use Rattle.std.proofs.lemmas.List.Recursion.{found_at, found_nowhere}
use Rattle.std.proofs.lemmas.Nat.{mod_below, pow_pos}
use Rattle.std.proofs.lemmas.Option.{slice_get-get_or}
use Rattle.sim_base.specs.declared.numbers.PortNo.{PortNo}
use Rattle.addr_map.specs.declared.range.Range.{Range}
use Rattle.addr_map.specs.Range.{Holds, Apart, is_held, target_of, target_at}

pub slice_get_turn : (xs : List PortNo) (n : ℕ) (d : PortNo) → IsPowerOfTwo (length xs) → slice_get xs (n % length xs) ≡ Some (get_or xs (n % length xs) d)
slice_get_turn xs n d (k, e) =
    let some : 0 < length xs = omega (arith, e, pow_pos k) in
    slice_get-get_or xs (n % length xs) d (mod_below n (length xs) some)

pub is_held-true : (r : Range) (addr : ℕ) → is_held r addr ≡ true → Holds r addr
is_held-true r addr h =
    let both = and_parts _ _ h in
    record { from_base = leb-true _ _ both.0; below_end = ltb-true _ _ both.1 }

pub is_held-from : (r : Range) (addr : ℕ) → Holds r addr → is_held r addr ≡ true
is_held-from r addr h = and_from _ _ (le-leb _ _ h.from_base) (lt-ltb _ _ h.below_end)

-- where no range holds the address there is no target
pub target_at-none : (rs : List Range) (addr : ℕ) → All (λ r. ¬ Holds r addr) rs → target_at rs addr ≡ None
target_at-none rs addr none =
    let d : Range = record { base = 0; size = 0; granule = 0; to = [] } in
    found_nowhere (λ xs. target_at xs addr) (λ r. is_held r addr) (λ r. target_of r addr) None refl (λ _ _. refl) rs d
    (λ k within. false_from_ne_true _ (λ h. none k d within (is_held-true _ addr h)))

-- where a range holds the address, and no two overlap, its target is the answer
pub target_at-held : (rs : List Range) (addr k : ℕ) (d : Range) → AllPairs Apart rs → k < length rs → Holds (get_or rs k d) addr → target_at rs addr ≡ target_of (get_or rs k d) addr
target_at-held rs addr k d apart within held =
    found_at (λ xs. target_at xs addr) (λ r. is_held r addr) (λ r. target_of r addr) None refl (λ _ _. refl) rs k d within
    (λ j lt. false_from_ne_true _ (λ h. apart j k d lt within addr (is_held-true _ addr h) held))
    (is_held-from _ addr held)

pub target_at-among : (rs : List Range) (addr : ℕ) (r : Range) → AllPairs Apart rs → Contains rs r → Holds r addr → target_at rs addr ≡ target_of r addr
target_at-among rs addr r apart among held =
    let Q : Range → Type 0 = λ s. Holds s addr in
    target_at-held rs addr among.0 r apart among.1 (subst Q (sym among.2) held) ∙ ap (λ s. target_of s addr) among.2
