-- The next times of all actors.
use Rattle.std.proofs.Common.{◌≡◌, ℕ, ◌+◌, ◌-◌, ◌<◌, ◌≤◌, ◌||◌, List, [], ◌∷◌, length, get_or, replicate, zero, suc, sym, ◌∙◌, ap, arith, refl, inl, inr}
use Rattle.std.specs.Prelude.{Option, Some, None, true, false, All, slice_set}
use Rattle.std.proofs.lemmas.Bool.{cases_lt, cases_eq}
use Rattle.std.proofs.Math.Bool.{or-true}
use Rattle.std.proofs.lemmas.List.{same_lists, get_or-set_same, get_or-set_other, length-replicate, get_or-replicate, get_or_past}
use Rattle.std.proofs.lemmas.List.Elements.{All-get_or}
use Rattle.std.proofs.lemmas.Option.{none-some}
use Rattle.sim_base.specs.declared.time.Time.{Time}
use Rattle.event_queue.specs.NextTimes.{time_of, earlier}
use Rattle.tick_law.specs.Verdict.{is_there, exists_to}
use Rattle.model_laws.specs.NextTable.{next_at_place}
use Rattle.model_laws.specs.SideTimes.{half_of, number_of}
use Rattle.model_laws.proofs.SideTimesLaws.{half_at, length-half}

pub none_set : (n i : ℕ) → time_of (replicate n None) i ≡ None
none_set n i = elim (cases_lt i n) [
  | inl l ↦ get_or-replicate n i None None l
  | inr g ↦ get_or_past (replicate n None) i None (omega (arith, g, length-replicate n (let x : Option Time = None in x)))
]

-- one time more
pub first_more : (times new : List (Option Time)) (n who : ℕ) → length times ≡ n → who < n → ((i : ℕ) → i < who → time_of times i ≡ Some (record { 0 = 0 })) → ((i : ℕ) → who ≤ i → time_of times i ≡ None) → new ≡ slice_set times who (Some (earlier (time_of times who) (record { 0 = 0 }))) → (i : ℕ) → i < who + 1 → time_of new i ≡ Some (record { 0 = 0 })
first_more times new n who long b set unset is i l = elim (cases_eq i who) [
  | inl e ↦
      ap (λ k. time_of new k) e
      ∙ ap (λ ts. time_of ts who) (is ∙ ap (λ o. slice_set times who (Some (earlier o (record { 0 = 0 })))) (unset who (omega arith)))
      ∙ get_or-set_same times who (Some (record { 0 = 0 })) None (omega (arith, b, long))
  | inr ne ↦ ap (λ ts. time_of ts i) is ∙ get_or-set_other times who i _ None ne ∙ set i (omega (arith, l, ne))
]

pub first_left : (times new : List (Option Time)) (who : ℕ) (o : Option Time) → ((i : ℕ) → who ≤ i → time_of times i ≡ None) → new ≡ slice_set times who o → (i : ℕ) → who + 1 ≤ i → time_of new i ≡ None
first_left times new who o unset is i l = ap (λ ts. time_of ts i) is ∙ get_or-set_other times who i o None (omega arith) ∙ unset i (omega arith)

pub first_all : (times : List (Option Time)) (n who : ℕ) → length times ≡ n → n ≤ who → ((i : ℕ) → i < who → time_of times i ≡ Some (record { 0 = 0 })) → times ≡ replicate n (Some (record { 0 = 0 }))
first_all times n who long all set =
    same_lists times (replicate n (Some (record { 0 = 0 }))) (long ∙ sym (length-replicate n _))
    (λ k d l. let b : k < n = omega (arith, l, long) in at k d l (set k (omega (arith, b, all))) ∙ sym (get_or-replicate n k (Some (record { 0 = 0 })) d b))
  where
    at : (k : ℕ) (d : Option Time) → k < length times → time_of times k ≡ Some (record { 0 = 0 }) → get_or times k d ≡ Some (record { 0 = 0 })
    at k d l e = swapped times k d l ∙ e
      where
        swapped : (xs : List (Option Time)) (k : ℕ) (d : Option Time) → k < length xs → get_or xs k d ≡ get_or xs k None
        swapped [] k d b = absurd (omega arith)
        swapped (x ∷ xs) zero d b = refl
        swapped (x ∷ xs) (suc k) d b = swapped xs k d (omega arith)

exists_none : (f : ℕ → Option ℕ) (n : ℕ) → ((i : ℕ) → i < n → f i ≡ None) → exists_to f n ≡ false
exists_none f zero none = refl
exists_none f (suc n) none = ap (λ b. b || is_there (f n)) (exists_none f n (λ i b. none i (omega arith))) ∙ ap is_there (none n (omega arith))

exists_some : (f : ℕ → Option ℕ) (n i t : ℕ) → i < n → f i ≡ Some t → exists_to f n ≡ true
exists_some f zero i t b e = absurd (omega arith)
exists_some f (suc n) i t b e = elim (cases_eq i n) [
  | inl same ↦ ap (λ k. exists_to f n || is_there (f k)) (sym same) ∙ ap (λ o. exists_to f n || is_there o) e ∙ or-true (exists_to f n)
  | inr ne ↦ ap (λ b. b || is_there (f n)) (exists_some f n i t (omega (arith, b, ne)) e)
]

half_none : (first n : ℕ) (times : List (Option Time)) → All (λ time. time ≡ None) times → exists_to (next_at_place (half_of first n times)) n ≡ false
half_none first n times all = exists_none (next_at_place (half_of first n times)) n (λ i b. half_at first n times i b ∙ ap number_of (none (first + i)))
  where
    none : (k : ℕ) → time_of times k ≡ None
    none k = elim (cases_lt k (length times)) [
      | inl l ↦ All-get_or (λ time. time ≡ None) times k None l all
      | inr g ↦ get_or_past times k None (omega (arith, g))
    ]

-- where no actor has a next time, no part and no link has one
pub both_none : (base links : ℕ) (times : List (Option Time)) → All (λ time. time ≡ None) times → (exists_to (next_at_place (half_of 0 base times)) base || exists_to (next_at_place (half_of base links times)) links) ≡ false
both_none base links times all = ap (λ b. b || exists_to (next_at_place (half_of base links times)) links) (half_none 0 base times all) ∙ half_none base links times all

-- where one has one, a part or a link has it
pub either_some : (base links i : ℕ) (t : Time) (times : List (Option Time)) → length times ≡ base + links → time_of times i ≡ Some t → (exists_to (next_at_place (half_of 0 base times)) base || exists_to (next_at_place (half_of base links times)) links) ≡ true
either_some base links i t times long e = elim (cases_lt i (length times)) [
  | inr g ↦ absurd (none-some t (sym (get_or_past times i None (omega (arith, g))) ∙ e))
  | inl l ↦ (elim (cases_lt i base) [
    | inl part ↦
        ap (λ b. b || exists_to (next_at_place (half_of base links times)) links)
        (exists_some (next_at_place (half_of 0 base times)) base i t.0 part (half_at 0 base times i part ∙ ap number_of (ap (time_of times) (let z : 0 + i ≡ i = omega arith in z) ∙ e)))
    | inr link ↦
        (let b : i - base < links = omega (arith, l, long, link) in
        let z : base + (i - base) ≡ i = omega (arith, link) in
        ap (λ b. exists_to (next_at_place (half_of 0 base times)) base || b)
        (exists_some (next_at_place (half_of base links times)) links (i - base) t.0 b (half_at base links times (i - base) b ∙ ap number_of (ap (time_of times) z ∙ e)))
        ∙ or-true (exists_to (next_at_place (half_of 0 base times)) base))
  ])
]

-- both halves, counted by their own lengths
pub verdict_halves : (base n links m : ℕ) (times : List (Option Time)) → base ≡ n → links ≡ m → (exists_to (next_at_place (half_of 0 base times)) base || exists_to (next_at_place (half_of base links times)) links) ≡ (exists_to (next_at_place (half_of 0 n times)) (length (half_of 0 n times)) || exists_to (next_at_place (half_of n m times)) (length (half_of n m times)))
verdict_halves base n links m times e f =
    ap (λ x. exists_to (next_at_place (half_of 0 x times)) x || exists_to (next_at_place (half_of x links times)) links) e
    ∙ ap (λ x. exists_to (next_at_place (half_of 0 n times)) n || exists_to (next_at_place (half_of n x times)) x) f
    ∙ ap (λ x. exists_to (next_at_place (half_of 0 n times)) x || exists_to (next_at_place (half_of n m times)) m) (sym (length-half 0 n times))
    ∙ ap (λ x. exists_to (next_at_place (half_of 0 n times)) (length (half_of 0 n times)) || exists_to (next_at_place (half_of n m times)) x) (sym (length-half n m times))

-- at the beginning
pub half_first : (first n m : ℕ) (times : List (Option Time)) → first + n ≤ m → times ≡ replicate m (Some (record { 0 = 0 })) → half_of first n times ≡ replicate n (Some 0)
half_first first zero m times b e = refl
half_first first (suc n) m times b e =
    let here : number_of (time_of times first) ≡ Some 0 = ap number_of (ap (λ l. time_of l first) e ∙ get_or-replicate m first (Some (record { 0 = 0 })) None (omega arith)) in
    ap (λ x. x ∷ half_of (suc first) n times) here ∙ ap (λ l. Some 0 ∷ l) (half_first (suc first) n m times (omega arith) e)
