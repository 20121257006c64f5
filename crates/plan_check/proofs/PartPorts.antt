-- The ports of parts: counted part by part.
use Rattle.std.proofs.Common.{◌≡◌, ℕ, ◌+◌, ◌<◌, ◌≤◌, zero, suc, List, [], ◌∷◌, ◌++◌, map, take, length, get_or, sum_by, refl, ap, arith, ◌∙◌, sym, subst, length-append, inl, inr, add-one, add-zero, ◌-◌}
use Rattle.std.specs.Prelude.{Option, Some, None, slice_get, ◌⊎◌}
use Rattle.std.proofs.lemmas.List.Sums.{sum_by_more}
use Rattle.sim_config.specs.Tables.{PlanTables, PartTable}
use Rattle.sim_config.specs.declared.part_text.PartKeys.TheVariants.{Relay}
use Rattle.tick_law.specs.declared.port_plan.PortPlan.{PortPlan}
use Rattle.tick_law.specs.Wires.{Wires, Wired, Has, AllApart, own_of, owner_of}
use Rattle.plan_rules.specs.declared.port_word.PortWord.{PortWord}
use Rattle.plan_rules.specs.Kinds.{port_count, port_words}
use Rattle.plan_rules.specs.Text.{first_port}
use Rattle.plan_check.specs.Plan.{count_of, numbers_from, own_to, port_plan, port_plans, ports_of_part, ports_to, up_to}
use Rattle.plan_check.proofs.Places.{length-map, length-up_to, get_behind, get_front, get_past, get_map, one_below, below_or, get-up_to, apart_at, some_at}

abbrev pub count_at : PlanTables → ℕ → ℕ
count_at text i = count_of (slice_get text.parts i)

no_part : PartTable
no_part = record { name = []; period = 0; buffer = 0; kind = Relay [] None }

take_past : (xs : List PartTable) (n : ℕ) → length xs ≤ n → take n xs ≡ xs
take_past [] zero b = refl
take_past [] (suc n) b = refl
take_past (x ∷ xs) zero b = absurd (omega arith)
take_past (x ∷ xs) (suc n) b = ap (λ l. x ∷ l) (take_past xs n (omega arith))

none_past : (xs : List PartTable) (n : ℕ) → length xs ≤ n → slice_get xs n ≡ None
none_past [] n b = refl
none_past (x ∷ xs) zero b = absurd (omega arith)
none_past (x ∷ xs) (suc n) b = none_past xs n (omega arith)

ports_of_all : List PartTable → ℕ
ports_of_all xs = sum_by (λ (p : PartTable). port_count p.kind) xs

sum_step : (xs : List PartTable) (n : ℕ) → ports_of_all (take (suc n) xs) ≡ ports_of_all (take n xs) + count_of (slice_get xs n)
unfolding ports_of_all
sum_step xs n = at (below_or n (length xs))
  where
    at : (n < length xs) ⊎ (length xs ≤ n) → ports_of_all (take (suc n) xs) ≡ ports_of_all (take n xs) + count_of (slice_get xs n)
    at (inl b) = ap (λ k. ports_of_all (take k xs)) (sym (add-one n)) ∙ sum_by_more (λ (p : PartTable). port_count p.kind) xs n no_part b ∙ ap (λ o. ports_of_all (take n xs) + count_of o) (sym (some_at xs n no_part b))
    at (inr g) = ap ports_of_all (take_past xs (suc n) (omega arith) ∙ sym (take_past xs n g)) ∙ sym (add-zero (ports_of_all (take n xs))) ∙ ap (λ o. ports_of_all (take n xs) + count_of o) (sym (none_past xs n g))

pub first_port_step : (text : PlanTables) (n : ℕ) → first_port text (suc n) ≡ first_port text n + count_at text n
unfolding first_port ports_of_all
first_port_step text n = sum_step text.parts n

first_port_none : (text : PlanTables) → first_port text 0 ≡ 0
unfolding first_port
first_port_none text = refl

pub first_port_rises : (text : PlanTables) (i n : ℕ) → i ≤ n → first_port text i ≤ first_port text n
first_port_rises text i zero h = (let e : i ≡ 0 = omega arith in let s : first_port text i ≡ first_port text 0 = ap (first_port text) e in omega (arith, s))
first_port_rises text i (suc n) h = at (below_or n i) (λ l. first_port_rises text i n l)
  where
    at : (n < i) ⊎ (i ≤ n) → (i ≤ n → first_port text i ≤ first_port text n) → first_port text i ≤ first_port text (suc n)
    at (inl b) rest = (let e : i ≡ suc n = omega arith in let s : first_port text i ≡ first_port text (suc n) = ap (first_port text) e in omega (arith, s))
    at (inr l) rest = (let r = rest l in let s = first_port_step text n in omega (arith, r, s))

length-plans : (text : PlanTables) (i buffer place : ℕ) (words : List PortWord) → length (port_plans text i buffer place words) ≡ length words
length-plans text i buffer place [] = refl
length-plans text i buffer place (w ∷ ws) = ap suc (length-plans text i buffer (place + 1) ws)

length-of_part : (text : PlanTables) (i : ℕ) (o : Option PartTable) → length (ports_of_part text i o) ≡ count_of o
length-of_part text i None = refl
length-of_part text i (Some t) = length-plans text i t.buffer 0 (port_words t.kind)

pub length-ports_to : (text : PlanTables) (n : ℕ) → length (ports_to text n) ≡ first_port text n
length-ports_to text zero = sym (first_port_none text)
length-ports_to text (suc n) =
    (let a = length-append (ports_to text n) (ports_of_part text n (slice_get text.parts n)) in
    let b = length-of_part text n (slice_get text.parts n) in
    let r = length-ports_to text n in
    let s = first_port_step text n in
    let z : length (ports_to text n ++ ports_of_part text n (slice_get text.parts n)) ≡ first_port text (suc n) = omega (arith, a, b, r, s) in z)

plans_at : (text : PlanTables) (i buffer place : ℕ) (words : List PortWord) (k : ℕ) (d : PortPlan) → k < length words → (word : PortWord) × (get_or (port_plans text i buffer place words) k d ≡ port_plan text i buffer (place + k) word)
plans_at text i buffer place [] k d b = absurd (omega arith)
plans_at text i buffer place (w ∷ ws) zero d b = (w, ap (λ n. port_plan text i buffer n w) (let e : place ≡ place + 0 = omega arith in e))
plans_at text i buffer place (w ∷ ws) (suc k) d b =
    (let r = plans_at text i buffer (place + 1) ws k d (omega arith) in
    (r.0, r.1 ∙ ap (λ n. port_plan text i buffer n r.0) (let e : place + 1 + k ≡ place + suc k = omega arith in e)))

of_part_at : (text : PlanTables) (i : ℕ) (o : Option PartTable) (k : ℕ) (d : PortPlan) → k < count_of o → (buffer : ℕ) × (word : PortWord) × (get_or (ports_of_part text i o) k d ≡ port_plan text i buffer k word)
of_part_at text i None k d b = absurd (omega arith)
of_part_at text i (Some t) k d b =
    (let r = plans_at text i t.buffer 0 (port_words t.kind) k d b in
    (t.buffer, r.0, r.1 ∙ ap (λ n. port_plan text i t.buffer n r.0) (let e : 0 + k ≡ k = omega arith in e)))

-- the port of a part by its number
pub port_at : (text : PlanTables) (n i k : ℕ) (d : PortPlan) → i < n → k < count_at text i → (buffer : ℕ) × (word : PortWord) × (get_or (ports_to text n) (first_port text i + k) d ≡ port_plan text i buffer k word)
port_at text zero i k d b h = absurd (omega arith)
port_at text (suc n) i k d b h = at (one_below i n b) (λ l. port_at text n i k d l h)
  where
    at : (i < n) ⊎ (i ≡ n) → (i < n → (buffer : ℕ) × (word : PortWord) × (get_or (ports_to text n) (first_port text i + k) d ≡ port_plan text i buffer k word)) →
        (buffer : ℕ) × (word : PortWord) × (get_or (ports_to text n ++ ports_of_part text n (slice_get text.parts n)) (first_port text i + k) d ≡ port_plan text i buffer k word)
    at (inl l) rest =
        (let r = rest l in
        let s = first_port_step text i in
        let m = first_port_rises text (suc i) n (omega arith) in
        let c = length-ports_to text n in
        (r.0, r.1, get_front (ports_to text n) (ports_of_part text n (slice_get text.parts n)) d (first_port text i + k) (omega (arith, s, m, c)) ∙ r.2))
    at (inr e) rest =
        (let here : k < count_at text n = subst (λ j. k < count_at text j) e h in
        let r = of_part_at text n (slice_get text.parts n) k d here in
        let c = length-ports_to text n in
        let first : first_port text i ≡ first_port text n = ap (first_port text) e in
        (r.0, r.1, get_behind (ports_to text n) (ports_of_part text n (slice_get text.parts n)) d k (first_port text i + k) (omega (arith, first, c)) ∙ r.2 ∙ ap (λ j. port_plan text j r.0 k r.1) (sym e)))

-- each port is that of a part
pub part_of_port : (text : PlanTables) (n q : ℕ) → q < first_port text n → (i : ℕ) × (k : ℕ) × (i < n) × (k < count_at text i) × (q ≡ first_port text i + k)
part_of_port text zero q b = absurd (let z = first_port_none text in omega (arith, b, z))
part_of_port text (suc n) q b = at (below_or q (first_port text n)) (λ l. part_of_port text n q l)
  where
    at : (q < first_port text n) ⊎ (first_port text n ≤ q) → (q < first_port text n → (i : ℕ) × (k : ℕ) × (i < n) × (k < count_at text i) × (q ≡ first_port text i + k)) → (i : ℕ) × (k : ℕ) × (i < suc n) × (k < count_at text i) × (q ≡ first_port text i + k)
    at (inl l) rest = (let r = rest l in (r.0, r.1, (let h = r.2 in omega (arith, h)), r.3, r.4))
    at (inr g) rest = (let s = first_port_step text n in (n, q - first_port text n, omega arith, omega (arith, s, b, g), omega (arith, g)))

length-own_to : (text : PlanTables) (n : ℕ) → length (own_to text n) ≡ n
length-own_to text zero = refl
length-own_to text (suc n) = (let a = length-append (own_to text n) (numbers_from (first_port text n) (count_at text n) ∷ []) in let r = length-own_to text n in let z : length (own_to text n ++ numbers_from (first_port text n) (count_at text n) ∷ []) ≡ suc n = omega (arith, a, r) in z)

pub count_own_to : (text : PlanTables) (n : ℕ) → length (own_to text n) ≡ n
count_own_to = length-own_to

pub own_at : (text : PlanTables) (n i : ℕ) → i < n → get_or (own_to text n) i [] ≡ numbers_from (first_port text i) (count_at text i)
own_at text zero i b = absurd (omega arith)
own_at text (suc n) i b = at (one_below i n b) (λ l. own_at text n i l)
  where
    at : (i < n) ⊎ (i ≡ n) → (i < n → get_or (own_to text n) i [] ≡ numbers_from (first_port text i) (count_at text i)) → get_or (own_to text n ++ numbers_from (first_port text n) (count_at text n) ∷ []) i [] ≡ numbers_from (first_port text i) (count_at text i)
    at (inl l) rest = get_front (own_to text n) (numbers_from (first_port text n) (count_at text n) ∷ []) [] i (let m = length-own_to text n in omega (arith, l, m)) ∙ rest l
    at (inr e) rest = get_behind (own_to text n) (numbers_from (first_port text n) (count_at text n) ∷ []) [] 0 i (let m = length-own_to text n in omega (arith, e, m)) ∙ ap (λ j. numbers_from (first_port text j) (count_at text j)) (sym e)

pub length-numbers : (first count : ℕ) → length (numbers_from first count) ≡ count
length-numbers first count = length-map (λ place. first + place) (up_to count) ∙ length-up_to count

number_at : (first count k : ℕ) → k < count → get_or (numbers_from first count) k 0 ≡ first + k
number_at first count k b = get_map (λ place. first + place) (up_to count) k 0 0 (let m = length-up_to count in omega (arith, b, m)) ∙ ap (λ place. first + place) (get-up_to count k 0 b)

numbers_have : (first count q : ℕ) → Has (numbers_from first count) q → (k : ℕ) × (k < count) × (q ≡ first + k)
numbers_have first count q h =
    (let b : h.0 < count = (let m = length-numbers first count in let l = h.1 in omega (arith, l, m)) in
    (h.0, b, sym h.2 ∙ number_at first count h.0 b))

-- the parts' wires
pub wires_of_parts : PlanTables → Wires
wires_of_parts text = record { own = own_to text (length text.parts); owner = map (λ (p : PortPlan). p.part.0) (ports_to text (length text.parts)) }

pub wires_of_parts_are : (text : PlanTables) → wires_of_parts text ≡ record { own = own_to text (length text.parts); owner = map (λ (p : PortPlan). p.part.0) (ports_to text (length text.parts)) }
unfolding wires_of_parts
wires_of_parts_are text = refl

no_port : PortPlan
no_port = record { cap = 1; part = record { 0 = 0 }; link = record { 0 = 0 }; word = [] }

pub part_owner : (text : PlanTables) (i k : ℕ) → i < length text.parts → k < count_at text i → owner_of (wires_of_parts text) (first_port text i + k) ≡ i
unfolding wires_of_parts
part_owner text i k b h =
    (let p = port_at text (length text.parts) i k no_port b h in
    let c = length-ports_to text (length text.parts) in
    let s = first_port_step text i in
    let m = first_port_rises text (suc i) (length text.parts) (omega arith) in
    get_map (λ (p : PortPlan). p.part.0) (ports_to text (length text.parts)) (first_port text i + k) no_port 0 (omega (arith, c, s, m)) ∙ ap (λ (p : PortPlan). p.part.0) p.2)

own_of_part : (text : PlanTables) (i q : ℕ) → Has (own_of (wires_of_parts text) i) q → (k : ℕ) × (i < length text.parts) × (k < count_at text i) × (q ≡ first_port text i + k)
unfolding wires_of_parts
own_of_part text i q h = at (below_or i (length text.parts))
  where
    at : (i < length text.parts) ⊎ (length text.parts ≤ i) → (k : ℕ) × (i < length text.parts) × (k < count_at text i) × (q ≡ first_port text i + k)
    at (inl b) = (let r = numbers_have (first_port text i) (count_at text i) q (subst (λ l. Has l q) (own_at text (length text.parts) i b) h) in (r.0, b, r.1, r.2))
    at (inr g) = absurd (let none : get_or (own_to text (length text.parts)) i [] ≡ [] = get_past (own_to text (length text.parts)) [] i (let m = length-own_to text (length text.parts) in omega (arith, g, m)) in let f = subst (λ l. Has l q) none h in let b = f.1 in omega (arith, b))

apart_numbers : (first count : ℕ) → AllApart (numbers_from first count)
apart_numbers first count = apart_at (numbers_from first count) (λ j k l b e. (let m = length-numbers first count in let x = number_at first count j (omega (arith, l, b, m)) in let y = number_at first count k (omega (arith, b, m)) in omega (arith, x, y, e, l)))

pub parts_wired : (text : PlanTables) → Wired (wires_of_parts text) (first_port text (length text.parts))
unfolding wires_of_parts
parts_wired text = record {
  listed = λ i q h. (let r = own_of_part text i q h in ap (owner_of (wires_of_parts text)) r.3 ∙ part_owner text i r.0 r.1 r.2);
  within = λ i q h. (let r = own_of_part text i q h in let s = first_port_step text i in let b = r.1 in let k = r.2 in let e = r.3 in let m = first_port_rises text (suc i) (length text.parts) (omega (arith, b)) in omega (arith, s, m, k, e));
  found = λ q b. found q (part_of_port text (length text.parts) q b);
  apart = λ i. apart_of i (below_or i (length text.parts));
}
  where
    found : (q : ℕ) → (i : ℕ) × (k : ℕ) × (i < length text.parts) × (k < count_at text i) × (q ≡ first_port text i + k) → Has (own_of (wires_of_parts text) (owner_of (wires_of_parts text) q)) q
    found q r =
        (let owner : owner_of (wires_of_parts text) q ≡ r.0 = ap (owner_of (wires_of_parts text)) r.4 ∙ part_owner text r.0 r.1 r.2 r.3 in
        let here : Has (numbers_from (first_port text r.0) (count_at text r.0)) q = (r.1, (let m = length-numbers (first_port text r.0) (count_at text r.0) in let b = r.3 in omega (arith, b, m)), number_at (first_port text r.0) (count_at text r.0) r.1 r.3 ∙ sym r.4) in
        subst (λ i. Has (own_of (wires_of_parts text) i) q) (sym owner) (subst (λ l. Has l q) (sym (own_at text (length text.parts) r.0 r.2)) here))

    apart_of : (i : ℕ) → (i < length text.parts) ⊎ (length text.parts ≤ i) → AllApart (own_of (wires_of_parts text) i)
    apart_of i (inl b) = subst AllApart (sym (own_at text (length text.parts) i b)) (apart_numbers (first_port text i) (count_at text i))
    apart_of i (inr g) = (let none : get_or (own_to text (length text.parts)) i [] ≡ [] = get_past (own_to text (length text.parts)) [] i (let m = length-own_to text (length text.parts) in omega (arith, g, m)) in subst AllApart (sym none) tt)

pub part_owned : (text : PlanTables) (q : ℕ) → q < first_port text (length text.parts) → owner_of (wires_of_parts text) q < length text.parts
part_owned text q b = (let r = part_of_port text (length text.parts) q b in let owner : owner_of (wires_of_parts text) q ≡ r.0 = ap (owner_of (wires_of_parts text)) r.4 ∙ part_owner text r.0 r.1 r.2 r.3 in let l = r.2 in omega (arith, owner, l))

pub own_length : (text : PlanTables) (i : ℕ) → i < length text.parts → length (own_of (wires_of_parts text) i) ≡ count_at text i
unfolding wires_of_parts
own_length text i b = ap length (own_at text (length text.parts) i b) ∙ length-numbers (first_port text i) (count_at text i)
