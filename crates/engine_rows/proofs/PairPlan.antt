-- Two parts with one port each on one link are a plan.
use Rattle.std.specs.Prelude.{◌≡◌, ℕ, ◌<◌, ◌≤◌, List, [], ◌∷◌, length, Some, slice_get, true, false, refl}
use Rattle.std.proofs.Common.{zero, suc, sym, subst, arith}
use Rattle.tick_law.specs.Machine.{Machine}
use Rattle.tick_law.specs.Wires.{Wires, Wired, Has, AllApart, own_of, owner_of}
use Rattle.tick_law.specs.PlanView.{PlanView, IsPlan}
use Rattle.tick_law.specs.declared.port_plan.PortPlan.{PortPlan}

abbrev part_wires : Wires
part_wires = record { own = (0 ∷ []) ∷ (1 ∷ []) ∷ []; owner = 0 ∷ 1 ∷ [] }

abbrev link_wires : Wires
link_wires = record { own = (0 ∷ 1 ∷ []) ∷ []; owner = 0 ∷ 0 ∷ [] }

has_none : (q : ℕ) → Has [] q → ⊥
has_none q (k, b, e) = omega (arith, b)

has_one : (x q : ℕ) → Has (x ∷ []) q → x ≡ q
has_one x q (zero, b, e) = e
has_one x q (suc k, b, e) = absurd (omega (arith, b))

has_two : (q : ℕ) → Has (0 ∷ 1 ∷ []) q → q < 2
has_two q (zero, b, e) = omega (arith, e)
has_two q (suc zero, b, e) = omega (arith, e)
has_two q (suc (suc k), b, e) = absurd (omega (arith, b))

part_listed : (i q : ℕ) → Has (own_of part_wires i) q → owner_of part_wires q ≡ i
part_listed zero q h = subst (λ x. owner_of part_wires x ≡ 0) (has_one 0 q h) refl
part_listed (suc zero) q h = subst (λ x. owner_of part_wires x ≡ 1) (has_one 1 q h) refl
part_listed (suc (suc i)) q h = absurd (has_none q h)

part_within : (i q : ℕ) → Has (own_of part_wires i) q → q < 2
part_within zero q h = (let e = has_one 0 q h in omega (arith, e))
part_within (suc zero) q h = (let e = has_one 1 q h in omega (arith, e))
part_within (suc (suc i)) q h = absurd (has_none q h)

part_found : (q : ℕ) → q < 2 → Has (own_of part_wires (owner_of part_wires q)) q
part_found zero b = (0, omega arith, refl)
part_found (suc zero) b = (0, omega arith, refl)
part_found (suc (suc q)) b = absurd (omega (arith, b))

part_apart : (i : ℕ) → AllApart (own_of part_wires i)
part_apart zero = (λ h. has_none 0 h, tt)
part_apart (suc zero) = (λ h. has_none 1 h, tt)
part_apart (suc (suc i)) = tt

part_wired : Wired part_wires 2
part_wired = record { listed = part_listed; within = part_within; found = part_found; apart = part_apart }

link_listed : (i q : ℕ) → Has (own_of link_wires i) q → owner_of link_wires q ≡ i
link_listed zero zero h = refl
link_listed zero (suc zero) h = refl
link_listed zero (suc (suc q)) h = absurd (let b = has_two (suc (suc q)) h in omega (arith, b))
link_listed (suc i) q h = absurd (has_none q h)

link_within : (i q : ℕ) → Has (own_of link_wires i) q → q < 2
link_within zero q h = has_two q h
link_within (suc i) q h = absurd (has_none q h)

link_found : (q : ℕ) → q < 2 → Has (own_of link_wires (owner_of link_wires q)) q
link_found zero b = (0, omega arith, refl)
link_found (suc zero) b = (1, omega arith, refl)
link_found (suc (suc q)) b = absurd (omega (arith, b))

link_apart : (i : ℕ) → AllApart (own_of link_wires i)
link_apart zero = (λ h. let e = has_one 1 0 h in omega (arith, e), (λ h. has_none 1 h, tt))
link_apart (suc i) = tt

link_wired : Wired link_wires 2
link_wired = record { listed = link_listed; within = link_within; found = link_found; apart = link_apart }

abbrev pub pair_port : ℕ → List ℕ → PortPlan
pair_port i word = record { cap = 4; part = record { 0 = i }; link = record { 0 = 0 }; word = word }

capacities : (word : List ℕ) (q : ℕ) (p : PortPlan) → slice_get (pair_port 0 word ∷ pair_port 1 word ∷ []) q ≡ Some p → (1 ≤ p.cap) × (p.cap ≤ 64)
capacities word zero p e =
    let same : pair_port 0 word ≡ p = cc in
    subst (λ (x : PortPlan). (1 ≤ x.cap) × (x.cap ≤ 64)) same (omega arith, omega arith)
capacities word (suc zero) p e =
    let same : pair_port 1 word ≡ p = cc in
    subst (λ (x : PortPlan). (1 ≤ x.cap) × (x.cap ≤ 64)) same (omega arith, omega arith)
capacities word (suc (suc q)) p e = absurd (cc)

part_owned : (q : ℕ) → q < 2 → owner_of part_wires q < 2
part_owned zero b = omega arith
part_owned (suc zero) b = omega arith
part_owned (suc (suc q)) b = absurd (omega (arith, b))

link_owned : (q : ℕ) → q < 2 → owner_of link_wires q < 1
link_owned zero b = omega arith
link_owned (suc zero) b = omega arith
link_owned (suc (suc q)) b = absurd (omega (arith, b))

part_own : {P : Type 0} (mp : Machine P) (first second : P) → mp.own first ≡ 1 → mp.own second ≡ 1 → (i : ℕ) (s : P) → slice_get (first ∷ second ∷ []) i ≡ Some s → length (own_of part_wires i) ≡ mp.own s
part_own mp first second a b zero s e =
    let same : first ≡ s = cc in
    subst (λ x. 1 ≡ mp.own x) same (sym a)
part_own mp first second a b (suc zero) s e =
    let same : second ≡ s = cc in
    subst (λ x. 1 ≡ mp.own x) same (sym b)
part_own mp first second a b (suc (suc i)) s e = absurd (cc)

link_own : {N : Type 0} (mn : Machine N) (link : N) → mn.own link ≡ 2 → (i : ℕ) (s : N) → slice_get (link ∷ []) i ≡ Some s → length (own_of link_wires i) ≡ mn.own s
link_own mn link a zero s e =
    let same : link ≡ s = cc in
    subst (λ x. 2 ≡ mn.own x) same (sym a)
link_own mn link a (suc i) s e = absurd (cc)

abbrev pair_view : {P N : Type 0} → P → P → N → List (List ℕ) → List (List ℕ) → List (List (List ℕ)) → List ℕ → ℕ → PlanView P N
pair_view first second link part_names link_names fields word until = record {
  parts = first ∷ second ∷ [];
  links = link ∷ [];
  part_names = part_names;
  link_names = link_names;
  fields = fields;
  ports = pair_port 0 word ∷ pair_port 1 word ∷ [];
  own = (0 ∷ []) ∷ (1 ∷ []) ∷ (0 ∷ 1 ∷ []) ∷ [];
  until = until;
}

pair_view_is_plan : {P N : Type 0} (mp : Machine P) (mn : Machine N) (first second : P) (link : N) (part_names link_names : List (List ℕ)) (fields : List (List (List ℕ))) (word : List ℕ) (until : ℕ) →
    mp.is_part ≡ true → mn.is_part ≡ false → mp.own first ≡ 1 → mp.own second ≡ 1 → mn.own link ≡ 2 → length part_names ≡ 2 → length link_names ≡ 1 → length fields ≡ 2 → until ≤ 500000000000 →
    IsPlan mp mn (pair_view first second link part_names link_names fields word until)
pair_view_is_plan mp mn first second link part_names link_names fields word until sp sl of os ol a b d u = record {
  parts_are_parts = sp;
  links_are_links = sl;
  few_parts = omega arith;
  few_links = omega arith;
  few_ports = omega arith;
  part_names = a;
  link_names = b;
  fields = d;
  own = refl;
  until = u;
  capacities = capacities word;
  part_wired = part_wired;
  link_wired = link_wired;
  part_owned = part_owned;
  link_owned = link_owned;
  part_own = part_own mp first second of os;
  link_own = link_own mn link ol;
}

view_is : {P N : Type 0} (parts : List P) (links : List N) (part_names link_names : List (List ℕ)) (fields : List (List (List ℕ))) (ports : List PortPlan) (own : List (List ℕ)) (first second : P) (link : N) (word : List ℕ) (until : ℕ) →
    parts ≡ first ∷ second ∷ [] → links ≡ link ∷ [] → ports ≡ pair_port 0 word ∷ pair_port 1 word ∷ [] → own ≡ (0 ∷ []) ∷ (1 ∷ []) ∷ (0 ∷ 1 ∷ []) ∷ [] →
    (let plan : PlanView P N = record { parts = parts; links = links; part_names = part_names; link_names = link_names; fields = fields; ports = ports; own = own; until = until } in plan ≡ pair_view first second link part_names link_names fields word until)
view_is parts links part_names link_names fields ports own first second link word until e f g h = rw (e, f, g, h) refl

-- a plan with these lists is the plan of a pair
pub pair_is_plan : {P N : Type 0} (mp : Machine P) (mn : Machine N) (parts : List P) (links : List N) (part_names link_names : List (List ℕ)) (fields : List (List (List ℕ))) (ports : List PortPlan) (own : List (List ℕ)) (first second : P) (link : N) (word : List ℕ) (until : ℕ) →
    mp.is_part ≡ true → mn.is_part ≡ false → mp.own first ≡ 1 → mp.own second ≡ 1 → mn.own link ≡ 2 →
    parts ≡ first ∷ second ∷ [] → links ≡ link ∷ [] → length part_names ≡ 2 → length link_names ≡ 1 → length fields ≡ 2 → ports ≡ pair_port 0 word ∷ pair_port 1 word ∷ [] → own ≡ (0 ∷ []) ∷ (1 ∷ []) ∷ (0 ∷ 1 ∷ []) ∷ [] → until ≤ 500000000000 →
    (let plan : PlanView P N = record { parts = parts; links = links; part_names = part_names; link_names = link_names; fields = fields; ports = ports; own = own; until = until } in IsPlan mp mn plan)
pair_is_plan mp mn parts links part_names link_names fields ports own first second link word until sp sl of os ol e f a b d g h u =
    subst (λ plan. IsPlan mp mn plan) (sym (view_is parts links part_names link_names fields ports own first second link word until e f g h)) (pair_view_is_plan mp mn first second link part_names link_names fields word until sp sl of os ol a b d u)
