-- The ring of one relay is a plan.
use Rattle.std.specs.Prelude.{◌≡◌, ℕ, ◌<◌, ◌≤◌, List, [], ◌∷◌, length, Some, slice_get, refl}
use Rattle.std.proofs.Common.{zero, suc, sym, subst, arith}
use Rattle.tick_law.specs.Wires.{Wires, Wired, Has, AllApart, own_of, owner_of}
use Rattle.tick_law.specs.PlanView.{PlanView, IsPlan}
use Rattle.tick_law.specs.declared.port_plan.PortPlan.{PortPlan}
use Rattle.part_kind.specs.Part.{part}
use Rattle.part_kind.specs.LinkKind.{link}
use Rattle.part_kind.specs.declared.part.Part.{Part}
use Rattle.part_kind.specs.declared.link_kind.LinkKind.{LinkKind}
use Rattle.ring_rows.specs.Lone.{lone_relay, lone_link}

abbrev lone_wires : Wires
lone_wires = record { own = (0 ∷ []) ∷ []; owner = 0 ∷ [] }

has_none : (q : ℕ) → Has [] q → ⊥
has_none q (k, b, e) = omega (arith, b)

listed : (i q : ℕ) → Has (own_of lone_wires i) q → owner_of lone_wires q ≡ i
listed zero zero h = refl
listed zero (suc q) (zero, b, e) = absurd (omega (arith, e))
listed zero (suc q) (suc k, b, e) = absurd (omega (arith, b))
listed (suc i) q h = absurd (has_none q h)

within : (i q : ℕ) → Has (own_of lone_wires i) q → q < 1
within zero q (zero, b, e) = omega (arith, e)
within zero q (suc k, b, e) = absurd (omega (arith, b))
within (suc i) q h = absurd (has_none q h)

found : (q : ℕ) → q < 1 → Has (own_of lone_wires (owner_of lone_wires q)) q
found zero b = (0, omega arith, refl)
found (suc q) b = absurd (omega (arith, b))

apart : (i : ℕ) → AllApart (own_of lone_wires i)
apart zero = (λ h. has_none 0 h, tt)
apart (suc i) = tt

lone_wired : Wired lone_wires 1
lone_wired = record { listed = listed; within = within; found = found; apart = apart }

abbrev pub lone_port : List ℕ → PortPlan
lone_port name = record { cap = 4; part = record { 0 = 0 }; link = record { 0 = 0 }; word = name }

abbrev lone_view : List (List ℕ) → List (List ℕ) → List (List (List ℕ)) → List ℕ → ℕ → PlanView Part LinkKind
lone_view part_names link_names fields word until = record {
  parts = lone_relay (Some 2) 0 0 ∷ [];
  links = lone_link 0 0 ∷ [];
  part_names = part_names;
  link_names = link_names;
  fields = fields;
  ports = lone_port word ∷ [];
  own = (0 ∷ []) ∷ (0 ∷ []) ∷ [];
  until = until;
}

capacities : (word : List ℕ) (q : ℕ) (p : PortPlan) → slice_get (lone_port word ∷ []) q ≡ Some p → (1 ≤ p.cap) × (p.cap ≤ 64)
capacities word zero p e =
    let same : lone_port word ≡ p = cc in
    subst (λ (x : PortPlan). (1 ≤ x.cap) × (x.cap ≤ 64)) same (omega arith, omega arith)
capacities word (suc q) p e = absurd (cc)

owned : (q : ℕ) → q < 1 → owner_of lone_wires q < 1
owned zero b = omega arith
owned (suc q) b = absurd (omega (arith, b))

part_own : (i : ℕ) (s : Part) → slice_get (lone_relay (Some 2) 0 0 ∷ []) i ≡ Some s → length (own_of lone_wires i) ≡ part.own s
part_own zero s e =
    let same : lone_relay (Some 2) 0 0 ≡ s = cc in
    subst (λ (x : Part). 1 ≡ part.own x) same refl
part_own (suc i) s e = absurd (cc)

link_own : (i : ℕ) (s : LinkKind) → slice_get (lone_link 0 0 ∷ []) i ≡ Some s → length (own_of lone_wires i) ≡ link.own s
link_own zero s e =
    let same : lone_link 0 0 ≡ s = cc in
    subst (λ (x : LinkKind). 1 ≡ link.own x) same refl
link_own (suc i) s e = absurd (cc)

lone_view_is_plan : (part_names link_names : List (List ℕ)) (fields : List (List (List ℕ))) (word : List ℕ) (until : ℕ) → length part_names ≡ 1 → length link_names ≡ 1 → length fields ≡ 1 → until ≤ 500000000000 → IsPlan part link (lone_view part_names link_names fields word until)
lone_view_is_plan part_names link_names fields word until a b d u = record {
  parts_are_parts = refl;
  links_are_links = refl;
  few_parts = omega arith;
  few_links = omega arith;
  few_ports = omega arith;
  part_names = a;
  link_names = b;
  fields = d;
  own = refl;
  until = u;
  capacities = capacities word;
  part_wired = lone_wired;
  link_wired = lone_wired;
  part_owned = owned;
  link_owned = owned;
  part_own = part_own;
  link_own = link_own;
}

view_is : (parts : List Part) (links : List LinkKind) (part_names link_names : List (List ℕ)) (fields : List (List (List ℕ))) (ports : List PortPlan) (own : List (List ℕ)) (word : List ℕ) (until : ℕ) → parts ≡ lone_relay (Some 2) 0 0 ∷ [] → links ≡ lone_link 0 0 ∷ [] → ports ≡ lone_port word ∷ [] → own ≡ (0 ∷ []) ∷ (0 ∷ []) ∷ [] →
    (let plan : PlanView Part LinkKind = record { parts = parts; links = links; part_names = part_names; link_names = link_names; fields = fields; ports = ports; own = own; until = until } in plan ≡ lone_view part_names link_names fields word until)
view_is parts links part_names link_names fields ports own word until e f g h = rw (e, f, g, h) refl

-- a plan with these lists is the ring of one relay
pub lone_is_plan : (parts : List Part) (links : List LinkKind) (part_names link_names : List (List ℕ)) (fields : List (List (List ℕ))) (ports : List PortPlan) (own : List (List ℕ)) (word : List ℕ) (until : ℕ) → parts ≡ lone_relay (Some 2) 0 0 ∷ [] → links ≡ lone_link 0 0 ∷ [] → length part_names ≡ 1 → length link_names ≡ 1 → length fields ≡ 1 → ports ≡ lone_port word ∷ [] → own ≡ (0 ∷ []) ∷ (0 ∷ []) ∷ [] → until ≤ 500000000000 →
    (let plan : PlanView Part LinkKind = record { parts = parts; links = links; part_names = part_names; link_names = link_names; fields = fields; ports = ports; own = own; until = until } in IsPlan part link plan)
lone_is_plan parts links part_names link_names fields ports own word until e f a b d g h u =
    subst (λ plan. IsPlan part link plan) (sym (view_is parts links part_names link_names fields ports own word until e f g h)) (lone_view_is_plan part_names link_names fields word until a b d u)
