-- The gear of a plan is fit for its run.
use Rattle.std.proofs.Common.{◌≡◌, ℕ, ◌+◌, ◌*◌, ◌^◌, ◌<◌, ◌≤◌, List, [], ◌∷◌, length, map, get_or, zero, suc, sym, ◌∙◌, ap, subst, arith, refl, length-take, length-drop}
use Rattle.std.specs.Prelude.{Some, slice_get, true, false}
use Rattle.sim_base.specs.declared.time.TheConstants.{LONGEST_PERIOD}
use Rattle.port_msg.specs.PortView.{PortView, port_view}
use Rattle.tick_law.specs.Machine.{Machine}
use Rattle.tick_law.specs.Frame.{IsPort}
use Rattle.tick_law.specs.Laws.{Laws}
use Rattle.tick_law.specs.Wires.{Wires, Wired, own_of, owner_of}
use Rattle.tick_law.specs.SerialLoop.{parts_of, links_of}
use Rattle.tick_law.specs.Course.{period_at, period, part_course, link_course}
use Rattle.tick_law.specs.PlanView.{PlanView, IsPlan, part_wires, link_wires, start_of, system_of}
use Rattle.tick_law.specs.declared.port_plan.PortPlan.{PortPlan}
use Rattle.model_laws.specs.WellFormed.{IsSound, HasRoom}
use Rattle.model_laws.specs.Fitted.{IsSetUp, Fitted}
use Rattle.model_laws.specs.Outcome.{own_to}
use Rattle.port_rows.specs.Opening.{IsSide}
use Rattle.run_gear.proofs.Pigeons.{own_to-le, own-le}

pub length-map : {A B : Type 0} (f : A → B) (xs : List A) → length (map f xs) ≡ length xs
length-map f [] = refl
length-map f (x ∷ xs) = ap suc (length-map f xs)

map_back : {A B : Type 0} (f : A → B) (xs : List A) (q : ℕ) (y : B) → slice_get (map f xs) q ≡ Some y → (x : A) × (slice_get xs q ≡ Some x) × (y ≡ f x)
map_back f [] q y e = absurd (cc)
map_back f (x ∷ xs) zero y e = (x, refl, cc)
map_back f (x ∷ xs) (suc q) y e = map_back f xs q y e

-- every port of the start is empty
start_port : (plans : List PortPlan) → ((q : ℕ) (p : PortPlan) → slice_get plans q ≡ Some p → (1 ≤ p.cap) × (p.cap ≤ 64)) → (q : ℕ) (p : PortView) → slice_get (map (λ (x : PortPlan). port_view [] [] x.cap) plans) q ≡ Some p → IsPort p
start_port plans caps q p e =
    let b = map_back (λ (x : PortPlan). port_view [] [] x.cap) plans q p e in
    subst IsPort (sym b.2) (omega arith, omega arith, (caps q b.0 b.1).1)

period_here : {S : Type 0} (m : Machine S) (valid : S → Type 0) (xs : List S) (i : ℕ) → ((j : ℕ) (s : S) → slice_get xs j ≡ Some s → valid s) → ((s : S) → valid s → (0 < m.period s) × (m.period s ≤ LONGEST_PERIOD)) → i < length xs → (get_or (map m.period xs) i 0 ≡ period_at m (slice_get xs i)) × (0 < get_or (map m.period xs) i 0) × (get_or (map m.period xs) i 0 ≤ LONGEST_PERIOD)
period_here m valid [] i v within b = absurd (omega arith)
period_here m valid (x ∷ xs) zero v within b = let w = within x (v 0 x refl) in (refl, w.0, w.1)
period_here m valid (x ∷ xs) (suc i) v within b = period_here m valid xs i (λ j s e. v (suc j) s e) within (omega arith)

module _ {P N : Type 0} where
  sound_parts : (mp : Machine P) (mn : Machine N) (vp : P → Type 0) (plan : PlanView P N) → IsPlan mp mn plan → ((i : ℕ) (s : P) → slice_get plan.parts i ≡ Some s → vp s) → IsSound mp vp (part_wires plan) (parts_of (start_of plan))
  sound_parts mp mn vp plan is v = record { states = λ i s e. (v i s e, is.part_own i s e); ports = λ q p e. start_port plan.ports is.capacities q p e }

  sound_links : (mp : Machine P) (mn : Machine N) (vn : N → Type 0) (plan : PlanView P N) → IsPlan mp mn plan → ((i : ℕ) (s : N) → slice_get plan.links i ≡ Some s → vn s) → IsSound mn vn (link_wires plan) (links_of (start_of plan))
  sound_links mp mn vn plan is v = record { states = λ i s e. (v i s e, is.link_own i s e); ports = λ q p e. start_port plan.ports is.capacities q p e }

  port_count : (plan : PlanView P N) → length (start_of plan).ports ≡ length plan.ports
  port_count plan = length-map (λ (x : PortPlan). port_view [] [] x.cap) plan.ports

  pub set_up : (mp : Machine P) (mn : Machine N) (vp : P → Type 0) (vn : N → Type 0) (plan : PlanView P N) → IsPlan mp mn plan → Laws mp vp true → Laws mn vn false → ((i : ℕ) (s : P) → slice_get plan.parts i ≡ Some s → vp s) → ((i : ℕ) (s : N) → slice_get plan.links i ≡ Some s → vn s) → IsSetUp (system_of mp mn plan) vp vn
  set_up mp mn vp vn plan is lp ln kp kn = record {
    part_laws = lp;
    link_laws = ln;
    part_wired = subst (Wired (part_wires plan)) (sym (port_count plan)) is.part_wired;
    link_wired = subst (Wired (link_wires plan)) (sym (port_count plan)) is.link_wired;
    good = record { part_count = refl; link_count = refl; port_count = refl; parts = sound_parts mp mn vp plan is kp; links = sound_links mp mn vn plan is kn };
    part_owned = λ q b. is.part_owned q (omega (arith, b, port_count plan));
    link_owned = λ q b. is.link_owned q (omega (arith, b, port_count plan));
    parts_asleep = λ i t s at edge below. absurd (omega (arith, below));
    links_asleep = λ i t s at edge below. absurd (omega (arith, below));
  }

  parts_fit : (mp : Machine P) (mn : Machine N) (plan : PlanView P N) (room : ℕ) → IsPlan mp mn plan → room ≡ 128 * length plan.ports → HasRoom P mp (part_wires plan) (parts_of (start_of plan)) room room
  parts_fit mp mn plan room is e = record {
    same = length-take (length plan.parts) plan.own ∙ (let o = is.own in let z : _ ≡ length plan.parts = omega (arith, o) in z);
    few = (let f = is.few_parts in omega (arith, f));
    wired = subst (Wired (part_wires plan)) (sym (port_count plan)) is.part_wired;
    owned = λ q b. is.part_owned q (omega (arith, b, port_count plan));
    count = λ i s e. is.part_own i s e;
    held = λ i. (let h = own-le (part_wires plan) (length plan.ports) i is.part_wired in omega (arith, h, e));
    room = λ i. (let h = own-le (part_wires plan) (length plan.ports) i is.part_wired in omega (arith, h, e));
  }

  links_fit : (mp : Machine P) (mn : Machine N) (plan : PlanView P N) (room : ℕ) → IsPlan mp mn plan → room ≡ 128 * length plan.ports → HasRoom N mn (link_wires plan) (links_of (start_of plan)) room room
  links_fit mp mn plan room is e = record {
    same = length-drop (length plan.parts) plan.own ∙ (let o = is.own in let z : _ ≡ length plan.links = omega (arith, o) in z);
    few = (let f = is.few_links in omega (arith, f));
    wired = subst (Wired (link_wires plan)) (sym (port_count plan)) is.link_wired;
    owned = λ q b. is.link_owned q (omega (arith, b, port_count plan));
    count = λ i s e. is.link_own i s e;
    held = λ i. (let h = own-le (link_wires plan) (length plan.ports) i is.link_wired in omega (arith, h, e));
    room = λ i. (let h = own-le (link_wires plan) (length plan.ports) i is.link_wired in omega (arith, h, e));
  }

  pub fitted : (mp : Machine P) (mn : Machine N) (vp : P → Type 0) (vn : N → Type 0) (plan : PlanView P N) (room : ℕ) (pp lp : List ℕ) → IsPlan mp mn plan → room ≡ 128 * length plan.ports → Laws mp vp true → Laws mn vn false → ((i : ℕ) (s : P) → slice_get plan.parts i ≡ Some s → vp s) → ((i : ℕ) (s : N) → slice_get plan.links i ≡ Some s → vn s) → pp ≡ map mp.period plan.parts → lp ≡ map mn.period plan.links → Fitted (system_of mp mn plan) vp vn room room pp lp
  fitted mp mn vp vn plan room pp lp is e laws_p laws_n kp kn pe le = record {
    set_up = set_up mp mn vp vn plan is laws_p laws_n kp kn;
    parts_fit = parts_fit mp mn plan room is e;
    links_fit = links_fit mp mn plan room is e;
    few = (let f = is.few_parts in let g = is.few_links in omega (arith, f, g));
    few_ports = (let f = is.few_ports in omega (arith, f, port_count plan));
    part_owner = length-map (λ (p : PortPlan). p.part.0) plan.ports ∙ sym (port_count plan);
    link_owner = length-map (λ (p : PortPlan). p.link.0) plan.ports ∙ sym (port_count plan);
    part_count = ap length pe ∙ length-map mp.period plan.parts;
    link_count = ap length le ∙ length-map mn.period plan.links;
    part_period = λ i b. subst (λ l. (get_or l i 0 ≡ period (part_course (system_of mp mn plan)) i) × (0 < get_or l i 0) × (get_or l i 0 ≤ LONGEST_PERIOD)) (sym pe) (period_here mp vp plan.parts i kp laws_p.period b);
    link_period = λ i b. subst (λ l. (get_or l i 0 ≡ period (link_course (system_of mp mn plan)) i) × (0 < get_or l i 0) × (get_or l i 0 ≤ LONGEST_PERIOD)) (sym le) (link_period_here i b);
  }
    where
      link_period_here : (i : ℕ) → i < length plan.links → (get_or (map mn.period plan.links) i 0 ≡ period (link_course (system_of mp mn plan)) i) × (0 < get_or (map mn.period plan.links) i 0) × (get_or (map mn.period plan.links) i 0 ≤ LONGEST_PERIOD)
      link_period_here i b = period_here mn vn plan.links i kn laws_n.period b

  pub room_enough : (mp : Machine P) (mn : Machine N) (plan : PlanView P N) (room : ℕ) → IsPlan mp mn plan → room ≡ 128 * length plan.ports → 64 * (own_to (part_wires plan) (length plan.parts) + own_to (link_wires plan) (length plan.links)) ≤ room
  room_enough mp mn plan room is e =
      let a = own_to-le (part_wires plan) (length plan.ports) (length plan.parts) is.part_wired in
      let b = own_to-le (link_wires plan) (length plan.ports) (length plan.links) is.link_wired in
      omega (arith, a, b, e)

  pub part_short : (mp : Machine P) (mn : Machine N) (plan : PlanView P N) → IsPlan mp mn plan → (i : ℕ) → length (own_of (part_wires plan) i) < 2 ^ 32
  part_short mp mn plan is i = let h = own-le (part_wires plan) (length plan.ports) i is.part_wired in let f = is.few_ports in omega (arith, h, f)

  pub link_short : (mp : Machine P) (mn : Machine N) (plan : PlanView P N) → IsPlan mp mn plan → (j : ℕ) → length (own_of (link_wires plan) j) < 2 ^ 32
  link_short mp mn plan is j = let h = own-le (link_wires plan) (length plan.ports) j is.link_wired in let f = is.few_ports in omega (arith, h, f)

  pub part_count : (mp : Machine P) (mn : Machine N) (plan : PlanView P N) → IsPlan mp mn plan → length (part_wires plan).own ≡ length plan.parts
  part_count mp mn plan is = length-take (length plan.parts) plan.own ∙ (let o = is.own in let z : _ ≡ length plan.parts = omega (arith, o) in z)

  -- the links' side of a plan's ports
  pub link_side : (mp : Machine P) (mn : Machine N) (plan : PlanView P N) (w : Wires) (ports : ℕ) → IsPlan mp mn plan → w ≡ link_wires plan → ports ≡ length plan.ports → IsSide w ports
  link_side mp mn plan w ports is e f =
      subst (λ x. IsSide x ports) (sym e)
      (subst (λ n. IsSide (link_wires plan) n) (sym f)
      (record {
        wired = is.link_wired;
        owner = length-map (λ (p : PortPlan). p.link.0) plan.ports;
        owned = λ q b. subst (λ n. owner_of (link_wires plan) q < n) (sym own) (is.link_owned q b);
        few = (let g = is.few_links in omega (arith, own, g));
        short = link_short mp mn plan is;
      }))
    where
      own : length (link_wires plan).own ≡ length plan.links
      own = length-drop (length plan.parts) plan.own ∙ (let o = is.own in let z : _ ≡ length plan.links = omega (arith, o) in z)
