-- The worlds of a plan's runs are of the plan.
use Rattle.std.proofs.Common.{◌≡◌, ℕ, ◌+◌, ◌/◌, ◌≤◌, List, [], ◌∷◌, length, map, get_or, zero, suc, refl, sym, ◌∙◌, ap, ap₂, subst, arith}
use Rattle.std.specs.Prelude.{Bool, true, false, ◌&&◌, Option, Some, None, slice_get}
use Rattle.port_msg.specs.PortView.{PortView, port_view}
use Rattle.tick_law.specs.Machine.{Machine}
use Rattle.tick_law.specs.Frame.{PortFrame, Frames}
use Rattle.tick_law.specs.Laws.{Lawful}
use Rattle.tick_law.specs.Wires.{Wires, Wired, own_of, owner_of}
use Rattle.tick_law.specs.Pass.{Side, gather, place, map_index, has_edge, step_of, port_if, port_from, port_after, pass}
use Rattle.tick_law.specs.SerialLoop.{Start, System, begun, parts_of, links_of, mid, world_at}
use Rattle.tick_law.specs.PlanView.{PlanView, IsPlan, start_of, system_from}
use Rattle.tick_law.specs.declared.port_plan.PortPlan.{PortPlan}
use Rattle.model_laws.specs.WellFormed.{IsSound}
use Rattle.model_laws.specs.Fitted.{IsSetUp}
use Rattle.model_laws.proofs.SleepersChangeNothing.{gather_place, get_any, below_some, sound_gather, length-gather, pass_sound}
use Rattle.model_laws.proofs.ActorByActor.{length_ports}
use Rattle.model_laws.proofs.WorldsAreSound.{good_at}
use Rattle.world_query.specs.Legend.{PortLabel, port_label, legend_of, IsWorldOf}

abbrev pub caps_of : List PortView → List ℕ
caps_of ports = map (λ (p : PortView). p.cap) ports

one_cap : (side : Bool) (old new : PortView) → PortFrame side old new → new.cap ≡ old.cap
one_cap true old new frame = frame.2
one_cap false old new frame = frame.2

-- a step leaves each port its capacity
step_caps : (side : Bool) (old new : List PortView) (k : ℕ) (d : PortView) → Frames side old new → (get_or new k d).cap ≡ (get_or old k d).cap
step_caps side [] [] k d frames = refl
step_caps side [] (p ∷ ps) k d frames = absurd frames
step_caps side (p ∷ ps) [] k d frames = absurd frames
step_caps side (p ∷ ps) (q ∷ qs) zero d frames = one_cap side p q frames.0
step_caps side (p ∷ ps) (q ∷ qs) (suc k) d frames = step_caps side ps qs k d frames.1

caps-map_index : (f : ℕ → PortView → PortView) (i : ℕ) (ports : List PortView) → ((k : ℕ) (p : PortView) → slice_get ports k ≡ Some p → (f (i + k) p).cap ≡ p.cap) → caps_of (map_index f i ports) ≡ caps_of ports
caps-map_index f i [] h = refl
caps-map_index f i (p ∷ ps) h =
    let here : (f i p).cap ≡ p.cap = let z : i + 0 ≡ i = omega arith in subst (λ j. (f j p).cap ≡ p.cap) z (h 0 p refl) in
    let rest : caps_of (map_index f (suc i) ps) ≡ caps_of ps = caps-map_index f (suc i) ps (λ k q e. let z : i + suc k ≡ suc i + k = omega arith in subst (λ j. (f j q).cap ≡ q.cap) z (h (suc k) q e)) in
    ap₂ (λ c cs. c ∷ cs) here rest

module _ {S : Type 0} where
  port_cap : (m : Machine S) (valid : S → Type 0) (w : Wires) (stepped : ℕ → Bool) (t : ℕ) (h : Side S) → Lawful m valid → Wired w (length h.ports) → IsSound m valid w h
      → (q : ℕ) (p : PortView) → slice_get h.ports q ≡ Some p → (o : Option S) → slice_get h.states (owner_of w q) ≡ o → (port_from m w stepped t h.ports q p o).cap ≡ p.cap
  port_cap m valid w stepped t h law wired sound q p at None e = refl
  port_cap m valid w stepped t h law wired sound q p at (Some s) e = by_flag (stepped (owner_of w q) && has_edge m t s)
    where
      by_flag : (b : Bool) → (port_if b (get_or (step_of m w t h.ports (owner_of w q) s).ports (place q (own_of w (owner_of w q))) p) p).cap ≡ p.cap
      by_flag true =
          let i = owner_of w q in
          let own = own_of w i in
          let before = gather h.ports own in
          let had = sound.states i s e in
          let ports = sound_gather h.ports own sound.ports (λ r has. wired.within i r has) in
          let frames = (law.framed s before (t / m.period s) had.0 ports (length-gather h.ports own ∙ had.1)).ports in
          step_caps m.is_part before (step_of m w t h.ports i s).ports (place q own) p frames
          ∙ ap (λ (x : PortView). x.cap) (gather_place h.ports own q p (wired.found q (below_some h.ports q p at)) ∙ get_any h.ports q p (port_view [] [] 0) at)
      by_flag false = refl

  -- a pass leaves each port its capacity
  caps-pass : (m : Machine S) (valid : S → Type 0) (w : Wires) (stepped : ℕ → Bool) (t : ℕ) (h : Side S) → Lawful m valid → Wired w (length h.ports) → IsSound m valid w h → caps_of (pass m w stepped t h).ports ≡ caps_of h.ports
  caps-pass m valid w stepped t h law wired sound = caps-map_index (port_after m w stepped t h) 0 h.ports (λ q p at.
      let z : q ≡ 0 + q = omega arith in
      subst (λ j. (port_after m w stepped t h j p).cap ≡ p.cap) z (port_cap m valid w stepped t h law wired sound q p at (slice_get h.states (owner_of w q)) refl))

module _ {P N : Type 0} where
  -- a run leaves each port its capacity
  pub caps-world_at : (r : System P N) (vp : P → Type 0) (vn : N → Type 0) (k : ℕ) → IsSetUp r vp vn → k ≤ 501000000001 → caps_of (world_at r k).ports ≡ caps_of r.start.world.ports
  caps-world_at r vp vn zero set_up small = refl
  caps-world_at r vp vn (suc k) set_up small =
      let lp = set_up.part_laws.lawful in
      let ln = set_up.link_laws.lawful in
      let here = good_at r vp vn k lp ln set_up.part_wired set_up.link_wired set_up.good (omega (arith, small)) in
      let parts = parts_of (world_at r k) in
      let stepped = begun r.start.at k in
      let wired = subst (Wired r.part_wires) (sym here.port_count) set_up.part_wired in
      let sound = pass_sound r.part vp r.part_wires stepped k parts lp wired (omega (arith, small)) here.parts in
      let count = length_ports r.part r.part_wires stepped k parts ∙ here.port_count in
      caps-pass r.link vn r.link_wires stepped k (links_of (mid r k)) ln (subst (Wired r.link_wires) (sym count) set_up.link_wired) (record { states = here.links.states; ports = sound.ports })
      ∙ caps-pass r.part vp r.part_wires stepped k parts lp wired here.parts
      ∙ caps-world_at r vp vn k set_up (omega (arith, small))

  -- where a run begins in a world of a plan, it stays in worlds of the plan
  pub world_at-IsWorldOf : (mp : Machine P) (mn : Machine N) (vp : P → Type 0) (vn : N → Type 0) (plan : PlanView P N) (start : Start P N) (k : ℕ)
      → IsSetUp (system_from mp mn plan start) vp vn → k ≤ 501000000001 → IsWorldOf (legend_of plan) start.world → IsWorldOf (legend_of plan) (world_at (system_from mp mn plan start) k)
  world_at-IsWorldOf mp mn vp vn plan start k set_up small first =
      let r = system_from mp mn plan start in
      let here = good_at r vp vn k set_up.part_laws.lawful set_up.link_laws.lawful set_up.part_wired set_up.link_wired set_up.good small in
      record { parts = here.part_count ∙ first.parts; caps = caps-world_at r vp vn k set_up small ∙ first.caps }

caps-start : (names : List (List ℕ)) (ports : List PortPlan) → caps_of (map (λ (p : PortPlan). port_view [] [] p.cap) ports) ≡ map (λ (l : PortLabel). l.cap) (map (port_label names) ports)
caps-start names [] = refl
caps-start names (p ∷ ps) = ap (λ cs. p.cap ∷ cs) (caps-start names ps)

-- the world that a plan starts from is of the plan
pub start_of-IsWorldOf : {P N : Type 0} (mp : Machine P) (mn : Machine N) (plan : PlanView P N) → IsPlan mp mn plan → IsWorldOf (legend_of plan) (start_of plan)
start_of-IsWorldOf mp mn plan is = record { parts = sym is.part_names; caps = caps-start plan.part_names plan.ports }
