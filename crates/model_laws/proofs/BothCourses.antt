-- The two sides of a run.
use Rattle.std.specs.Prelude.{◌≡◌, ℕ, ◌/◌, ◌<◌, ◌≤◌, ◌&&◌, List, [], ◌∷◌, length, Option, Some, None, Bool, true, false, slice_get, refl}
use Rattle.std.proofs.Common.{zero, suc, sym, ◌∙◌, ap, subst, arith, get_or}
use Rattle.sim_base.specs.declared.time.TheConstants.{LATEST_TICK}
use Rattle.port_msg.specs.PortView.{PortView, port_view}
use Rattle.tick_law.specs.Machine.{Machine}
use Rattle.tick_law.specs.Frame.{PortFrame, Frames}
use Rattle.tick_law.specs.FrameLaws.{port_same}
use Rattle.tick_law.specs.Wires.{Wires, own_of, owner_of, Wired}
use Rattle.tick_law.specs.Pass.{Side, port_at, gather, place, has_edge, step_of, port_if, port_from, port_after, pass}
use Rattle.tick_law.specs.SerialLoop.{System, begun, world_at, mid, parts_of, links_of}
use Rattle.model_laws.proofs.OneMoreActor.{get-map_index_zero, place_below, length-map_index}
use Rattle.model_laws.specs.WellFormed.{IsWellFormed, IsSound}
use Rattle.model_laws.proofs.SleepersChangeNothing.{sound_gather, length-gather, gather_place, pass_sound}
use Rattle.tick_law.specs.Laws.{Lawful}
use Rattle.model_laws.proofs.WorldsAreSound.{good_at}
use Rattle.model_laws.proofs.SideCourse.{IsCourse}
use Rattle.tick_law.specs.Course.{part_course, link_course}
use Rattle.tick_law.specs.Laws.{Laws}
use Rattle.tick_law.specs.Starts.{AreAsleep}
use Rattle.model_laws.proofs.StepsFromStart.{world_begin, mid_begin}
use Rattle.model_laws.specs.Fitted.{IsSetUp}

frame_at : (side : Bool) (xs ys : List PortView) (k : ℕ) (d e : PortView) → Frames side xs ys → k < length xs → PortFrame side (get_or xs k d) (get_or ys k e)
frame_at side [] ys k d e f l = absurd (omega arith)
frame_at side (x ∷ xs) [] k d e f l = absurd f
frame_at side (x ∷ xs) (y ∷ ys) zero d e f l = f.0
frame_at side (x ∷ xs) (y ∷ ys) (suc k) d e f l = frame_at side xs ys k d e f.1 (omega arith)

module _ {S : Type 0} where
  port_framed : (m : Machine S) (valid : S → Type 0) (w : Wires) (stepped : ℕ → Bool) (t : ℕ) (h : Side S) (side : Bool) → Lawful m valid → Wired w (length h.ports) → IsSound m valid w h → m.is_part ≡ side → (q : ℕ) → q < length h.ports → (o : Option S) → slice_get h.states (owner_of w q) ≡ o → PortFrame side (port_at h.ports q) (port_from m w stepped t h.ports q (port_at h.ports q) o)
  port_framed m valid w stepped t h side law wired sound sided q l None e = port_same side (port_at h.ports q)
  port_framed m valid w stepped t h side law wired sound sided q l (Some s) e = by_flag (stepped (owner_of w q) && has_edge m t s)
    where
      by_flag : (b : Bool) → PortFrame side (port_at h.ports q) (port_if b (get_or (step_of m w t h.ports (owner_of w q) s).ports (place q (own_of w (owner_of w q))) (port_at h.ports q)) (port_at h.ports q))
      by_flag true =
          let i = owner_of w q in
          let own = own_of w i in
          let has = wired.found q l in
          let had = sound.states i s e in
          let ports = sound_gather h.ports own sound.ports (λ r has. wired.within i r has) in
          let f = law.framed s (gather h.ports own) (t / m.period s) had.0 ports (length-gather h.ports own ∙ had.1) in
          let frames = subst (λ (x : Bool). Frames x (gather h.ports own) (step_of m w t h.ports i s).ports) sided f.ports in
          let at : place q own < length (gather h.ports own) = (let b = place_below q own has in omega (arith, b, length-gather h.ports own)) in
          subst (λ x. PortFrame side x (get_or (step_of m w t h.ports i s).ports (place q own) (port_at h.ports q))) (gather_place h.ports own q (port_view [] [] 0) has) (frame_at side (gather h.ports own) (step_of m w t h.ports i s).ports (place q own) (port_view [] [] 0) (port_at h.ports q) frames at)
      by_flag false = port_same side (port_at h.ports q)

  -- a pass changes each port as its side may
  pub pass_framed : (m : Machine S) (valid : S → Type 0) (w : Wires) (stepped : ℕ → Bool) (t : ℕ) (h : Side S) (side : Bool) → Lawful m valid → Wired w (length h.ports) → IsSound m valid w h → m.is_part ≡ side → (q : ℕ) → q < length h.ports → PortFrame side (port_at h.ports q) (port_at (pass m w stepped t h).ports q)
  pass_framed m valid w stepped t h side law wired sound sided q l =
      subst (λ x. PortFrame side (port_at h.ports q) x) (sym (get-map_index_zero (port_after m w stepped t h) h.ports q (port_view [] [] 0) (port_view [] [] 0) l)) (port_framed m valid w stepped t h side law wired sound sided q l (slice_get h.states (owner_of w q)) refl)

asleep_same : {S : Type 0} (m : Machine S) (w : Wires) (from : ℕ) (first : List (Option ℕ)) (h k : Side S) → k ≡ h → AreAsleep m w from first h → AreAsleep m w from first k
asleep_same m w from first h k e asleep = subst (λ x. AreAsleep m w from first x) (sym e) asleep

module _ {P N : Type 0} where
  pub world_good : (r : System P N) (vp : P → Type 0) (vn : N → Type 0) (t : ℕ) → IsSetUp r vp vn → t ≤ 501000000001 → IsWellFormed r vp vn (world_at r t)
  world_good r vp vn t up l = good_at r vp vn t up.part_laws.lawful up.link_laws.lawful up.part_wired up.link_wired up.good l

  pub port_count : (r : System P N) (t : ℕ) → length (world_at r t).ports ≡ length r.start.world.ports
  port_count r zero = refl
  port_count r (suc t) = length-map_index _ 0 (mid r t).ports ∙ length-map_index _ 0 (world_at r t).ports ∙ port_count r t

  pub mid_count : (r : System P N) (t : ℕ) → length (mid r t).ports ≡ length r.start.world.ports
  mid_count r t = length-map_index _ 0 (world_at r t).ports ∙ port_count r t

  pub part_wired_at : (r : System P N) (vp : P → Type 0) (vn : N → Type 0) (t : ℕ) → IsSetUp r vp vn → Wired r.part_wires (length (world_at r t).ports)
  part_wired_at r vp vn t up = subst (Wired r.part_wires) (sym (port_count r t)) up.part_wired

  pub link_wired_at : (r : System P N) (vp : P → Type 0) (vn : N → Type 0) (t : ℕ) → IsSetUp r vp vn → Wired r.link_wires (length (mid r t).ports)
  link_wired_at r vp vn t up = subst (Wired r.link_wires) (sym (mid_count r t)) up.link_wired

  pub mid_sound : (r : System P N) (vp : P → Type 0) (vn : N → Type 0) (t : ℕ) → IsSetUp r vp vn → t ≤ LATEST_TICK → IsSound r.link vn r.link_wires (links_of (mid r t))
  mid_sound r vp vn t up l =
      let g = world_good r vp vn t up (omega arith) in
      let s = pass_sound r.part vp r.part_wires (begun r.start.at t) t (parts_of (world_at r t)) up.part_laws.lawful (part_wired_at r vp vn t up) l g.parts in
      record { states = g.links.states; ports = s.ports }

  pub part_is : (r : System P N) (vp : P → Type 0) (vn : N → Type 0) → IsSetUp r vp vn → IsCourse (part_course r) vp LATEST_TICK
  part_is r vp vn up = record {
    lawful = up.part_laws.lawful;
    quiet = up.part_laws.quiet;
    later = λ s n t v e. (up.part_laws.later s n t v e).0;
    steady = up.part_laws.steady;
    positive = λ s v. (up.part_laws.period s v).0;
    sided = up.part_laws.sided;
    wired = λ t. part_wired_at r vp vn t up;
    sound = λ t l. (world_good r vp vn t up (omega arith)).parts;
    states = λ t. refl;
    gaps = λ t q l b. pass_framed r.link vn r.link_wires (begun r.start.at t) t (links_of (mid r t)) false up.link_laws.lawful (link_wired_at r vp vn t up) (mid_sound r vp vn t up (omega arith)) up.link_laws.sided q (let e = mid_count r t in let f = port_count r t in omega (arith, e, f));
    asleep = λ i t s at edge below. asleep_same r.part r.part_wires r.start.at r.start.part_next (parts_of r.start.world) (parts_of (world_at r t)) (ap parts_of (world_begin r t (omega arith))) up.parts_asleep i t s at edge below;
    small = omega arith;
  }

  pub link_is : (r : System P N) (vp : P → Type 0) (vn : N → Type 0) → IsSetUp r vp vn → IsCourse (link_course r) vn LATEST_TICK
  link_is r vp vn up = record {
    lawful = up.link_laws.lawful;
    quiet = up.link_laws.quiet;
    later = λ s n t v e. (up.link_laws.later s n t v e).0;
    steady = up.link_laws.steady;
    positive = λ s v. (up.link_laws.period s v).0;
    sided = up.link_laws.sided;
    wired = λ t. link_wired_at r vp vn t up;
    sound = λ t l. mid_sound r vp vn t up l;
    states = λ t. refl;
    gaps = λ t q l b. pass_framed r.part vp r.part_wires (begun r.start.at (suc t)) (suc t) (parts_of (world_at r (suc t))) true up.part_laws.lawful (part_wired_at r vp vn (suc t) up) (world_good r vp vn (suc t) up (omega arith)).parts up.part_laws.sided q (let e = mid_count r t in let f = port_count r (suc t) in omega (arith, e, f));
    asleep = λ i t s at edge below. asleep_same r.link r.link_wires r.start.at r.start.link_next (links_of r.start.world) (links_of (mid r t)) (ap links_of (mid_begin r t below ∙ world_begin r t (omega arith))) up.links_asleep i t s at edge below;
    small = omega arith;
  }
