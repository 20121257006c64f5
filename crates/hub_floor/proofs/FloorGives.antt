-- What a floor gives its sides: wiring, periods, numbers, and the laws of their courses.
use Rattle.std.proofs.Common.{◌≡◌, ℕ, ◌+◌, ◌<◌, ◌≤◌, inl, inr, List, length, sym, ◌∙◌, ap, subst, arith}
use Rattle.std.specs.Prelude.{Option}
use Rattle.sim_base.specs.declared.time.Time.{Time}
use Rattle.sim_base.specs.declared.time.TheConstants.{LATEST_TICK}
use Rattle.tick_law.specs.Wires.{Wires, Wired, owner_of}
use Rattle.tick_law.specs.SerialLoop.{System, world_at, mid}
use Rattle.tick_law.specs.Course.{part_course, link_course}
use Rattle.model_laws.specs.Fitted.{Wakes, Fitted}
use Rattle.model_laws.specs.SideTimes.{half_of}
use Rattle.model_laws.proofs.SideCourse.{IsCourse}
use Rattle.model_laws.proofs.SideTimesLaws.{length-half}
use Rattle.model_laws.proofs.BothCourses.{part_is, link_is, port_count, mid_count, part_wired_at, link_wired_at}
use Rattle.model_laws.proofs.DuePassIsWhole.{count_is}
use Rattle.actor_turn.specs.declared.side.SideGear.{SideGear}
use Rattle.actor_turn.specs.Waking.{CanWake}
use Rattle.away_rows.proofs.SideLaws.{IsSide}
use Rattle.away_rows.proofs.TimesLaws.{Halves}
use Rattle.hub_floor.specs.declared.floor.Floor.{Floor}
use Rattle.hub_floor.specs.Floor.{IsOf}

module _ {P N : Type 0} where
  pub parts_course : (r : System P N) (vp : P → Type 0) (vn : N → Type 0) (until : ℕ) (f : Floor P N) → IsOf r vp vn until f → IsCourse (part_course r) vp LATEST_TICK
  parts_course r vp vn until f is = part_is r vp vn is.fitted.set_up

  pub links_course : (r : System P N) (vp : P → Type 0) (vn : N → Type 0) (until : ℕ) (f : Floor P N) → IsOf r vp vn until f → IsCourse (link_course r) vn LATEST_TICK
  links_course r vp vn until f is = link_is r vp vn is.fitted.set_up

  pub parts_count : (r : System P N) (vp : P → Type 0) (vn : N → Type 0) (until t : ℕ) (f : Floor P N) → IsOf r vp vn until f → length (world_at r t).parts ≡ length r.start.world.parts
  parts_count r vp vn until t f is = count_is (part_course r) vp LATEST_TICK t (parts_course r vp vn until f is)

  pub links_count : (r : System P N) (vp : P → Type 0) (vn : N → Type 0) (until t : ℕ) (f : Floor P N) → IsOf r vp vn until f → length (mid r t).links ≡ length r.start.world.links
  links_count r vp vn until t f is = count_is (link_course r) vn LATEST_TICK t (links_course r vp vn until f is)

  pub part_side_is : (r : System P N) (vp : P → Type 0) (vn : N → Type 0) (until t : ℕ) (f : Floor P N) → IsOf r vp vn until f → r.start.at ≤ t → IsSide (part_course r) t
  part_side_is r vp vn until t f is begun = record {
    begun = begun;
    wired = part_wired_at r vp vn t is.fitted.set_up;
    owned = λ (q : ℕ) (b : q < length (world_at r t).ports). (let n = port_count r t in let o = is.fitted.set_up.part_owned q (omega (arith, b, n)) in let m = parts_count r vp vn until t f is in let z : owner_of r.part_wires q < length (world_at r t).parts = omega (arith, o, m) in z);
  }

  pub link_side_is : (r : System P N) (vp : P → Type 0) (vn : N → Type 0) (until t : ℕ) (f : Floor P N) → IsOf r vp vn until f → r.start.at ≤ t → IsSide (link_course r) t
  link_side_is r vp vn until t f is begun = record {
    begun = begun;
    wired = link_wired_at r vp vn t is.fitted.set_up;
    owned = λ (q : ℕ) (b : q < length (mid r t).ports). (let n = mid_count r t in let o = is.fitted.set_up.link_owned q (omega (arith, b, n)) in let m = links_count r vp vn until t f is in let z : owner_of r.link_wires q < length (mid r t).links = omega (arith, o, m) in z);
  }

  pub part_halves : (r : System P N) (vp : P → Type 0) (vn : N → Type 0) (until t : ℕ) (f : Floor P N) → IsOf r vp vn until f → Halves (part_course r) t f.part_side f.link_side (length r.start.world.parts) (length r.start.world.links) f.next
  part_halves r vp vn until t f is =
      let o = is.order in
      let x = is.fitted.part_count in
      let y = is.fitted.link_count in
      record {
        count_is = sym (parts_count r vp vn until t f is);
        mine_is = sym x;
        others_are = sym y;
        sides = record {
          own_within = omega (arith, o.start, o.then, o.together, x, y);
          others_within = omega (arith, o.start, o.then, o.together, x, y);
          apart = inl (omega (arith, o.start, o.then, x));
        };
        wired = subst (λ w. Wired w (length (world_at r t).ports)) (sym is.link_wires_are) (subst (Wired r.link_wires) (sym (port_count r t)) is.fitted.set_up.link_wired);
      }

  pub link_halves : (r : System P N) (vp : P → Type 0) (vn : N → Type 0) (until t : ℕ) (f : Floor P N) → IsOf r vp vn until f → Halves (link_course r) t f.link_side f.part_side (length r.start.world.links) (length r.start.world.parts) f.next
  link_halves r vp vn until t f is =
      let o = is.order in
      let x = is.fitted.part_count in
      let y = is.fitted.link_count in
      record {
        count_is = sym (links_count r vp vn until t f is);
        mine_is = sym y;
        others_are = sym x;
        sides = record {
          own_within = omega (arith, o.start, o.then, o.together, x, y);
          others_within = omega (arith, o.start, o.then, o.together, x, y);
          apart = inr (omega (arith, o.start, o.then, x));
        };
        wired = subst (λ w. Wired w (length (mid r t).ports)) (sym is.part_wires_are) (subst (Wired r.part_wires) (sym (mid_count r t)) is.fitted.set_up.part_wired);
      }

  -- the links can be woken, and so can the parts
  pub links_wake : (r : System P N) (vp : P → Type 0) (vn : N → Type 0) (until ports : ℕ) (f : Floor P N) (next : List (Option Time)) → IsOf r vp vn until f → ports ≡ length r.start.world.ports → length next ≡ length f.next → CanWake f.link_side ports next
  links_wake r vp vn until ports f next is e long =
      let o = is.order in
      let x = is.fitted.part_count in
      let y = is.fitted.link_count in
      let half = length-half f.link_side.first (length f.link_side.periods.items) next in
      record {
        wakes = subst (λ (w : Wires). Wakes w ports f.link_side.periods.items (half_of f.link_side.first (length f.link_side.periods.items) next)) (sym is.link_wires_are)
            (record {
              wired = subst (Wired r.link_wires) (sym e) is.fitted.set_up.link_wired;
              owner = is.fitted.link_owner ∙ sym e;
              owned = λ q b. let z = is.fitted.set_up.link_owned q (omega (arith, b, e)) in omega (arith, z, y, half);
              all = sym half;
              held = λ i b. (let p = is.fitted.link_period i (omega (arith, b, y)) in (p.1, p.2));
            });
        here = omega (arith, o.together, long);
        few = (let w = is.fitted.few in omega (arith, o.then, x, y, w));
      }

  pub parts_wake : (r : System P N) (vp : P → Type 0) (vn : N → Type 0) (until ports : ℕ) (f : Floor P N) (next : List (Option Time)) → IsOf r vp vn until f → ports ≡ length r.start.world.ports → length next ≡ length f.next → CanWake f.part_side ports next
  parts_wake r vp vn until ports f next is e long =
      let o = is.order in
      let x = is.fitted.part_count in
      let y = is.fitted.link_count in
      let half = length-half f.part_side.first (length f.part_side.periods.items) next in
      record {
        wakes = subst (λ (w : Wires). Wakes w ports f.part_side.periods.items (half_of f.part_side.first (length f.part_side.periods.items) next)) (sym is.part_wires_are)
            (record {
              wired = subst (Wired r.part_wires) (sym e) is.fitted.set_up.part_wired;
              owner = is.fitted.part_owner ∙ sym e;
              owned = λ q b. let z = is.fitted.set_up.part_owned q (omega (arith, b, e)) in omega (arith, z, x, half);
              all = sym half;
              held = λ i b. (let p = is.fitted.part_period i (omega (arith, b, x)) in (p.1, p.2));
            });
        here = omega (arith, o.start, o.then, o.together, long);
        few = (let w = is.fitted.few in omega (arith, o.start, x, y, w));
      }

  -- the same run of another floor with the same sides
  pub of_same : (r : System P N) (vp : P → Type 0) (vn : N → Type 0) (until : ℕ) (f g : Floor P N) → IsOf r vp vn until f → g.part_side ≡ f.part_side → g.link_side ≡ f.link_side → g.rows.wires ≡ f.rows.wires → length g.next ≡ length f.next → length g.asked ≡ length f.asked → IsOf r vp vn until g
  of_same r vp vn until f g is a b c d e = record {
    part_wires_are = ap (λ (s : SideGear). s.wiring) a ∙ is.part_wires_are;
    link_wires_are = ap (λ (s : SideGear). s.wiring) b ∙ is.link_wires_are;
    rows_are = c ∙ is.rows_are;
    order = record {
      start = ap (λ (s : SideGear). s.first) a ∙ is.order.start;
      then = ap (λ (s : SideGear). s.first) b ∙ is.order.then ∙ sym (ap (λ (s : SideGear). length s.periods.items) a);
      together = d ∙ is.order.together ∙ sym (ap (λ (s : SideGear). s.first + length s.periods.items) b);
    };
    room = is.room;
    fitted = subst (λ (s : SideGear). Fitted r vp vn is.room is.room s.periods.items g.link_side.periods.items) (sym a) (subst (λ (s : SideGear). Fitted r vp vn is.room is.room f.part_side.periods.items s.periods.items) (sym b) is.fitted);
    asked_all = e ∙ is.asked_all;
    until_within = is.until_within;
  }

  pub part_known : (r : System P N) (vp : P → Type 0) (vn : N → Type 0) (until i : ℕ) (f : Floor P N) → IsOf r vp vn until f → i < length r.start.world.parts → i < length f.part_side.wiring.own
  part_known r vp vn until i f is b =
      let same = is.fitted.parts_fit.same in
      let w : length f.part_side.wiring.own ≡ length r.part_wires.own = ap (λ (x : Wires). length x.own) is.part_wires_are in
      omega (arith, b, same, w)

  pub link_known : (r : System P N) (vp : P → Type 0) (vn : N → Type 0) (until j : ℕ) (f : Floor P N) → IsOf r vp vn until f → j < length r.start.world.links → j < length f.rows.wires.own
  link_known r vp vn until j f is b =
      let same = is.fitted.links_fit.same in
      let w : length f.rows.wires.own ≡ length r.link_wires.own = ap (λ (x : Wires). length x.own) is.rows_are in
      omega (arith, b, same, w)

  pub port_count_at : (r : System P N) (t : ℕ) → length (world_at r t).ports ≡ length r.start.world.ports
  port_count_at r t = port_count r t

  pub mid_count_at : (r : System P N) (t : ℕ) → length (mid r t).ports ≡ length r.start.world.ports
  mid_count_at r t = mid_count r t
