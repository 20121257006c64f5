-- What is read from a run of the engine.
use Rattle.std.proofs.Common.{◌≡◌, ℕ, ◌+◌, ◌||◌, List, length, sym, ◌∙◌, ap, subst, arith, refl, false}
use Rattle.std.specs.Prelude.{Some, None, All}
use Rattle.port_msg.specs.PortView.{PortView}
use Rattle.sim_base.specs.declared.time.Time.{Time}
use Rattle.event_queue.specs.NextTimes.{time_of}
use Rattle.port_rows.specs.World.{state_of}
use Rattle.port_rows.specs.declared.world.World.{World}
use Rattle.tick_law.specs.Machine.{Machine}
use Rattle.tick_law.specs.PlanView.{PlanView, system_from}
use Rattle.tick_law.specs.SerialLoop.{Start, WorldState, world_at, whole_world}
use Rattle.tick_law.specs.WorldPlaces.{WorldPlaces, alls, somes}
use Rattle.tick_law.specs.Verdict.{all_done, exists_to, verdict_by, verdict_at}
use Rattle.tick_law.specs.declared.verdict.Verdict.TheVariants.{Cut}
use Rattle.model_laws.proofs.PortsPutBack.{somes-alls}
use Rattle.model_laws.specs.NextTable.{next_at_place}
use Rattle.model_laws.specs.SideTimes.{half_of}
use Rattle.run_gear.proofs.Boundaries.{verdict_is}
use Rattle.phase_engine.specs.declared.run.Run.{Run}
use Rattle.phase_engine.specs.RunGear.{IsAt, places_of}
use Rattle.phase_engine.specs.Run.{IsRun}
use Rattle.phase_engine.proofs.TimesLaws.{both_none, either_some, verdict_halves}

same_items : {A : Type 0} (xs ys : List A) → alls xs ≡ alls ys → xs ≡ ys
same_items xs ys e = sym (somes-alls xs) ∙ ap (λ l. somes l) e ∙ somes-alls ys

module _ {P N : Type 0} where
  state_eq : (a : List P) (b : List N) (c : List PortView) (v : WorldState P N) → a ≡ v.parts → b ≡ v.links → c ≡ v.ports → (let x : WorldState P N = record { parts = a; links = b; ports = c } in x ≡ v)
  state_eq a b c v e f h = cc_of (ap (λ l. let x : WorldState P N = record { parts = l; links = b; ports = c } in x) e) (ap (λ l. let x : WorldState P N = record { parts = v.parts; links = l; ports = c } in x) f) (ap (λ l. let x : WorldState P N = record { parts = v.parts; links = v.links; ports = l } in x) h)
    where
      cc_of : {x y z w : WorldState P N} → x ≡ y → y ≡ z → z ≡ w → x ≡ w
      cc_of p q r = p ∙ q ∙ r

  -- the state of a world that stands in its places
  pub state_is : (w : World P N) (v : WorldState P N) → places_of w ≡ whole_world v → state_of w ≡ v
  state_is w v e = state_eq w.parts.items w.links.items w.rows.ports v
      (same_items w.parts.items v.parts (ap (λ (x : WorldPlaces P N). x.parts) e))
      (same_items w.links.items v.links (ap (λ (x : WorldPlaces P N). x.links) e))
      (same_items w.rows.ports v.ports (ap (λ (x : WorldPlaces P N). x.ports) e))

  pub world_is : (mp : Machine P) (mn : Machine N) (vp : P → Type 0) (vn : N → Type 0) (plan : PlanView P N) (start : Start P N) (run : Run P N) → IsRun mp mn vp vn plan start run → state_of run.world ≡ world_at (system_from mp mn plan start) run.at
  world_is mp mn vp vn plan start run is = state_is run.world (world_at (system_from mp mn plan start) run.at) is.at_is.world_is

  pub actors_are : (mp : Machine P) (mn : Machine N) (vp : P → Type 0) (vn : N → Type 0) (plan : PlanView P N) (start : Start P N) (run : Run P N) → IsRun mp mn vp vn plan start run → length run.gear.next ≡ length start.world.parts + length start.world.links
  actors_are mp mn vp vn plan start run is =
      let o = is.gear_is.ready.order in
      let f = is.gear_is.fitted in
      omega (arith, o.together, o.then, f.part_count, f.link_count)

  -- the verdict of a run that is over, where these are the next times that are left
  pub verdict_left : (mp : Machine P) (mn : Machine N) (vp : P → Type 0) (vn : N → Type 0) (plan : PlanView P N) (start : Start P N) (run : Run P N) → IsRun mp mn vp vn plan start run → run.at ≡ plan.until + 1 →
      (let n = length start.world.parts in
      let m = length start.world.links in
      let next = run.gear.next in
      verdict_by (exists_to (next_at_place (half_of 0 n next)) n || exists_to (next_at_place (half_of n m next)) m) (all_done mp run.world.parts.items) ≡ verdict_at (system_from mp mn plan start) plan.until)
  verdict_left mp mn vp vn plan start run is over =
      let n = length start.world.parts in
      let m = length start.world.links in
      let next = run.gear.next in
      let r = system_from mp mn plan start in
      let at : IsAt mp mn plan start (plan.until + 1) run.world next = subst (λ d. IsAt mp mn plan start d run.world next) over is.at_is in
      ap (λ l. verdict_by (exists_to (next_at_place (half_of 0 n next)) n || exists_to (next_at_place (half_of n m next)) m) (all_done mp l)) (sym (somes-alls run.world.parts.items))
      ∙ ap (λ b. verdict_by b (all_done mp (somes (alls run.world.parts.items)))) (verdict_halves n n m m next refl refl)
      ∙ verdict_is r plan.until (places_of run.world) (half_of 0 n next) (half_of n m next) at

  pub cut_here : (mp : Machine P) (mn : Machine N) (vp : P → Type 0) (vn : N → Type 0) (plan : PlanView P N) (start : Start P N) (run : Run P N) (i : ℕ) (t : Time) → IsRun mp mn vp vn plan start run → run.at ≡ plan.until + 1 → time_of run.gear.next i ≡ Some t → Cut ≡ verdict_at (system_from mp mn plan start) plan.until
  cut_here mp mn vp vn plan start run i t is over there =
      let some = either_some (length start.world.parts) (length start.world.links) i t run.gear.next (actors_are mp mn vp vn plan start run is) there in
      sym (ap (λ b. verdict_by b (all_done mp run.world.parts.items)) some) ∙ verdict_left mp mn vp vn plan start run is over

  pub rest_here : (mp : Machine P) (mn : Machine N) (vp : P → Type 0) (vn : N → Type 0) (plan : PlanView P N) (start : Start P N) (run : Run P N) → IsRun mp mn vp vn plan start run → run.at ≡ plan.until + 1 → All (λ time. time ≡ None) run.gear.next → verdict_by false (all_done mp run.world.parts.items) ≡ verdict_at (system_from mp mn plan start) plan.until
  rest_here mp mn vp vn plan start run is over none =
      let all = both_none (length start.world.parts) (length start.world.links) run.gear.next none in
      sym (ap (λ b. verdict_by b (all_done mp run.world.parts.items)) all) ∙ verdict_left mp mn vp vn plan start run is over
