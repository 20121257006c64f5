-- A run's first boundary, and what is read from its last one.
use Rattle.std.proofs.Common.{◌≡◌, ℕ, ◌+◌, ◌%◌, ◌<◌, ◌≤◌, List, length, get_or, replicate, take, drop, ◌++◌, zero, suc, sym, ◌∙◌, ap, subst, arith, refl, add-one}
use Rattle.std.specs.Prelude.{Option, Some, None, ◌||◌}
use Rattle.std.proofs.lemmas.List.{length-replicate, take-append-le}
use Rattle.std.proofs.Math.Seq.{take-length}
use Rattle.sim_base.specs.declared.time.TheConstants.{LATEST_TIME}
use Rattle.tick_law.specs.Machine.{Machine}
use Rattle.tick_law.specs.Wires.{Wires}
use Rattle.tick_law.specs.WorldPlaces.{WorldPlaces, somes, IsFull}
use Rattle.tick_law.specs.SerialLoop.{Start, System, world_at, whole_world}
use Rattle.tick_law.specs.NextTime.{next_at}
use Rattle.tick_law.specs.Course.{Course, flag, faced, period, timer, ready, ticked, part_course, link_course}
use Rattle.tick_law.specs.Verdict.{is_there, exists_to, all_done, verdict_by, part_next, link_next, goes_on, verdict_at}
use Rattle.tick_law.specs.PlanView.{PlanView, part_wires, link_wires, start_of, opening, system_from, system_of}
use Rattle.model_laws.specs.WellFormed.{system}
use Rattle.model_laws.proofs.NextTimesGoOn.{edge_at}
use Rattle.model_laws.specs.Fitted.{IsSetUp}
use Rattle.model_laws.proofs.BothCourses.{world_good}
use Rattle.model_laws.proofs.PortsPutBack.{somes-alls, alls_full, length-alls}
use Rattle.model_laws.specs.NextTable.{IsTable, next_at_place}
use Rattle.model_laws.specs.Boundary.{IsBoundary}

get-replicate : (n i : ℕ) (x d : Option ℕ) → i < n → get_or (replicate n x) i d ≡ x
get-replicate zero i x d b = absurd (omega arith)
get-replicate (suc n) zero x d b = refl
get-replicate (suc n) (suc i) x d b = get-replicate n i x d (omega arith)

pub first_ready : {S : Type 0} (c : Course S) (i : ℕ) → ready c i 0 ≡ Some 0
first_ready c i = ap (next_at (period c i) (flag c i) (faced c i) (timer c i) 0) (edge_at 0 (period c i) (let z : 0 % period c i ≡ 0 = omega arith in z))

pub first_ticked : {S : Type 0} (c : Course S) (i : ℕ) → ticked c i 0 ≡ Some 0
first_ticked c i = ap (next_at (period c i) (flag c i) (faced c i) (timer c i) 0) (edge_at 0 (period c i) (let z : 0 % period c i ≡ 0 = omega arith in z))

exists_same : (f g : ℕ → Option ℕ) (n : ℕ) → ((i : ℕ) → i < n → f i ≡ g i) → exists_to f n ≡ exists_to g n
exists_same f g zero same = refl
exists_same f g (suc n) same =
    let before : exists_to f n ≡ exists_to g n = exists_same f g n (λ i b. same i (omega arith)) in
    ap (λ b. b || is_there (f n)) before ∙ ap (λ o. exists_to g n || is_there o) (same n (omega arith))

table_exists : (next : List (Option ℕ)) (is : ℕ → Option ℕ) (n : ℕ) → IsTable next is n → exists_to (next_at_place next) (length next) ≡ exists_to is n
table_exists next is n t = ap (exists_to (next_at_place next)) t.long ∙ exists_same (next_at_place next) is n t.at

-- a list that was lent as a slice and given back
pub given_back : (xs ys : List (Option ℕ)) (n : ℕ) → length xs ≡ n → take n (xs ++ drop (length xs) ys) ≡ xs
given_back xs ys n e = ap (λ k. take k (xs ++ drop (length xs) ys)) (sym e) ∙ take-append-le (length xs) xs (drop (length xs) ys) (omega arith) ∙ take-length xs

module _ {P N : Type 0} where
  pub system_wired : (mp : Machine P) (mn : Machine N) (plan : PlanView P N) (a b : Wires) (start : Start P N) → a ≡ part_wires plan → b ≡ link_wires plan → system mp mn a b start ≡ system_from mp mn plan start
  system_wired mp mn plan a b start e f = ap (λ w. system mp mn w b start) e ∙ ap (λ w. system mp mn (part_wires plan) w start) f

  pub system_is : (mp : Machine P) (mn : Machine N) (plan : PlanView P N) (a b : Wires) (start : Start P N) → a ≡ part_wires plan → b ≡ link_wires plan → start ≡ opening plan → system mp mn a b start ≡ system_of mp mn plan
  system_is mp mn plan a b start e f s = system_wired mp mn plan a b start e f ∙ ap (system_from mp mn plan) s

  pub boundary_start : (mp : Machine P) (mn : Machine N) (plan : PlanView P N) (a b : Wires) (start : Start P N) (world : WorldPlaces P N) (parts links : List (Option ℕ)) → start ≡ opening plan → world ≡ whole_world (start_of plan) → parts ≡ replicate (length plan.parts) (Some 0) → links ≡ replicate (length plan.links) (Some 0) → IsBoundary (system mp mn a b start) 0 world parts links
  boundary_start mp mn plan a b start world parts links s w p l =
      let r = system mp mn a b (opening plan) in
      subst (λ x. IsBoundary (system mp mn a b x) 0 world parts links) (sym s) (record {
        begun = omega arith;
        world_is = w;
        parts_are = record { long = ap length p ∙ length-replicate (length plan.parts) (Some 0); at = λ i b. ap (λ xs. next_at_place xs i) p ∙ get-replicate (length plan.parts) i (Some 0) None b ∙ sym (first_ready (part_course r) i) };
        links_are = record { long = ap length l ∙ length-replicate (length plan.links) (Some 0); at = λ i b. ap (λ xs. next_at_place xs i) l ∙ get-replicate (length plan.links) i (Some 0) None b ∙ sym (first_ticked (link_course r) i) };
      })

  pub verdict_is : (r : System P N) (until : ℕ) (world : WorldPlaces P N) (parts links : List (Option ℕ)) → IsBoundary r (until + 1) world parts links →
      verdict_by (exists_to (next_at_place parts) (length parts) || exists_to (next_at_place links) (length links)) (all_done r.part (somes world.parts)) ≡ verdict_at r until
  verdict_is r until world parts links was =
      let d : until + 1 ≡ suc until = add-one until in
      let done : somes world.parts ≡ (world_at r (until + 1)).parts = ap (λ (x : WorldPlaces P N). somes x.parts) was.world_is ∙ somes-alls (world_at r (until + 1)).parts in
      let a = table_exists parts (part_next r (until + 1)) (length r.start.world.parts) was.parts_are in
      let b = table_exists links (link_next r (until + 1)) (length r.start.world.links) was.links_are in
      ap (λ x. verdict_by (x || exists_to (next_at_place links) (length links)) (all_done r.part (somes world.parts))) a
      ∙ ap (λ x. verdict_by (exists_to (part_next r (until + 1)) (length r.start.world.parts) || x) (all_done r.part (somes world.parts))) b
      ∙ ap (λ x. verdict_by (goes_on r (until + 1)) (all_done r.part x)) done
      ∙ ap (λ x. verdict_by (goes_on r x) (all_done r.part (world_at r x).parts)) d

  pub parts_full : (r : System P N) (d : ℕ) (world : WorldPlaces P N) (parts links : List (Option ℕ)) → IsBoundary r d world parts links → IsFull world.parts
  parts_full r d world parts links was = subst (λ x. IsFull x) (sym (ap (λ (x : WorldPlaces P N). x.parts) was.world_is)) (alls_full (world_at r d).parts)

  pub world_counts : (r : System P N) (vp : P → Type 0) (vn : N → Type 0) (d : ℕ) (world : WorldPlaces P N) (parts links : List (Option ℕ)) → IsSetUp r vp vn → d ≤ LATEST_TIME + 1 → IsBoundary r d world parts links →
      (length world.parts ≡ length r.start.world.parts) × (length world.links ≡ length r.start.world.links) × (length world.ports ≡ length r.start.world.ports)
  world_counts r vp vn d world parts links up l was =
      let good = world_good r vp vn d up (omega arith) in
      let w = world_at r d in (
        ap (λ (x : WorldPlaces P N). length x.parts) was.world_is ∙ length-alls w.parts ∙ good.part_count,
        ap (λ (x : WorldPlaces P N). length x.links) was.world_is ∙ length-alls w.links ∙ good.link_count,
        ap (λ (x : WorldPlaces P N). length x.ports) was.world_is ∙ length-alls w.ports ∙ good.port_count,
      )
