-- Below the boundary that a run begins at nothing happens.
use Rattle.std.specs.Prelude.{◌≡◌, ℕ, ◌<◌, ◌≤◌, ◌&&◌, ◌||◌, [], ◌++◌, length, false, refl}
use Rattle.std.proofs.Common.{zero, suc, ◌∙◌, ap, arith}
use Rattle.tick_law.specs.SerialLoop.{System, begun, pick, world_at, mid, parts_of, links_of, records_at_time, records_below, stirs_at, end_below, edges_at, edges_below}
use Rattle.tick_law.specs.Outcomes.{records, stirs}
use Rattle.tick_law.specs.Course.{awake, awake_at, period, part_course, link_course}
use Rattle.tick_law.specs.Verdict.{awake_now, awake_below}
use Rattle.model_laws.proofs.StepsFromStart.{begun_false}
use Rattle.model_laws.proofs.NobodyIsDue.{nobody_records, nobody_stirs, nobody_steps}

module _ {P N : Type 0} where
  no_records : (r : System P N) (t : ℕ) → t < r.start.at → records_at_time r t ≡ []
  no_records r t l =
      let who = begun r.start.at t in
      let none = begun_false r.start.at t l in
      ap (λ x. x ++ records r.link r.link_wires who t (links_of (mid r t)) (length r.start.world.parts)) (nobody_records r.part r.part_wires who t (parts_of (world_at r t)) 0 (length (world_at r t).parts) (λ i b. none))
      ∙ nobody_records r.link r.link_wires who t (links_of (mid r t)) (length r.start.world.parts) (length (mid r t).links) (λ i b. none)

  no_stir : (r : System P N) (t : ℕ) → t < r.start.at → stirs_at r t ≡ false
  no_stir r t l =
      let who = begun r.start.at t in
      let none = begun_false r.start.at t l in
      ap (λ x. x || stirs r.link r.link_wires who t (links_of (mid r t))) (nobody_stirs r.part r.part_wires who t (parts_of (world_at r t)) (length (world_at r t).parts) (λ i b. none))
      ∙ nobody_stirs r.link r.link_wires who t (links_of (mid r t)) (length (mid r t).links) (λ i b. none)

  no_edges : (r : System P N) (t : ℕ) → t < r.start.at → edges_at r t ≡ 0
  no_edges r t l =
      let who = begun r.start.at t in
      let none = begun_false r.start.at t l in
      let a = nobody_steps r.part r.part_wires who t (parts_of (world_at r t)) (length (world_at r t).parts) (λ i b. none) in
      let b = nobody_steps r.link r.link_wires who t (links_of (mid r t)) (length (mid r t).links) (λ i b. none) in
      omega (arith, a, b)

  nobody_awake : (r : System P N) (t : ℕ) → t < r.start.at → awake_now r t ≡ 0
  nobody_awake r t l =
      let c = part_course r in
      let k = link_course r in
      let none = begun_false r.start.at t l in
      let a = nobody_steps r.part r.part_wires (λ i. awake c i t) t (parts_of (world_at r t)) (length (world_at r t).parts) (λ i b. ap (λ x. x && awake_at c i (period c i) t) none) in
      let b = nobody_steps r.link r.link_wires (λ i. awake k i t) t (links_of (mid r t)) (length (mid r t).links) (λ i b. ap (λ x. x && awake_at k i (period k i) t) none) in
      omega (arith, a, b)

  pub records_begin : (r : System P N) (d : ℕ) → d ≤ r.start.at → records_below r d ≡ []
  records_begin r zero l = refl
  records_begin r (suc t) l = ap (λ x. x ++ records_at_time r t) (records_begin r t (omega arith)) ∙ no_records r t (omega arith)

  pub end_begin : (r : System P N) (d : ℕ) → d ≤ r.start.at → end_below r d ≡ r.start.end
  end_begin r zero l = refl
  end_begin r (suc t) l = ap (λ b. pick b t (end_below r t)) (no_stir r t (omega arith)) ∙ end_begin r t (omega arith)

  pub edges_begin : (r : System P N) (d : ℕ) → d ≤ r.start.at → edges_below r d ≡ 0
  edges_begin r zero l = refl
  edges_begin r (suc t) l = let a = edges_begin r t (omega arith) in let b = no_edges r t (omega arith) in omega (arith, a, b)

  pub awake_begin : (r : System P N) (d : ℕ) → d ≤ r.start.at → awake_below r d ≡ 0
  awake_begin r zero l = refl
  awake_begin r (suc t) l = let a = awake_begin r t (omega arith) in let b = nobody_awake r t (omega arith) in omega (arith, a, b)
