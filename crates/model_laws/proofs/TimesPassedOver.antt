-- Times at which nobody is due may be passed over.
use Rattle.std.specs.Prelude.{◌≡◌, ℕ, ◌+◌, ◌-◌, ◌<◌, ◌≤◌, List, ◌++◌, length, Option, Some, None, Bool, false, refl}
use Rattle.std.proofs.Common.{zero, suc, sym, ◌∙◌, ap, subst, arith, add-one, append-nil, append_assoc}
use Rattle.std.proofs.lemmas.Bool.Decides.{nat_tests}
use Rattle.sim_base.specs.declared.time.TheConstants.{LATEST_TIME}
use Rattle.port_msg.specs.declared.records.Record.{Record}
use Rattle.tick_law.specs.WorldPlaces.{WorldPlaces}
use Rattle.tick_law.specs.SerialLoop.{System, whole_world, pick, records_at_time, records_below, stirs_at, end_below}
use Rattle.tick_law.specs.NextTime.{due_is}
use Rattle.model_laws.specs.Fitted.{IsSetUp}
use Rattle.tick_law.specs.Verdict.{awake_now, awake_below, part_next, link_next}
use Rattle.model_laws.proofs.NobodyIsDue.{Rest, nothing_happens}
use Rattle.model_laws.specs.NextTable.{next_at_place}
use Rattle.model_laws.specs.Boundary.{IsBoundary}
use Rattle.model_laws.specs.Reached.{NoneBelow, Reached}

not_due : (o : Option ℕ) (d : ℕ) → ((t : ℕ) → o ≡ Some t → suc d ≤ t) → due_is o d ≡ false
not_due None d h = refl
not_due (Some t) d h = let l = h t refl in grind (arith, nat_tests, l)

module _ {P N : Type 0} where
  once : (r : System P N) (vp : P → Type 0) (vn : N → Type 0) (d e : ℕ) (world : WorldPlaces P N) (parts links : List (Option ℕ)) → IsSetUp r vp vn → e ≤ LATEST_TIME → NoneBelow parts (length r.start.world.parts) (suc e) → NoneBelow links (length r.start.world.links) (suc e) → Reached r d e world parts links → Reached r d (suc e) world parts links
  once r vp vn d e world parts links up l np nl was =
      let rest : Rest r e = record {
        parts = λ i b. not_due (part_next r e i) e (λ t f. np.none i b t (was.boundary.parts_are.at i b ∙ f));
        links = λ i b. not_due (link_next r e i) e (λ t f. nl.none i b t (was.boundary.links_are.at i b ∙ f));
      } in
      let gone = nothing_happens r vp vn e up l was.boundary.begun rest in
      record {
        boundary = record {
          begun = (let b = was.boundary.begun in omega arith);
          world_is = was.boundary.world_is ∙ ap (λ w. whole_world w) (sym gone.world);
          parts_are = record { long = was.boundary.parts_are.long; at = λ i b. was.boundary.parts_are.at i b ∙ sym (gone.parts i b) ∙ ap (λ d. part_next r d i) (add-one e) };
          links_are = record { long = was.boundary.links_are.long; at = λ i b. was.boundary.links_are.at i b ∙ sym (gone.links i b) ∙ ap (λ d. link_next r d i) (add-one e) };
        };
        records = ap (λ l. records_below r e ++ l) gone.records ∙ append-nil (records_below r e) ∙ was.records;
        ending = ap (λ b. pick b e (end_below r e)) gone.stirs ∙ was.ending;
        steps = (let a = gone.awake in let b = was.steps in omega (arith, a, b));
      }

  pub jump : (r : System P N) (vp : P → Type 0) (vn : N → Type 0) (d k : ℕ) (world : WorldPlaces P N) (parts links : List (Option ℕ)) → IsSetUp r vp vn → d + k ≤ 500000000001 → NoneBelow parts (length r.start.world.parts) (d + k) → NoneBelow links (length r.start.world.links) (d + k) → IsBoundary r d world parts links → Reached r d (d + k) world parts links
  jump r vp vn d zero world parts links up l np nl was = subst (λ e. Reached r d e world parts links) (let z : d ≡ d + 0 = omega arith in z) (record { boundary = was; records = refl; ending = refl; steps = refl })
  jump r vp vn d (suc k) world parts links up l np nl was =
      let z : suc (d + k) ≡ d + suc k = omega arith in
      let before = jump r vp vn d k world parts links up (omega arith) (record { none = λ i b at e. let x = np.none i b at e in let y : d + k ≤ at = omega (arith, x) in y }) (record { none = λ i b at e. let x = nl.none i b at e in let y : d + k ≤ at = omega (arith, x) in y }) was in
      subst (λ e. Reached r d e world parts links) z (once r vp vn d (d + k) world parts links up (omega (arith, l)) (record { none = λ i b at e. let x = np.none i b at e in let y : suc (d + k) ≤ at = omega (arith, x) in y }) (record { none = λ i b at e. let x = nl.none i b at e in let y : suc (d + k) ≤ at = omega (arith, x) in y }) before)

  pub jump_to : (r : System P N) (vp : P → Type 0) (vn : N → Type 0) (d e : ℕ) (world : WorldPlaces P N) (parts links : List (Option ℕ)) → IsSetUp r vp vn → d ≤ e → e ≤ 500000000001 → (d < e → NoneBelow parts (length parts) e) → (d < e → NoneBelow links (length links) e) → IsBoundary r d world parts links → Reached r d e world parts links
  jump_to r vp vn d e world parts links up l b np nl was = by_gap (e - d) (let z : d + (e - d) ≡ e = omega (arith, l) in z)
    where
      by_gap : (k : ℕ) → d + k ≡ e → Reached r d e world parts links
      by_gap zero z = subst (λ x. Reached r d x world parts links) (let y : d ≡ e = omega (arith, z) in y) (record { boundary = was; records = refl; ending = refl; steps = refl })
      by_gap (suc k) z =
          let more : d < e = omega (arith, z) in
          let p = subst (λ n. NoneBelow parts n (d + suc k)) was.parts_are.long (subst (λ x. NoneBelow parts (length parts) x) (sym z) (np more)) in
          let q = subst (λ n. NoneBelow links n (d + suc k)) was.links_are.long (subst (λ x. NoneBelow links (length links) x) (sym z) (nl more)) in
          subst (λ x. Reached r d x world parts links) z (jump r vp vn d (suc k) world parts links up (omega (arith, z, b)) p q was)

  pub lines_more : (r : System P N) (t e : ℕ) (start now new items : List Record) → now ≡ start ++ records_below r t → new ≡ now ++ items → items ≡ records_at_time r t → records_below r e ≡ records_below r (t + 1) → new ≡ start ++ records_below r e
  lines_more r t e start now new items a b c d =
      b ∙ ap (λ l. l ++ items) a ∙ append_assoc start (records_below r t) items ∙ ap (λ l. start ++ (records_below r t ++ l)) c ∙ ap (λ x. start ++ records_below r x) (sym (add-one t)) ∙ ap (λ l. start ++ l) (sym d)

  pub end_more : (r : System P N) (t e end new : ℕ) (flag : Bool) → new ≡ pick flag t end → flag ≡ stirs_at r t → end ≡ end_below r t → end_below r e ≡ end_below r (t + 1) → new ≡ end_below r e
  end_more r t e end new flag a b c d = a ∙ ap (λ x. pick x t end) b ∙ ap (λ x. pick (stirs_at r t) t x) c ∙ ap (λ x. end_below r x) (sym (add-one t)) ∙ sym d

  pub charge_more : (r : System P N) (t e start now new : ℕ) → now ≡ start + awake_below r t → new ≡ now + awake_now r t → awake_below r e ≡ awake_below r (t + 1) → new ≡ start + awake_below r e
  charge_more r t e start now new a b c =
      let z : awake_below r (t + 1) ≡ awake_below r t + awake_now r t = ap (λ x. awake_below r x) (add-one t) in
      omega (arith, a, b, c, z)
