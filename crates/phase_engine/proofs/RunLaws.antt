-- A run goes on from one time at which somebody is due to the next.
use Rattle.std.proofs.Common.{◌≡◌, ℕ, ◌+◌, ◌-◌, ◌<◌, ◌≤◌, ◌⊎◌, inl, inr, List, [], ◌∷◌, ◌++◌, length, zero, suc, sym, ◌∙◌, ap, subst, arith, refl}
use Rattle.std.specs.Prelude.{Option, Some, None, Bool}
use Rattle.std.proofs.lemmas.List.{append_assoc, append-nil}
use Rattle.sim_base.specs.declared.time.TheConstants.{LATEST_TIME}
use Rattle.sim_base.specs.declared.time.Time.{Time}
use Rattle.sim_io.specs.Sink.{Got, GotPrefix}
use Rattle.event_queue.specs.NextTimes.{time_of}
use Rattle.tick_law.specs.PlanView.{PlanView}
use Rattle.tick_law.specs.WorldPlaces.{WorldPlaces}
use Rattle.tick_law.specs.Verdict.{awake_below}
use Rattle.tick_law.specs.SerialLoop.{System, pick, records_at_time, records_below, stirs_at, end_below}
use Rattle.model_laws.specs.Fitted.{IsSetUp}
use Rattle.model_laws.proofs.NothingBeforeStart.{records_begin, awake_begin}
use Rattle.model_laws.specs.Reached.{NoneBelow, Reached}
use Rattle.model_laws.proofs.TimesPassedOver.{jump_to, end_more}
use Rattle.model_laws.specs.Boundary.{IsBoundary}
use Rattle.model_laws.specs.SideTimes.{half_of, number_of}
use Rattle.model_laws.proofs.SideTimesLaws.{half_at, length-half}
use Rattle.trace_out.specs.Names.{NamesView}
use Rattle.trace_out.specs.Lines.{lines_of, line_count}
use Rattle.run_gear.proofs.CountLaws.{counted_then}
use Rattle.run_gear.proofs.LineLaws.{lines_grow}
use Rattle.phase_engine.specs.RunGear.{IsDueBy}
use Rattle.port_msg.specs.declared.records.Record.{Record}
use Rattle.task_stats.specs.Tasks.{TasksView}
use Rattle.run_gear.specs.Counted.{counted_with}
use Rattle.run_gear.specs.PlanNames.{names_of}
use Rattle.run_gear.specs.Written.{GotSomeLines}
use Rattle.phase_engine.specs.Between.{records_over, records_between, GotBetween, GotSomeBetween}

tail_same : {A : Type 0} (x y : A) (xs ys : List A) → x ∷ xs ≡ y ∷ ys → xs ≡ ys
tail_same x y xs ys e = cc

append-same : {A : Type 0} (a b c : List A) → a ++ b ≡ a ++ c → b ≡ c
append-same [] b c e = e
append-same (x ∷ xs) b c e = append-same xs b c (tail_same x x (xs ++ b) (xs ++ c) e)

-- below the bound somebody is due
pub is_due : (times : List (Option Time)) (t bound : ℕ) → t < bound → (t ≡ bound) ⊎ IsDueBy times t → IsDueBy times t
is_due times t bound l (inl e) = absurd (omega (arith, l, e))
is_due times t bound l (inr due) = due

later_than : (o : Option Time) (e at : ℕ) → ((t : Time) → o ≡ Some t → e ≤ t.0) → number_of o ≡ Some at → e ≤ at
later_than None e at none f = absurd (cc)
later_than (Some t) e at none f = let l = none t refl in let z : t.0 ≡ at = cc in omega (arith, l, z)

-- where no actor has an earlier next time, none of a half has
pub none_below : (first n e : ℕ) (times : List (Option Time)) → ((i : ℕ) (t : Time) → time_of times i ≡ Some t → e ≤ t.0) → NoneBelow (half_of first n times) (length (half_of first n times)) e
none_below first n e times none = record {
  none = λ i b at f. let c : i < n = omega (arith, b, length-half first n times) in later_than (time_of times (first + i)) e at (none (first + i)) (sym (half_at first n times i c) ∙ f);
}

module _ {P N : Type 0} where
  -- from a boundary to the next time at which somebody is due
  pub to_due : (r : System P N) (vp : P → Type 0) (vn : N → Type 0) (d e : ℕ) (world : WorldPlaces P N) (times : List (Option Time)) (first n m : ℕ) → IsSetUp r vp vn → d ≤ e → e ≤ LATEST_TIME + 1 → (d < e → (i : ℕ) (t : Time) → time_of times i ≡ Some t → e ≤ t.0) → IsBoundary r d world (half_of first n times) (half_of n m times) → Reached r d e world (half_of first n times) (half_of n m times)
  to_due r vp vn d e world times first n m up l b none was =
      jump_to r vp vn d e world (half_of first n times) (half_of n m times) up l b (λ x. none_below first n e times (none x)) (λ x. none_below n m e times (none x)) was

  over_at : (r : System P N) (d k : ℕ) → records_below r d ++ records_over r d k ≡ records_below r (d + k)
  over_at r d zero = append-nil (records_below r d) ∙ ap (λ n. records_below r n) (let z : d ≡ d + 0 = omega arith in z)
  over_at r d (suc k) =
      sym (append_assoc (records_below r d) (records_over r d k) (records_at_time r (d + k)))
      ∙ ap (λ l. l ++ records_at_time r (d + k)) (over_at r d k)
      ∙ ap (λ n. records_below r n) (let z : suc (d + k) ≡ d + suc k = omega arith in z)

  -- what is recorded below d and from d to e is what is recorded below e
  records_split : (r : System P N) (d e : ℕ) → d ≤ e → records_below r d ++ records_between r d e ≡ records_below r e
  records_split r d e l = over_at r d (e - d) ∙ ap (λ n. records_below r n) (let z : d + (e - d) ≡ e = omega (arith, l) in z)

  from_start : (r : System P N) (e : ℕ) → r.start.at ≤ e → records_between r r.start.at e ≡ records_below r e
  from_start r e l = ap (λ x. x ++ records_between r r.start.at e) (sym (records_begin r r.start.at (omega arith))) ∙ records_split r r.start.at e l

  pub none_between : (r : System P N) (d : ℕ) → records_between r d d ≡ []
  none_between r d = ap (records_over r d) (let z : d - d ≡ 0 = omega arith in z)

  between_more : (r : System P N) (d t : ℕ) → d ≤ t → records_between r d (t + 1) ≡ records_between r d t ++ records_at_time r t
  between_more r d t l =
      ap (records_over r d) (let z : t + 1 - d ≡ suc (t - d) = omega (arith, l) in z)
      ∙ ap (λ n. records_between r d t ++ records_at_time r n) (let z : d + (t - d) ≡ t = omega (arith, l) in z)

  -- from the beginning on
  pub from_beginning : (r : System P N) (d e : ℕ) → d ≡ r.start.at → d ≤ e → records_between r d e ≡ records_below r e
  from_beginning r d e z l = ap (λ n. records_between r n e) z ∙ from_start r e (subst (λ n. n ≤ e) z l)

  pub awake_then : (r : System P N) (d e old new : ℕ) → d ≡ r.start.at → new + awake_below r d ≡ old + awake_below r e → new ≡ old + awake_below r e
  awake_then r d e old new z s =
      let none : awake_below r d ≡ 0 = ap (awake_below r) z ∙ awake_begin r r.start.at (omega arith) in
      omega (arith, none, s)

  -- nothing is recorded between two boundaries
  pub records_jump : (r : System P N) (d t e : ℕ) → d ≤ t → t ≤ e → records_below r e ≡ records_below r t → records_between r d e ≡ records_between r d t
  records_jump r d t e a b same =
      let back = append-same (records_below r d) (records_between r d e) (records_between r d t) (records_split r d e (omega (arith, a, b)) ∙ same ∙ sym (records_split r d t a)) in
      back

  -- the lines of one time more
  pub lines_then : (r : System P N) (names : NamesView) (all : Bool) (d t : ℕ) (old mid new : Option (List ℕ)) → d ≤ t → Got old mid (lines_of names all (records_between r d t)) → Got mid new (lines_of names all (records_at_time r t)) → Got old new (lines_of names all (records_between r d (t + 1)))
  lines_then r names all d t old mid new l p q = lines_grow names all (records_between r d t) (records_at_time r t) (records_between r d (t + 1)) old mid new (between_more r d t l) p q

  -- the requests of one time more
  pub counted_more : (r : System P N) (d t : ℕ) (first mid last : Option (List TasksView)) (items : List Record) → d ≤ t → items ≡ records_at_time r t → mid ≡ counted_with first (records_between r d t) → last ≡ counted_with mid items → last ≡ counted_with first (records_between r d (t + 1))
  counted_more r d t first mid last items l is p q =
      counted_then first mid last (records_between r d t) (records_at_time r t) (records_between r d (t + 1)) (between_more r d t l) p (q ∙ ap (counted_with mid) is)

  -- a line of time t was not written
  pub some_between : (plan : PlanView P N) (r : System P N) (all : Bool) (d t : ℕ) (old held new : Option (List ℕ)) → d ≤ t → 0 < line_count all (records_at_time r t) → GotBetween plan r all d t old held → GotPrefix held new (lines_of (names_of plan) all (records_at_time r t)) → GotSomeBetween plan r all d (t + 1) old new
  some_between plan r all d t old held new l one earlier prefix =
      let last : t ≡ t + 1 - 1 = omega arith in
      record {
        behind = omega (arith, l);
        one = subst (λ n. 0 < line_count all (records_at_time r n)) last one;
        held = held;
        earlier = subst (λ n. GotBetween plan r all d n old held) last earlier;
        prefix = subst (λ n. GotPrefix held new (lines_of (names_of plan) all (records_at_time r n))) last prefix;
      }

  -- from the beginning on
  pub some_from_beginning : (plan : PlanView P N) (r : System P N) (all : Bool) (d e : ℕ) (old new : Option (List ℕ)) → d ≡ r.start.at → GotSomeBetween plan r all d e old new → GotSomeLines plan r all e old new
  some_from_beginning plan r all d e old new z some =
      let behind = some.behind in
      record {
        behind = omega (arith, behind);
        one = some.one;
        held = some.held;
        earlier = subst (λ l. Got old some.held (lines_of (names_of plan) all l)) (from_beginning r d (e - 1) z (omega (arith, behind))) some.earlier;
        prefix = some.prefix;
      }

  pub end_then : (r : System P N) (t end new : ℕ) (flag : Bool) → new ≡ pick flag t end → flag ≡ stirs_at r t → end ≡ end_below r t → new ≡ end_below r (t + 1)
  end_then r t end new flag a b c = end_more r t (t + 1) end new flag a b c refl
