-- A pass of which nobody waits and nobody is out is the loop's pass.
use Rattle.std.proofs.Common.{◌≡◌, ℕ, ◌+◌, ◌<◌, ◌≤◌, List, length, sym, ◌∙◌, ap, arith, refl}
use Rattle.std.specs.Prelude.{Option, Some, Bool, true, false, ◌||◌, slice_get}
use Rattle.bit_set.specs.Bits.{is_in}
use Rattle.tick_law.specs.Pass.{has_edge}
use Rattle.tick_law.specs.SerialLoop.{begun, pick}
use Rattle.tick_law.specs.Outcomes.{records_to, stirs, stirs_to}
use Rattle.tick_law.specs.Course.{Course, after, ready, ticked}
use Rattle.model_laws.specs.NextTable.{IsTable, due_at_time}
use Rattle.model_laws.proofs.SideCourse.{IsCourse}
use Rattle.model_laws.proofs.StepsFromStart.{begun_all, after_all}
use Rattle.model_laws.proofs.SleepersChangeNothing.{pass_sleeping}
use Rattle.model_laws.proofs.PassGives.{Idle, records_sleeping, stirs_sleeping}
use Rattle.model_laws.proofs.DuePassIsWhole.{idle_unless_due, count_is, at_here}
use Rattle.model_laws.proofs.NextTimesGoOn.{ticked_sleeps}
use Rattle.model_laws.proofs.NobodyIsDue.{period_at_start}
use Rattle.away_rows.specs.declared.marks.Marks.{Marks}
use Rattle.away_rows.specs.Marks.{IsQuiet}
use Rattle.away_rows.specs.SidePass.{so_far, stirs_so_far, AllDueMarked}

module _ {S : Type 0} where
  -- who is not back is not due
  pub not_due : (c : Course S) (t : ℕ) (marks : Marks) (i : ℕ) → AllDueMarked c t marks → IsQuiet marks → i < length (c.before t).states → is_in marks.back i ≡ false → due_at_time c t i ≡ false
  not_due c t marks i all quiet b out = at (due_at_time c t i) refl
    where
      none : (is_in marks.waiting i || (is_in marks.out i || is_in marks.back i)) ≡ false
      none = ap (λ x. x || (is_in marks.out i || is_in marks.back i)) (quiet.none_waits i) ∙ ap (λ x. x || is_in marks.back i) (quiet.none_out i) ∙ out

      at : (x : Bool) → due_at_time c t i ≡ x → due_at_time c t i ≡ false
      at false e = e
      at true e = absurd (let f : true ≡ false = sym (all i b e) ∙ none in cc)

  idle : (c : Course S) (valid : S → Type 0) (end t : ℕ) (marks : Marks) → IsCourse c valid end → t ≤ end → c.from ≤ t → AllDueMarked c t marks → IsQuiet marks → (i : ℕ) (s : S) → slice_get (c.before t).states i ≡ Some s → is_in marks.back i ≡ false → has_edge c.machine t s ≡ true → Idle c.machine c.wires t (c.before t).ports i s
  idle c valid end t marks is l from all quiet i s at rests edge =
      let here = (at_here c valid end i t s is l at).0 in
      idle_unless_due c valid end i t s is l from at (not_due c t marks i all quiet (let n = count_is c valid end t is in omega (arith, here, n)) rests) edge

  pub pass_over : (c : Course S) (valid : S → Type 0) (end t : ℕ) (marks : Marks) → IsCourse c valid end → t ≤ end → c.from ≤ t → AllDueMarked c t marks → IsQuiet marks → so_far c t marks.back ≡ after c t
  pass_over c valid end t marks is l from all quiet =
      pass_sleeping c.machine c.wires (is_in marks.back) t (c.before t) (is.wired t) (λ i s at rests edge. (idle c valid end t marks is l from all quiet i s at rests edge).still)
      ∙ sym (after_all c t from)

  pub stirs_over : (c : Course S) (valid : S → Type 0) (end t : ℕ) (marks : Marks) → IsCourse c valid end → t ≤ end → c.from ≤ t → AllDueMarked c t marks → IsQuiet marks → stirs_so_far c t marks.back ≡ stirs c.machine c.wires (begun c.from t) t (c.before t)
  stirs_over c valid end t marks is l from all quiet =
      stirs_sleeping c.machine c.wires (is_in marks.back) t (c.before t) (length (c.before t).states) (λ i s at rests edge. idle c valid end t marks is l from all quiet i s at rests edge)
      ∙ ap (λ who. stirs_to c.machine c.wires who t (c.before t) (length (c.before t).states)) (sym (begun_all c.from t from))

  pub records_over : (c : Course S) (valid : S → Type 0) (end t base n : ℕ) (marks : Marks) → IsCourse c valid end → t ≤ end → c.from ≤ t → AllDueMarked c t marks → IsQuiet marks → records_to c.machine c.wires (is_in marks.back) t (c.before t) base n ≡ records_to c.machine c.wires (begun c.from t) t (c.before t) base n
  records_over c valid end t base n marks is l from all quiet =
      records_sleeping c.machine c.wires (is_in marks.back) t (c.before t) base n (λ i s at rests edge. idle c valid end t marks is l from all quiet i s at rests edge)
      ∙ ap (λ who. records_to c.machine c.wires who t (c.before t) base n) (sym (begun_all c.from t from))

  -- all own next times are those after the steps at t
  pub own_over : (c : Course S) (valid : S → Type 0) (end t count : ℕ) (marks : Marks) (mine : List (Option ℕ)) → IsCourse c valid end → t ≤ end → c.from ≤ t → count ≡ length (c.before t).states → AllDueMarked c t marks → IsQuiet marks →
      IsTable mine (λ i. pick (is_in marks.back i) (ticked c i (t + 1)) (ready c i t)) count → IsTable mine (λ i. ticked c i (t + 1)) count
  own_over c valid end t count marks mine is l from long all quiet was = record {
    long = was.long;
    at = λ i b. was.at i b ∙ at i (omega (arith, b, long)) (is_in marks.back i) refl;
  }
    where
      at : (i : ℕ) → i < length (c.before t).states → (x : Bool) → is_in marks.back i ≡ x → pick (is_in marks.back i) (ticked c i (t + 1)) (ready c i t) ≡ ticked c i (t + 1)
      at i b true e = ap (λ x. pick x (ticked c i (t + 1)) (ready c i t)) e
      at i b false e =
          let here : i < length (c.before 0).states = (let n = count_is c valid end t is in omega (arith, b, n)) in
          ap (λ x. pick x (ticked c i (t + 1)) (ready c i t)) e
          ∙ sym (ticked_sleeps c valid end i t is here l from (period_at_start c valid end i is here) (not_due c t marks i all quiet b e))
