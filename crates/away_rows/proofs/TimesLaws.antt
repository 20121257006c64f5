-- The next times when one more actor is back from its step.
use Rattle.std.proofs.Common.{◌≡◌, ◌≢◌, ℕ, ◌+◌, ◌*◌, ◌/◌, ◌%◌, ◌<◌, ◌≤◌, ◌⊎◌, inl, inr, List, length, get_or, set, take, sym, ◌∙◌, ap, subst, arith, refl, Global}
use Rattle.std.specs.Prelude.{Option, Some, None, Bool, true, false, ◌==◌, ◌&&◌, ◌||◌, slice_get, Box}
use Rattle.std.proofs.lemmas.List.{take_all, length-set, get_or-set_same, get_or-set_other}
use Rattle.std.proofs.lemmas.Bool.{cases_eq}
use Rattle.std.proofs.Math.Bool.{or-false}
use Rattle.sim_base.specs.declared.time.TheConstants.{LATEST_TICK}
use Rattle.sim_base.specs.declared.time.Time.{Time}
use Rattle.event_queue.specs.NextTimes.{time_of}
use Rattle.bit_set.specs.Bits.{is_in}
use Rattle.port_msg.specs.PortView.{PortView, port_view}
use Rattle.port_row.specs.Row.{face_at, face_of}
use Rattle.port_rows.specs.Rows.{RowsView, other_face}
use Rattle.tick_law.specs.Machine.{Machine, Outcome}
use Rattle.tick_law.specs.Wires.{Wires, own_of, owner_of, Has, Wired}
use Rattle.tick_law.specs.Pass.{Side, port_at, gather, has_edge, step_of}
use Rattle.tick_law.specs.Face.{face_differs}
use Rattle.tick_law.specs.SerialLoop.{pick}
use Rattle.tick_law.specs.NextTime.{woken, times}
use Rattle.tick_law.specs.Outcomes.{outcome, outcome_by, outcome_if, flag_of}
use Rattle.tick_law.specs.Course.{Course, any_of, ready, ticked}
use Rattle.model_laws.specs.NextTable.{IsTable, next_at_place, next_by, next_after}
use Rattle.model_laws.specs.SideTimes.{half_of, number_of, timed, AreSides}
use Rattle.model_laws.specs.Changed.{changed}
use Rattle.model_laws.proofs.OneMoreActor.{is_same}
use Rattle.model_laws.proofs.SideCourse.{IsCourse}
use Rattle.model_laws.proofs.SideTimesLaws.{half_at}
use Rattle.model_laws.proofs.TimesOfTurn.{own_set, others_left}
use Rattle.model_laws.proofs.WokenByPorts.{any_same}
use Rattle.model_laws.proofs.ShownByTurns.{any_either, woken_twice, hit_in, hit_out}
use Rattle.model_laws.proofs.PortsPutBack.{has_or_not}
use Rattle.model_laws.proofs.FacesKept.{face_same, face_refl}
use Rattle.model_laws.proofs.SleepersChangeNothing.{sound_gather, length-gather}
use Rattle.model_laws.proofs.DuePassIsWhole.{next_chosen, count_is}
use Rattle.actor_turn.specs.declared.side.SideGear.{SideGear}
use Rattle.actor_turn.specs.Side.{edge_of, times_of}
use Rattle.actor_turn.specs.Next.{left_by}
use Rattle.actor_turn.specs.Hit.{hit}
use Rattle.actor_turn.specs.Waking.{Waking, shows_other}
use Rattle.actor_turn.proofs.TurnLaws.{differs_so}
use Rattle.away_rows.specs.declared.body.Body.{Body}
use Rattle.away_rows.specs.declared.marks.Marks.{Marks}
use Rattle.away_rows.specs.Marks.{finished}
use Rattle.away_rows.specs.SidePass.{so_far, step_so_far, AreMarks, IsAfter, AreTimes, state_made}
use Rattle.away_rows.proofs.SeatLaws.{in_same, in_other}
use Rattle.away_rows.proofs.SideLaws.{IsSide, Made, made_of, in_below, port_before}

module _ {S : Type 0} where
  -- a step keeps the period, so its edge is one of the state after it too
  edge_kept : (c : Course S) (valid : S → Type 0) (end t i : ℕ) → IsCourse c valid end → t ≤ end → (x : Made c t i) → c.machine.period (step_of c.machine c.wires t (c.before t).ports i x.state).state ≡ c.machine.period x.state
  edge_kept c valid end t i is l x =
      let known = (is.sound t l).states i x.state x.there in
      let own = own_of c.wires i in
      (is.lawful.framed x.state (gather (c.before t).ports own) (t / c.machine.period x.state) known.0
      (sound_gather (c.before t).ports own (is.sound t l).ports (λ q has. (is.wired t).within i q has))
      (length-gather (c.before t).ports own ∙ known.1)).period

  -- what is noted after the step of actor i is its next time then
  pub left_ticked : (c : Course S) (valid : S → Type 0) (end t i : ℕ) (marks : Marks) (s : S) (flag : Bool) (old : Option ℕ) → IsCourse c valid end → t < end → c.from ≤ t → (x : Made c t i) → s ≡ (step_of c.machine c.wires t (c.before t).ports i x.state).state → flag ≡ (step_of c.machine c.wires t (c.before t).ports i x.state).flag → i < length (c.before 0).states → i < length marks.back →
      left_by c.machine t flag old s ≡ ticked c i (t + 1)
  left_ticked c valid end t i marks s flag old is l from x state flags b in_back =
      let m = c.machine in
      let st = step_of m c.wires t (c.before t).ports i x.state in
      let per : m.period st.state ≡ m.period x.state = edge_kept c valid end t i is (omega arith) x in
      let edge : has_edge m t st.state ≡ true = ap (λ p. t % p == 0) per ∙ x.edge in
      let made : outcome m c.wires (is_in (set marks.back i true)) t (c.before t) i ≡ Some st =
      ap (λ o. outcome_by m c.wires (is_in (set marks.back i true)) t (c.before t).ports i o) x.there
      ∙ ap (λ y. outcome_if (y && has_edge m t x.state) st) (in_same marks.back i true in_back)
      ∙ ap (λ y. outcome_if y st) x.edge in
      ap (left_by m t flag old) state
      ∙ ap (λ y. next_by y m t flag old st.state) edge
      ∙ ap (λ f. next_by true m t f old st.state) flags
      ∙ sym (ap (λ o. next_after m t o (ready c i t)) made)
      ∙ next_chosen c valid end t i (is_in (set marks.back i true)) is l from b (in_same marks.back i true in_back)

-- how many actors each side has, of which those of this side have numbers from `first` on
pub record Halves {S : Type 0} (c : Course S) (t : ℕ) (mine others : SideGear) (count other_count : ℕ) (next : List (Option Time)) : Type 0 where
  pub count_is : count ≡ length (c.before t).states
  pub mine_is : count ≡ length mine.periods.items
  pub others_are : other_count ≡ length others.periods.items
  pub sides : AreSides (length next) mine.first count others.first other_count
  pub wired : Wired others.wiring (length (c.before t).ports)

module _ {S : Type 0} where
  -- the next times of the side's own when actor i is back
  own_then : (c : Course S) (valid : S → Type 0) (end t i : ℕ) (marks : Marks) (base count : ℕ) (half new : List (Option ℕ)) → length half ≡ count → i < count → i < length marks.back → new ≡ set half i (ticked c i (t + 1)) →
      IsTable half (λ k. pick (is_in marks.back k) (ticked c k (t + 1)) (ready c k t)) count → IsTable new (λ k. pick (is_in (set marks.back i true) k) (ticked c k (t + 1)) (ready c k t)) count
  own_then c valid end t i marks base count half new long b in_back e was = record {
    long = ap length e ∙ length-set half i (ticked c i (t + 1)) ∙ was.long;
    at = λ k l. at k l (cases_eq k i);
  }
    where
      at : (k : ℕ) → k < count → (k ≡ i) ⊎ (k ≢ i) → next_at_place new k ≡ pick (is_in (set marks.back i true) k) (ticked c k (t + 1)) (ready c k t)
      at k l (inl f) =
          subst (λ j. next_at_place new j ≡ pick (is_in (set marks.back i true) j) (ticked c j (t + 1)) (ready c j t)) (sym f)
          (ap (λ x. next_at_place x i) e ∙ get_or-set_same half i (ticked c i (t + 1)) None (omega (arith, b, long))
          ∙ sym (ap (λ x. pick x (ticked c i (t + 1)) (ready c i t)) (in_same marks.back i true in_back)))
      at k l (inr n) =
          ap (λ x. next_at_place x k) e ∙ get_or-set_other half i k (ticked c i (t + 1)) None n ∙ was.at k l
          ∙ sym (ap (λ x. pick x (ticked c k (t + 1)) (ready c k t)) (in_other marks.back i k true n))

  -- the other side when one more is back whose ports show something else
  woke_then : (c : Course S) (t i : ℕ) (part : Bool) (marks : Marks) (others : SideGear) (from : ℕ) (back now : RowsView) (start next : List (Option Time)) (first : List (Option ℕ)) (old : ℕ → Option ℕ) (other_count : ℕ) →
      IsSide c t → is_in marks.back i ≡ false → Wired others.wiring (length (c.before t).ports) → other_count ≡ length others.periods.items →
      ((q : ℕ) → Has (own_of c.wires i) q → face_at back.seen q ≡ face_of (port_at (c.before t).ports q)) →
      ((q : ℕ) → Has (own_of c.wires i) q → port_at back.ports q ≡ port_at (so_far c t (set marks.back i true)).ports q) →
      ((q : ℕ) → q < length (c.before t).ports → (Has (own_of c.wires i) q → ⊥) → port_at (so_far c t (set marks.back i true)).ports q ≡ port_at (so_far c t marks.back).ports q) →
      times_of others start ≡ first →
      Waking part (own_of c.wires i) others from back start (length (own_of c.wires i)) now next →
      IsTable first (λ j. woken (changed part (c.before t).ports (so_far c t marks.back).ports others.wiring j) (edge_of others from j) (old j)) other_count →
      IsTable (times_of others next) (λ j. woken (changed part (c.before t).ports (so_far c t (set marks.back i true)).ports others.wiring j) (edge_of others from j) (old j)) other_count
  woke_then c t i part marks others from back now start next first old other_count side waits wired_others count seen ports others_stay half w was = record {
    long = w.woken.long ∙ sym count;
    at = λ j l. w.woken.at j (omega (arith, l, count))
        ∙ ap (λ x. woken (any_of (hit test (take (length own) own)) (own_of others.wiring j)) (edge_of others from j) (next_at_place x j)) half
        ∙ ap (woken (any_of (hit test (take (length own) own)) (own_of others.wiring j)) (edge_of others from j)) (was.at j l)
        ∙ woken_twice (changed part h.ports a others.wiring j) (any_of (hit test (take (length own) own)) (own_of others.wiring j)) (edge_of others from j) (old j)
        ∙ ap (λ x. woken x (edge_of others from j) (old j))
        (ap (λ qs. changed part h.ports a others.wiring j || any_of (hit test qs) (own_of others.wiring j)) (take_all (length own) own (omega arith))
        ∙ sym (any_either (λ q. face_differs part (port_at h.ports q) (port_at a q)) (hit test own) (own_of others.wiring j))
        ∙ any_same (λ q. face_differs part (port_at h.ports q) (port_at a q) || hit test own q) (λ q. face_differs part (port_at h.ports q) (port_at b q)) (own_of others.wiring j)
        (λ q has. each q (wired_others.within j q has) (has_or_not own q)));
  }
    where
      own : List ℕ
      own = own_of c.wires i

      h : Side S
      h = c.before t

      a : List PortView
      a = (so_far c t marks.back).ports

      b : List PortView
      b = (so_far c t (set marks.back i true)).ports

      test : ℕ → Bool
      test = shows_other part back

      each : (q : ℕ) → q < length h.ports → Has own q ⊎ (Has own q → ⊥) → (face_differs part (port_at h.ports q) (port_at a q) || hit test own q) ≡ face_differs part (port_at h.ports q) (port_at b q)
      each q l (inl has) =
          let still : port_at a q ≡ port_at h.ports q = port_before c t marks.back q l (ap (is_in marks.back) (side.wired.listed i q has) ∙ waits) in
          ap (λ p. face_differs part (port_at h.ports q) p || hit test own q) still
          ∙ ap (λ x. x || hit test own q) (face_same part (port_at h.ports q) (port_at h.ports q) (face_refl part (port_at h.ports q)))
          ∙ hit_in test own q has
          ∙ ap (λ f. other_face part f (face_of (port_at back.ports q))) (seen q has)
          ∙ ap (λ p. other_face part (face_of (port_at h.ports q)) (face_of p)) (ports q has)
          ∙ differs_so part (port_at h.ports q) (port_at b q)
      each q l (inr n) =
          ap (λ x. face_differs part (port_at h.ports q) (port_at a q) || x) (hit_out test own q n)
          ∙ or-false (face_differs part (port_at h.ports q) (port_at a q))
          ∙ ap (face_differs part (port_at h.ports q)) (sym (others_stay q l n))

  -- all next times when actor i is back
  pub times_finished : (c : Course S) (valid : S → Type 0) (end base t i : ℕ) (part all_seen : Bool) (marks : Marks) (mine others : SideGear) (count other_count from : ℕ) (b : Body S) (flag : Bool) (back now : RowsView) (next next1 next2 : List (Option Time)) (old : ℕ → Option ℕ) →
      IsCourse c valid end → t < end → IsSide c t → Halves c t mine others count other_count next → AreMarks c t marks → is_in marks.out i ≡ true → IsAfter c base t i all_seen b flag →
      next1 ≡ set next (mine.first + i) (timed (left_by c.machine t flag (number_of (time_of next (mine.first + i))) b.actor)) →
      ((q : ℕ) → Has (own_of c.wires i) q → face_at back.seen q ≡ face_of (port_at (c.before t).ports q)) →
      ((q : ℕ) → Has (own_of c.wires i) q → port_at back.ports q ≡ port_at (so_far c t (set marks.back i true)).ports q) →
      ((q : ℕ) → q < length (c.before t).ports → (Has (own_of c.wires i) q → ⊥) → port_at (so_far c t (set marks.back i true)).ports q ≡ port_at (so_far c t marks.back).ports q) →
      Waking part (own_of c.wires i) others from back next1 (length (own_of c.wires i)) now next2 →
      AreTimes c t part marks.back count others.wiring (edge_of others from) old other_count (times_of mine next) (times_of others next) →
      AreTimes c t part (set marks.back i true) count others.wiring (edge_of others from) old other_count (times_of mine next2) (times_of others next2)
  times_finished c valid end base t i part all_seen marks mine others count other_count from b flag back now next next1 next2 old is l side halves are out after noted seen ports others_stay w was = record {
    own = subst (λ n. IsTable (half_of mine.first n next2) (λ k. pick (is_in (set marks.back i true) k) (ticked c k (t + 1)) (ready c k t)) count) halves.mine_is
        (own_then c valid end t i marks base count (half_of mine.first count next) (half_of mine.first count next2) own_was.long here in_back own_is own_was);
    woke = woke_then c t i part marks others from back now next1 next2 (times_of others next) old other_count side (are.outs i out) halves.wired halves.others_are seen ports others_stay
        (subst (λ n. half_of others.first n next1 ≡ half_of others.first n next) halves.others_are (others_left next next1 mine.first count others.first other_count i (timed seat) halves.sides here noted)) w was.woke;
  }
    where
      here : i < count
      here = let x = in_below marks.out i out in omega (arith, x, are.out_all, halves.count_is)

      in_back : i < length marks.back
      in_back = omega (arith, here, halves.count_is, are.back_all)

      own_was : IsTable (half_of mine.first count next) (λ k. pick (is_in marks.back k) (ticked c k (t + 1)) (ready c k t)) count
      own_was = subst (λ n. IsTable (half_of mine.first n next) (λ k. pick (is_in marks.back k) (ticked c k (t + 1)) (ready c k t)) count) (sym halves.mine_is) was.own

      seat : Option ℕ
      seat = left_by c.machine t flag (number_of (time_of next (mine.first + i))) b.actor

      made : Made c t i
      made = made_of c t i b.actor after.state

      state : b.actor ≡ (step_of c.machine c.wires t (c.before t).ports i made.state).state
      state = let e : Some (step_of c.machine c.wires t (c.before t).ports i made.state).state ≡ Some b.actor = ap state_made (sym made.made) ∙ after.state in cc

      flags : flag ≡ (step_of c.machine c.wires t (c.before t).ports i made.state).flag
      flags = after.flag_is ∙ ap flag_of made.made

      seat_is : seat ≡ ticked c i (t + 1)
      seat_is = left_ticked c valid end t i marks b.actor flag (number_of (time_of next (mine.first + i))) is l side.begun made state flags (omega (arith, here, halves.count_is, count_is c valid end t is)) in_back

      own_is : half_of mine.first count next2 ≡ set (half_of mine.first count next) i (ticked c i (t + 1))
      own_is =
          own_set next next1 next2 mine.first count others.first other_count i seat halves.sides here noted
          (subst (λ n. (k : ℕ) → (k < others.first) ⊎ (others.first + n ≤ k) → time_of next2 k ≡ time_of next1 k) (sym halves.others_are) w.rest)
          ∙ ap (set (half_of mine.first count next) i) seat_is
