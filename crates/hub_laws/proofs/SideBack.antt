-- One actor is back from its step: its side, and the next times of both sides.
use Rattle.std.proofs.Common.{◌≡◌, ℕ, zero, suc, ◌+◌, ◌%◌, ◌<◌, ◌≤◌, ◌⊎◌, inl, inr, List, [], ◌∷◌, length, get_or, set, take, map, sym, ◌∙◌, ap, subst, arith, refl, Global}
use Rattle.std.specs.Prelude.{Option, Some, None, Bool, true, false, ◌==◌, ◌&&◌, slice_get, Box}
use Rattle.std.proofs.lemmas.List.{take_all, same_lists, get_or_default}
use Rattle.sim_base.specs.declared.time.Time.{Time}
use Rattle.event_queue.specs.NextTimes.{time_of}
use Rattle.bit_set.specs.Bits.{is_in}
use Rattle.port_msg.specs.PortView.{PortView, port_view}
use Rattle.port_row.specs.declared.face.Face.{Face}
use Rattle.port_row.specs.Row.{face_at, face_of, no_face}
use Rattle.port_rows.specs.Rows.{RowsView, other_face}
use Rattle.port_rows.proofs.RowsLaws.{has_place}
use Rattle.tick_law.specs.Wires.{own_of, owner_of, Has}
use Rattle.tick_law.specs.Pass.{Side, port_at, place, port_after, step_of}
use Rattle.tick_law.specs.Face.{face_differs}
use Rattle.tick_law.specs.SerialLoop.{begun}
use Rattle.tick_law.specs.NextTime.{woken}
use Rattle.tick_law.specs.Outcomes.{flag_of}
use Rattle.tick_law.specs.Course.{Course, after, any_of, flag, period, ticked}
use Rattle.model_laws.specs.Pass.{scatter}
use Rattle.model_laws.specs.NextTable.{next_at_place}
use Rattle.model_laws.specs.SideTimes.{half_of, number_of, timed}
use Rattle.model_laws.specs.Changed.{changed_of}
use Rattle.model_laws.proofs.OneMoreActor.{is_same, length-map_index, get-map_index_zero, length-scatter, scatter_at, scatter_other, place_below}
use Rattle.model_laws.proofs.DueByDue.{who_ports}
use Rattle.model_laws.proofs.StepsFromStart.{begun_all}
use Rattle.model_laws.proofs.SideCourse.{IsCourse}
use Rattle.model_laws.proofs.TimesOfTurn.{own_set, others_left}
use Rattle.model_laws.proofs.WokenByPorts.{any_same}
use Rattle.model_laws.proofs.NextTimesGoOn.{ticked_edge}
use Rattle.model_laws.proofs.NobodyIsDue.{period_at_start}
use Rattle.model_laws.proofs.DuePassIsWhole.{count_is, at_here}
use Rattle.actor_turn.specs.declared.side.SideGear.{SideGear}
use Rattle.actor_turn.specs.Side.{edge_of, times_of}
use Rattle.actor_turn.specs.Next.{left_by}
use Rattle.actor_turn.specs.Hit.{hit}
use Rattle.actor_turn.specs.Waking.{Waking, shows_other}
use Rattle.actor_turn.proofs.TurnLaws.{differs_so}
use Rattle.away_rows.specs.declared.body.Body.{Body}
use Rattle.away_rows.specs.declared.marks.Marks.{Marks}
use Rattle.away_rows.specs.Bodies.{SeatSet}
use Rattle.away_rows.specs.SidePass.{so_far, AreMarks, InPass, IsAfter, AreTimes, state_made}
use Rattle.away_rows.proofs.SeatLaws.{in_same}
use Rattle.away_rows.proofs.SideLaws.{IsSide, Made, made_of, in_below, port_before, Returns, Finished, side_finishes, one_back}
use Rattle.away_rows.proofs.TimesLaws.{Halves, times_finished, left_ticked}
use Rattle.hub_laws.specs.Events.{next_left, shows_some, woken_all}

whole : (own : List ℕ) → take (length own) own ≡ own
whole own = take_all (length own) own (omega arith)

-- how ports came back whose owners were woken then
pub returned : (part : Bool) (own : List ℕ) (others : SideGear) (from : ℕ) (rows back now : RowsView) (start next : List (Option Time)) (ports : List PortView) → Waking part own others from back start (length own) now next →
    back.ports ≡ scatter rows.ports own ports → length back.seen ≡ length rows.seen → ((q : ℕ) → (Has own q → ⊥) → face_at back.seen q ≡ face_at rows.seen q) → Returns own ports rows now
returned part own others from rows back now start next ports w moved long left = record {
  moved = w.ports ∙ moved;
  seen_long = w.long ∙ long;
  seen_here = λ q has. w.settled q (subst (λ l. Has l q) (sym (whole own)) has) ∙ ap (λ l. face_of (port_at l q)) (sym w.ports);
  seen_left = λ q n. w.left q (λ has. n (subst (λ l. Has l q) (whole own) has)) ∙ left q n;
}

map_at : (f : ℕ → Face) (xs : List ℕ) (k : ℕ) → k < length xs → face_at (map f xs) k ≡ f (get_or xs k 0)
map_at f [] k b = absurd (omega arith)
map_at f (x ∷ xs) zero b = refl
map_at f (x ∷ xs) (suc k) b = map_at f xs k (omega arith)

module _ {S : Type 0} where
  -- at an edge its step leaves it the loop's next time
  pub left_is : (c : Course S) (valid : S → Type 0) (end t i : ℕ) → IsCourse c valid end → t ≤ end → (x : Made c t i) → next_left c i t ≡ ticked c i (t + 1)
  left_is c valid end t i is l x =
      let h = at_here c valid end i t x.state is l x.there in
      let z : t % period c i ≡ 0 = ap (λ p. t % p) (sym h.1.same) ∙ is_same (t % c.machine.period x.state) 0 x.edge in
      sym (ticked_edge c i t (period_at_start c valid end i is h.0) z)

  -- what was seen of the own ports as they were when the actor left
  pub record SeenBack (c : Course S) (t : ℕ) (all_seen : Bool) (own : List ℕ) (rows back : RowsView) (seen : List Face) : Type 0 where
    pub how : ((all_seen ≡ true) × (back.seen ≡ rows.seen)) ⊎ ((all_seen ≡ false) × (back.seen ≡ scatter rows.seen own seen))

  -- what a finish gives
  pub record SideBack (c : Course S) (base t i from : ℕ) (part all_seen : Bool) (marks : Marks) (mine others : SideGear) (count other_count : ℕ) (seats : List (Option (Box (Body S) Global))) (now : RowsView) (flag : Bool) (old : ℕ → Option ℕ) (next next2 : List (Option Time)) : Type 0 where
    pub finished : Finished c base t i all_seen marks seats now flag
    pub times : AreTimes c t part (set marks.back i true) count others.wiring (edge_of others from) old other_count (times_of mine next2) (times_of others next2)
    pub own_is : times_of mine next2 ≡ set (times_of mine next) i (next_left c i t)
    pub woke_is : times_of others next2 ≡ woken_all (λ j. shows_some part c i t (own_of others.wiring j)) (edge_of others from) (times_of others next)

  pub side_back : (c : Course S) (valid : S → Type 0) (end base t i from : ℕ) (part all_seen : Bool) (marks : Marks) (mine others : SideGear) (count other_count : ℕ) (seats new : List (Option (Box (Body S) Global))) (rows back now : RowsView) (b put : Body S) (flag : Bool) (old : ℕ → Option ℕ) (next next1 next2 : List (Option Time)) →
      IsCourse c valid end → t < end → IsSide c t → Halves c t mine others count other_count next → AreMarks c t marks → InPass c base t all_seen marks seats rows → is_in marks.out i ≡ true → IsAfter c base t i all_seen b flag →
      SeatSet seats new i (Some put) → put.actor ≡ b.actor → put.recs ≡ b.recs → length put.row.ports ≡ length (own_of c.wires i) → length put.row.seen ≡ length (own_of c.wires i) →
      back.ports ≡ scatter rows.ports (own_of c.wires i) b.row.ports → SeenBack c t all_seen (own_of c.wires i) rows back b.row.seen →
      next1 ≡ set next (mine.first + i) (timed (left_by c.machine t flag (number_of (time_of next (mine.first + i))) b.actor)) →
      Waking part (own_of c.wires i) others from back next1 (length (own_of c.wires i)) now next2 →
      AreTimes c t part marks.back count others.wiring (edge_of others from) old other_count (times_of mine next) (times_of others next) →
      SideBack c base t i from part all_seen marks mine others count other_count new now flag old next next2
  side_back c valid end base t i from part all_seen marks mine others count other_count seats new rows back now b put flag old next next1 next2 is l side halves are was out after_it sat actor recs ports_long seen_long moved seen noted w times = record {
    finished = side_finishes c base t i all_seen marks seats new rows now b put flag side are was out after_it sat actor recs ports_long seen_long
        (returned part own others from rows back now next1 next2 b.row.ports w moved (long_by seen.how) (λ q n. left_by_how q n seen.how));
    times = times_finished c valid end base t i part all_seen marks mine others count other_count from b flag back now next next1 next2 old is l side halves are out after_it noted
        (λ q has. seen_own q has seen.how) own_ports others_stay w times;
    own_is =
        subst (λ n. half_of mine.first n next2 ≡ set (half_of mine.first n next) i (next_left c i t)) halves.mine_is
        (own_set next next1 next2 mine.first count others.first other_count i seat halves.sides here noted
        (subst (λ n. (k : ℕ) → (k < others.first) ⊎ (others.first + n ≤ k) → time_of next2 k ≡ time_of next1 k) (sym halves.others_are) w.rest)
        ∙ ap (set (half_of mine.first count next) i)
        (left_ticked c valid end t i marks b.actor flag (number_of (time_of next (mine.first + i))) is l side.begun made state flags (omega (arith, here, halves.count_is, count_is c valid end t is)) in_back
        ∙ sym (left_is c valid end t i is (omega arith) made)));
    woke_is =
        same_lists (times_of others next2) (woken_all tests (edge_of others from) (times_of others next))
        (w.woken.long ∙ sym half_long ∙ sym (length-map_index (λ j o. woken (tests j) (edge_of others from j) o) 0 (times_of others next)))
        (λ j d b0. let l0 : j < length others.periods.items = omega (arith, b0, w.woken.long) in
        get_or_default (times_of others next2) j d None b0
        ∙ w.woken.at j l0
        ∙ ap (λ x. woken x (edge_of others from j) (next_at_place (times_of others next1) j)) (same_test j)
        ∙ ap (λ x. woken (tests j) (edge_of others from j) (next_at_place x j)) half
        ∙ sym (get-map_index_zero (λ k o. woken (tests k) (edge_of others from k) o) (times_of others next) j None d (omega (arith, l0, half_long))));
  }
    where
      own : List ℕ
      own = own_of c.wires i

      tests : ℕ → Bool
      tests j = shows_some part c i t (own_of others.wiring j)

      here : i < count
      here = let x = in_below marks.out i out in omega (arith, x, are.out_all, halves.count_is)

      in_back : i < length marks.back
      in_back = omega (arith, here, halves.count_is, are.back_all)

      not_back : is_in marks.back i ≡ false
      not_back = are.outs i out

      seat : Option ℕ
      seat = left_by c.machine t flag (number_of (time_of next (mine.first + i))) b.actor

      made : Made c t i
      made = made_of c t i b.actor after_it.state

      state : b.actor ≡ (step_of c.machine c.wires t (c.before t).ports i made.state).state
      state = let e : Some (step_of c.machine c.wires t (c.before t).ports i made.state).state ≡ Some b.actor = ap state_made (sym made.made) ∙ after_it.state in cc

      flags : flag ≡ (step_of c.machine c.wires t (c.before t).ports i made.state).flag
      flags = after_it.flag_is ∙ ap flag_of made.made

      half : times_of others next1 ≡ times_of others next
      half = subst (λ n. half_of others.first n next1 ≡ half_of others.first n next) halves.others_are (others_left next next1 mine.first count others.first other_count i (timed seat) halves.sides here noted)

      half_long : length (times_of others next) ≡ length others.periods.items
      half_long = times.woke.long ∙ halves.others_are

      more : so_far c t (set marks.back i true) ≡ record { states = set (so_far c t marks.back).states i b.actor; ports = scatter (so_far c t marks.back).ports own b.row.ports }
      more = one_back c base t i all_seen marks b flag side are out after_it

      ports_more : (so_far c t (set marks.back i true)).ports ≡ scatter (so_far c t marks.back).ports own b.row.ports
      ports_more = ap (λ (x : Side S). x.ports) more

      ports_all : length (so_far c t marks.back).ports ≡ length (c.before t).ports
      ports_all = length-map_index (port_after c.machine c.wires (is_in marks.back) t (c.before t)) 0 (c.before t).ports

      in_ports : (q : ℕ) → Has own q → q < length (c.before t).ports
      in_ports q has = side.wired.within i q has

      long_by : ((all_seen ≡ true) × (back.seen ≡ rows.seen)) ⊎ ((all_seen ≡ false) × (back.seen ≡ scatter rows.seen own b.row.seen)) → length back.seen ≡ length rows.seen
      long_by (inl (e, f)) = ap length f
      long_by (inr (e, f)) = ap length f ∙ length-scatter rows.seen own b.row.seen

      left_by_how : (q : ℕ) → (Has own q → ⊥) → ((all_seen ≡ true) × (back.seen ≡ rows.seen)) ⊎ ((all_seen ≡ false) × (back.seen ≡ scatter rows.seen own b.row.seen)) → face_at back.seen q ≡ face_at rows.seen q
      left_by_how q n (inl (e, f)) = ap (λ x. face_at x q) f
      left_by_how q n (inr (e, f)) = ap (λ x. face_at x q) f ∙ scatter_other rows.seen own b.row.seen q no_face n

      seen_own : (q : ℕ) → Has own q → ((all_seen ≡ true) × (back.seen ≡ rows.seen)) ⊎ ((all_seen ≡ false) × (back.seen ≡ scatter rows.seen own b.row.seen)) → face_at back.seen q ≡ face_of (port_at (c.before t).ports q)
      seen_own q has (inl (e, f)) =
          ap (λ x. face_at x q) f
          ∙ was.placed.seen q (omega (arith, in_ports q has, ports_all)) (inl e)
          ∙ ap face_of (port_before c t marks.back q (in_ports q has) (ap (is_in marks.back) (side.wired.listed i q has) ∙ not_back))
      seen_own q has (inr (e, f)) =
          let place_in : place q own < length own = place_below q own has in
          ap (λ x. face_at x q) f
          ∙ scatter_at rows.seen own b.row.seen q no_face has (sym after_it.kit.seen) (omega (arith, in_ports q has, ports_all, was.placed.seen_long))
          ∙ ap (λ x. face_at x (place q own)) (after_it.along e)
          ∙ map_at (λ k. face_of (port_at (c.before t).ports k)) own (place q own) place_in
          ∙ ap (λ k. face_of (port_at (c.before t).ports k)) (has_place q own has)

      own_ports : (q : ℕ) → Has own q → port_at back.ports q ≡ port_at (so_far c t (set marks.back i true)).ports q
      own_ports q has =
          ap (λ x. port_at x q) moved
          ∙ scatter_at rows.ports own b.row.ports q (port_view [] [] 0) has (sym after_it.kit.ports) (omega (arith, in_ports q has, ports_all, was.placed.long))
          ∙ sym (ap (λ x. port_at x q) ports_more ∙ scatter_at (so_far c t marks.back).ports own b.row.ports q (port_view [] [] 0) has (sym after_it.kit.ports) (omega (arith, in_ports q has, ports_all)))

      others_stay : (q : ℕ) → q < length (c.before t).ports → (Has own q → ⊥) → port_at (so_far c t (set marks.back i true)).ports q ≡ port_at (so_far c t marks.back).ports q
      others_stay q l n = ap (λ x. port_at x q) ports_more ∙ scatter_other (so_far c t marks.back).ports own b.row.ports q (port_view [] [] 0) n

      -- the own ports are as after the loop's pass
      in_after : (q : ℕ) → Has own q → port_at (so_far c t (set marks.back i true)).ports q ≡ port_at (after c t).ports q
      in_after q has =
          let b0 = in_ports q has in
          let none = port_view [] [] 0 in
          let w0 : is_in (set marks.back i true) (owner_of c.wires q) ≡ begun c.from t (owner_of c.wires q) =
          ap (is_in (set marks.back i true)) (side.wired.listed i q has) ∙ in_same marks.back i true in_back
          ∙ sym (ap (λ (who : ℕ → Bool). who (owner_of c.wires q)) (begun_all c.from t side.begun)) in
          get-map_index_zero (port_after c.machine c.wires (is_in (set marks.back i true)) t (c.before t)) (c.before t).ports q none none b0
          ∙ who_ports c.machine c.wires (is_in (set marks.back i true)) (begun c.from t) t (c.before t).ports q (port_at (c.before t).ports q) (slice_get (c.before t).states (owner_of c.wires q)) w0
          ∙ sym (get-map_index_zero (port_after c.machine c.wires (begun c.from t) t (c.before t)) (c.before t).ports q none none b0)

      one : (x : ℕ) → Has own x → shows_other part back x ≡ face_differs part (port_at (c.before t).ports x) (port_at (after c t).ports x)
      one x has =
          ap (λ f. other_face part f (face_of (port_at back.ports x))) (seen_own x has seen.how)
          ∙ ap (λ p. other_face part (face_of (port_at (c.before t).ports x)) (face_of p)) (own_ports x has ∙ in_after x has)
          ∙ differs_so part (port_at (c.before t).ports x) (port_at (after c t).ports x)

      same_test : (j : ℕ) → any_of (hit (shows_other part back) (take (length own) own)) (own_of others.wiring j) ≡ tests j
      same_test j =
          any_same (hit (shows_other part back) (take (length own) own)) (changed_of part (c.before t).ports (after c t).ports own) (own_of others.wiring j)
          (λ q has. ap (λ l0. hit (shows_other part back) l0 q) (whole own)
          ∙ any_same (λ x. (x == q) && shows_other part back x) (λ x. (x == q) && face_differs part (port_at (c.before t).ports x) (port_at (after c t).ports x)) own (λ x h. ap (λ y. (x == q) && y) (one x h)))
