-- A floor at rest begins a time: its parts' pass opens, and after it the links'.
use Rattle.std.proofs.Common.{◌≡◌, ℕ, ◌+◌, ◌-◌, ◌<◌, ◌≤◌, ◌⊎◌, inl, inr, List, [], length, replicate, sym, ◌∙◌, ap, subst, arith, refl}
use Rattle.std.specs.Prelude.{Some, Bool, true, false, ◌||◌}
use Rattle.std.proofs.lemmas.List.{length-map}
use Rattle.sim_base.specs.declared.time.TheConstants.{LATEST_TICK}
use Rattle.sim_base.specs.Edge.{edge_from}
use Rattle.bit_set.specs.Bits.{is_in}
use Rattle.tick_law.specs.WorldPlaces.{WorldPlaces}
use Rattle.tick_law.specs.Wires.{Wires}
use Rattle.tick_law.specs.Pass.{Side}
use Rattle.tick_law.specs.SerialLoop.{System, WorldState, world_at, mid, whole_world, world_of, end_below, parts_of, links_of}
use Rattle.tick_law.specs.NextTime.{due_is, woken}
use Rattle.tick_law.specs.Course.{part_course, link_course, ready, ticked, after}
use Rattle.tick_law.specs.Verdict.{link_next}
use Rattle.model_laws.specs.NextTable.{IsTable, due_at_time, next_at_place}
use Rattle.model_laws.specs.Boundary.{IsBoundary}
use Rattle.model_laws.specs.Reached.{Reached}
use Rattle.model_laws.specs.SideTimes.{half_of}
use Rattle.model_laws.specs.Changed.{changed}
use Rattle.model_laws.proofs.TimesPassedOver.{jump_to}
use Rattle.model_laws.proofs.WorldsAreSound.{world-whole}
use Rattle.model_laws.proofs.NobodyIsDue.{nobody_stirs, link_woken, period_at_start}
use Rattle.model_laws.proofs.OneMoreActor.{length-map_index}
use Rattle.actor_turn.specs.Side.{edge_of, times_of}
use Rattle.away_rows.specs.declared.marks.Marks.{Marks}
use Rattle.away_rows.specs.Marks.{IsQuiet}
use Rattle.away_rows.specs.Bodies.{Seated}
use Rattle.away_rows.specs.SidePass.{so_far, stirs_so_far, EdgeAt}
use Rattle.away_rows.proofs.SideLaws.{IsSide, in_below}
use Rattle.hub_laws.specs.Events.{IsLeastTime, those_at, due_parts, without}
use Rattle.hub_laws.proofs.PassBegins.{next_ahead, due_has_edge, edge_is}
use Rattle.hub_laws.proofs.PassIsOver.{pass_over, own_over}
use Rattle.hub_floor.specs.declared.floor.Floor.{Floor}
use Rattle.hub_floor.specs.Passing.{Passing}
use Rattle.hub_floor.specs.Floor.{hub_state, AreAsked, RestsOf, PartsOf}
use Rattle.hub_floor.proofs.FloorGives.{parts_course, links_course, parts_count, links_count, part_side_is, link_side_is}
use Rattle.hub_floor.proofs.SideOpens.{AllStand, none_of, those_in, either_in, due_some, below_next, without_at, unless_some, stand_settled, placed_stand, opens}

module _ {P N : Type 0} where
  -- no next time and no asked edge is behind a floor
  pub least_ahead : (r : System P N) (vp : P → Type 0) (vn : N → Type 0) (until t : ℕ) (f : Floor P N) → RestsOf r vp vn until f → IsLeastTime (hub_state f) t → f.at ≤ t
  least_ahead r vp vn until t f is least = at least.there
    where
      small : f.at ≤ LATEST_TICK
      small = let w = is.within in let u = is.of.until_within in omega (arith, w, u)

      at : ((i : ℕ) × (next_at_place (times_of f.part_side f.next) i ≡ Some t)) ⊎ (((i : ℕ) × (next_at_place (times_of f.link_side f.next) i ≡ Some t)) ⊎ ((i : ℕ) × (next_at_place (half_of 0 (length f.asked) f.asked) i ≡ Some t))) → f.at ≤ t
      at (inl (i, e)) =
          let table = is.rest.boundary.parts_are in
          let b : i < length r.start.world.parts = (let x = below_next (times_of f.part_side f.next) i t e in let l = table.long in omega (arith, x, l)) in
          next_ahead (part_course r) vp LATEST_TICK f.at f.at i t (parts_course r vp vn until f is.of) small b (sym (table.at i b) ∙ e)
      at (inr (inl (i, e))) =
          let table = is.rest.boundary.links_are in
          let b : i < length r.start.world.links = (let x = below_next (times_of f.link_side f.next) i t e in let l = table.long in omega (arith, x, l)) in
          next_ahead (link_course r) vn LATEST_TICK (f.at - 1) f.at i t (links_course r vp vn until f is.of) small b (sym (table.at i b) ∙ e)
      at (inr (inr (i, e))) = (is.asked i t e).1

  -- a floor at rest stands at every time up to the first at which somebody is due
  pub record Jumped (r : System P N) (f : Floor P N) (t : ℕ) : Type 0 where
    pub world : world_at r f.at ≡ world_at r t
    pub boundary : IsBoundary r t (whole_world (world_at r t)) (times_of f.part_side f.next) (times_of f.link_side f.next)
    pub reached : Reached r f.at t (whole_world (world_at r f.at)) (times_of f.part_side f.next) (times_of f.link_side f.next)

  pub jumps : (r : System P N) (vp : P → Type 0) (vn : N → Type 0) (until t : ℕ) (f : Floor P N) → RestsOf r vp vn until f → f.at ≤ t → t ≤ until + 1 →
      ((i n : ℕ) → next_at_place (times_of f.part_side f.next) i ≡ Some n → t ≤ n) → ((i n : ℕ) → next_at_place (times_of f.link_side f.next) i ≡ Some n → t ≤ n) → Jumped r f t
  jumps r vp vn until t f is ahead within parts links =
      let reached = jump_to r vp vn f.at t (whole_world (world_at r f.at)) (times_of f.part_side f.next) (times_of f.link_side f.next) is.of.fitted.set_up ahead
      (let u = is.of.until_within in omega (arith, within, u))
      (λ more. record { none = λ i b n e. parts i n e }) (λ more. record { none = λ i b n e. links i n e }) is.rest.boundary in
      let world : world_at r f.at ≡ world_at r t = sym (world-whole (world_at r f.at)) ∙ ap (λ (x : WorldPlaces P N). world_of x) reached.boundary.world_is ∙ world-whole (world_at r t) in
      record {
        world = world;
        boundary = subst (λ (w : WorldState P N). IsBoundary r t (whole_world w) (times_of f.part_side f.next) (times_of f.link_side f.next)) world reached.boundary;
        reached = reached;
      }

  -- what the opening of the parts' pass gives
  pub record PartsOpened (r : System P N) (until t : ℕ) (f : Floor P N) (marks : Marks) : Type 0 where
    pub begun : r.start.at ≤ t
    pub passing : Passing (part_course r) 0 t t false true f.part_side f.link_side (length r.start.world.parts) (length r.start.world.links) (link_next r t) marks f.parts.items f.rows f.next
    pub links_home : Seated r.link_wires [] (world_at r t).links (λ j. []) f.links.items
    pub stirred_is : f.stirred ≡ stirs_so_far (part_course r) t marks.back
    pub end_is : f.end ≡ end_below r t
    pub asked : AreAsked r (t + 1) until (without (half_of 0 (length f.asked) f.asked) t)

  pub parts_open : (r : System P N) (vp : P → Type 0) (vn : N → Type 0) (until t : ℕ) (f : Floor P N) (marks : Marks) → RestsOf r vp vn until f → IsLeastTime (hub_state f) t → t ≤ until →
      marks.waiting ≡ due_parts (hub_state f) t → marks.out ≡ f.part_marks.out → marks.back ≡ f.part_marks.back → PartsOpened r until t f marks
  parts_open r vp vn until t f marks is least within waiting out back = record {
    begun = j.boundary.begun;
    passing = opens (part_course r) 0 t t false true f.part_side f.link_side count (length r.start.world.links) (link_next r t) marks f.parts.items f.rows f.next
        side (sym (parts_count r vp vn until t f is.of)) (ap length waiting ∙ length-map_index (λ i x. x || is_in asks i) 0 nexts ∙ length-map (times_of f.part_side f.next) (λ o. due_is o t) ∙ j.boundary.parts_are.long)
        out_none back_none edges dues
        (subst (λ (w : WorldState P N). Seated r.part_wires [] w.parts (λ i. []) f.parts.items) j.world is.rest.parts_home)
        (subst (λ (w : WorldState P N). AllStand w.ports f.rows) j.world (stand_settled (world_at r f.at).ports r.link_wires f.rows is.rest.rows_stand))
        j.boundary.parts_are j.boundary.links_are;
    links_home = subst (λ (w : WorldState P N). Seated r.link_wires [] w.links (λ i. []) f.links.items) j.world is.rest.links_home;
    stirred_is = is.rest.calm ∙ sym (nobody_stirs r.part r.part_wires (is_in marks.back) t (parts_of (world_at r t)) (length (world_at r t).parts) (λ i b. none_of marks.back count back_none i));
    end_is = is.rest.end_is ∙ sym j.reached.ending;
    asked = still;
  }
    where
      count : ℕ
      count = length r.start.world.parts

      j : Jumped r f t
      j = jumps r vp vn until t f is (least_ahead r vp vn until t f is least) (omega (arith, within)) least.part_least least.link_least

      side : IsSide (part_course r) t
      side = part_side_is r vp vn until t f is.of j.boundary.begun

      nexts : List Bool
      nexts = those_at (times_of f.part_side f.next) t

      asks : List Bool
      asks = those_at (half_of 0 (length f.asked) f.asked) t

      out_none : marks.out ≡ replicate count false
      out_none = out ∙ ap (λ (m : Marks). m.out) is.rest.parts_unmarked

      back_none : marks.back ≡ replicate count false
      back_none = back ∙ ap (λ (m : Marks). m.back) is.rest.parts_unmarked

      small : t ≤ LATEST_TICK
      small = let u = is.of.until_within in omega (arith, within, u)

      nexts_long : length nexts ≡ count
      nexts_long = length-map (times_of f.part_side f.next) (λ o. due_is o t) ∙ j.boundary.parts_are.long

      waits_as : (i : ℕ) → i < count → is_in marks.waiting i ≡ (is_in nexts i || is_in asks i)
      waits_as i b = ap (λ l. is_in l i) waiting ∙ either_in nexts asks i (omega (arith, b, nexts_long))

      due_as : (i : ℕ) → i < count → is_in nexts i ≡ due_at_time (part_course r) t i
      due_as i b = those_in (times_of f.part_side f.next) t i ∙ ap (λ o. due_is o t) (j.boundary.parts_are.at i b)

      edges : (i : ℕ) → is_in marks.waiting i ≡ true → EdgeAt (part_course r) t i
      edges i e =
          let b : i < count = (let x = in_below marks.waiting i e in let l = ap length waiting ∙ length-map_index (λ k x. x || is_in asks k) 0 nexts in omega (arith, x, l, nexts_long)) in
          by (is_in nexts i) refl b (sym (waits_as i b) ∙ e)
        where
          by : (x : Bool) → is_in nexts i ≡ x → i < count → (is_in nexts i || is_in asks i) ≡ true → EdgeAt (part_course r) t i
          by true h b e = due_has_edge (part_course r) vp LATEST_TICK t i (parts_course r vp vn until f is.of) small (sym (due_as i b) ∙ h)
          by false h b e =
              let asked : is_in asks i ≡ true = sym (ap (λ x. x || is_in asks i) h) ∙ e in
              edge_is (part_course r) vp LATEST_TICK t i (parts_course r vp vn until f is.of) small ((is.asked i t (due_some _ t (sym (those_in (half_of 0 (length f.asked) f.asked) t i) ∙ asked))).0)

      dues : (i : ℕ) → i < count → due_at_time (part_course r) t i ≡ true → is_in marks.waiting i ≡ true
      dues i b e = waits_as i b ∙ ap (λ x. x || is_in asks i) (due_as i b ∙ e)

      still : AreAsked r (t + 1) until (without (half_of 0 (length f.asked) f.asked) t)
      still i n e =
          let both = unless_some t (next_at_place (half_of 0 (length f.asked) f.asked) i) n (sym (without_at (half_of 0 (length f.asked) f.asked) t i) ∙ e) in
          let was = is.asked i n both.0 in
          (was.0, (let l = least.asked_least i n both.0 in let m = both.1 in omega (arith, l, m)), was.2)

  -- what the opening of the links' pass gives
  pub record LinksOpened (r : System P N) (f : Floor P N) (marks : Marks) : Type 0 where
    pub passing : Passing (link_course r) (length r.start.world.parts) f.at (f.at + 1) true false f.link_side f.part_side (length r.start.world.links) (length r.start.world.parts) (λ i. ticked (part_course r) i (f.at + 1)) marks f.links.items f.rows f.next
    pub stirred_is : f.stirred ≡ (stirs_so_far (part_course r) f.at f.part_marks.back || stirs_so_far (link_course r) f.at marks.back)

  pub links_open : (r : System P N) (vp : P → Type 0) (vn : N → Type 0) (until : ℕ) (f : Floor P N) (marks : Marks) → PartsOf r vp vn until f → IsQuiet f.part_marks →
      marks.waiting ≡ those_at (times_of f.link_side f.next) f.at → marks.out ≡ f.link_marks.out → marks.back ≡ f.link_marks.back → LinksOpened r f marks
  links_open r vp vn until f marks is quiet waiting out back = record {
    passing = opens (link_course r) (length r.start.world.parts) f.at (f.at + 1) true false f.link_side f.part_side count (length r.start.world.parts) (λ i. ticked (part_course r) i (f.at + 1)) marks f.links.items f.rows f.next
        (link_side_is r vp vn until f.at f is.of is.parts.begun) (sym (links_count r vp vn until f.at f is.of)) (ap length waiting ∙ nexts_long) out_none back_none edges dues
        is.parts.links_home stand links_are parts_are;
    stirred_is = is.parts.stirred_is ∙ sym (ap (λ x. stirs_so_far (part_course r) f.at f.part_marks.back || x) (nobody_stirs r.link r.link_wires (is_in marks.back) f.at (links_of (mid r f.at)) (length (mid r f.at).links) (λ i b. none_of marks.back count back_none i)) ∙ or_no (stirs_so_far (part_course r) f.at f.part_marks.back));
  }
    where
      or_no : (b : Bool) → (b || false) ≡ b
      or_no true = refl
      or_no false = refl

      count : ℕ
      count = length r.start.world.links

      small : f.at ≤ LATEST_TICK
      small = let w = is.within in let u = is.of.until_within in omega (arith, w, u)

      less : f.at < LATEST_TICK
      less = let w = is.within in let u = is.of.until_within in omega (arith, w, u)

      out_none : marks.out ≡ replicate count false
      out_none = out ∙ ap (λ (m : Marks). m.out) is.parts.links_unmarked

      back_none : marks.back ≡ replicate count false
      back_none = back ∙ ap (λ (m : Marks). m.back) is.parts.links_unmarked

      over : so_far (part_course r) f.at f.part_marks.back ≡ after (part_course r) f.at
      over = pass_over (part_course r) vp LATEST_TICK f.at f.part_marks (parts_course r vp vn until f is.of) small is.parts.begun is.parts.passing.all_due quiet

      stand : AllStand (mid r f.at).ports f.rows
      stand = subst (λ (h : Side P). AllStand h.ports f.rows) over (placed_stand r.part_wires true f.part_marks.out (so_far (part_course r) f.at f.part_marks.back).ports f.rows is.parts.passing.pass.placed quiet.none_out)

      parts_are : IsTable (times_of f.part_side f.next) (λ i. ticked (part_course r) i (f.at + 1)) (length r.start.world.parts)
      parts_are = own_over (part_course r) vp LATEST_TICK f.at (length r.start.world.parts) f.part_marks (times_of f.part_side f.next) (parts_course r vp vn until f is.of) small is.parts.begun (sym (parts_count r vp vn until f.at f is.of)) is.parts.passing.all_due quiet is.parts.passing.times.own

      links_are : IsTable (times_of f.link_side f.next) (λ j. ready (link_course r) j f.at) count
      links_are = record {
        long = is.parts.passing.times.woke.long;
        at = λ j b.
            is.parts.passing.times.woke.at j b
            ∙ ap (λ (h : Side P). woken (changed false (world_at r f.at).ports h.ports f.link_side.wiring j) (edge_of f.link_side f.at j) (link_next r f.at j)) over
            ∙ ap (λ (w : Wires). woken (changed false (world_at r f.at).ports (mid r f.at).ports w j) (edge_of f.link_side f.at j) (link_next r f.at j)) is.of.link_wires_are
            ∙ ap (λ p. woken (changed false (world_at r f.at).ports (mid r f.at).ports r.link_wires j) (edge_from p f.at) (link_next r f.at j)) (is.of.fitted.link_period j b).0
            ∙ sym (link_woken r f.at j (period_at_start (link_course r) vn LATEST_TICK j (links_course r vp vn until f is.of) b));
      }

      nexts_long : length (those_at (times_of f.link_side f.next) f.at) ≡ count
      nexts_long = length-map (times_of f.link_side f.next) (λ o. due_is o f.at) ∙ links_are.long

      due_as : (i : ℕ) → i < count → is_in marks.waiting i ≡ due_at_time (link_course r) f.at i
      due_as i b = ap (λ l. is_in l i) waiting ∙ those_in (times_of f.link_side f.next) f.at i ∙ ap (λ o. due_is o f.at) (links_are.at i b)

      edges : (i : ℕ) → is_in marks.waiting i ≡ true → EdgeAt (link_course r) f.at i
      edges i e =
          let b : i < count = (let x = in_below marks.waiting i e in let l = ap length waiting in omega (arith, x, l, nexts_long)) in
          due_has_edge (link_course r) vn LATEST_TICK f.at i (links_course r vp vn until f is.of) small (sym (due_as i b) ∙ e)

      dues : (i : ℕ) → i < count → due_at_time (link_course r) f.at i ≡ true → is_in marks.waiting i ≡ true
      dues i b e = due_as i b ∙ e
