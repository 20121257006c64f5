-- Both passes of a time over those that are due, where actors and ports all stand in their places.
use Rattle.std.proofs.Common.{◌≡◌, ℕ, ◌+◌, ◌*◌, ◌^◌, ◌<◌, ◌≤◌, ◌⊎◌, inl, inr, List, ◌++◌, Vec, Global, length, sym, ◌∙◌, ap, subst, refl, arith}
use Rattle.std.specs.Prelude.{Option, Bool, true, false, ◌||◌, map}
use Rattle.sim_base.specs.declared.time.TheConstants.{LATEST_TIME}
use Rattle.port_msg.specs.PortView.{PortView}
use Rattle.port_msg.specs.declared.records.Record.{Record}
use Rattle.sim_base.specs.declared.time.Time.{Time}
use Rattle.tick_law.specs.Machine.{Machine}
use Rattle.tick_law.specs.WorldPlaces.{alls, somes, SidePlaces}
use Rattle.tick_law.specs.Wires.{Wires}
use Rattle.tick_law.specs.Pass.{Side, pass}
use Rattle.tick_law.specs.SerialLoop.{Start}
use Rattle.tick_law.specs.SerialLoop.{records_at_time, stirs_at}
use Rattle.tick_law.specs.Verdict.{awake_now}
use Rattle.tick_law.specs.Outcomes.{outcome, records, stirs, steps_of}
use Rattle.tick_law.specs.NextTime.{woken}
use Rattle.model_laws.specs.Pass.{side_of, side_places, whole_side}
use Rattle.model_laws.specs.NextTable.{next_after, IsTable, chosen, next_at_place}
use Rattle.model_laws.specs.Outcome.{own_to}
use Rattle.model_laws.proofs.PortsPutBack.{somes-alls, length-alls}
use Rattle.model_laws.proofs.ActorByActor.{length_states}
use Rattle.model_laws.proofs.TwoPasses.{side_alls}
use Rattle.model_laws.specs.WellFormed.{HasRoom, IsSound}
use Rattle.model_laws.proofs.PassAsks.{Asks, primary_asks}
use Rattle.model_laws.specs.Fitted.{Wakes, Fitted}
use Rattle.model_laws.specs.Boundary.{IsBoundary, IsMid}
use Rattle.model_laws.proofs.BothPasses.{primary_gave, secondary_gave, to_mid, to_next, then_asks, records_both, stirs_both, steps_both}
use Rattle.model_laws.specs.Stepping.{Due}
use Rattle.model_laws.specs.SideTimes.{half_of, AreSides}
use Rattle.model_laws.specs.Changed.{changed}
use Rattle.model_laws.proofs.SideTimesLaws.{length-half}
use Rattle.model_laws.proofs.DuePassDid.{Did, did_of, did_as}
use Rattle.actor_turn.specs.declared.side.SideGear.{SideGear}
use Rattle.actor_turn.specs.Act.{side, whole}
use Rattle.actor_turn.specs.Turn.{TurnState, GearStays, parts_in, links_in}
use Rattle.actor_turn.specs.Waking.{CanWake}
use Rattle.actor_turn.specs.Side.{times_of, edge_of, AreInOrder, wake_time}
use Rattle.actor_turn.specs.Ready.{IsReady}
use Rattle.actor_turn.specs.declared.gear.RowGear.{RowGear}
use Rattle.port_rows.specs.declared.world.World.{World}
use Rattle.port_row.specs.Row.{face_of}
use Rattle.due_pass.specs.Pass.{CanPass, HasPassed}
use Rattle.due_pass.specs.Time.{run_of}

-- what a pass asks of the rows, the tables and the room
pub record RowAsks {S : Type 0} (m : Machine S) (valid : S → Type 0) (w : Wires) (states : List S) (ports : List PortView) (room items : ℕ) (mine others : SideGear) (next : List (Option Time)) : Type 0 where
  pub count : length states ≡ length mine.periods.items
  pub fits : HasRoom S m w (side states ports) room room
  pub sound : IsSound m valid w (side states ports)
  pub enough : items + 64 * own_to w (length states) ≤ room
  pub wakes : CanWake others (length ports) next
  pub sides : AreSides (length next) mine.first (length states) others.first (length others.periods.items)
  pub few : mine.first + length states < 2 ^ 32

module _ {S : Type 0} where
  side_is : (states : List S) (ports : List PortView) → side_of (alls states) (alls ports) ≡ side states ports
  side_is states ports = side_alls (alls states) (alls ports) states ports refl refl

  row_asks : (m : Machine S) (valid : S → Type 0) (w : Wires) (states : List S) (ports : List PortView) (room items base : ℕ) (mine others : SideGear) (next : List (Option Time)) →
      Asks m valid w (side_places (alls states) (alls ports)) (times_of mine next) base room room items others.wiring others.periods.items (times_of others next) →
      base ≡ mine.first → others.first + length others.periods.items ≤ length next → others.first + length others.periods.items < 2 ^ 32 → mine.first + length mine.periods.items ≤ length next →
      (mine.first + length mine.periods.items ≤ others.first) ⊎ (others.first + length others.periods.items ≤ mine.first) →
      RowAsks m valid w states ports room items mine others next
  row_asks m valid w states ports room items base mine others next asks e here few in_all apart =
      let h = side_is states ports in
      let long : length (side_of (alls states) (alls ports)).states ≡ length states = ap (λ (x : Side S). length x.states) h in
      let count : length states ≡ length mine.periods.items = sym long ∙ sym asks.long ∙ length-half mine.first (length mine.periods.items) next in
      record {
        count = count;
        fits = subst (λ (x : Side S). HasRoom S m w x room room) h asks.fits;
        sound = subst (λ (x : Side S). IsSound m valid w x) h asks.sound;
        enough = subst (λ n. items + 64 * own_to w n ≤ room) long asks.enough;
        wakes = record { wakes = subst (λ n. Wakes others.wiring n others.periods.items (times_of others next)) (length-alls ports) asks.wakes; here = here; few = few };
        sides = subst (λ n. AreSides (length next) mine.first n others.first (length others.periods.items)) (sym count) (record { own_within = in_all; others_within = here; apart = apart });
        few = (let a = asks.few in omega (arith, a, long, e));
      }

  -- from what a pass over rows ensures
  pub did_rows : (m : Machine S) (w w' : Wires) (part : Bool) (t from : ℕ) (mine others : SideGear) (states states' : List S) (ports ports' : List PortView) (next next' : List (Option Time)) (items items' : List Record) (flag : Bool) (steps steps' : ℕ) →
      w ≡ w' → length states ≡ length mine.periods.items →
      side_places (alls states') (alls ports') ≡ whole_side (pass m w' (chosen Due (half_of mine.first (length states) next) t) t (side states ports)) →
      IsTable (half_of mine.first (length states) next') (λ i. next_after m t (outcome m w' (chosen Due (half_of mine.first (length states) next) t) t (side states ports) i) (next_at_place (half_of mine.first (length states) next) i)) (length states) →
      IsTable (times_of others next') (λ j. woken (changed part ports ports' others.wiring j) (edge_of others from j) (next_at_place (times_of others next) j)) (length others.periods.items) →
      items' ≡ items ++ records m w' (chosen Due (half_of mine.first (length states) next) t) t (side states ports) mine.first →
      flag ≡ stirs m w' (chosen Due (half_of mine.first (length states) next) t) t (side states ports) →
      steps' ≡ steps + steps_of m w' (chosen Due (half_of mine.first (length states) next) t) t (side states ports) →
      Did m w others.wiring others.periods.items mine.first t part from others.first (length mine.periods.items) (length others.periods.items) (alls states) (alls states') (alls ports) (alls ports') next next' items items' flag steps steps'
  did_rows m w w' part t from mine others states states' ports ports' next next' items items' flag steps steps' e count places own woke records_are flag_is steps_are =
      let h = sym (side_is states ports) in
      subst (λ x. Did m x others.wiring others.periods.items mine.first t part from others.first (length mine.periods.items) (length others.periods.items) (alls states) (alls states') (alls ports) (alls ports') next next' items items' flag steps steps') (sym e)
      (did_as m w' others.wiring others.periods.items mine.first t part from others.first (length states) (length others.periods.items) (length mine.periods.items) (length others.periods.items) (alls states) (alls states') (alls ports) (alls ports') next next' items items' flag steps steps' count refl
      (did_of m w' others.wiring others.periods.items mine.first t part from others.first (length states) (length others.periods.items) (alls states) (alls states') (alls ports) (alls ports') next next' items items' flag steps steps'
      (subst (λ (x : Side S). side_places (alls states') (alls ports') ≡ whole_side (pass m w' (chosen Due (half_of mine.first (length states) next) t) t x)) h places)
      (subst (λ (x : Side S). IsTable (half_of mine.first (length states) next') (λ i. next_after m t (outcome m w' (chosen Due (half_of mine.first (length states) next) t) t x i) (next_at_place (half_of mine.first (length states) next) i)) (length x.states)) h own)
      (subst (λ p. IsTable (times_of others next') (λ j. woken (changed part p (somes (alls ports')) others.wiring j) (edge_of others from j) (next_at_place (times_of others next) j)) (length others.periods.items)) (sym (somes-alls ports))
      (subst (λ p. IsTable (times_of others next') (λ j. woken (changed part ports p others.wiring j) (edge_of others from j) (next_at_place (times_of others next) j)) (length others.periods.items)) (sym (somes-alls ports')) woke))
      (subst (λ (x : Side S). items' ≡ items ++ records m w' (chosen Due (half_of mine.first (length states) next) t) t x mine.first) h records_are)
      (subst (λ (x : Side S). flag ≡ stirs m w' (chosen Due (half_of mine.first (length states) next) t) t x) h flag_is)
      (subst (λ (x : Side S). steps' ≡ steps + steps_of m w' (chosen Due (half_of mine.first (length states) next) t) t x) h steps_are)))

  abbrev Parted : Machine S → SideGear → SideGear → ℕ → List S → List S → List PortView → List PortView → List (Option Time) → List (Option Time) → List Record → List Record → Bool → ℕ → ℕ → Type 0
  Parted p a b t parts parts1 ports ports1 next next1 items items1 flag steps steps1 = Did p a.wiring b.wiring b.periods.items a.first t false t b.first (length a.periods.items) (length b.periods.items) (alls parts) (alls parts1) (alls ports) (alls ports1) next next1 items items1 flag steps steps1

  abbrev Linked : Machine S → SideGear → SideGear → ℕ → List S → List S → List PortView → List PortView → List (Option Time) → List (Option Time) → List Record → List Record → Bool → ℕ → ℕ → Type 0
  Linked n a b t links links2 ports1 ports2 next1 next2 items1 items2 flag steps1 steps2 = Did n b.wiring a.wiring a.periods.items b.first t true (t + 1) a.first (length b.periods.items) (length a.periods.items) (alls links) (alls links2) (alls ports1) (alls ports2) next1 next2 items1 items2 flag steps1 steps2

  at_zero : (p : Machine S) (a b : SideGear) (all t : ℕ) (parts parts1 : List S) (ports ports1 : List PortView) (next next1 : List (Option Time)) (items items1 : List Record) (flag : Bool) (steps steps1 : ℕ) → AreInOrder a b all → Parted p a b t parts parts1 ports ports1 next next1 items items1 flag steps steps1 →
      items1 ≡ items ++ records p a.wiring (chosen Due (times_of a next) t) t (side_of (alls parts) (alls ports)) 0
  at_zero p a b all t parts parts1 ports ports1 next next1 items items1 flag steps steps1 order did =
      did.records_are ∙ ap (λ k. items ++ records p a.wiring (chosen Due (times_of a next) t) t (side_of (alls parts) (alls ports)) k) order.start

module _ {P N : Type 0} where
  -- what the parts' pass asks
  pub first_asks : (p : Machine P) (n : Machine N) (start : Start P N) (vp : P → Type 0) (vn : N → Type 0) (room items t : ℕ) (a b : SideGear) (parts : List P) (links : List N) (ports : List PortView) (next : List (Option Time)) →
      Fitted (run_of p n a b start) vp vn room room a.periods.items b.periods.items → IsBoundary (run_of p n a b start) t (whole parts links ports) (times_of a next) (times_of b next) → AreInOrder a b (length next) → t ≤ LATEST_TIME →
      items + 64 * (own_to a.wiring (length start.world.parts) + own_to b.wiring (length start.world.links)) ≤ room →
      RowAsks p vp a.wiring parts ports room items a b next
  first_asks p n start vp vn room items t a b parts links ports next fitted was order small enough =
      row_asks p vp a.wiring parts ports room items 0 a b next
      (primary_asks (run_of p n a b start) vp vn room room items t a.periods.items b.periods.items (whole parts links ports) (times_of a next) (times_of b next) fitted was small enough)
      (sym order.start) (omega (arith, order.together)) (omega (arith, order.then, fitted.few, fitted.part_count, fitted.link_count)) (omega (arith, order.start, order.then, order.together)) (inl (omega (arith, order.start, order.then)))

  mid_is : (p : Machine P) (n : Machine N) (start : Start P N) (vp : P → Type 0) (vn : N → Type 0) (room t : ℕ) (a b : SideGear) (parts parts1 : List P) (links : List N) (ports ports1 : List PortView) (next next1 : List (Option Time)) (items items1 : List Record) (flag : Bool) (steps steps1 : ℕ) →
      Fitted (run_of p n a b start) vp vn room room a.periods.items b.periods.items → IsBoundary (run_of p n a b start) t (whole parts links ports) (times_of a next) (times_of b next) → t ≤ LATEST_TIME →
      Parted p a b t parts parts1 ports ports1 next next1 items items1 flag steps steps1 →
      IsMid (run_of p n a b start) t (whole parts1 links ports1) (times_of a next1) (times_of b next1)
  mid_is p n start vp vn room t a b parts parts1 links ports ports1 next next1 items items1 flag steps steps1 fitted was small did =
      to_mid Due (run_of p n a b start) vp vn room room t a.periods.items b.periods.items (whole parts links ports) (times_of a next) (times_of b next) (times_of a next1) (times_of b next1) (alls parts1) (alls ports1) fitted small was did.places did.own did.woke

  -- what the links' pass asks then
  pub second_asks : (p : Machine P) (n : Machine N) (start : Start P N) (vp : P → Type 0) (vn : N → Type 0) (room room1 t : ℕ) (a b : SideGear) (w : Wires) (parts parts1 : List P) (links : List N) (ports ports1 : List PortView) (next next1 : List (Option Time)) (items items1 : List Record) (flag : Bool) (steps steps1 : ℕ) →
      Fitted (run_of p n a b start) vp vn room room a.periods.items b.periods.items → IsBoundary (run_of p n a b start) t (whole parts links ports) (times_of a next) (times_of b next) → AreInOrder a b (length next) → t ≤ LATEST_TIME →
      length items + 64 * (own_to a.wiring (length start.world.parts) + own_to b.wiring (length start.world.links)) ≤ room →
      Parted p a b t parts parts1 ports ports1 next next1 items items1 flag steps steps1 → b.wiring ≡ w → room1 ≡ room → length next1 ≡ length next →
      RowAsks n vn w links ports1 room1 (length items1) b a next1
  second_asks p n start vp vn room room1 t a b w parts parts1 links ports ports1 next next1 items items1 flag steps steps1 fitted was order small enough did wires same all =
      let mid = mid_is p n start vp vn room t a b parts parts1 links ports ports1 next next1 items items1 flag steps steps1 fitted was small did in
      let asked = then_asks Due (run_of p n a b start) vp vn room room t b.first room1 room1 a.periods.items b.periods.items (whole parts links ports) (times_of a next) (times_of b next) (times_of a next1) (times_of b next1) (alls parts1) (alls ports1) items items1 fitted small was enough (order.then ∙ fitted.part_count) same same (at_zero p a b (length next) t parts parts1 ports ports1 next next1 items items1 flag steps steps1 order did) mid in
      subst (λ x. RowAsks n vn x links ports1 room1 (length items1) b a next1) wires
      (row_asks n vn b.wiring links ports1 room1 (length items1) b.first b a next1 asked refl (omega (arith, order.start, order.then, order.together, all)) (omega (arith, order.start, fitted.few, fitted.part_count)) (omega (arith, order.together, all)) (inr (omega (arith, order.start, order.then))))

  -- both passes make a time of the run
  pub record TimeDone (p : Machine P) (n : Machine N) (start : Start P N) (t : ℕ) (a b : SideGear) (parts1 : List P) (links2 : List N) (ports2 : List PortView) (next2 : List (Option Time)) (items items2 : List Record) (flag1 flag2 : Bool) (steps steps2 : ℕ) : Type 0 where
    pub boundary : IsBoundary (run_of p n a b start) (t + 1) (whole parts1 links2 ports2) (times_of a next2) (times_of b next2)
    pub records_are : items2 ≡ items ++ records_at_time (run_of p n a b start) t
    pub flag_is : (flag1 || flag2) ≡ stirs_at (run_of p n a b start) t
    pub steps_are : steps2 ≡ steps + awake_now (run_of p n a b start) t

  pub time_done : (p : Machine P) (n : Machine N) (start : Start P N) (vp : P → Type 0) (vn : N → Type 0) (room t : ℕ) (a b : SideGear) (parts parts1 : List P) (links links2 : List N) (ports ports1 ports2 : List PortView) (next next1 next2 : List (Option Time)) (items items1 items2 : List Record) (flag1 flag2 : Bool) (steps steps1 steps2 : ℕ) →
      Fitted (run_of p n a b start) vp vn room room a.periods.items b.periods.items → IsBoundary (run_of p n a b start) t (whole parts links ports) (times_of a next) (times_of b next) → AreInOrder a b (length next) → t ≤ LATEST_TIME →
      Parted p a b t parts parts1 ports ports1 next next1 items items1 flag1 steps steps1 →
      Linked n a b t links links2 ports1 ports2 next1 next2 items1 items2 flag2 steps1 steps2 →
      TimeDone p n start t a b parts1 links2 ports2 next2 items items2 flag1 flag2 steps steps2
  time_done p n start vp vn room t a b parts parts1 links links2 ports ports1 ports2 next next1 next2 items items1 items2 flag1 flag2 steps steps1 steps2 fitted was order small did then =
      let r = run_of p n a b start in
      let mid = mid_is p n start vp vn room t a b parts parts1 links ports ports1 next next1 items items1 flag1 steps steps1 fitted was small did in
      let one = primary_gave Due r vp vn t (whole parts links ports) (times_of a next) (times_of b next) fitted.set_up small was in
      let two = secondary_gave Due r vp vn t (whole parts1 links ports1) (times_of a next1) (times_of b next1) fitted.set_up small mid in
      record {
        boundary = to_next Due r vp vn room room t a.periods.items b.periods.items (whole parts1 links ports1) (times_of a next1) (times_of b next1) (times_of a next2) (times_of b next2) (alls links2) (alls ports2) fitted small mid then.places then.own then.woke;
        records_are = then.records_are ∙ records_both items items1 _ _ _ _ (at_zero p a b (length next) t parts parts1 ports ports1 next next1 items items1 flag1 steps steps1 order did) one.all_records (ap (λ k. records n b.wiring (chosen Due (times_of b next1) t) t (side_of (alls links) (alls ports1)) k) (order.then ∙ fitted.part_count) ∙ two.all_records);
        flag_is = stirs_both _ _ _ _ (did.flag_is ∙ one.all_stirs) (then.flag_is ∙ two.all_stirs);
        steps_are = steps_both steps steps1 steps2 _ _ _ _ did.steps_are then.steps_are one.all_steps two.all_steps;
      }

module _ {S : Type 0} where
  can_pass : (m : Machine S) (valid : S → Type 0) (mine others : SideGear) (t : ℕ) (old : TurnState S) → RowAsks m valid mine.wiring old.actors old.rows.ports old.recs.room (length old.recs.items) mine others old.next → old.rows.seen ≡ map face_of old.rows.ports → t ≤ LATEST_TIME → CanPass m valid mine others t old
  can_pass m valid mine others t old asks settled small = record {
    fits = asks.fits;
    sound = asks.sound;
    settled = settled;
    enough = asks.enough;
    time = small;
    wakes = asks.wakes;
    sides = asks.sides;
    few = asks.few;
  }

  did_pass : (m : Machine S) (part : Bool) (mine others : SideGear) (t : ℕ) (old new : TurnState S) (flag : Bool) → length old.actors ≡ length mine.periods.items → HasPassed m part mine others t old new flag →
      Did m mine.wiring others.wiring others.periods.items mine.first t part (wake_time part t) others.first (length mine.periods.items) (length others.periods.items) (alls old.actors) (alls new.actors) (alls old.rows.ports) (alls new.rows.ports) old.next new.next old.recs.items new.recs.items flag old.steps new.steps
  did_pass m part mine others t old new flag count did =
      did_rows m mine.wiring mine.wiring part t (wake_time part t) mine others old.actors new.actors old.rows.ports new.rows.ports old.next new.next old.recs.items new.recs.items flag old.steps new.steps refl count did.places_are did.noted did.woken_are did.records_are did.flag_is did.steps_are

module _ {P N : Type 0} where
  -- what a time needs, of a world and a gear
  pub record CanTime (p : Machine P) (n : Machine N) (start : Start P N) (vp : P → Type 0) (vn : N → Type 0) (t : ℕ) (w : World P N) (g : RowGear) : Type 0 where
    pub fitted : Fitted (run_of p n g.parts g.links start) vp vn g.recs.room g.recs.room g.parts.periods.items g.links.periods.items
    pub boundary : IsBoundary (run_of p n g.parts g.links start) t (whole w.parts.items w.links.items w.rows.ports) (times_of g.parts g.next) (times_of g.links g.next)
    pub ready : IsReady g (length w.parts.items) (length w.links.items) w.rows
    pub time : t ≤ LATEST_TIME
    pub room : length g.recs.items + 64 * (own_to g.parts.wiring (length start.world.parts) + own_to g.links.wiring (length start.world.links)) ≤ g.recs.room

  asks_first : (p : Machine P) (n : Machine N) (start : Start P N) (vp : P → Type 0) (vn : N → Type 0) (t : ℕ) (w : World P N) (g : RowGear) → CanTime p n start vp vn t w g → RowAsks p vp g.parts.wiring w.parts.items w.rows.ports g.recs.room (length g.recs.items) g.parts g.links g.next
  asks_first p n start vp vn t w g can = first_asks p n start vp vn g.recs.room (length g.recs.items) t g.parts g.links w.parts.items w.links.items w.rows.ports g.next can.fitted can.boundary can.ready.order can.time can.room

  -- the pass of the parts can begin
  pub parts_can : (p : Machine P) (n : Machine N) (start : Start P N) (vp : P → Type 0) (vn : N → Type 0) (t steps : ℕ) (w : World P N) (g : RowGear) → CanTime p n start vp vn t w g → CanPass p vp g.parts g.links t (parts_in w g steps)
  parts_can p n start vp vn t steps w g can = can_pass p vp g.parts g.links t (parts_in w g steps) (asks_first p n start vp vn t w g can) can.ready.settled can.time

  -- what the pass of the parts has done
  pub record PartsPassed (p : Machine P) (t steps : ℕ) (w : World P N) (g : RowGear) (steps' : ℕ) (w' : World P N) (g' : RowGear) (flag : Bool) : Type 0 where
    pub passed : HasPassed p false g.parts g.links t (parts_in w g steps) (parts_in w' g' steps') flag
    pub links : w'.links ≡ w.links
    pub due : length g'.part_due ≡ length g.part_due
    pub stays : GearStays g (record g' { part_due = g.part_due })

  -- what the pass of the links has done
  pub record LinksPassed (n : Machine N) (t steps : ℕ) (w : World P N) (g : RowGear) (steps' : ℕ) (w' : World P N) (g' : RowGear) (flag : Bool) : Type 0 where
    pub passed : HasPassed n true g.links g.parts t (links_in w g steps) (links_in w' g' steps') flag
    pub parts : w'.parts ≡ w.parts
    pub due : length g'.link_due ≡ length g.link_due
    pub stays : GearStays g (record g' { link_due = g.link_due })

  parts_did : (p : Machine P) (n : Machine N) (start : Start P N) (vp : P → Type 0) (vn : N → Type 0) (t steps steps1 : ℕ) (w w1 : World P N) (g g1 : RowGear) (flag : Bool) → CanTime p n start vp vn t w g → PartsPassed p t steps w g steps1 w1 g1 flag →
      Parted p g.parts g.links t w.parts.items w1.parts.items w.rows.ports w1.rows.ports g.next g1.next g.recs.items g1.recs.items flag steps steps1
  parts_did p n start vp vn t steps steps1 w w1 g g1 flag can did =
      did_pass p false g.parts g.links t (parts_in w g steps) (parts_in w1 g1 steps1) flag (asks_first p n start vp vn t w g can).count did.passed

  asks_second : (p : Machine P) (n : Machine N) (start : Start P N) (vp : P → Type 0) (vn : N → Type 0) (t steps steps1 : ℕ) (w w1 : World P N) (g g1 : RowGear) (flag : Bool) → CanTime p n start vp vn t w g → PartsPassed p t steps w g steps1 w1 g1 flag →
      RowAsks n vn g.links.wiring w.links.items w1.rows.ports g1.recs.room (length g1.recs.items) g.links g.parts g1.next
  asks_second p n start vp vn t steps steps1 w w1 g g1 flag can did =
      second_asks p n start vp vn g.recs.room g1.recs.room t g.parts g.links g.links.wiring w.parts.items w1.parts.items w.links.items w.rows.ports w1.rows.ports g.next g1.next g.recs.items g1.recs.items flag steps steps1
      can.fitted can.boundary can.ready.order can.time can.room (parts_did p n start vp vn t steps steps1 w w1 g g1 flag can did) refl did.passed.room did.passed.all_next

  -- then the pass of the links can begin
  pub links_can : (p : Machine P) (n : Machine N) (start : Start P N) (vp : P → Type 0) (vn : N → Type 0) (t steps steps1 : ℕ) (w w1 : World P N) (g g1 : RowGear) (flag : Bool) → CanTime p n start vp vn t w g → PartsPassed p t steps w g steps1 w1 g1 flag →
      CanPass n vn g1.links g1.parts t (links_in w1 g1 steps1)
  links_can p n start vp vn t steps steps1 w w1 g g1 flag can did =
      subst (λ (s : SideGear). CanPass n vn s g1.parts t (links_in w1 g1 steps1)) (sym did.stays.links)
      (subst (λ (s : SideGear). CanPass n vn g.links s t (links_in w1 g1 steps1)) (sym did.stays.parts)
      (can_pass n vn g.links g.parts t (links_in w1 g1 steps1)
      (subst (λ v. RowAsks n vn g.links.wiring v w1.rows.ports g1.recs.room (length g1.recs.items) g.links g.parts g1.next) (sym (ap (λ (v : Vec N Global). v.items) did.links)) (asks_second p n start vp vn t steps steps1 w w1 g g1 flag can did))
      did.passed.settled can.time))

  links_did : (n : Machine N) (t steps1 steps2 : ℕ) (w w1 w2 : World P N) (g g1 g2 : RowGear) (flag : Bool) → length w.links.items ≡ length g.links.periods.items → w1.links ≡ w.links → g1.parts ≡ g.parts → g1.links ≡ g.links → LinksPassed n t steps1 w1 g1 steps2 w2 g2 flag →
      Linked n g.parts g.links t w.links.items w2.links.items w1.rows.ports w2.rows.ports g1.next g2.next g1.recs.items g2.recs.items flag steps1 steps2
  links_did n t steps1 steps2 w w1 w2 g g1 g2 flag count same parts links did =
      let own : HasPassed n true g.links g1.parts t (links_in w1 g1 steps1) (links_in w2 g2 steps2) flag = subst (λ (s : SideGear). HasPassed n true s g1.parts t (links_in w1 g1 steps1) (links_in w2 g2 steps2) flag) links did.passed in
      let both : HasPassed n true g.links g.parts t (links_in w1 g1 steps1) (links_in w2 g2 steps2) flag = subst (λ (s : SideGear). HasPassed n true g.links s t (links_in w1 g1 steps1) (links_in w2 g2 steps2) flag) parts own in
      let long : length w1.links.items ≡ length g.links.periods.items = ap (λ (v : Vec N Global). length v.items) same ∙ count in
      subst (λ (v : Vec N Global). Linked n g.parts g.links t v.items w2.links.items w1.rows.ports w2.rows.ports g1.next g2.next g1.recs.items g2.recs.items flag steps1 steps2) same
      (did_pass n true g.links g.parts t (links_in w1 g1 steps1) (links_in w2 g2 steps2) flag long both)

  -- both passes make a time of the run
  pub time_passed : (p : Machine P) (n : Machine N) (start : Start P N) (vp : P → Type 0) (vn : N → Type 0) (t steps steps1 steps2 : ℕ) (w w1 w2 : World P N) (g g1 g2 : RowGear) (flag1 flag2 : Bool) → CanTime p n start vp vn t w g → PartsPassed p t steps w g steps1 w1 g1 flag1 → LinksPassed n t steps1 w1 g1 steps2 w2 g2 flag2 →
      TimeDone p n start t g.parts g.links w2.parts.items w2.links.items w2.rows.ports g2.next g.recs.items g2.recs.items flag1 flag2 steps steps2
  time_passed p n start vp vn t steps steps1 steps2 w w1 w2 g g1 g2 flag1 flag2 can one two =
      let count : length w.links.items ≡ length g.links.periods.items = (asks_second p n start vp vn t steps steps1 w w1 g g1 flag1 can one).count in
      subst (λ (v : Vec P Global). TimeDone p n start t g.parts g.links v.items w2.links.items w2.rows.ports g2.next g.recs.items g2.recs.items flag1 flag2 steps steps2) (sym two.parts)
      (time_done p n start vp vn g.recs.room t g.parts g.links w.parts.items w1.parts.items w.links.items w2.links.items w.rows.ports w1.rows.ports w2.rows.ports g.next g1.next g2.next g.recs.items g1.recs.items g2.recs.items flag1 flag2 steps steps1 steps2 can.fitted can.boundary can.ready.order can.time
      (parts_did p n start vp vn t steps steps1 w w1 g g1 flag1 can one) (links_did n t steps1 steps2 w w1 w2 g g1 g2 flag2 count one.links one.stays.parts one.stays.links two))
