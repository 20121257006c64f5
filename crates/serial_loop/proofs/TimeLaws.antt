-- Both passes over everybody make a time of the run.
use Rattle.std.proofs.Common.{◌≡◌, ℕ, ◌+◌, ◌*◌, ◌^◌, ◌<◌, ◌≤◌, List, [], ◌++◌, Vec, Global, length, map, refl, sym, ◌∙◌, ap, subst, arith}
use Rattle.std.specs.Prelude.{Option, Bool, true, false, ◌||◌}
use Rattle.std.proofs.lemmas.List.{length-map}
use Rattle.sim_base.specs.declared.time.TheConstants.{LATEST_TIME}
use Rattle.port_msg.specs.PortView.{PortView}
use Rattle.port_msg.specs.RecView.{RecView}
use Rattle.port_msg.specs.declared.records.Record.{Record}
use Rattle.tick_law.specs.Machine.{Machine}
use Rattle.tick_law.specs.WorldPlaces.{alls, somes}
use Rattle.tick_law.specs.Wires.{Wires, own_of, Wired}
use Rattle.tick_law.specs.Pass.{Side, port_at, pass, everyone}
use Rattle.tick_law.specs.SerialLoop.{Start, System, records_at_time, stirs_at, edges_at}
use Rattle.tick_law.specs.PlanView.{PlanView, part_wires, link_wires, system_from}
use Rattle.tick_law.specs.Outcomes.{outcome, records, stirs, steps_of}
use Rattle.tick_law.specs.NextTime.{woken}
use Rattle.tick_law.specs.Course.{any_of}
use Rattle.tick_law.specs.Face.{face_differs}
use Rattle.model_laws.specs.Pass.{side_of, side_places, whole_side}
use Rattle.model_laws.specs.NextTable.{next_after, IsTable, next_at_place}
use Rattle.model_laws.specs.Outcome.{own_to}
use Rattle.model_laws.proofs.PortsPutBack.{somes-alls, length-alls}
use Rattle.model_laws.proofs.TwoPasses.{side_alls}
use Rattle.model_laws.specs.WellFormed.{HasRoom, IsSound, system}
use Rattle.model_laws.proofs.PassAsks.{Asks, primary_asks}
use Rattle.model_laws.specs.Fitted.{Wakes, Fitted}
use Rattle.model_laws.specs.Boundary.{IsBoundary, IsMid}
use Rattle.model_laws.proofs.BothPasses.{primary_gave, secondary_gave, to_mid, to_next, then_asks, records_both, stirs_both, steps_both}
use Rattle.model_laws.specs.Stepping.{Everyone}
use Rattle.model_laws.proofs.WokenByPorts.{any_same}
use Rattle.port_row.specs.Row.{face_at, face_of}
use Rattle.port_row.proofs.RowLaws.{face-map}
use Rattle.port_rows.specs.Rows.{RowsView, other_face}
use Rattle.port_rows.specs.Opening.{AreHands}
use Rattle.port_rows.specs.declared.world.World.{World}
use Rattle.actor_turn.specs.Act.{ActState, side, whole, side_acting, places_acting, parts_acting, links_acting}
use Rattle.actor_turn.specs.Side.{edge_of, AreInOrder}
use Rattle.actor_turn.specs.Waking.{shows_other}
use Rattle.actor_turn.specs.declared.side.SideGear.{SideGear}
use Rattle.actor_turn.proofs.TurnLaws.{differs_so}
use Rattle.actor_turn.proofs.WithinLaws.{ports_long}
use Rattle.run_gear.specs.declared.gear.Gear.{Gear}
use Rattle.run_gear.specs.IsGear.{IsGear}
use Rattle.run_gear.proofs.Boundaries.{system_wired}
use Rattle.serial_loop.specs.declared.table.NextTables.{NextTables}
use Rattle.serial_loop.specs.IsAt.{IsAt}
use Rattle.serial_loop.specs.Pass.{CanPass, HasPassed, GearStays}
use Rattle.serial_loop.specs.Woken.{AreWoken}
use Rattle.serial_loop.proofs.EdgeLaws.{everyone_counts}

-- where all had been seen before, those are woken whose faces changed
faces_seen : (part : Bool) (w : Wires) (before : List PortView) (v : RowsView) (edge : ℕ → ℕ) (start now : List (Option ℕ)) → Wired w (length before) → v.seen ≡ map face_of before →
    IsTable now (λ j. woken (any_of (shows_other part v) (own_of w j)) (edge j) (next_at_place start j)) (length start) →
    IsTable now (λ j. woken (any_of (λ q. face_differs part (port_at (somes (alls before)) q) (port_at (somes (alls v.ports)) q)) (own_of w j)) (edge j) (next_at_place start j)) (length start)
faces_seen part w before v edge start now wired seen is = record {
  long = is.long;
  at = λ j b. is.at j b ∙ ap (λ x. woken x (edge j) (next_at_place start j)) (any_same (shows_other part v) (λ q. face_differs part (port_at (somes (alls before)) q) (port_at (somes (alls v.ports)) q)) (own_of w j) (λ q h. one q (wired.within j q h)));
}
  where
    one : (q : ℕ) → q < length before → shows_other part v q ≡ face_differs part (port_at (somes (alls before)) q) (port_at (somes (alls v.ports)) q)
    one q b =
        ap (λ l. other_face part (face_at l q) (face_of (port_at v.ports q))) seen
        ∙ ap (λ f. other_face part f (face_of (port_at v.ports q))) (face-map before q b)
        ∙ differs_so part (port_at before q) (port_at v.ports q)
        ∙ ap (λ l. face_differs part (port_at l q) (port_at v.ports q)) (sym (somes-alls before))
        ∙ ap (λ l. face_differs part (port_at (somes (alls before)) q) (port_at l q)) (sym (somes-alls v.ports))

-- what the ports show can be noted, and their owners on this side can be woken
pub record CanBeWoken (others : SideGear) (rows : RowsView) (next : List (Option ℕ)) : Type 0 where
  pub wakes : Wakes others.wiring (length rows.ports) others.periods.items next
  pub few : length rows.ports < 2 ^ 32
  pub seen_all : length rows.seen ≡ length rows.ports

-- those whom the ports of these rows show a change are woken, and all is seen then
pub record HaveWoken (part : Bool) (others : SideGear) (from : ℕ) (start next : List (Option ℕ)) (old new : RowsView) : Type 0 where
  pub woken_are : AreWoken part others from old start next
  pub rows_are : new ≡ record old { seen = map face_of old.ports }

module _ {S : Type 0} where
  side_is : (states : List S) (ports : List PortView) → side states ports ≡ side_of (alls states) (alls ports)
  side_is states ports = sym (side_alls (alls states) (alls ports) states ports refl refl)

  -- a pass can begin, and those of the other side can be woken after it
  pub record CanBegin (m : Machine S) (valid : S → Type 0) (mine others : SideGear) (t : ℕ) (old : ActState S) (next wakes_of : List (Option ℕ)) : Type 0 where
    pub can : CanPass m valid mine t old next
    pub few_ports : length old.rows.ports < 2 ^ 32
    pub wakes : Wakes others.wiring (length old.rows.ports) others.periods.items wakes_of

  can_begin : (m : Machine S) (valid : S → Type 0) (mine others : SideGear) (t : ℕ) (old : ActState S) (next wakes_of : List (Option ℕ)) → t ≤ LATEST_TIME →
      Asks m valid mine.wiring (places_acting old) next mine.first old.recs.room old.recs.room (length old.recs.items) others.wiring others.periods.items wakes_of → CanBegin m valid mine others t old next wakes_of
  can_begin m valid mine others t old next wakes_of small asks =
      let w = mine.wiring in
      let room = old.recs.room in
      let h = sym (side_is old.actors old.rows.ports) in
      let long : length (side_of (alls old.actors) (alls old.rows.ports)).states ≡ length old.actors = ap (λ (x : Side S). length x.states) h in
      record {
        can = record {
          fits = subst (λ (x : Side S). HasRoom S m w x room room) h asks.fits;
          sound = subst (λ (x : Side S). IsSound m valid w x) h asks.sound;
          all_next = asks.long ∙ long;
          few = (let a = asks.few in omega (arith, a, long));
          time = small;
          enough = subst (λ n. length old.recs.items + 64 * own_to w n ≤ room) long asks.enough;
        };
        few_ports = (let a = asks.few_ports in omega (arith, a, length-alls old.rows.ports));
        wakes = subst (λ n. Wakes others.wiring n others.periods.items wakes_of) (length-alls old.rows.ports) asks.wakes;
      }

  -- after a pass the other side can be woken
  pub can_be_woken : (m : Machine S) (valid : S → Type 0) (mine others others' : SideGear) (t : ℕ) (old new : ActState S) (next next1 wakes_of : List (Option ℕ)) (flag : Bool) → CanBegin m valid mine others t old next wakes_of → HasPassed m mine t old next new next1 flag → old.rows.seen ≡ map face_of old.rows.ports → others' ≡ others → CanBeWoken others' new.rows wakes_of
  can_be_woken m valid mine others others' t old new next next1 wakes_of flag begin did settled e =
      let long = ports_long m mine.wiring everyone t old.actors new.actors old.rows.ports new.rows.ports did.places_are in
      record {
        wakes = subst (λ (s : SideGear). Wakes s.wiring (length new.rows.ports) s.periods.items wakes_of) (sym e) (subst (λ n. Wakes others.wiring n others.periods.items wakes_of) (sym long) begin.wakes);
        few = (let f = begin.few_ports in omega (arith, f, long));
        seen_all = ap length (did.seen ∙ settled) ∙ length-map old.rows.ports face_of ∙ sym long;
      }

  -- what a pass did, where each stands in its place
  record Did (m : Machine S) (mine : SideGear) (t base : ℕ) (old : ActState S) (start : List (Option ℕ)) (new : ActState S) (rows : RowsView) (next : List (Option ℕ)) (flag : Bool) : Type 0 where
    pub places : side_places (alls new.actors) (alls rows.ports) ≡ whole_side (pass m mine.wiring everyone t (side_of (alls old.actors) (alls old.rows.ports)))
    pub own : IsTable next (λ i. next_after m t (outcome m mine.wiring everyone t (side_of (alls old.actors) (alls old.rows.ports)) i) (next_at_place start i)) (length (side_of (alls old.actors) (alls old.rows.ports)).states)
    pub records_are : new.recs.items ≡ old.recs.items ++ records m mine.wiring everyone t (side_of (alls old.actors) (alls old.rows.ports)) base
    pub flag_is : flag ≡ stirs m mine.wiring everyone t (side_of (alls old.actors) (alls old.rows.ports))
    pub steps_are : new.steps ≡ old.steps + steps_of m mine.wiring everyone t (side_of (alls old.actors) (alls old.rows.ports))

  did_so : (m : Machine S) (mine : SideGear) (t base : ℕ) (old new : ActState S) (rows : RowsView) (start next : List (Option ℕ)) (flag : Bool) → mine.first ≡ base → rows.ports ≡ new.rows.ports → HasPassed m mine t old start new next flag → Did m mine t base old start new rows next flag
  did_so m mine t base old new rows start next flag e ports did =
      let w = mine.wiring in
      let h = side_is old.actors old.rows.ports in
      record {
        places = ap (λ l. side_places (alls new.actors) (alls l)) ports ∙ did.places_are ∙ ap (λ (x : Side S). whole_side (pass m w everyone t x)) h;
        own = subst (λ (x : Side S). IsTable next (λ i. next_after m t (outcome m w everyone t x i) (next_at_place start i)) (length x.states)) h did.noted;
        records_are = did.records_are ∙ ap (λ n. old.recs.items ++ records m w everyone t (side_acting old) n) e ∙ ap (λ (x : Side S). old.recs.items ++ records m w everyone t x base) h;
        flag_is = did.flag_is ∙ ap (λ (x : Side S). stirs m w everyone t x) h;
        steps_are = did.steps_are ∙ ap (λ (x : Side S). old.steps + steps_of m w everyone t x) h;
      }

-- those are woken whose faces changed, where the ports stand in their places
faces_changed : (part : Bool) (others others' : SideGear) (from : ℕ) (before : List PortView) (start next : List (Option ℕ)) (old new : RowsView) → others' ≡ others → Wired others.wiring (length before) → old.seen ≡ map face_of before → HaveWoken part others' from start next old new →
    IsTable next (λ j. woken (any_of (λ q. face_differs part (port_at (somes (alls before)) q) (port_at (somes (alls new.ports)) q)) (own_of others.wiring j)) (edge_of others from j) (next_at_place start j)) (length start)
faces_changed part others others' from before start next old new e wired seen woke =
    subst (λ l. IsTable next (λ j. woken (any_of (λ q. face_differs part (port_at (somes (alls before)) q) (port_at (somes (alls l)) q)) (own_of others.wiring j)) (edge_of others from j) (next_at_place start j)) (length start)) (sym (ap (λ (v : RowsView). v.ports) woke.rows_are))
    (faces_seen part others.wiring before old (edge_of others from) start next wired seen
    (subst (λ (s : SideGear). AreWoken part s from old start next) e woke.woken_are))

module _ {P N : Type 0} where
  -- the run of the machines of two sides from a start
  abbrev pub run_of : Machine P → Machine N → Gear → Start P N → System P N
  run_of mp mn g start = system mp mn g.parts.wiring g.links.wiring start

  -- a world with other rows
  abbrev pub with_rows : World P N → RowsView → World P N
  with_rows w rows = record w { rows = rows }

  -- what a time needs
  pub record CanTick (mp : Machine P) (mn : Machine N) (vp : P → Type 0) (vn : N → Type 0) (start : Start P N) (t : ℕ) (w : World P N) (g : Gear) (pn ln : List (Option ℕ)) : Type 0 where
    pub fitted : Fitted (run_of mp mn g start) vp vn g.recs.room g.recs.room g.parts.periods.items g.links.periods.items
    pub boundary : IsBoundary (run_of mp mn g start) t (whole w.parts.items w.links.items w.rows.ports) pn ln
    pub parts_first : g.parts.first ≡ 0
    pub links_first : g.links.first ≡ length start.world.parts
    pub settled : w.rows.seen ≡ map face_of w.rows.ports
    pub wires : g.links.wiring ≡ w.rows.wires
    pub time : t ≤ LATEST_TIME
    pub enough : length g.recs.items + 64 * (own_to g.parts.wiring (length start.world.parts) + own_to g.links.wiring (length start.world.links)) ≤ g.recs.room

  -- a gear of the run whose records are cleared, at a boundary
  pub can_tick : (mp : Machine P) (mn : Machine N) (vp : P → Type 0) (vn : N → Type 0) (plan : PlanView P N) (start : Start P N) (t : ℕ) (w : World P N) (g : Gear) (recs : RecView) (next : NextTables) → IsGear mp mn vp vn plan start g → IsAt mp mn plan start t w next → t ≤ LATEST_TIME → recs ≡ record g.recs { items = [] } → (cleared : Gear) → cleared.parts ≡ g.parts → cleared.links ≡ g.links → cleared.recs ≡ recs → CanTick mp mn vp vn start t w cleared next.parts next.links
  can_tick mp mn vp vn plan start t w g recs next is at small none cleared parts links same =
      let room_is : cleared.recs.room ≡ g.recs.room = ap (λ (r : RecView). r.room) (same ∙ none) in
      let pw : cleared.parts.wiring ≡ part_wires plan = ap (λ (s : SideGear). s.wiring) parts ∙ is.part_wires_are in
      let lw : cleared.links.wiring ≡ link_wires plan = ap (λ (s : SideGear). s.wiring) links ∙ is.link_wires_are in
      let r = sym (system_wired mp mn plan cleared.parts.wiring cleared.links.wiring start pw lw) in
      record {
        fitted = subst (λ x. Fitted x vp vn cleared.recs.room cleared.recs.room cleared.parts.periods.items cleared.links.periods.items) r
            (subst (λ n. Fitted (system_from mp mn plan start) vp vn n n cleared.parts.periods.items cleared.links.periods.items) (sym room_is)
            (subst (λ (s : SideGear). Fitted (system_from mp mn plan start) vp vn g.recs.room g.recs.room s.periods.items cleared.links.periods.items) (sym parts)
            (subst (λ (s : SideGear). Fitted (system_from mp mn plan start) vp vn g.recs.room g.recs.room g.parts.periods.items s.periods.items) (sym links) is.fitted)));
        boundary = subst (λ x. IsBoundary x t (whole w.parts.items w.links.items w.rows.ports) next.parts next.links) r at.boundary;
        parts_first = ap (λ (s : SideGear). s.first) parts ∙ is.order.start;
        links_first = ap (λ (s : SideGear). s.first) links ∙ is.order.then ∙ is.fitted.part_count;
        settled = at.settled;
        wires = lw ∙ sym at.wires;
        time = small;
        enough =
            (let e = subst (λ x. 64 * (own_to x (length start.world.parts) + own_to cleared.links.wiring (length start.world.links)) ≤ g.recs.room) (sym pw)
            (subst (λ x. 64 * (own_to (part_wires plan) (length start.world.parts) + own_to x (length start.world.links)) ≤ g.recs.room) (sym lw) is.enough) in
            omega (arith, e, room_is, ap (λ (r : RecView). length r.items) (same ∙ none)));
      }

  -- the pass of the parts can begin
  pub parts_begin : (mp : Machine P) (mn : Machine N) (vp : P → Type 0) (vn : N → Type 0) (start : Start P N) (t steps : ℕ) (w : World P N) (g : Gear) (pn ln : List (Option ℕ)) → CanTick mp mn vp vn start t w g pn ln → CanBegin mp vp g.parts g.links t (parts_acting w g.recs steps) pn ln
  parts_begin mp mn vp vn start t steps w g pn ln can =
      can_begin mp vp g.parts g.links t (parts_acting w g.recs steps) pn ln can.time
      (subst (λ n. Asks mp vp g.parts.wiring (side_places (alls w.parts.items) (alls w.rows.ports)) pn n g.recs.room g.recs.room (length g.recs.items) g.links.wiring g.links.periods.items ln) (sym can.parts_first)
      (primary_asks (run_of mp mn g start) vp vn g.recs.room g.recs.room (length g.recs.items) t g.parts.periods.items g.links.periods.items (whole w.parts.items w.links.items w.rows.ports) pn ln can.fitted can.boundary can.time can.enough))

  -- the parts have had their pass, and have woken links
  pub record PartsTicked (mp : Machine P) (t steps : ℕ) (w : World P N) (g : Gear) (pn ln : List (Option ℕ)) (steps1 : ℕ) (w1 : World P N) (g1 : Gear) (pn1 ln1 : List (Option ℕ)) (rows1 : RowsView) (flag : Bool) : Type 0 where
    pub passed : HasPassed mp g.parts t (parts_acting w g.recs steps) pn (parts_acting w1 g1.recs steps1) pn1 flag
    pub links : w1.links ≡ w.links
    pub stays : GearStays g g1
    pub woke : HaveWoken false g1.links t ln ln1 w1.rows rows1

  parts_did : (mp : Machine P) (mn : Machine N) (vp : P → Type 0) (vn : N → Type 0) (start : Start P N) (t steps steps1 : ℕ) (w w1 : World P N) (g g1 : Gear) (pn ln pn1 ln1 : List (Option ℕ)) (rows1 : RowsView) (flag : Bool) → CanTick mp mn vp vn start t w g pn ln → PartsTicked mp t steps w g pn ln steps1 w1 g1 pn1 ln1 rows1 flag → Did mp g.parts t 0 (parts_acting w g.recs steps) pn (parts_acting w1 g1.recs steps1) rows1 pn1 flag
  parts_did mp mn vp vn start t steps steps1 w w1 g g1 pn ln pn1 ln1 rows1 flag can one =
      did_so mp g.parts t 0 (parts_acting w g.recs steps) (parts_acting w1 g1.recs steps1) rows1 pn pn1 flag can.parts_first (ap (λ (v : RowsView). v.ports) one.woke.rows_are) one.passed

  mid_is : (mp : Machine P) (mn : Machine N) (vp : P → Type 0) (vn : N → Type 0) (start : Start P N) (t steps steps1 : ℕ) (w w1 : World P N) (g g1 : Gear) (pn ln pn1 ln1 : List (Option ℕ)) (rows1 : RowsView) (flag : Bool) → CanTick mp mn vp vn start t w g pn ln → PartsTicked mp t steps w g pn ln steps1 w1 g1 pn1 ln1 rows1 flag → IsMid (run_of mp mn g start) t (whole w1.parts.items w.links.items rows1.ports) pn1 ln1
  mid_is mp mn vp vn start t steps steps1 w w1 g g1 pn ln pn1 ln1 rows1 flag can one =
      let did = parts_did mp mn vp vn start t steps steps1 w w1 g g1 pn ln pn1 ln1 rows1 flag can one in
      let begin = parts_begin mp mn vp vn start t steps w g pn ln can in
      to_mid Everyone (run_of mp mn g start) vp vn g.recs.room g.recs.room t g.parts.periods.items g.links.periods.items (whole w.parts.items w.links.items w.rows.ports) pn ln pn1 ln1 (alls w1.parts.items) (alls rows1.ports) can.fitted can.time can.boundary did.places did.own
      (faces_changed false g.links g1.links t w.rows.ports ln ln1 w1.rows rows1 one.stays.links begin.wakes.wired (one.passed.seen ∙ can.settled) one.woke)

  -- then the pass of the links can begin
  pub links_begin : (mp : Machine P) (mn : Machine N) (vp : P → Type 0) (vn : N → Type 0) (start : Start P N) (t steps steps1 : ℕ) (w w1 : World P N) (g g1 : Gear) (pn ln pn1 ln1 : List (Option ℕ)) (rows1 : RowsView) (flag : Bool) → CanTick mp mn vp vn start t w g pn ln → PartsTicked mp t steps w g pn ln steps1 w1 g1 pn1 ln1 rows1 flag →
      CanBegin mn vn g.links g.parts t (links_acting (with_rows w1 rows1) g1.recs steps1) ln1 pn1
  links_begin mp mn vp vn start t steps steps1 w w1 g g1 pn ln pn1 ln1 rows1 flag can one =
      let did = parts_did mp mn vp vn start t steps steps1 w w1 g g1 pn ln pn1 ln1 rows1 flag can one in
      let mid = mid_is mp mn vp vn start t steps steps1 w w1 g g1 pn ln pn1 ln1 rows1 flag can one in
      let asks = then_asks Everyone (run_of mp mn g start) vp vn g.recs.room g.recs.room t g.links.first g1.recs.room g1.recs.room g.parts.periods.items g.links.periods.items (whole w.parts.items w.links.items w.rows.ports) pn ln pn1 ln1 (alls w1.parts.items) (alls rows1.ports) g.recs.items g1.recs.items can.fitted can.time can.boundary can.enough can.links_first one.passed.room one.passed.room did.records_are mid in
      can_begin mn vn g.links g.parts t (links_acting (with_rows w1 rows1) g1.recs steps1) ln1 pn1 can.time
      (subst (λ (v : Vec N Global). Asks mn vn g.links.wiring (side_places (alls v.items) (alls rows1.ports)) ln1 g.links.first g1.recs.room g1.recs.room (length g1.recs.items) g.parts.wiring g.parts.periods.items pn1) (sym one.links) asks)

  -- what the parts' pass left is settled
  pub then_settled : (mp : Machine P) (t steps steps1 : ℕ) (w w1 : World P N) (g g1 : Gear) (pn ln pn1 ln1 : List (Option ℕ)) (rows1 : RowsView) (flag : Bool) → PartsTicked mp t steps w g pn ln steps1 w1 g1 pn1 ln1 rows1 flag → rows1.seen ≡ map face_of rows1.ports
  then_settled mp t steps steps1 w w1 g g1 pn ln pn1 ln1 rows1 flag one = ap (λ (v : RowsView). v.seen) one.woke.rows_are ∙ sym (ap (λ (v : RowsView). map face_of v.ports) one.woke.rows_are)

  -- the links have had their pass, and have woken parts
  pub record LinksTicked (mn : Machine N) (t steps1 : ℕ) (w1 : World P N) (rows1 : RowsView) (g g1 : Gear) (pn1 ln1 : List (Option ℕ)) (steps2 : ℕ) (w2 : World P N) (g2 : Gear) (pn2 ln2 : List (Option ℕ)) (rows2 : RowsView) (flag : Bool) : Type 0 where
    pub passed : HasPassed mn g1.links t (links_acting (with_rows w1 rows1) g1.recs steps1) ln1 (links_acting w2 g2.recs steps2) ln2 flag
    pub parts : w2.parts ≡ w1.parts
    pub stays : GearStays g1 g2
    pub woke : HaveWoken true g2.parts (t + 1) pn1 pn2 w2.rows rows2

  -- a time of the run
  pub record TimeTicked (mp : Machine P) (mn : Machine N) (start : Start P N) (t : ℕ) (g : Gear) (w2 : World P N) (rows2 : RowsView) (pn2 ln2 : List (Option ℕ)) (items items2 : List Record) (flag1 flag2 : Bool) (steps steps2 : ℕ) : Type 0 where
    pub boundary : IsBoundary (run_of mp mn g start) (t + 1) (whole w2.parts.items w2.links.items rows2.ports) pn2 ln2
    pub records_are : items2 ≡ items ++ records_at_time (run_of mp mn g start) t
    pub flag_is : (flag1 || flag2) ≡ stirs_at (run_of mp mn g start) t
    pub steps_are : steps2 ≡ steps + edges_at (run_of mp mn g start) t

  pub time_ticked : (mp : Machine P) (mn : Machine N) (vp : P → Type 0) (vn : N → Type 0) (start : Start P N) (t steps steps1 steps2 : ℕ) (w w1 w2 : World P N) (g g1 g2 : Gear) (pn ln pn1 ln1 pn2 ln2 : List (Option ℕ)) (rows1 rows2 : RowsView) (flag1 flag2 : Bool) → CanTick mp mn vp vn start t w g pn ln → PartsTicked mp t steps w g pn ln steps1 w1 g1 pn1 ln1 rows1 flag1 → LinksTicked mn t steps1 w1 rows1 g g1 pn1 ln1 steps2 w2 g2 pn2 ln2 rows2 flag2 →
      TimeTicked mp mn start t g w2 rows2 pn2 ln2 g.recs.items g2.recs.items flag1 flag2 steps steps2
  time_ticked mp mn vp vn start t steps steps1 steps2 w w1 w2 g g1 g2 pn ln pn1 ln1 pn2 ln2 rows1 rows2 flag1 flag2 can one two =
      let r = run_of mp mn g start in
      let room = g.recs.room in
      let mid0 = mid_is mp mn vp vn start t steps steps1 w w1 g g1 pn ln pn1 ln1 rows1 flag1 can one in
      let mid : IsMid r t (whole w1.parts.items w1.links.items rows1.ports) pn1 ln1 = subst (λ (v : Vec N Global). IsMid r t (whole w1.parts.items v.items rows1.ports) pn1 ln1) (sym one.links) mid0 in
      let did = parts_did mp mn vp vn start t steps steps1 w w1 g g1 pn ln pn1 ln1 rows1 flag1 can one in
      let old2 = links_acting (with_rows w1 rows1) g1.recs steps1 in
      let new2 = links_acting w2 g2.recs steps2 in
      let passed : HasPassed mn g.links t old2 ln1 new2 ln2 flag2 = subst (λ (s : SideGear). HasPassed mn s t old2 ln1 new2 ln2 flag2) one.stays.links two.passed in
      let then = did_so mn g.links t (length start.world.parts) old2 new2 rows2 ln1 ln2 flag2 can.links_first (ap (λ (v : RowsView). v.ports) two.woke.rows_are) passed in
      let begin = links_begin mp mn vp vn start t steps steps1 w w1 g g1 pn ln pn1 ln1 rows1 flag1 can one in
      let settled = then_settled mp t steps steps1 w w1 g g1 pn ln pn1 ln1 rows1 flag1 one in
      let gave = primary_gave Everyone r vp vn t (whole w.parts.items w.links.items w.rows.ports) pn ln can.fitted.set_up can.time can.boundary in
      let gave2 = secondary_gave Everyone r vp vn t (whole w1.parts.items w1.links.items rows1.ports) pn1 ln1 can.fitted.set_up can.time mid in
      record {
        boundary = subst (λ (v : Vec P Global). IsBoundary r (t + 1) (whole v.items w2.links.items rows2.ports) pn2 ln2) (sym two.parts)
            (to_next Everyone r vp vn room room t g.parts.periods.items g.links.periods.items (whole w1.parts.items w1.links.items rows1.ports) pn1 ln1 pn2 ln2 (alls w2.links.items) (alls rows2.ports) can.fitted can.time mid then.places then.own
            (faces_changed true g.parts g2.parts (t + 1) rows1.ports pn1 pn2 w2.rows rows2 (two.stays.parts ∙ one.stays.parts) begin.wakes.wired (passed.seen ∙ settled) two.woke));
        records_are = then.records_are ∙ records_both g.recs.items g1.recs.items _ _ _ _ did.records_are gave.all_records gave2.all_records;
        flag_is = stirs_both _ _ _ _ (did.flag_is ∙ gave.all_stirs) (then.flag_is ∙ gave2.all_stirs);
        steps_are = steps_both steps steps1 steps2 _ _ _ _ did.steps_are then.steps_are gave.all_steps gave2.all_steps ∙ ap (λ n. steps + n) (everyone_counts r t can.boundary.begun);
      }

  -- the same of the run of a plan
  pub record IsTicked (r : System P N) (t : ℕ) (w2 : World P N) (rows2 : RowsView) (pn2 ln2 : List (Option ℕ)) (items2 : List Record) (flag1 flag2 : Bool) (steps steps2 : ℕ) : Type 0 where
    pub boundary : IsBoundary r (t + 1) (whole w2.parts.items w2.links.items rows2.ports) pn2 ln2
    pub records_are : items2 ≡ records_at_time r t
    pub flag_is : (flag1 || flag2) ≡ stirs_at r t
    pub steps_are : steps2 ≡ steps + edges_at r t

  pub run_ticked : (mp : Machine P) (mn : Machine N) (vp : P → Type 0) (vn : N → Type 0) (plan : PlanView P N) (start : Start P N) (t steps steps1 steps2 : ℕ) (w w1 w2 : World P N) (g g1 g2 : Gear) (pn ln pn1 ln1 pn2 ln2 : List (Option ℕ)) (rows1 rows2 : RowsView) (flag1 flag2 : Bool) → g.parts.wiring ≡ part_wires plan → g.links.wiring ≡ link_wires plan → g.recs.items ≡ [] →
      CanTick mp mn vp vn start t w g pn ln → PartsTicked mp t steps w g pn ln steps1 w1 g1 pn1 ln1 rows1 flag1 → LinksTicked mn t steps1 w1 rows1 g g1 pn1 ln1 steps2 w2 g2 pn2 ln2 rows2 flag2 →
      IsTicked (system_from mp mn plan start) t w2 rows2 pn2 ln2 g2.recs.items flag1 flag2 steps steps2
  run_ticked mp mn vp vn plan start t steps steps1 steps2 w w1 w2 g g1 g2 pn ln pn1 ln1 pn2 ln2 rows1 rows2 flag1 flag2 pw lw none can one two =
      let did = time_ticked mp mn vp vn start t steps steps1 steps2 w w1 w2 g g1 g2 pn ln pn1 ln1 pn2 ln2 rows1 rows2 flag1 flag2 can one two in
      let r : run_of mp mn g start ≡ system_from mp mn plan start = system_wired mp mn plan g.parts.wiring g.links.wiring start pw lw in
      record {
        boundary = subst (λ x. IsBoundary x (t + 1) (whole w2.parts.items w2.links.items rows2.ports) pn2 ln2) r did.boundary;
        records_are = did.records_are ∙ ap (λ l. l ++ records_at_time (run_of mp mn g start) t) none ∙ ap (λ x. records_at_time x t) r;
        flag_is = did.flag_is ∙ ap (λ x. stirs_at x t) r;
        steps_are = did.steps_are ∙ ap (λ x. steps + edges_at x t) r;
      }

  -- a gear whose sides, hands and room stay is a run's still
  pub is_gear_still : (mp : Machine P) (mn : Machine N) (vp : P → Type 0) (vn : N → Type 0) (plan : PlanView P N) (start : Start P N) (g new : Gear) → IsGear mp mn vp vn plan start g → new.parts ≡ g.parts → new.links ≡ g.links → new.hands.items ≡ g.hands.items → new.recs.room ≡ g.recs.room → IsGear mp mn vp vn plan start new
  is_gear_still mp mn vp vn plan start g new is parts links hands room = record {
    part_wires_are = ap (λ (s : SideGear). s.wiring) parts ∙ is.part_wires_are;
    link_wires_are = ap (λ (s : SideGear). s.wiring) links ∙ is.link_wires_are;
    order = subst (λ (s : SideGear). AreInOrder s new.links (length start.world.parts + length start.world.links)) (sym parts)
        (subst (λ (s : SideGear). AreInOrder g.parts s (length start.world.parts + length start.world.links)) (sym links) is.order);
    fitted = subst (λ n. Fitted (system_from mp mn plan start) vp vn n n new.parts.periods.items new.links.periods.items) (sym room)
        (subst (λ (s : SideGear). Fitted (system_from mp mn plan start) vp vn g.recs.room g.recs.room s.periods.items new.links.periods.items) (sym parts)
        (subst (λ (s : SideGear). Fitted (system_from mp mn plan start) vp vn g.recs.room g.recs.room g.parts.periods.items s.periods.items) (sym links) is.fitted));
    hands_are = subst (λ l. AreHands l (part_wires plan) (length start.world.parts)) (sym hands) is.hands_are;
    enough = omega (arith, is.enough, room);
    part_short = is.part_short;
    link_short = is.link_short;
  }
