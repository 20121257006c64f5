-- What one actor's step leaves, where actors and ports all stand in their places.
use Rattle.std.proofs.Common.{◌≡◌, ℕ, ◌+◌, ◌<◌, ◌/◌, ◌%◌, ◌++◌, List, [], ◌∷◌, length, get_or, sym, ◌∙◌, ap, subst, arith, refl}
use Rattle.std.specs.Prelude.{Option, Some, None, Bool, true, false, ◌==◌, IsTrue, slice_get, slice_set}
use Rattle.std.proofs.lemmas.Bool.{false≢true, eq-eqb, ne_eqb}
use Rattle.std.proofs.lemmas.Option.{slice_get-get_or}
use Rattle.std.proofs.lemmas.List.{append-nil, set-get_or, length-set}
use Rattle.port_msg.specs.RecView.{RecView, appended_all, records_at}
use Rattle.port_msg.specs.PortView.{PortView, port_view}
use Rattle.tick_law.specs.Machine.{Machine, Outcome}
use Rattle.tick_law.specs.Quiet.{Quiet}
use Rattle.tick_law.specs.Wires.{own_of, Has}
use Rattle.tick_law.specs.WorldPlaces.{SidePlaces, alls, emptied}
use Rattle.tick_law.specs.Pass.{gather, has_edge, port_at}
use Rattle.tick_law.specs.Outcomes.{outcome_if, whats_of, flag_of, charge_of}
use Rattle.model_laws.specs.Pass.{scatter, act_at, act_if, side_places}
use Rattle.model_laws.specs.Outcome.{outcome_at}
use Rattle.model_laws.proofs.PortsPutBack.{put_back, somes-alls}
use Rattle.model_laws.proofs.OnePortMore.{side_places_is}
use Rattle.model_laws.proofs.ActorByActor.{alls_forth, alls_set}
use Rattle.model_laws.proofs.OneMoreActor.{length-scatter, scatter_other}
use Rattle.port_rows.specs.Rows.{RowsView}
use Rattle.actor_turn.specs.declared.side.SideGear.{SideGear}
use Rattle.actor_turn.specs.Act.{ActState, CanAct, HasActed}

module _ {S : Type 0} where
  pub at_place : (states : List S) (i : ℕ) (d : S) → i < length states → slice_get (alls states) i ≡ Some (Some (get_or states i d))
  at_place states i d b = alls_forth states i (get_or states i d) (slice_get-get_or states i d b)

  pub act_edge : (m : Machine S) (own : List ℕ) (i t : ℕ) (states : List S) (ports : List PortView) (s : S) → slice_get (alls states) i ≡ Some (Some s) → has_edge m t s ≡ true → ((q : ℕ) → Has own q → q < length ports) → length (m.step s (gather ports own) (t / m.period s)).ports ≡ length own →
      side_places (alls (slice_set states i (m.step s (gather ports own) (t / m.period s)).state)) (alls (scatter ports own (m.step s (gather ports own) (t / m.period s)).ports)) ≡ act_at m own i t (side_places (alls states) (alls ports)) (slice_get (alls states) i)
  act_edge m own i t states ports s at edge within long =
      let new = λ (ps : List PortView). m.step s (gather ps own) (t / m.period s) in
      side_places_is _ _ _ _ (sym (alls_set states i (new ports).state)) (sym (put_back ports own (new ports).ports (sym long) within))
      ∙ ap (λ ps. let x : SidePlaces S = record { actors = slice_set (alls states) i (Some (new ps).state); ports = scatter (emptied (alls ports) own) own (alls (new ps).ports) } in x) (sym (somes-alls ports))
      ∙ sym (ap (act_at m own i t (side_places (alls states) (alls ports))) at ∙ ap (λ b. act_if b m own i t (side_places (alls states) (alls ports)) s) edge)

  pub act_wait : (m : Machine S) (own : List ℕ) (i t : ℕ) (states : List S) (ports : List PortView) (s : S) → slice_get (alls states) i ≡ Some (Some s) → has_edge m t s ≡ false → side_places (alls states) (alls ports) ≡ act_at m own i t (side_places (alls states) (alls ports)) (slice_get (alls states) i)
  act_wait m own i t states ports s at edge = sym (ap (act_at m own i t (side_places (alls states) (alls ports))) at ∙ ap (λ b. act_if b m own i t (side_places (alls states) (alls ports)) s) edge)

  pub made : (m : Machine S) (own : List ℕ) (i t : ℕ) (states : List S) (ports : List PortView) (s : S) → slice_get (alls states) i ≡ Some (Some s) → has_edge m t s ≡ true → outcome_at m own t ports (slice_get (alls states) i) ≡ Some (m.step s (gather ports own) (t / m.period s))
  made m own i t states ports s at edge = ap (outcome_at m own t ports) at ∙ ap (λ b. outcome_if b (m.step s (gather ports own) (t / m.period s))) edge

  pub made_none : (m : Machine S) (own : List ℕ) (i t : ℕ) (states : List S) (ports : List PortView) (s : S) → slice_get (alls states) i ≡ Some (Some s) → has_edge m t s ≡ false → outcome_at m own t ports (slice_get (alls states) i) ≡ None
  made_none m own i t states ports s at edge = ap (outcome_at m own t ports) at ∙ ap (λ b. outcome_if b (m.step s (gather ports own) (t / m.period s))) edge

  pub same_state : (a b : S) → let x : Option (Option S) = Some (Some a) in let y : Option (Option S) = Some (Some b) in x ≡ y → a ≡ b
  same_state a b e = cc

  pub no_edge : (m : Machine S) (t : ℕ) (a b : S) → a ≡ b → has_edge m t a ≡ false → IsTrue (has_edge m t b) → ⊥
  no_edge m t a b e f h = false≢true (subst (λ x. IsTrue x) (ap (has_edge m t) (sym e) ∙ f) h)

  pub same_long : (m : Machine S) (own : List ℕ) (t : ℕ) (ports : List PortView) (a b : S) → a ≡ b → length (m.step a (gather ports own) (t / m.period a)).ports ≡ length own → length (m.step b (gather ports own) (t / m.period b)).ports ≡ length own
  same_long m own t ports a b e h = subst (λ x. length (m.step x (gather ports own) (t / m.period x)).ports ≡ length own) e h

  pub state_is : (o p : Outcome S) → o ≡ p → o.state ≡ p.state
  state_is o p e = ap (λ (x : Outcome S). x.state) e

  pub ports_is : (o p : Outcome S) → o ≡ p → o.ports ≡ p.ports
  ports_is o p e = ap (λ (x : Outcome S). x.ports) e

  pub records_is : (o p : Outcome S) → o ≡ p → o.records ≡ p.records
  records_is o p e = ap (λ (x : Outcome S). x.records) e

  pub flag_is : (o p : Outcome S) → o ≡ p → o.flag ≡ p.flag
  flag_is o p e = ap (λ (x : Outcome S). x.flag) e

module _ {S : Type 0} where
  -- what is read at a place of a list
  pub read_at : (xs : List S) (i : ℕ) (x : S) → i < length xs → x ≡ get_or xs i x → slice_get xs i ≡ Some x
  read_at xs i x b is = slice_get-get_or xs i x b ∙ ap (λ y. Some y) (sym is)

  -- without an edge nothing has changed
  pub acted_wait : (m : Machine S) (mine : SideGear) (i t p : ℕ) (s : S) (old : ActState S) → CanAct m mine i t old → s ≡ get_or old.actors i s → p ≡ m.period s → (t % p ≡ 0 → ⊥) →
      HasActed m mine i t old (record old { actors = slice_set old.actors i s }) false
  acted_wait m mine i t p s old can is per apart =
      let own = own_of mine.wiring i in
      let states = old.actors in
      let ports = old.rows.ports in
      let at : slice_get (alls states) i ≡ Some (Some s) = alls_forth states i s (read_at states i s can.here is) in
      let edge : has_edge m t s ≡ false = ap (λ x. t % x == 0) (sym per) ∙ ne_eqb (t % p) 0 apart in
      let none = made_none m own i t states ports s at edge in
      let back : slice_set states i s ≡ states = ap (slice_set states i) is ∙ set-get_or states i s in
      record {
        places_are = ap (λ l. side_places (alls l) (alls ports)) back ∙ act_wait m own i t states ports s at edge;
        all_actors = ap length back;
        seen = refl;
        wires = refl;
        long = refl;
        others = λ q n. refl;
        room = refl;
        records_are =
            sym (append-nil old.recs.items)
            ∙ sym (ap (λ o. old.recs.items ++ records_at t (mine.first + i) (whats_of o)) none);
        flag_is = sym (ap (λ o. flag_of o) none);
        steps_are = omega (arith, ap (λ o. charge_of o) none);
        gives_all = λ s' at' edge'. absurd (no_edge m t s s' (same_state s s' (sym at ∙ at')) edge edge');
      }

  -- at an edge the actor has stepped
  pub acted_edge : (m : Machine S) (mine : SideGear) (own : List ℕ) (i t p n : ℕ) (s s' : S) (old : ActState S) (begun : RecView) (rows : RowsView) (recs : RecView) (steps : ℕ) (flag : Bool) → CanAct m mine i t old → begun ≡ record old.recs { at = t; actor = mine.first + i } → own ≡ own_of mine.wiring i → s ≡ get_or old.actors i s → p ≡ m.period s → t % p ≡ 0 → n ≡ t / p →
      let out = m.step s (gather old.rows.ports own) n in
      length out.ports ≡ length own → s' ≡ out.state → rows ≡ record old.rows { ports = scatter old.rows.ports own out.ports } → recs ≡ appended_all begun out.records → flag ≡ out.flag → steps ≡ old.steps + 1 →
      HasActed m mine i t old (record old { actors = slice_set old.actors i s'; rows = rows; recs = recs; steps = steps }) flag
  acted_edge m mine own i t p n s s' old begun rows recs steps flag can starts read is per zero number long state rows_are recs_are flag_are steps_are =
      let states = old.actors in
      let ports = old.rows.ports in
      let row = own_of mine.wiring i in
      let at : slice_get (alls states) i ≡ Some (Some s) = alls_forth states i s (read_at states i s can.here is) in
      let edge : has_edge m t s ≡ true = ap (λ x. t % x == 0) (sym per) ∙ eq-eqb (t % p) 0 zero in
      let out = m.step s (gather ports row) (t / m.period s) in
      let cycle : m.step s (gather ports own) n ≡ out = ap (m.step s (gather ports own)) (number ∙ ap (λ x. t / x) per) ∙ ap (λ l. m.step s (gather ports l) (t / m.period s)) read in
      let gave = made m row i t states ports s at edge in
      let full : length out.ports ≡ length row = sym (ap length (ports_is _ _ cycle)) ∙ long ∙ ap length read in
      record {
        places_are =
            ap (λ x. side_places (alls (slice_set states i x)) (alls rows.ports)) (state ∙ state_is _ _ cycle)
            ∙ ap (λ l. side_places (alls (slice_set states i out.state)) (alls l)) (ap (λ (v : RowsView). v.ports) rows_are ∙ ap (scatter ports own) (ports_is _ _ cycle) ∙ ap (λ l. scatter ports l out.ports) read)
            ∙ act_edge m row i t states ports s at edge (λ q h. can.wired.within i q h) full;
        all_actors = length-set states i s';
        seen = ap (λ (v : RowsView). v.seen) rows_are;
        wires = ap (λ (v : RowsView). v.wires) rows_are;
        long = ap (λ (v : RowsView). length v.ports) rows_are ∙ length-scatter ports own _;
        others = λ q n. ap (λ (v : RowsView). port_at v.ports q) rows_are ∙ scatter_other ports own _ q (port_view [] [] 0) (λ h. n (subst (λ l. Has l q) read h));
        room = ap (λ (r : RecView). r.room) recs_are ∙ ap (λ (r : RecView). r.room) starts;
        records_are =
            ap (λ (r : RecView). r.items) (recs_are ∙ ap (appended_all begun) (records_is _ _ cycle))
            ∙ ap (λ (r : RecView). r.items ++ records_at r.at r.actor out.records) starts
            ∙ sym (ap (λ o. old.recs.items ++ records_at t (mine.first + i) (whats_of o)) gave);
        flag_is = flag_are ∙ flag_is _ _ cycle ∙ sym (ap (λ o. flag_of o) gave);
        steps_are = omega (arith, steps_are, ap (λ o. charge_of o) gave);
        gives_all = λ x at' edge'. same_long m row t ports s x (same_state s x (sym at ∙ at')) full;
      }

-- ports that go back as they were change nothing
pub scatter_same : (ports : List PortView) (own : List ℕ) → scatter ports own (gather ports own) ≡ ports
scatter_same ports [] = refl
scatter_same ports (q ∷ own) = ap (λ l. slice_set l q (port_at ports q)) (scatter_same ports own) ∙ set-get_or ports q (port_view [] [] 0)

module _ {S : Type 0} where
  -- a step without progress leaves all ports as they were
  pub ports_still : (m : Machine S) (s : S) (own : List ℕ) (n : ℕ) (ports : List PortView) (rows old : RowsView) → Quiet S m s (gather ports own) n → rows ≡ record old { ports = scatter ports own (m.step s (gather ports own) n).ports } → rows.ports ≡ ports
  ports_still m s own n ports rows old quiet rows_are =
      ap (λ (v : RowsView). v.ports) rows_are ∙ ap (scatter ports own) quiet.ports ∙ scatter_same ports own
