-- One due actor after another makes the pass of all that are due.
use Rattle.std.proofs.Common.{◌≡◌, ℕ, ◌+◌, ◌<◌, ◌≤◌, ◌/◌, List, ◌++◌, length, zero, suc, sym, ◌∙◌, ap, arith, refl, append_assoc, append-nil}
use Rattle.std.specs.Prelude.{Option, Some, None, Bool, true, false, ◌==◌, ◌||◌, slice_get, slice_set, IsTrue}
use Rattle.std.proofs.lemmas.Bool.Decides.{nat_tests}
use Rattle.port_msg.specs.PortView.{PortView}
use Rattle.port_msg.specs.RecView.{records_at}
use Rattle.port_msg.specs.declared.records.Record.{Record}
use Rattle.tick_law.specs.Machine.{Machine, Outcome}
use Rattle.tick_law.specs.WorldPlaces.{SidePlaces, alls, somes, emptied}
use Rattle.tick_law.specs.Wires.{Wires, own_of, owner_of, Has, Wired}
use Rattle.tick_law.specs.Pass.{Side, gather, has_edge, step_of, state_after, port_from, port_after, pass, also}
use Rattle.model_laws.specs.Pass.{scatter, whole_side, act_if, act_at}
use Rattle.model_laws.proofs.OneMoreActor.{is_same, gather_waiting, one_more, no_more, length-map_index}
use Rattle.model_laws.proofs.PortsPutBack.{somes-alls, put_back}
use Rattle.model_laws.specs.Outcome.{joined, firsts, outcome_at}
use Rattle.model_laws.proofs.PassGives.{length-append}
use Rattle.tick_law.specs.Outcomes.{outcome_if, outcome_by, outcome, whats_of, flag_of, charge_of, records_to, stirs_to, steps_to}
use Rattle.model_laws.proofs.OnePortMore.{side_places_is}
use Rattle.model_laws.proofs.ActorByActor.{map_index_ext, map_index_back, alls_back, alls_set, alls_has, state_kept, length_states}

pub firsts_wait : (stepped : ℕ → Bool) (n k : ℕ) → n ≤ k → firsts stepped n k ≡ false
firsts_wait stepped zero k h = refl
firsts_wait stepped (suc n) k h = here (stepped n) (firsts_wait stepped n k (omega arith)) (let e : (k == n) ≡ false = grind (arith, nat_tests) in e)
  where
    here : (b : Bool) → firsts stepped n k ≡ false → (k == n) ≡ false → joined b (firsts stepped n) n k ≡ false
    here true r e = rw e r
    here false r e = r

pub firsts_are : (stepped : ℕ → Bool) (n k : ℕ) → k < n → firsts stepped n k ≡ stepped k
firsts_are stepped zero k l = absurd (omega arith)
firsts_are stepped (suc n) k l = here (k == n) refl (stepped n) refl (λ b. firsts_are stepped n k b) (λ b. firsts_wait stepped n k b)
  where
    here : (x : Bool) → (k == n) ≡ x → (y : Bool) → stepped n ≡ y → (k < n → firsts stepped n k ≡ stepped k) → (n ≤ k → firsts stepped n k ≡ false) → joined y (firsts stepped n) n k ≡ stepped k
    here true e true f r s = rw e (sym (ap stepped (is_same k n e) ∙ f))
    here true e false f r s = let g : k ≡ n = is_same k n e in s (omega arith) ∙ sym (ap stepped g ∙ f)
    here false e true f r s = rw e (r (grind (arith, nat_tests)))
    here false e false f r s = r (grind (arith, nat_tests))

or_none : (a : Bool) → a ≡ (a || false)
or_none true = refl
or_none false = refl

module _ {S : Type 0} where
  pub who_ports : (m : Machine S) (w : Wires) (a b : ℕ → Bool) (t : ℕ) (ports : List PortView) (q : ℕ) (p : PortView) (o : Option S) → a (owner_of w q) ≡ b (owner_of w q) → port_from m w a t ports q p o ≡ port_from m w b t ports q p o
  who_ports m w a b t ports q p None e = refl
  who_ports m w a b t ports q p (Some s) e = rw e refl

  who_states : (m : Machine S) (w : Wires) (a b : ℕ → Bool) (t : ℕ) (ports : List PortView) (k : ℕ) (x : S) → a k ≡ b k → state_after m w a t ports k x ≡ state_after m w b t ports k x
  who_states m w a b t ports k x e = rw e refl

  -- only the actors that are there count
  pub pass_same : (m : Machine S) (w : Wires) (a b : ℕ → Bool) (t : ℕ) (h : Side S) → ((k : ℕ) → k < length h.states → a k ≡ b k) → ((q : ℕ) → q < length h.ports → owner_of w q < length h.states) → pass m w a t h ≡ pass m w b t h
  pass_same m w a b t h same owned =
      side_is _ _ _ _
      (map_index_ext (state_after m w a t h.ports) (state_after m w b t h.ports) 0 h.states (λ k x l. who_states m w a b t h.ports k x (same k (omega arith))))
      (map_index_ext (port_after m w a t h) (port_after m w b t h) 0 h.ports (λ q p l. who_ports m w a b t h.ports q p (slice_get h.states (owner_of w q)) (same (owner_of w q) (owned q (omega arith)))))
    where
      side_is : (a b : List S) (p q : List PortView) → a ≡ b → p ≡ q → let x : Side S = record { states = a; ports = p } in let y : Side S = record { states = b; ports = q } in x ≡ y
      side_is a b p q e f = cc

  pub waiting_of : (m : Machine S) (w : Wires) (done : ℕ → Bool) (t : ℕ) (h : Side S) (i : ℕ) (s : S) → done i ≡ false → slice_get (alls (pass m w done t h).states) i ≡ Some (Some s) → slice_get h.states i ≡ Some s
  waiting_of m w done t h i s waits e =
      let back = map_index_back (state_after m w done t h.ports) 0 h.states i s (alls_back (pass m w done t h).states i s e) in
      let z : 0 + i ≡ i = omega arith in
      let same : s ≡ back.0 = back.2 ∙ ap (λ k. state_after m w done t h.ports k back.0) z ∙ state_kept m w done t h.ports i back.0 waits in
      back.1 ∙ ap (λ x. Some x) (sym same)

  -- one actor more in its place is one actor more in the pass
  more_of : (m : Machine S) (w : Wires) (done : ℕ → Bool) (t i : ℕ) (h : Side S) (s : S) → done i ≡ false → Wired w (length h.ports) → slice_get h.states i ≡ Some s →
      (has_edge m t s ≡ true → length (step_of m w t h.ports i s).ports ≡ length (own_of w i)) →
      act_at m (own_of w i) i t (whole_side (pass m w done t h)) (Some (Some s)) ≡ whole_side (pass m w (also done i) t h)
  more_of m w done t i h s waits wired at same = by_edge (has_edge m t s) refl
    where
      by_edge : (b : Bool) → has_edge m t s ≡ b → act_if (has_edge m t s) m (own_of w i) i t (whole_side (pass m w done t h)) s ≡ whole_side (pass m w (also done i) t h)
      by_edge true e =
          let half = pass m w done t h in
          let own = own_of w i in
          let st = step_of m w t h.ports i s in
          let new : m.step s (gather (somes (alls half.ports)) own) (t / m.period s) ≡ st = ap (λ l. m.step s (gather l own) (t / m.period s)) (somes-alls half.ports) ∙ ap (λ l. m.step s l (t / m.period s)) (gather_waiting m w done t h i wired waits) in
          let within = λ (q : ℕ) (has : Has own q). let l = wired.within i q has in let z : length half.ports ≡ length h.ports = length-map_index (port_after m w done t h) 0 h.ports in let r : q < length half.ports = omega arith in r in
          ap (λ b. act_if b m own i t (whole_side half) s) e
          ∙ ap (λ (x : Outcome S). let y : SidePlaces S = record { actors = slice_set (alls half.states) i (Some x.state); ports = scatter (emptied (alls half.ports) own) own (alls x.ports) } in y) new
          ∙ side_places_is _ _ _ _ (alls_set half.states i st.state) (put_back half.ports own st.ports (sym (same e)) within)
          ∙ ap (λ x. whole_side x) (sym (one_more m w done t h i s wired at e (same e)))
      by_edge false e =
          ap (λ b. act_if b m (own_of w i) i t (whole_side (pass m w done t h)) s) e ∙ ap (λ x. whole_side x) (sym (no_more m w done t h i s at e waits))

  -- a call of act goes on by one actor
  pub step_more : (m : Machine S) (w : Wires) (stepped : ℕ → Bool) (t i : ℕ) (h : Side S) (now new : SidePlaces S) (own : List ℕ) → stepped i ≡ true → Wired w (length h.ports) → own ≡ own_of w i → now ≡ whole_side (pass m w (firsts stepped i) t h) → i < length h.states → new ≡ act_at m own i t now (slice_get now.actors i) →
      ((s : S) → slice_get now.actors i ≡ Some (Some s) → IsTrue (has_edge m t s) → length (m.step s (gather (somes now.ports) own) (t / m.period s)).ports ≡ length own) →
      new ≡ whole_side (pass m w (firsts stepped (suc i)) t h)
  step_more m w stepped t i h now new own named wired owned was below is same =
      let done = firsts stepped i in
      let waits = firsts_wait stepped i i (omega arith) in
      let half = pass m w done t h in
      let found = alls_has half.states i (omega (arith, length_states m w done t h)) in
      let s = found.0 in
      let at : slice_get now.actors i ≡ Some (Some s) = ap (λ (x : SidePlaces S). slice_get x.actors i) was ∙ found.1 in
      let ports : gather (somes now.ports) own ≡ gather h.ports (own_of w i) = ap (λ (x : SidePlaces S). gather (somes x.ports) own) was ∙ ap (λ l. gather l own) (somes-alls half.ports) ∙ ap (λ l. gather half.ports l) owned ∙ gather_waiting m w done t h i wired waits in
      let enough = λ (e : has_edge m t s ≡ true). ap (λ l. length (m.step s l (t / m.period s)).ports) (sym ports) ∙ same s at e ∙ ap length owned in
      is ∙ ap (λ l. act_at m l i t now (slice_get now.actors i)) owned ∙ ap (λ (x : SidePlaces S). act_at m (own_of w i) i t x (slice_get x.actors i)) was ∙ ap (act_at m (own_of w i) i t (whole_side half)) found.1 ∙ more_of m w done t i h s waits wired (waiting_of m w done t h i s waits found.1) enough
      ∙ ap (λ b. whole_side (pass m w (joined b done i) t h)) (sym named)

  -- who is not due is passed over
  pub skip_more : (m : Machine S) (w : Wires) (stepped : ℕ → Bool) (t i : ℕ) (h : Side S) → stepped i ≡ false → whole_side (pass m w (firsts stepped i) t h) ≡ whole_side (pass m w (firsts stepped (suc i)) t h)
  skip_more m w stepped t i h named = ap (λ b. whole_side (pass m w (joined b (firsts stepped i) i) t h)) (sym named)

  made_is : (m : Machine S) (w : Wires) (stepped : ℕ → Bool) (t i : ℕ) (ports : List PortView) (o : Option S) (s : S) → stepped i ≡ true → o ≡ Some s → outcome_if (has_edge m t s) (step_of m w t ports i s) ≡ outcome_by m w stepped t ports i o
  made_is m w stepped t i ports o s e f = rw (f, e) refl

  -- what act gives is what the pass makes of that actor
  pub outcome_more : (m : Machine S) (w : Wires) (stepped : ℕ → Bool) (t i : ℕ) (h : Side S) (now : SidePlaces S) (own : List ℕ) → stepped i ≡ true → Wired w (length h.ports) → own ≡ own_of w i → now ≡ whole_side (pass m w (firsts stepped i) t h) → i < length h.states → outcome_at m own t (somes now.ports) (slice_get now.actors i) ≡ outcome m w stepped t h i
  outcome_more m w stepped t i h now own named wired owned was below =
      let done = firsts stepped i in
      let waits = firsts_wait stepped i i (omega arith) in
      let half = pass m w done t h in
      let found = alls_has half.states i (omega (arith, length_states m w done t h)) in
      let s = found.0 in
      let at : slice_get now.actors i ≡ Some (Some s) = ap (λ (x : SidePlaces S). slice_get x.actors i) was ∙ found.1 in
      let ports : gather (somes now.ports) own ≡ gather h.ports (own_of w i) = ap (λ (x : SidePlaces S). gather (somes x.ports) own) was ∙ ap (λ l. gather l own) (somes-alls half.ports) ∙ ap (λ l. gather half.ports l) owned ∙ gather_waiting m w done t h i wired waits in
      ap (outcome_at m own t (somes now.ports)) at
      ∙ ap (λ l. outcome_if (has_edge m t s) (m.step s l (t / m.period s))) ports
      ∙ made_is m w stepped t i h.ports (slice_get h.states i) s named (waiting_of m w done t h i s waits found.1)

  none_made : (m : Machine S) (w : Wires) (stepped : ℕ → Bool) (t i : ℕ) (ports : List PortView) (o : Option S) → stepped i ≡ false → outcome_by m w stepped t ports i o ≡ None
  none_made m w stepped t i ports None e = refl
  none_made m w stepped t i ports (Some s) e = rw e refl

  pub outcome_none : (m : Machine S) (w : Wires) (stepped : ℕ → Bool) (t i : ℕ) (h : Side S) → stepped i ≡ false → outcome m w stepped t h i ≡ None
  outcome_none m w stepped t i h e = none_made m w stepped t i h.ports (slice_get h.states i) e

  -- the three sums go on by one actor
  pub records_more : (m : Machine S) (w : Wires) (stepped : ℕ → Bool) (t i : ℕ) (h : Side S) (base : ℕ) (o : Option (Outcome S)) (start : List Record) (now : List Record) → o ≡ outcome m w stepped t h i → now ≡ start ++ records_to m w stepped t h base i → now ++ records_at t (base + i) (whats_of o) ≡ start ++ records_to m w stepped t h base (suc i)
  records_more m w stepped t i h base o start now e f =
      ap (λ l. l ++ records_at t (base + i) (whats_of o)) f ∙ append_assoc start (records_to m w stepped t h base i) (records_at t (base + i) (whats_of o)) ∙ ap (λ x. start ++ (records_to m w stepped t h base i ++ records_at t (base + i) (whats_of x))) e

  pub stirs_more : (m : Machine S) (w : Wires) (stepped : ℕ → Bool) (t i : ℕ) (h : Side S) (o : Option (Outcome S)) (now : Bool) → o ≡ outcome m w stepped t h i → now ≡ stirs_to m w stepped t h i → (now || flag_of o) ≡ stirs_to m w stepped t h (suc i)
  stirs_more m w stepped t i h o now e f = ap (λ b. b || flag_of o) f ∙ ap (λ x. stirs_to m w stepped t h i || flag_of x) e

  pub steps_more : (m : Machine S) (w : Wires) (stepped : ℕ → Bool) (t i : ℕ) (h : Side S) (o : Option (Outcome S)) (start now : ℕ) → o ≡ outcome m w stepped t h i → now ≡ start + steps_to m w stepped t h i → now + charge_of o ≡ start + steps_to m w stepped t h (suc i)
  steps_more m w stepped t i h o start now e f = let g : charge_of o ≡ charge_of (outcome m w stepped t h i) = ap (λ x. charge_of x) e in omega (arith, f, g)

  pub records_skip : (m : Machine S) (w : Wires) (stepped : ℕ → Bool) (t i : ℕ) (h : Side S) (base : ℕ) (start now : List Record) → stepped i ≡ false → now ≡ start ++ records_to m w stepped t h base i → now ≡ start ++ records_to m w stepped t h base (suc i)
  records_skip m w stepped t i h base start now e f = f ∙ ap (λ l. start ++ l) (sym (append-nil (records_to m w stepped t h base i)) ∙ ap (λ x. records_to m w stepped t h base i ++ records_at t (base + i) (whats_of x)) (sym (outcome_none m w stepped t i h e)))

  pub stirs_skip : (m : Machine S) (w : Wires) (stepped : ℕ → Bool) (t i : ℕ) (h : Side S) (now : Bool) → stepped i ≡ false → now ≡ stirs_to m w stepped t h i → now ≡ stirs_to m w stepped t h (suc i)
  stirs_skip m w stepped t i h now e f = f ∙ or_none (stirs_to m w stepped t h i) ∙ ap (λ x. stirs_to m w stepped t h i || flag_of x) (sym (outcome_none m w stepped t i h e))

  pub steps_skip : (m : Machine S) (w : Wires) (stepped : ℕ → Bool) (t i : ℕ) (h : Side S) (start now : ℕ) → stepped i ≡ false → now ≡ start + steps_to m w stepped t h i → now ≡ start + steps_to m w stepped t h (suc i)
  steps_skip m w stepped t i h start now e f = let g : charge_of (outcome m w stepped t h i) ≡ 0 = ap (λ x. charge_of x) (outcome_none m w stepped t i h e) in omega (arith, f, g)

pub items_of : (a b c : List Record) → a ≡ b ++ c → length a ≡ length b + length c
items_of a b c e = ap length e ∙ length-append b c
