-- What is left of a run that is over.
use Rattle.std.proofs.Common.{◌≡◌, ℕ, ◌+◌, ◌<◌, List, [], ◌∷◌, length, zero, suc, sym, ◌∙◌, ap, subst, arith, refl, inl, inr, add-one}
use Rattle.std.specs.Prelude.{Option, Some, None, Bool, true, false, ◌||◌, ◌⊎◌}
use Rattle.std.proofs.lemmas.Bool.{cases_eq}
use Rattle.std.proofs.Math.Bool.{or-true}
use Rattle.port_msg.specs.PortView.{PortView}
use Rattle.port_rows.specs.Rows.{RowsView}
use Rattle.tick_law.specs.SerialLoop.{System, WorldState, world_at}
use Rattle.tick_law.specs.Verdict.{is_there, exists_to, all_done, verdict_by, part_next, link_next, goes_on, verdict_at}
use Rattle.model_laws.specs.NextTable.{IsTable, next_at_place}
use Rattle.actor_turn.specs.Side.{times_of}
use Rattle.hub_laws.specs.declared.stage.Stage.{Stage}
use Rattle.hub_laws.specs.declared.stage.Stage.TheVariants.{Boundary, Primary, Secondary, Over}
use Rattle.hub_laws.specs.Events.{IsLeastTime, is_over}
use Rattle.hub_floor.specs.declared.floor.Floor.{Floor}
use Rattle.hub_floor.specs.Floor.{hub_state, RestsOf}
use Rattle.hub_floor.specs.Begins.{NothingLeft}
use Rattle.run_hub.specs.Seats.{actors_in}
use Rattle.run_hub.specs.Stands.{StandsAt, IsOver}
use Rattle.run_hub.specs.Ending.{unless}
use Rattle.run_hub.proofs.SeatsTaken.{seated_left}

none_exists : (f : ℕ → Option ℕ) (n : ℕ) → ((i : ℕ) → i < n → f i ≡ None) → exists_to f n ≡ false
none_exists f zero none = refl
none_exists f (suc n) none = ap (λ b. b || is_there (f n)) (none_exists f n (λ i b. none i (omega arith))) ∙ ap is_there (none n (omega arith))

some_exists : (f : ℕ → Option ℕ) (n i t : ℕ) → i < n → f i ≡ Some t → exists_to f n ≡ true
some_exists f zero i t b e = absurd (omega arith)
some_exists f (suc n) i t b e = elim (cases_eq i n) [
  | inl same ↦ ap (λ k. exists_to f n || is_there (f k)) (sym same) ∙ ap (λ o. exists_to f n || is_there o) e ∙ or-true (exists_to f n)
  | inr ne ↦ ap (λ b. b || is_there (f n)) (some_exists f n i t (omega (arith, b, ne)) e)
]

below_place : (next : List (Option ℕ)) (i t : ℕ) → next_at_place next i ≡ Some t → i < length next
below_place [] i t e = absurd (cc)
below_place (o ∷ os) zero t e = omega arith
below_place (o ∷ os) (suc i) t e = let b = below_place os i t e in omega (arith, b)

table_none : (next : List (Option ℕ)) (is : ℕ → Option ℕ) (n : ℕ) → IsTable next is n → ((i : ℕ) → next_at_place next i ≡ None) → exists_to is n ≡ false
table_none next is n t none = none_exists is n (λ i b. sym (t.at i b) ∙ none i)

table_some : (next : List (Option ℕ)) (is : ℕ → Option ℕ) (n i t : ℕ) → IsTable next is n → next_at_place next i ≡ Some t → exists_to is n ≡ true
table_some next is n i t table e =
    let b = below_place next i t e in
    let within : i < n = omega (arith, b, table.long) in
    some_exists is n i t within (sym (table.at i within) ∙ e)

module _ {P N : Type 0} where
  -- the next times of a run that is behind its greatest time
  pub none_goes_on : (r : System P N) (vp : P → Type 0) (vn : N → Type 0) (until : ℕ) (f : Floor P N) → RestsOf r vp vn until f → NothingLeft (hub_state f) → f.at ≡ until + 1 → false ≡ goes_on r (until + 1)
  none_goes_on r vp vn until f is none at =
      subst (λ d. false ≡ goes_on r d) at
      (sym (ap (λ b. b || exists_to (link_next r f.at) (length r.start.world.links)) (table_none (times_of f.part_side f.next) (part_next r f.at) (length r.start.world.parts) is.rest.boundary.parts_are none.parts)
      ∙ table_none (times_of f.link_side f.next) (link_next r f.at) (length r.start.world.links) is.rest.boundary.links_are none.links))

  pub some_goes_on : (r : System P N) (vp : P → Type 0) (vn : N → Type 0) (until : ℕ) (f : Floor P N) (t : ℕ) → RestsOf r vp vn until f → IsLeastTime (hub_state f) t → f.at ≡ until + 1 → true ≡ goes_on r (until + 1)
  some_goes_on r vp vn until f t is least at = subst (λ d. true ≡ goes_on r d) at (by least.there)
    where
      by : ((i : ℕ) × (next_at_place (hub_state f).part_next i ≡ Some t)) ⊎ (((i : ℕ) × (next_at_place (hub_state f).link_next i ≡ Some t)) ⊎ ((i : ℕ) × (next_at_place (hub_state f).asked i ≡ Some t))) → true ≡ goes_on r f.at
      by (inl (i, e)) = sym (ap (λ b. b || exists_to (link_next r f.at) (length r.start.world.links)) (table_some (times_of f.part_side f.next) (part_next r f.at) (length r.start.world.parts) i t is.rest.boundary.parts_are e))
      by (inr (inl (i, e))) = sym (ap (λ b. exists_to (part_next r f.at) (length r.start.world.parts) || b) (table_some (times_of f.link_side f.next) (link_next r f.at) (length r.start.world.links) i t is.rest.boundary.links_are e) ∙ or-true (exists_to (part_next r f.at) (length r.start.world.parts)))
      by (inr (inr (i, e))) = absurd (let a = is.asked i t e in let b = a.1 in let c = a.2 in omega (arith, at, b, c))

  state_eq : (a : List P) (b : List N) (c : List PortView) (v : WorldState P N) → a ≡ v.parts → b ≡ v.links → c ≡ v.ports → (let x : WorldState P N = record { parts = a; links = b; ports = c } in x ≡ v)
  state_eq a b c v e f h = cc_of (ap (λ l. let x : WorldState P N = record { parts = l; links = b; ports = c } in x) e) (ap (λ l. let x : WorldState P N = record { parts = v.parts; links = l; ports = c } in x) f) (ap (λ l. let x : WorldState P N = record { parts = v.parts; links = v.links; ports = l } in x) h)
    where
      cc_of : {x y z w : WorldState P N} → x ≡ y → y ≡ z → z ≡ w → x ≡ w
      cc_of p q s = p ∙ q ∙ s

  -- the world of a run at a boundary, where its actors are at home
  pub world_left : (r : System P N) (vp : P → Type 0) (vn : N → Type 0) (until : ℕ) (f : Floor P N) (parts : List P) (links : List N) → RestsOf r vp vn until f → parts ≡ actors_in f.parts.items → links ≡ actors_in f.links.items → (let x : WorldState P N = record { parts = parts; links = links; ports = f.rows.ports } in x ≡ world_at r f.at)
  world_left r vp vn until f parts links is e h =
      let w = world_at r f.at in
      state_eq parts links f.rows.ports w
      (e ∙ seated_left r.part_wires w.parts (λ i. []) f.parts.items is.rest.parts_home)
      (h ∙ seated_left r.link_wires w.links (λ i. []) f.links.items is.rest.links_home)
      (ap (λ (v : RowsView). v.ports) is.rest.rows_stand)

  -- the verdict of a run that is over
  pub verdict_left : (r : System P N) (vp : P → Type 0) (vn : N → Type 0) (until : ℕ) (f : Floor P N) (goes : Bool) (parts : List P) → IsOver r vp vn until f → (f.at ≡ until + 1 → goes ≡ goes_on r (until + 1)) → parts ≡ (world_at r f.at).parts → unless f.failed (verdict_by goes (all_done r.part parts)) ≡ unless f.failed (verdict_at r until)
  verdict_left r vp vn until f goes parts over next e = by f.failed over.why
    where
      behind : f.at ≡ until + 1 → verdict_by goes (all_done r.part parts) ≡ verdict_at r until
      behind at =
          ap (λ b. verdict_by b (all_done r.part parts)) (next at)
          ∙ ap (λ l. verdict_by (goes_on r (until + 1)) (all_done r.part l)) (e ∙ ap (λ d. (world_at r d).parts) at)
          ∙ ap (λ d. verdict_by (goes_on r d) (all_done r.part (world_at r d).parts)) (add-one until)

      by : (failed : Bool) → (failed ≡ true) ⊎ (f.at ≡ until + 1) → unless failed (verdict_by goes (all_done r.part parts)) ≡ unless failed (verdict_at r until)
      by true why = refl
      by false (inl h) = absurd (cc)
      by false (inr at) = ap (λ v. Some v) (behind at)

  -- what is true of a run that is over
  pub over_of : (stage : Stage) (r : System P N) (vp : P → Type 0) (vn : N → Type 0) (until : ℕ) (f : Floor P N) → StandsAt stage r vp vn until f → is_over stage ≡ true → IsOver r vp vn until f
  over_of Boundary r vp vn until f stands e = absurd (cc)
  over_of Primary r vp vn until f stands e = absurd (cc)
  over_of Secondary r vp vn until f stands e = absurd (cc)
  over_of Over r vp vn until f stands e = stands

-- a run that is over and was written is behind its greatest time
pub behind_of : (failed : Bool) (at last : ℕ) → (failed ≡ true) ⊎ (at ≡ last) → failed ≡ false → at ≡ last
behind_of failed at last (inl h) e = absurd (let z : true ≡ false = sym h ∙ e in cc)
behind_of failed at last (inr h) e = h
