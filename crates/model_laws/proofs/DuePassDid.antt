-- What a pass over those that are due did, told in one way for parts and links.
use Rattle.std.proofs.Common.{◌≡◌, ℕ, ◌+◌, List, ◌++◌, length, sym, ◌∙◌, subst, arith, inl, inr}
use Rattle.std.specs.Prelude.{Option, Bool, slice_index_or}
use Rattle.port_msg.specs.PortView.{PortView}
use Rattle.port_msg.specs.declared.records.Record.{Record}
use Rattle.sim_base.specs.declared.time.Time.{Time}
use Rattle.sim_base.specs.Edge.{edge_from}
use Rattle.tick_law.specs.Machine.{Machine}
use Rattle.tick_law.specs.WorldPlaces.{SidePlaces, somes}
use Rattle.tick_law.specs.Wires.{Wires}
use Rattle.tick_law.specs.Pass.{pass}
use Rattle.tick_law.specs.Outcomes.{outcome, records, stirs, steps_of}
use Rattle.tick_law.specs.NextTime.{woken}
use Rattle.model_laws.specs.Pass.{side_of, side_places, whole_side}
use Rattle.model_laws.specs.NextTable.{next_after, IsTable, chosen, next_at_place}
use Rattle.model_laws.proofs.PassAsks.{Asks}
use Rattle.model_laws.specs.Stepping.{Due}
use Rattle.model_laws.specs.SideTimes.{half_of, AreSides}
use Rattle.model_laws.specs.Changed.{changed}
use Rattle.model_laws.proofs.SideTimesLaws.{length-half}
use Rattle.model_laws.proofs.TimesOfTurn.{full_long}

-- what a pass over those that are due does, where its side has so many actors and the other side so many
pub record Did {S : Type 0} (m : Machine S) (w others : Wires) (periods : List ℕ) (base t : ℕ) (part : Bool) (from first count other_count : ℕ) (actors actors' : List (Option S)) (ports ports' : List (Option PortView)) (next next' : List (Option Time)) (items items' : List Record) (flag : Bool) (steps steps' : ℕ) : Type 0 where
  pub places : side_places actors' ports' ≡ whole_side (pass m w (chosen Due (half_of base count next) t) t (side_of actors ports))
  pub own : IsTable (half_of base count next') (λ i. next_after m t (outcome m w (chosen Due (half_of base count next) t) t (side_of actors ports) i) (next_at_place (half_of base count next) i)) (length (side_of actors ports).states)
  pub woke : IsTable (half_of first other_count next') (λ j. woken (changed part (somes ports) (somes ports') others j) (edge_from (slice_index_or periods j 0) from) (next_at_place (half_of first other_count next) j)) (length (half_of first other_count next))
  pub records_are : items' ≡ items ++ records m w (chosen Due (half_of base count next) t) t (side_of actors ports) base
  pub flag_is : flag ≡ stirs m w (chosen Due (half_of base count next) t) t (side_of actors ports)
  pub steps_are : steps' ≡ steps + steps_of m w (chosen Due (half_of base count next) t) t (side_of actors ports)

pub did_as : {S : Type 0} (m : Machine S) (w others : Wires) (periods : List ℕ) (base t : ℕ) (part : Bool) (from first count other_count n k : ℕ) (actors actors' : List (Option S)) (ports ports' : List (Option PortView)) (next next' : List (Option Time)) (items items' : List Record) (flag : Bool) (steps steps' : ℕ) → count ≡ n → other_count ≡ k → Did m w others periods base t part from first count other_count actors actors' ports ports' next next' items items' flag steps steps' → Did m w others periods base t part from first n k actors actors' ports ports' next next' items items' flag steps steps'
did_as m w others periods base t part from first count other_count n k actors actors' ports ports' next next' items items' flag steps steps' e f did =
    subst (λ x. Did m w others periods base t part from first x k actors actors' ports ports' next next' items items' flag steps steps') e
    (subst (λ x. Did m w others periods base t part from first count x actors actors' ports ports' next next' items items' flag steps steps') f did)

-- the places of a side are as many as its next times
pub count_of : {S : Type 0} (m : Machine S) (valid : S → Type 0) (w : Wires) (actors : List (Option S)) (ports : List (Option PortView)) (first n : ℕ) (times : List (Option Time)) (base hand room items : ℕ) (others : Wires) (periods : List ℕ) (woken_next : List (Option ℕ)) → Asks m valid w (side_places actors ports) (half_of first n times) base hand room items others periods woken_next → length actors ≡ n
count_of m valid w actors ports first n times base hand room items others periods woken_next asks = sym (full_long actors asks.full_seats) ∙ sym asks.long ∙ length-half first n times

pub asks_as : {S : Type 0} (m : Machine S) (valid : S → Type 0) (w : Wires) (places : SidePlaces S) (first count n low other k : ℕ) (times : List (Option Time)) (base hand room items : ℕ) (others : Wires) (periods : List ℕ) → n ≡ count → k ≡ other → Asks m valid w places (half_of first count times) base hand room items others periods (half_of low other times) → Asks m valid w places (half_of first n times) base hand room items others periods (half_of low k times)
asks_as m valid w places first count n low other k times base hand room items others periods e f asks =
    subst (λ x. Asks m valid w places (half_of first x times) base hand room items others periods (half_of low k times)) (sym e)
    (subst (λ x. Asks m valid w places (half_of first count times) base hand room items others periods (half_of low x times)) (sym f) asks)

-- from what a pass ensures
pub did_of : {S : Type 0} (m : Machine S) (w others : Wires) (periods : List ℕ) (base t : ℕ) (part : Bool) (from first count other_count : ℕ) (actors actors' : List (Option S)) (ports ports' : List (Option PortView)) (next next' : List (Option Time)) (items items' : List Record) (flag : Bool) (steps steps' : ℕ) →
    side_places actors' ports' ≡ whole_side (pass m w (chosen Due (half_of base count next) t) t (side_of actors ports)) →
    IsTable (half_of base count next') (λ i. next_after m t (outcome m w (chosen Due (half_of base count next) t) t (side_of actors ports) i) (next_at_place (half_of base count next) i)) (length (side_of actors ports).states) →
    IsTable (half_of first other_count next') (λ j. woken (changed part (somes ports) (somes ports') others j) (edge_from (slice_index_or periods j 0) from) (next_at_place (half_of first other_count next) j)) other_count →
    items' ≡ items ++ records m w (chosen Due (half_of base count next) t) t (side_of actors ports) base →
    flag ≡ stirs m w (chosen Due (half_of base count next) t) t (side_of actors ports) →
    steps' ≡ steps + steps_of m w (chosen Due (half_of base count next) t) t (side_of actors ports) →
    Did m w others periods base t part from first count other_count actors actors' ports ports' next next' items items' flag steps steps'
did_of m w others periods base t part from first count other_count actors actors' ports ports' next next' items items' flag steps steps' places own woke records_are flag_is steps_are = record {
  places = places;
  own = own;
  woke = subst (λ n. IsTable (half_of first other_count next') (λ j. woken (changed part (somes ports) (somes ports') others j) (edge_from (slice_index_or periods j 0) from) (next_at_place (half_of first other_count next) j)) n) (sym (length-half first other_count next)) woke;
  records_are = records_are;
  flag_is = flag_is;
  steps_are = steps_are;
}

-- the sides of the parts' pass, and of the links'
pub part_sides : (all base n k : ℕ) → all ≡ base + k → n ≡ base → AreSides all 0 n base k
part_sides all base n k e f = record { own_within = omega (arith, e, f); others_within = omega (arith, e); apart = inl (omega (arith, f)) }

pub link_sides : (all base n k p : ℕ) → all ≡ base + k → n ≡ k → p ≡ base → AreSides all base n 0 p
link_sides all base n k p e f h = record { own_within = omega (arith, e, f); others_within = omega (arith, e, h); apart = inr (omega (arith, h)) }
