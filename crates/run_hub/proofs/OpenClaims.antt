-- A claim at a boundary: the pass that opens has somebody who waits.
use Rattle.std.proofs.Common.{◌≡◌, ℕ, ◌<◌, ◌⊎◌, inl, inr, List, length, sym, ◌∙◌, ap, subst, arith, refl}
use Rattle.std.specs.Prelude.{Some, Bool, true, false, ◌&&◌, ◌||◌}
use Rattle.std.proofs.lemmas.List.{length-map}
use Rattle.bit_set.specs.Bits.{is_in}
use Rattle.tick_law.specs.SerialLoop.{System, records_below}
use Rattle.tick_law.specs.NextTime.{due_is}
use Rattle.model_laws.specs.NextTable.{next_at_place}
use Rattle.model_laws.proofs.SideTimesLaws.{length-half}
use Rattle.away_rows.proofs.SideLaws.{in_below}
use Rattle.hub_laws.specs.HubState.{HubState}
use Rattle.hub_laws.specs.declared.stage.Stage.TheVariants.{Boundary, Primary, Secondary, Over}
use Rattle.hub_laws.specs.Events.{those_at, is_none, due_parts, opened, IsLeastTime, MayOpen}
use Rattle.hub_floor.specs.declared.floor.Floor.{Floor}
use Rattle.hub_floor.specs.Floor.{hub_state, RestsOf, PartsOf, LinksOf}
use Rattle.hub_floor.specs.Begins.{BeginsPass}
use Rattle.hub_floor.proofs.SideOpens.{those_in, either_in, some_due}
use Rattle.hub_floor.proofs.LeastLaws.{none_is, is_none_of, some_in, opened_for_part, opened_for_link}
use Rattle.run_hub.specs.declared.claim.Claim.{Claim}
use Rattle.run_hub.specs.declared.claim.Claim.TheVariants.{Got, Wait, Over as IsOver}
use Rattle.run_hub.specs.declared.claim.Why.TheVariants.{Running, Paused, Held}
use Rattle.run_hub.specs.Stands.{PartsOpen, LinksOpen, IsPass, WentOn}
use Rattle.run_hub.specs.Claims.{AllRun, Goes, ClaimsInPass, Claims}
use Rattle.run_hub.proofs.ClaimLaws.{records_open}

-- somebody waits in the pass that is open
pub record SomebodyWaits (s : HubState) : Type 0 where
  pub parts : s.stage ≡ Primary → is_none s.part_marks.waiting ≡ false
  pub links : s.stage ≡ Secondary → is_none s.link_marks.waiting ≡ false

or_true : (b : Bool) → (b || true) ≡ true
or_true true = refl
or_true false = refl

module _ {P N : Type 0} where
  -- where no part is due at the least time, a link is
  link_waits : (r : System P N) (vp : P → Type 0) (vn : N → Type 0) (until t : ℕ) (f : Floor P N) → RestsOf r vp vn until f → IsLeastTime (hub_state f) t → is_none (due_parts (hub_state f) t) ≡ true → is_none (those_at (hub_state f).link_next t) ≡ false
  link_waits r vp vn until t f is least none = by least.there
    where
      s : HubState
      s = hub_state f

      mine : List Bool
      mine = those_at s.part_next t

      asks : List Bool
      asks = those_at s.asked t

      clash : (i : ℕ) → i < length mine → (is_in mine i || is_in asks i) ≡ true → ⊥
      clash i l e = let g : true ≡ false = sym e ∙ sym (either_in mine asks i l) ∙ none_is (due_parts s t) none i in cc

      enough : length asks ≡ length mine
      enough =
          let a = length-map s.asked (λ o. due_is o t) in
          let b = length-map s.part_next (λ o. due_is o t) in
          let c = length-half 0 (length f.asked) f.asked in
          let d = length-half f.part_side.first (length f.part_side.periods.items) f.next in
          let e = is.of.asked_all in
          let g = is.of.fitted.part_count in
          omega (arith, a, b, c, d, e, g)

      by : ((i : ℕ) × (next_at_place s.part_next i ≡ Some t)) ⊎ (((i : ℕ) × (next_at_place s.link_next i ≡ Some t)) ⊎ ((i : ℕ) × (next_at_place s.asked i ≡ Some t))) → is_none (those_at s.link_next t) ≡ false
      by (inl (i, e)) =
          let here : is_in mine i ≡ true = those_in s.part_next t i ∙ some_due (next_at_place s.part_next i) t e in
          absurd (clash i (in_below mine i here) (ap (λ x. x || is_in asks i) here))
      by (inr (inl (i, e))) = some_in (those_at s.link_next t) i (those_in s.link_next t i ∙ some_due (next_at_place s.link_next i) t e)
      by (inr (inr (i, e))) =
          let here : is_in asks i ≡ true = those_in s.asked t i ∙ some_due (next_at_place s.asked i) t e in
          let l = in_below asks i here in
          absurd (clash i (omega (arith, l, enough)) (ap (λ x. is_in mine i || x) here ∙ or_true (is_in mine i)))

  pub waits_opened : (r : System P N) (vp : P → Type 0) (vn : N → Type 0) (until t : ℕ) (f : Floor P N) → RestsOf r vp vn until f → IsLeastTime (hub_state f) t → SomebodyWaits (opened (hub_state f) t)
  waits_opened r vp vn until t f is least = by (is_none (due_parts (hub_state f) t)) refl
    where
      by : (b : Bool) → is_none (due_parts (hub_state f) t) ≡ b → SomebodyWaits (opened (hub_state f) t)
      by false e =
          subst SomebodyWaits (sym (opened_for_part (hub_state f) t e))
          (record { parts = λ h. e; links = λ h. absurd (let g : Primary ≡ Secondary = h in cc) })
      by true e =
          subst SomebodyWaits (sym (opened_for_link (hub_state f) t e))
          (record { parts = λ h. absurd (let g : Secondary ≡ Primary = h in cc); links = λ h. link_waits r vp vn until t f is least e })

  -- the pass that has opened
  pub pass_opened : (r : System P N) (vp : P → Type 0) (vn : N → Type 0) (until : ℕ) (f new : Floor P N) → RestsOf r vp vn until f → BeginsPass r vp vn until f new → IsPass r vp vn until new
  pass_opened r vp vn until f new is begun = by begun.pass
    where
      waits : SomebodyWaits (hub_state new)
      waits = subst SomebodyWaits (sym begun.event) (waits_opened r vp vn until begun.time f is begun.may.least)

      written : (b : Bool) → is_none (due_parts (hub_state f) begun.time) ≡ b → new.failed ≡ false
      written false e = ap (λ (s : HubState). s.failed) (begun.event ∙ opened_for_part (hub_state f) begun.time e) ∙ begun.may.written
      written true e = ap (λ (s : HubState). s.failed) (begun.event ∙ opened_for_link (hub_state f) begun.time e) ∙ begun.may.written

      by : PartsOf r vp vn until new ⊎ LinksOf r vp vn until new → IsPass r vp vn until new
      by (inl parts) = inl (record { floor = parts; goes_on = ap (λ x. x && is_none new.part_marks.out) (waits.parts parts.stage_is); written = written _ refl })
      by (inr links) = inr (record { floor = links; goes_on = ap (λ x. x && is_none new.link_marks.out) (waits.links links.stage_is); written = written _ refl })

  -- nothing is recorded, and no write fails, up to the time that begins
  pub went_open : (r : System P N) (vp : P → Type 0) (vn : N → Type 0) (until : ℕ) (f mid new : Floor P N) → RestsOf r vp vn until f → BeginsPass r vp vn until f mid → new.at ≡ mid.at → new.failed ≡ false → WentOn r f new
  went_open r vp vn until f mid new is begun at written = record {
    records = ap (records_below r) (at ∙ time _ refl) ∙ records_open r vp vn until begun.time f is begun.may.least begun.may.within;
    failed = written ∙ sym begun.may.written;
    stays = λ e. absurd (let g : true ≡ false = sym e ∙ begun.may.written in cc);
  }
    where
      time : (b : Bool) → is_none (due_parts (hub_state f) begun.time) ≡ b → mid.at ≡ begun.time
      time false e = ap (λ (s : HubState). s.at) (begun.event ∙ opened_for_part (hub_state f) begun.time e)
      time true e = ap (λ (s : HubState). s.at) (begun.event ∙ opened_for_link (hub_state f) begun.time e)

none_waits_not : (s : HubState) (n : ℕ) → SomebodyWaits s → ((s.stage ≡ Primary) × AllRun s.part_marks n) ⊎ ((s.stage ≡ Secondary) × AllRun s.link_marks n) → ⊥
none_waits_not s n waits (inl (e, run)) = let g : true ≡ false = sym (is_none_of s.part_marks.waiting run.none_waits) ∙ waits.parts e in cc
none_waits_not s n waits (inr (e, run)) = let g : true ≡ false = sym (is_none_of s.link_marks.waiting run.none_waits) ∙ waits.links e in cc

module _ {P N C : Type 0} where
  -- a claim in the pass that has opened
  pub then_claims : (parts until t : ℕ) (old mid new : HubState) (answer : Claim P N C) → MayOpen until old t → SomebodyWaits (opened old t) → mid ≡ opened old t → ClaimsInPass parts mid new answer → Claims parts until old new answer
  then_claims parts until t old mid new (Got name) may waits e goes = inr (record { time = t; may = may; goes = subst (λ (s : HubState). Goes parts s name new) e goes })
  then_claims parts until t old mid new (Wait (Running n)) may waits e (runs, same) = absurd (none_waits_not mid n (subst SomebodyWaits (sym e) waits) runs)
  then_claims parts until t old mid new (Wait Paused) may waits e goes = absurd goes
  then_claims parts until t old mid new (Wait (Held w)) may waits e goes = absurd goes
  then_claims parts until t old mid new IsOver may waits e goes = absurd goes

  -- a claim in a pass that was open
  pub in_pass_claims : (parts until : ℕ) (old new : HubState) (answer : Claim P N C) → ClaimsInPass parts old new answer → Claims parts until old new answer
  in_pass_claims parts until old new (Got name) goes = inl goes
  in_pass_claims parts until old new (Wait (Running n)) runs = runs
  in_pass_claims parts until old new (Wait Paused) goes = absurd goes
  in_pass_claims parts until old new (Wait (Held w)) goes = absurd goes
  in_pass_claims parts until old new IsOver goes = absurd goes

module _ {P N : Type 0} where
  -- the stage tells which pass is open
  pub parts_of_pass : (r : System P N) (vp : P → Type 0) (vn : N → Type 0) (until : ℕ) (f : Floor P N) → IsPass r vp vn until f → f.stage ≡ Primary → PartsOpen r vp vn until f
  parts_of_pass r vp vn until f (inl is) e = is
  parts_of_pass r vp vn until f (inr is) e = absurd (let g : Primary ≡ Secondary = sym e ∙ is.floor.stage_is in cc)

  pub links_of_pass : (r : System P N) (vp : P → Type 0) (vn : N → Type 0) (until : ℕ) (f : Floor P N) → IsPass r vp vn until f → f.stage ≡ Secondary → LinksOpen r vp vn until f
  links_of_pass r vp vn until f (inl is) e = absurd (let g : Secondary ≡ Primary = sym e ∙ is.floor.stage_is in cc)
  links_of_pass r vp vn until f (inr is) e = is

  pub no_boundary : (r : System P N) (vp : P → Type 0) (vn : N → Type 0) (until : ℕ) (f : Floor P N) → IsPass r vp vn until f → f.stage ≡ Boundary → ⊥
  no_boundary r vp vn until f (inl is) e = (let g : Boundary ≡ Primary = sym e ∙ is.floor.stage_is in cc)
  no_boundary r vp vn until f (inr is) e = (let g : Boundary ≡ Secondary = sym e ∙ is.floor.stage_is in cc)

  pub no_over : (r : System P N) (vp : P → Type 0) (vn : N → Type 0) (until : ℕ) (f : Floor P N) → IsPass r vp vn until f → f.stage ≡ Over → ⊥
  no_over r vp vn until f (inl is) e = (let g : Over ≡ Primary = sym e ∙ is.floor.stage_is in cc)
  no_over r vp vn until f (inr is) e = (let g : Over ≡ Secondary = sym e ∙ is.floor.stage_is in cc)
