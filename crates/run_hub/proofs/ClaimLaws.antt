-- Claims: who goes out, and what stands afterwards.
use Rattle.std.proofs.Common.{◌≡◌, ℕ, zero, suc, ◌+◌, ◌-◌, ◌<◌, ◌≤◌, ◌^◌, ◌⊎◌, inl, inr, List, length, sym, ◌∙◌, ap, subst, arith, refl, add-one}
use Rattle.std.specs.Prelude.{Bool, true, false, ◌&&◌}
use Rattle.std.proofs.lemmas.List.{get_or-set_same}
use Rattle.bit_set.specs.Bits.{is_in, NoneIn, IsNext}
use Rattle.tick_law.specs.SerialLoop.{System, pick, records_below}
use Rattle.tick_law.specs.Course.{part_course, link_course}
use Rattle.model_laws.proofs.ActorByActor.{length_states}
use Rattle.away_rows.specs.declared.marks.Marks.{Marks}
use Rattle.away_rows.specs.Marks.{claimed}
use Rattle.hub_laws.specs.HubState.{HubState}
use Rattle.hub_laws.specs.declared.stage.Stage.{Stage}
use Rattle.hub_laws.specs.Events.{count_to, is_none, all_back, part_claimed, link_claimed, IsLeastTime, NoneBy}
use Rattle.hub_floor.specs.declared.floor.Floor.{Floor}
use Rattle.hub_floor.specs.Floor.{hub_state, RestsOf, PartsOf, LinksOf}
use Rattle.hub_floor.specs.Begins.{IsEnded}
use Rattle.hub_floor.proofs.FloorGives.{parts_count, links_count}
use Rattle.hub_floor.proofs.LeastLaws.{none_is, none_in_all, some_in}
use Rattle.hub_floor.proofs.FloorOpens.{jumps, least_ahead}
use Rattle.run_hub.specs.Stands.{PartsOpen, LinksOpen, StandsAt, Stands, WentOn}
use Rattle.run_hub.specs.Claims.{IsFirstWaiting}

-- some more, of which none passes the test
count_more : (test : ℕ → Bool) (at k : ℕ) → ((i : ℕ) → at ≤ i → i < at + k → test i ≡ false) → count_to test (at + k) ≡ count_to test at
count_more test at zero none = ap (count_to test) (let z : at + 0 ≡ at = omega arith in z)
count_more test at (suc k) none =
    let z : at + suc k ≡ suc (at + k) = omega arith in
    let rest = count_more test at k (λ i l m. none i l (omega (arith, m))) in
    let last : ◌≡◌ {A = ℕ} (pick (test (at + k)) 1 0) 0 = ap (λ b. pick b 1 0) (none (at + k) (omega arith) (omega arith)) in
    ap (count_to test) z ∙ omega (arith, rest, last)

pub count_to_over : (flags : List Bool) (at to : ℕ) → at ≤ to → NoneIn flags at to → count_to (λ i. is_in flags i) to ≡ count_to (λ i. is_in flags i) at
count_to_over flags at to l none =
    let z : at + (to - at) ≡ to = omega (arith, l) in
    ap (count_to (λ i. is_in flags i)) (sym z) ∙ count_more (λ i. is_in flags i) at (to - at) (λ i m b. none i m (omega (arith, b, z)))

-- one more that is in
pub count_one_more : (flags : List Bool) (at : ℕ) → is_in flags at ≡ true → count_to (λ i. is_in flags i) (at + 1) ≡ count_to (λ i. is_in flags i) at + 1
count_one_more flags at e =
    let last : ◌≡◌ {A = ℕ} (pick (is_in flags at) 1 0) 1 = ap (λ b. pick b 1 0) e in
    ap (count_to (λ i. is_in flags i)) (add-one at) ∙ omega (arith, last)

pub first_waiting : (marks : Marks) (i : ℕ) → IsNext marks.waiting 0 i → IsFirstWaiting marks i
first_waiting marks i next = record { waits = next.here; least = λ k l. next.least k (omega arith) l }

pub nobody_waits : (flags : List Bool) → NoneIn flags 0 (length flags) → (i : ℕ) → is_in flags i ≡ false
nobody_waits flags none = none_is flags (none_in_all flags none)

and_false : (b : Bool) → (b && false) ≡ false
and_false true = refl
and_false false = refl

-- who is claimed is out
pub claimed_is_out : (marks : Marks) (i : ℕ) → i < length marks.out → all_back (claimed marks i) ≡ false
claimed_is_out marks i l =
    ap (λ x. is_none (claimed marks i).waiting && x) (some_in (claimed marks i).out i (get_or-set_same marks.out i true false l))
    ∙ and_false (is_none (claimed marks i).waiting)

module _ {P N : Type 0} where
  -- so many parts have marks, and so many links
  pub part_marks_few : (r : System P N) (vp : P → Type 0) (vn : N → Type 0) (until : ℕ) (f : Floor P N) → PartsOf r vp vn until f → (length f.part_marks.waiting < 2 ^ 32) × (length f.part_marks.out ≡ length f.part_marks.waiting)
  part_marks_few r vp vn until f is =
      let n = parts_count r vp vn until f.at f is.of in
      let a = is.parts.passing.marks_are.waiting_all in
      let b = is.parts.passing.marks_are.out_all in
      let few = is.of.fitted.few in
      (omega (arith, n, a, few), omega (arith, a, b))

  pub link_marks_few : (r : System P N) (vp : P → Type 0) (vn : N → Type 0) (until : ℕ) (f : Floor P N) → LinksOf r vp vn until f → (length r.start.world.parts + length f.link_marks.waiting < 2 ^ 32) × (length f.link_marks.out ≡ length f.link_marks.waiting)
  link_marks_few r vp vn until f is =
      let n = links_count r vp vn until f.at f is.of in
      let a = is.links.passing.marks_are.waiting_all in
      let b = is.links.passing.marks_are.out_all in
      let few = is.of.fitted.few in
      (omega (arith, n, a, few), omega (arith, a, b))

  -- the first link is numbered behind the parts
  pub first_link : (r : System P N) (vp : P → Type 0) (vn : N → Type 0) (until : ℕ) (f : Floor P N) → LinksOf r vp vn until f → f.link_side.first ≡ length r.start.world.parts
  first_link r vp vn until f is = is.of.order.then ∙ is.of.fitted.part_count

  pub part_seats : (r : System P N) (vp : P → Type 0) (vn : N → Type 0) (until : ℕ) (f : Floor P N) → PartsOf r vp vn until f → length f.parts.items ≡ length f.part_marks.out
  part_seats r vp vn until f is =
      let c = part_course r in
      is.parts.passing.pass.seated.all ∙ length_states c.machine c.wires (is_in f.part_marks.back) f.at (c.before f.at) ∙ sym is.parts.passing.marks_are.out_all

  pub link_seats : (r : System P N) (vp : P → Type 0) (vn : N → Type 0) (until : ℕ) (f : Floor P N) → LinksOf r vp vn until f → length f.links.items ≡ length f.link_marks.out
  link_seats r vp vn until f is =
      let c = link_course r in
      is.links.passing.pass.seated.all ∙ length_states c.machine c.wires (is_in f.link_marks.back) f.at (c.before f.at) ∙ sym is.links.passing.marks_are.out_all

  pub part_goes : (r : System P N) (vp : P → Type 0) (vn : N → Type 0) (until i : ℕ) (f new : Floor P N) → PartsOpen r vp vn until f → i < length f.part_marks.waiting → PartsOf r vp vn until new → hub_state new ≡ part_claimed (hub_state f) i → PartsOpen r vp vn until new
  part_goes r vp vn until i f new was l is e = record {
    floor = is;
    goes_on = ap (λ (s : HubState). all_back s.part_marks) e ∙ claimed_is_out f.part_marks i (let m = (part_marks_few r vp vn until f was.floor).1 in omega (arith, l, m));
    written = ap (λ (s : HubState). s.failed) e ∙ was.written;
  }

  pub link_goes : (r : System P N) (vp : P → Type 0) (vn : N → Type 0) (until i : ℕ) (f new : Floor P N) → LinksOpen r vp vn until f → i < length f.link_marks.waiting → LinksOf r vp vn until new → hub_state new ≡ link_claimed (hub_state f) i → LinksOpen r vp vn until new
  link_goes r vp vn until i f new was l is e = record {
    floor = is;
    goes_on = ap (λ (s : HubState). all_back s.link_marks) e ∙ claimed_is_out f.link_marks i (let m = (link_marks_few r vp vn until f was.floor).1 in omega (arith, l, m));
    written = ap (λ (s : HubState). s.failed) e ∙ was.written;
  }

  -- a pass stands as its stage says
  pub parts_stand : (r : System P N) (vp : P → Type 0) (vn : N → Type 0) (until : ℕ) (f : Floor P N) → PartsOpen r vp vn until f → Stands r vp vn until f
  parts_stand r vp vn until f is = subst (λ (s : Stage). StandsAt s r vp vn until f) (sym is.floor.stage_is) is

  pub links_stand : (r : System P N) (vp : P → Type 0) (vn : N → Type 0) (until : ℕ) (f : Floor P N) → LinksOpen r vp vn until f → Stands r vp vn until f
  links_stand r vp vn until f is = subst (λ (s : Stage). StandsAt s r vp vn until f) (sym is.floor.stage_is) is

  -- nothing is recorded up to the time that begins
  pub records_open : (r : System P N) (vp : P → Type 0) (vn : N → Type 0) (until t : ℕ) (f : Floor P N) → RestsOf r vp vn until f → IsLeastTime (hub_state f) t → t ≤ until → records_below r t ≡ records_below r f.at
  records_open r vp vn until t f is least l =
      (jumps r vp vn until t f is (least_ahead r vp vn until t f is least) (omega (arith, l)) least.part_least least.link_least).reached.records

  -- nor up to the end
  pub records_end : (r : System P N) (vp : P → Type 0) (vn : N → Type 0) (until : ℕ) (f new : Floor P N) → RestsOf r vp vn until f → IsEnded r vp vn until f new → records_below r new.at ≡ records_below r f.at
  records_end r vp vn until f new is end = by end.may.why (f.failed) refl
    where
      at : new.at ≡ pick f.failed f.at (until + 1)
      at = ap (λ (s : HubState). s.at) end.event

      behind : NoneBy until (hub_state f) → records_below r (until + 1) ≡ records_below r f.at
      behind none =
          (jumps r vp vn until (until + 1) f is is.within (omega arith)
          (λ i n e. (let b = none.parts i n e in omega (arith, b))) (λ i n e. (let b = none.links i n e in omega (arith, b)))).reached.records

      by : (f.failed ≡ true) ⊎ NoneBy until (hub_state f) → (x : Bool) → f.failed ≡ x → records_below r new.at ≡ records_below r f.at
      by why true e = ap (records_below r) (at ∙ ap (λ x. pick x f.at (until + 1)) e)
      by (inl h) false e = absurd (let g : true ≡ false = sym h ∙ e in cc)
      by (inr none) false e = ap (records_below r) (at ∙ ap (λ x. pick x f.at (until + 1)) e) ∙ behind none

  pub ended_stands : (r : System P N) (vp : P → Type 0) (vn : N → Type 0) (until : ℕ) (f new : Floor P N) → IsEnded r vp vn until f new → Stands r vp vn until new
  ended_stands r vp vn until f new end = subst (λ (s : Stage). StandsAt s r vp vn until new) (sym (ap (λ (s : HubState). s.stage) end.event)) (record { floor = end.rest; why = by f.failed refl })
    where
      at : new.at ≡ pick f.failed f.at (until + 1)
      at = ap (λ (s : HubState). s.at) end.event

      by : (x : Bool) → f.failed ≡ x → (new.failed ≡ true) ⊎ (new.at ≡ until + 1)
      by true e = inl (ap (λ (s : HubState). s.failed) end.event ∙ e)
      by false e = inr (at ∙ ap (λ x. pick x f.at (until + 1)) e)

  pub went_end : (r : System P N) (vp : P → Type 0) (vn : N → Type 0) (until : ℕ) (f new : Floor P N) → RestsOf r vp vn until f → IsEnded r vp vn until f new → WentOn r f new
  went_end r vp vn until f new is end = record {
    records = records_end r vp vn until f new is end;
    failed = ap (λ (s : HubState). s.failed) end.event;
    stays = λ e. ap (λ (s : HubState). s.at) end.event ∙ ap (λ x. pick x f.at (until + 1)) e;
  }

  pub went_nowhere : (r : System P N) (f : Floor P N) → WentOn r f f
  went_nowhere r f = record { records = refl; failed = refl; stays = λ e. refl }

  pub went_along : (r : System P N) (f new : Floor P N) → new.at ≡ f.at → new.failed ≡ f.failed → WentOn r f new
  went_along r f new at failed = record { records = ap (records_below r) at; failed = failed; stays = λ e. at }
