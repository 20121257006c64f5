-- What a finish answers, and the events that it is.
use Rattle.std.specs.Prelude.{◌≡◌, ℕ, ◌-◌, ◌==◌, ◌&&◌, Bool, true, false, List, Option, Some, None}
use Rattle.bit_set.specs.Bits.{is_in}
use Rattle.sim_base.specs.declared.time.Time.{Time}
use Rattle.sim_base.specs.declared.phase.Phase.{Phase}
use Rattle.sim_base.specs.declared.phase.Phase.TheVariants.{Primary as InPrimary, Secondary as InSecondary}
use Rattle.tick_law.specs.SerialLoop.{System}
use Rattle.hub_laws.specs.HubState.{HubState}
use Rattle.hub_laws.specs.declared.stage.Stage.{Stage}
use Rattle.hub_laws.specs.declared.stage.Stage.TheVariants.{Boundary, Primary, Secondary, Over}
use Rattle.hub_laws.specs.Events.{all_back, flipped, closed, part_finished, link_finished}
use Rattle.hub_floor.specs.declared.floor.Floor.{Floor}
use Rattle.hub_floor.specs.Floor.{hub_state, PartsOf, LinksOf}
use Rattle.run_hub.specs.declared.task.TaskName.{TaskName}
use Rattle.run_hub.specs.declared.finish.Finish.{Finish}
use Rattle.run_hub.specs.declared.finish.Finish.TheVariants.{Taken, NotOut}
use Rattle.tick_law.specs.PlanView.{PlanView}
use Rattle.run_hub.specs.Written.{IsWritten}
use Rattle.run_hub.specs.Stands.{Stands}
use Rattle.run_hub.specs.GoesOn.{TraceView, TraceStays, AfterParts, AfterLinks}

-- the pass that is open, or none
abbrev pub pass_of : Stage → ℕ → Option (Time × Phase)
pass_of Boundary t = None
pass_of Primary t = Some (record { 0 = t }, InPrimary)
pass_of Secondary t = Some (record { 0 = t }, InSecondary)
pass_of Over t = None

abbrev pub in_parts : Stage → Bool → Bool
in_parts Boundary is = false
in_parts Primary is = is
in_parts Secondary is = false
in_parts Over is = false

abbrev pub in_links : Stage → Bool → Bool
in_links Boundary is = false
in_links Primary is = false
in_links Secondary is = is
in_links Over is = false

-- part i is out for its step at t, and link j
abbrev pub part_is_out : HubState → ℕ → ℕ → Bool
part_is_out s t i = in_parts s.stage (s.at == t && is_in s.part_marks.out i)

abbrev pub link_is_out : HubState → ℕ → ℕ → Bool
link_is_out s t j = in_links s.stage (s.at == t && is_in s.link_marks.out j)

-- the actor of this step is out for it; links are numbered behind so many parts
abbrev pub out_in : Phase → ℕ → HubState → ℕ → ℕ → Bool
out_in InPrimary parts s t who = part_is_out s t who
out_in InSecondary parts s t who = link_is_out s t (who - parts)

abbrev pub is_out : ℕ → HubState → TaskName → Bool
is_out parts s name = out_in name.phase parts s name.at.0 name.actor.0

-- Close, where it may come
abbrev pub close_if : Bool → Bool → HubState → HubState
close_if true failed s = closed failed s
close_if false failed s = s

abbrev pub link_gone_on : Bool → HubState → HubState
link_gone_on failed s = close_if (all_back s.link_marks) failed s

-- Flip and Close, each where it may come
abbrev pub flip_if : Bool → Bool → HubState → HubState
flip_if true failed s = link_gone_on failed (flipped s)
flip_if false failed s = s

abbrev pub part_gone_on : Bool → HubState → HubState
part_gone_on failed s = flip_if (all_back s.part_marks) failed s

module _ {P N : Type 0} where
  -- Finish of the actor of this step; then Flip and Close, each where it may come. It is told whether a write failed
  abbrev pub finished_in : Phase → System P N → ℕ → Bool → HubState → ℕ → HubState
  finished_in InPrimary r parts failed s who = part_gone_on failed (part_finished r s who)
  finished_in InSecondary r parts failed s who = link_gone_on failed (link_finished r s (who - parts))

  abbrev pub finished : System P N → ℕ → Bool → HubState → TaskName → HubState
  finished r parts failed s name = finished_in name.phase r parts failed s name.actor.0

  -- part i is back, and what follows has happened
  pub record PartFinishes (r : System P N) (vp : P → Type 0) (vn : N → Type 0) (until i : ℕ) (old new : Floor P N) (trace trace' : TraceView) : Type 0 where
    pub mid : Floor P N
    pub floor : PartsOf r vp vn until mid
    pub event : hub_state mid ≡ part_finished r (hub_state old) i
    pub after : AfterParts r vp vn until mid new trace trace'

  -- link j is back, and what follows has happened
  pub record LinkFinishes (r : System P N) (vp : P → Type 0) (vn : N → Type 0) (until j : ℕ) (old new : Floor P N) (trace trace' : TraceView) : Type 0 where
    pub mid : Floor P N
    pub floor : LinksOf r vp vn until mid
    pub event : hub_state mid ≡ link_finished r (hub_state old) j
    pub after : AfterLinks r vp vn until mid new trace trace'

module _ {P N : Type 0} where
  -- what stands after a finish: a run of this plan, with these events, and what was written of it
  pub record GoneOn (r : System P N) (vp : P → Type 0) (vn : N → Type 0) (plan : PlanView P N) (all : Bool) (told : Option (List ℕ)) (faults : ℕ) (event : Bool → HubState) (new : Floor P N) (trace trace' : TraceView) : Type 0 where
    pub stands : Stands r vp vn plan.until new
    pub event_is : hub_state new ≡ event new.failed
    pub written : IsWritten plan r all told faults new.at new.failed trace'
    pub stays : TraceStays trace trace'

-- what a finish answers, and what it changes
abbrev pub Finishes : {P N C : Type 0} → System P N → ℕ → HubState → HubState → TraceView → TraceView → TaskName → Finish P N C → Type 0
Finishes r parts old new trace trace' done Taken = (is_out parts old done ≡ true) × (new ≡ finished r parts new.failed old done) × TraceStays trace trace'
Finishes r parts old new trace trace' done (NotOut given now) = (is_out parts old done ≡ false) × (new ≡ old) × (trace' ≡ trace) × (given ≡ done) × (now ≡ pass_of old.stage old.at)
