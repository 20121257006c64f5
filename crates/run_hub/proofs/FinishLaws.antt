-- Finishes: where a step is out, and what stands afterwards.
use Rattle.std.proofs.Common.{◌≡◌, ℕ, zero, suc, ◌+◌, ◌-◌, ◌<◌, ◌≤◌, inl, inr, List, [], ◌∷◌, ◌++◌, length, sym, ◌∙◌, ap, subst, arith, refl, add-one}
use Rattle.std.specs.Prelude.{Option, Bool, true, false, ◌&&◌, ◌==◌}
use Rattle.bit_set.specs.Bits.{is_in}
use Rattle.sim_base.specs.declared.phase.Phase.{Phase}
use Rattle.sim_base.specs.declared.phase.Phase.TheVariants.{Primary as InPrimary, Secondary as InSecondary}
use Rattle.tick_law.specs.PlanView.{PlanView}
use Rattle.tick_law.specs.SerialLoop.{System, records_at_time, records_below}
use Rattle.tick_law.specs.Course.{part_course, link_course}
use Rattle.model_laws.proofs.OneMoreActor.{is_same}
use Rattle.away_rows.specs.declared.body.Body.{Body}
use Rattle.away_rows.specs.SidePass.{IsAfter}
use Rattle.hub_laws.specs.HubState.{HubState}
use Rattle.hub_laws.specs.declared.stage.Stage.{Stage}
use Rattle.hub_laws.specs.declared.stage.Stage.TheVariants.{Boundary, Primary, Secondary, Over}
use Rattle.hub_laws.specs.Events.{all_back, flipped, closed, part_finished, link_finished}
use Rattle.hub_floor.specs.declared.floor.Floor.{Floor}
use Rattle.hub_floor.specs.Floor.{hub_state, PartsOf, LinksOf}
use Rattle.sim_io.specs.Sink.{Got, GotPrefix}
use Rattle.trace_out.specs.Names.{actors_of}
use Rattle.trace_out.specs.Lines.{lines_of, line_count}
use Rattle.run_gear.specs.PlanNames.{names_of}
use Rattle.run_gear.proofs.LineLaws.{lines_grow, some_lines, rose_later}
use Rattle.run_hub.specs.declared.task.TaskName.{TaskName}
use Rattle.run_hub.specs.GoesOn.{TraceView, TraceStays, TimeClosed, AfterLinks, AfterParts}
use Rattle.run_hub.specs.Written.{IsWritten}
use Rattle.run_hub.specs.Stands.{PartsOpen, LinksOpen, StandsAt, Stands}
use Rattle.run_hub.specs.Tasks.{PartDone, LinkDone}
use Rattle.run_hub.specs.Finishes.{in_parts, in_links, part_is_out, link_is_out, is_out, out_in, link_gone_on, part_gone_on, close_if, flip_if, finished_in, finished, PartFinishes, LinkFinishes, GoneOn}
use Rattle.run_hub.proofs.CountLaws.{counted_then}
use Rattle.run_hub.proofs.ClaimLaws.{parts_stand, links_stand}

pub past_in : (xs : List Bool) (i : ℕ) → length xs ≤ i → is_in xs i ≡ false
past_in [] i b = refl
past_in (x ∷ xs) zero b = absurd (omega (arith, b))
past_in (x ∷ xs) (suc i) b = past_in xs i (omega (arith, b))

both_of : (a b : Bool) → (a && b) ≡ true → (a ≡ true) × (b ≡ true)
both_of true b e = (refl, e)
both_of false b e = absurd (cc)

in_parts_told : (x : Stage) (b : Bool) → in_parts x b ≡ true → (x ≡ Primary) × (b ≡ true)
in_parts_told Boundary b e = absurd (cc)
in_parts_told Primary b e = (refl, e)
in_parts_told Secondary b e = absurd (cc)
in_parts_told Over b e = absurd (cc)

in_links_told : (x : Stage) (b : Bool) → in_links x b ≡ true → (x ≡ Secondary) × (b ≡ true)
in_links_told Boundary b e = absurd (cc)
in_links_told Primary b e = absurd (cc)
in_links_told Secondary b e = (refl, e)
in_links_told Over b e = absurd (cc)

less_parts : (parts j who : ℕ) → who ≡ parts + j → who - parts ≡ j
less_parts parts j who e = omega (arith, e)

stays_same : (trace : TraceView) → TraceStays trace trace
stays_same trace = record { names = refl; all = refl; never_falls = omega arith; telling = refl }

module _ {P N : Type 0} where
  -- a step of a part that is out here
  pub record PartIsOut (r : System P N) (vp : P → Type 0) (vn : N → Type 0) (until i : ℕ) (f : Floor P N) (b : Body P) (flag : Bool) : Type 0 where
    pub pass : PartsOpen r vp vn until f
    pub mark : is_in f.part_marks.out i ≡ true
    pub done : IsAfter (part_course r) 0 f.at i true b flag

  pub part_out_here : (r : System P N) (vp : P → Type 0) (vn : N → Type 0) (until parts i : ℕ) (f : Floor P N) (name : TaskName) (b : Body P) (flag : Bool) → Stands r vp vn until f → is_out parts (hub_state f) name ≡ true → PartDone r name i b flag → PartIsOut r vp vn until i f b flag
  part_out_here r vp vn until parts i f name b flag stands out done =
      let told = in_parts_told f.stage (f.at == name.at.0 && is_in f.part_marks.out i)
      (sym (ap (λ (p : Phase). out_in p parts (hub_state f) name.at.0 name.actor.0) done.phase ∙ ap (λ n. part_is_out (hub_state f) name.at.0 n) done.actor) ∙ out) in
      let both = both_of (f.at == name.at.0) (is_in f.part_marks.out i) told.1 in
      record {
        pass = subst (λ (s : Stage). StandsAt s r vp vn until f) told.0 stands;
        mark = both.1;
        done = subst (λ t. IsAfter (part_course r) 0 t i true b flag) (sym (is_same f.at name.at.0 both.0)) done.done;
      }

  -- a step of a link that is out here
  pub record LinkIsOut (r : System P N) (vp : P → Type 0) (vn : N → Type 0) (until j : ℕ) (f : Floor P N) (b : Body N) (flag : Bool) : Type 0 where
    pub pass : LinksOpen r vp vn until f
    pub mark : is_in f.link_marks.out j ≡ true
    pub done : IsAfter (link_course r) (length r.start.world.parts) f.at j false b flag

  pub link_out_here : (r : System P N) (vp : P → Type 0) (vn : N → Type 0) (until j : ℕ) (f : Floor P N) (name : TaskName) (b : Body N) (flag : Bool) → Stands r vp vn until f → is_out (length r.start.world.parts) (hub_state f) name ≡ true → LinkDone r name j b flag → LinkIsOut r vp vn until j f b flag
  link_out_here r vp vn until j f name b flag stands out done =
      let told = in_links_told f.stage (f.at == name.at.0 && is_in f.link_marks.out j)
      (sym (ap (λ (p : Phase). out_in p (length r.start.world.parts) (hub_state f) name.at.0 name.actor.0) done.phase ∙ ap (λ n. link_is_out (hub_state f) name.at.0 n) (less_parts (length r.start.world.parts) j name.actor.0 done.actor)) ∙ out) in
      let both = both_of (f.at == name.at.0) (is_in f.link_marks.out j) told.1 in
      record {
        pass = subst (λ (s : Stage). StandsAt s r vp vn until f) told.0 stands;
        mark = both.1;
        done = subst (λ t. IsAfter (link_course r) (length r.start.world.parts) t j false b flag) (sym (is_same f.at name.at.0 both.0)) done.done;
      }

  below_one : (r : System P N) (t : ℕ) → records_below r (t + 1) ≡ records_below r t ++ records_at_time r t
  below_one r t = ap (records_below r) (add-one t)

  -- one time more is written
  time_written : (r : System P N) (vp : P → Type 0) (vn : N → Type 0) (t : ℕ) (plan : PlanView P N) (all : Bool) (told : Option (List ℕ)) (faults : ℕ) (from : HubState) (new : Floor P N) (trace trace' : TraceView) → IsWritten plan r all told faults t false trace → TimeClosed r vp vn plan.until t from new trace trace' → IsWritten plan r all told faults (t + 1) new.failed trace'
  time_written r vp vn t plan all told faults from new trace trace' was over = record {
    names_are = over.stays.names ∙ was.names_are;
    named = ap actors_of over.stays.names ∙ was.named;
    all_is = over.stays.all ∙ was.all_is;
    whole = λ e. lines_grow (names_of plan) all (records_below r t) (records_at_time r t) (records_below r (t + 1)) told trace.told trace'.told (below_one r t) (was.whole refl) (here_whole (over.whole e));
    cut = λ e. some_lines plan r all t told trace.told trace'.told (subst (λ b. 0 < line_count b (records_at_time r t)) was.all_is (over.some e)) (was.whole refl) (here_part (over.part e));
    fault = λ e. rose_later faults trace.faults trace'.faults was.never_falls (over.fault e);
    never_falls = (let a = was.never_falls in let b = over.stays.never_falls in omega (arith, a, b));
    telling = over.stays.telling ∙ was.telling;
    counted = counted_then _ trace.stats trace'.stats (records_below r t) (records_at_time r t) (records_below r (t + 1)) (below_one r t) was.counted over.counted;
  }
    where
      here_whole : Got trace.told trace'.told (lines_of trace.names trace.all (records_at_time r t)) → Got trace.told trace'.told (lines_of (names_of plan) all (records_at_time r t))
      here_whole got =
          subst (λ b. Got trace.told trace'.told (lines_of (names_of plan) b (records_at_time r t))) was.all_is
          (subst (λ n. Got trace.told trace'.told (lines_of n trace.all (records_at_time r t))) was.names_are got)

      here_part : GotPrefix trace.told trace'.told (lines_of trace.names trace.all (records_at_time r t)) → GotPrefix trace.told trace'.told (lines_of (names_of plan) all (records_at_time r t))
      here_part got =
          subst (λ b. GotPrefix trace.told trace'.told (lines_of (names_of plan) b (records_at_time r t))) was.all_is
          (subst (λ n. GotPrefix trace.told trace'.told (lines_of n trace.all (records_at_time r t))) was.names_are got)

  -- the time is over
  time_gone : (r : System P N) (vp : P → Type 0) (vn : N → Type 0) (t : ℕ) (plan : PlanView P N) (all : Bool) (told : Option (List ℕ)) (faults : ℕ) (event : Bool → HubState) (from : HubState) (new : Floor P N) (trace trace' : TraceView) → from.at ≡ t → event new.failed ≡ closed new.failed from → IsWritten plan r all told faults t false trace → TimeClosed r vp vn plan.until t from new trace trace' → GoneOn r vp vn plan all told faults event new trace trace'
  time_gone r vp vn t plan all told faults event from new trace trace' at e was over = record {
    stands = subst (λ (s : Stage). StandsAt s r vp vn plan.until new) (sym (ap (λ (s : HubState). s.stage) over.event)) over.rest;
    event_is = over.event ∙ sym e;
    written = subst (λ d. IsWritten plan r all told faults d new.failed trace') (ap (λ n. n + 1) (sym at) ∙ sym (ap (λ (s : HubState). s.at) over.event)) (time_written r vp vn t plan all told faults from new trace trace' was over);
    stays = over.stays;
  }

  -- what follows where a link is back
  pub links_gone : (r : System P N) (vp : P → Type 0) (vn : N → Type 0) (plan : PlanView P N) (all : Bool) (told : Option (List ℕ)) (faults : ℕ) (mid new : Floor P N) (trace trace' : TraceView) → LinksOf r vp vn plan.until mid → mid.failed ≡ false → IsWritten plan r all told faults mid.at false trace → AfterLinks r vp vn plan.until mid new trace trace' →
      GoneOn r vp vn plan all told faults (λ failed. link_gone_on failed (hub_state mid)) new trace trace'
  links_gone r vp vn plan all told faults mid new trace trace' is ok was (inl (waits, same, kept)) =
      subst (λ (x : Floor P N). GoneOn r vp vn plan all told faults (λ failed. link_gone_on failed (hub_state mid)) x trace trace') (sym same)
      (subst (λ (x : TraceView). GoneOn r vp vn plan all told faults (λ failed. link_gone_on failed (hub_state mid)) mid trace x) (sym kept)
      (record {
        stands = links_stand r vp vn plan.until mid (record { floor = is; goes_on = waits; written = ok });
        event_is = sym (ap (λ b. close_if b mid.failed (hub_state mid)) waits);
        written = subst (λ b. IsWritten plan r all told faults mid.at b trace) (sym ok) was;
        stays = stays_same trace;
      }))
  links_gone r vp vn plan all told faults mid new trace trace' is ok was (inr (back, over)) =
      time_gone r vp vn mid.at plan all told faults (λ failed. link_gone_on failed (hub_state mid)) (hub_state mid) new trace trace' refl (ap (λ b. close_if b new.failed (hub_state mid)) back) was over

  -- what follows where a part is back
  pub parts_gone : (r : System P N) (vp : P → Type 0) (vn : N → Type 0) (plan : PlanView P N) (all : Bool) (told : Option (List ℕ)) (faults : ℕ) (mid new : Floor P N) (trace trace' : TraceView) → PartsOf r vp vn plan.until mid → mid.failed ≡ false → IsWritten plan r all told faults mid.at false trace → AfterParts r vp vn plan.until mid new trace trace' →
      GoneOn r vp vn plan all told faults (λ failed. part_gone_on failed (hub_state mid)) new trace trace'
  parts_gone r vp vn plan all told faults mid new trace trace' is ok was (inl (waits, same, kept)) =
      subst (λ (x : Floor P N). GoneOn r vp vn plan all told faults (λ failed. part_gone_on failed (hub_state mid)) x trace trace') (sym same)
      (subst (λ (x : TraceView). GoneOn r vp vn plan all told faults (λ failed. part_gone_on failed (hub_state mid)) mid trace x) (sym kept)
      (record {
        stands = parts_stand r vp vn plan.until mid (record { floor = is; goes_on = waits; written = ok });
        event_is = sym (ap (λ b. flip_if b mid.failed (hub_state mid)) waits);
        written = subst (λ b. IsWritten plan r all told faults mid.at b trace) (sym ok) was;
        stays = stays_same trace;
      }))
  parts_gone r vp vn plan all told faults mid new trace trace' is ok was (inr (back, inl opens)) =
      let written : new.failed ≡ false = ap (λ (s : HubState). s.failed) opens.event ∙ ok in
      let at : new.at ≡ mid.at = ap (λ (s : HubState). s.at) opens.event in
      record {
        stands = links_stand r vp vn plan.until new (record { floor = opens.floor; goes_on = opens.waits; written = written });
        event_is =
            opens.event
            ∙ sym (ap (λ b. flip_if b new.failed (hub_state mid)) back
            ∙ ap (λ b. close_if b new.failed (flipped (hub_state mid))) (sym (ap (λ (s : HubState). all_back s.link_marks) opens.event) ∙ opens.waits));
        written = subst (λ (x : TraceView). IsWritten plan r all told faults new.at new.failed x) (sym opens.same)
            (subst (λ b. IsWritten plan r all told faults new.at b trace) (sym written)
            (subst (λ d. IsWritten plan r all told faults d false trace) (sym at) was));
        stays = subst (λ (x : TraceView). TraceStays trace x) (sym opens.same) (stays_same trace);
      }
  parts_gone r vp vn plan all told faults mid new trace trace' is ok was (inr (back, inr (links, over))) =
      time_gone r vp vn mid.at plan all told faults (λ failed. part_gone_on failed (hub_state mid)) (flipped (hub_state mid)) new trace trace' refl
      (ap (λ b. flip_if b new.failed (hub_state mid)) back ∙ ap (λ b. close_if b new.failed (flipped (hub_state mid))) links) was over

  part_named : (r : System P N) (parts i : ℕ) (failed : Bool) (s : HubState) (name : TaskName) → name.phase ≡ InPrimary → name.actor.0 ≡ i → finished r parts failed s name ≡ part_gone_on failed (part_finished r s i)
  part_named r parts i failed s name phase actor =
      ap (λ (p : Phase). finished_in p r parts failed s name.actor.0) phase ∙ ap (λ n. part_gone_on failed (part_finished r s n)) actor

  link_named : (r : System P N) (parts j : ℕ) (failed : Bool) (s : HubState) (name : TaskName) → name.phase ≡ InSecondary → name.actor.0 ≡ parts + j → finished r parts failed s name ≡ link_gone_on failed (link_finished r s j)
  link_named r parts j failed s name phase actor =
      ap (λ (p : Phase). finished_in p r parts failed s name.actor.0) phase ∙ ap (λ n. link_gone_on failed (link_finished r s n)) (less_parts parts j name.actor.0 actor)

  -- a part's step was taken back
  pub part_taken : (r : System P N) (vp : P → Type 0) (vn : N → Type 0) (plan : PlanView P N) (all : Bool) (told : Option (List ℕ)) (faults parts i : ℕ) (f new : Floor P N) (trace trace' : TraceView) (name : TaskName) → name.phase ≡ InPrimary → name.actor.0 ≡ i → PartsOpen r vp vn plan.until f → IsWritten plan r all told faults f.at f.failed trace → PartFinishes r vp vn plan.until i f new trace trace' →
      GoneOn r vp vn plan all told faults (λ failed. finished r parts failed (hub_state f) name) new trace trace'
  part_taken r vp vn plan all told faults parts i f new trace trace' name phase actor pass was done =
      let ok : done.mid.failed ≡ false = ap (λ (s : HubState). s.failed) done.event ∙ pass.written in
      let at : done.mid.at ≡ f.at = ap (λ (s : HubState). s.at) done.event in
      let before : IsWritten plan r all told faults done.mid.at false trace = subst (λ d. IsWritten plan r all told faults d false trace) (sym at) (subst (λ b. IsWritten plan r all told faults f.at b trace) pass.written was) in
      let gone = parts_gone r vp vn plan all told faults done.mid new trace trace' done.floor ok before done.after in
      record {
        stands = gone.stands;
        event_is = gone.event_is ∙ ap (λ (s : HubState). part_gone_on new.failed s) done.event ∙ sym (part_named r parts i new.failed (hub_state f) name phase actor);
        written = gone.written;
        stays = gone.stays;
      }

  -- a link's step was taken back
  pub link_taken : (r : System P N) (vp : P → Type 0) (vn : N → Type 0) (plan : PlanView P N) (all : Bool) (told : Option (List ℕ)) (faults parts j : ℕ) (f new : Floor P N) (trace trace' : TraceView) (name : TaskName) → name.phase ≡ InSecondary → name.actor.0 ≡ parts + j → LinksOpen r vp vn plan.until f → IsWritten plan r all told faults f.at f.failed trace → LinkFinishes r vp vn plan.until j f new trace trace' →
      GoneOn r vp vn plan all told faults (λ failed. finished r parts failed (hub_state f) name) new trace trace'
  link_taken r vp vn plan all told faults parts j f new trace trace' name phase actor pass was done =
      let ok : done.mid.failed ≡ false = ap (λ (s : HubState). s.failed) done.event ∙ pass.written in
      let at : done.mid.at ≡ f.at = ap (λ (s : HubState). s.at) done.event in
      let before : IsWritten plan r all told faults done.mid.at false trace = subst (λ d. IsWritten plan r all told faults d false trace) (sym at) (subst (λ b. IsWritten plan r all told faults f.at b trace) pass.written was) in
      let gone = links_gone r vp vn plan all told faults done.mid new trace trace' done.floor ok before done.after in
      record {
        stands = gone.stands;
        event_is = gone.event_is ∙ ap (λ (s : HubState). link_gone_on new.failed s) done.event ∙ sym (link_named r parts j new.failed (hub_state f) name phase actor);
        written = gone.written;
        stays = gone.stays;
      }
