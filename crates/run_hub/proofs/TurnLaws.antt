-- What follows where an actor is back.
use Rattle.std.proofs.Common.{◌≡◌, ℕ, ◌<◌, inl, inr, ◌⊎◌, sym, ◌∙◌, ap, subst, refl}
use Rattle.std.specs.Prelude.{Bool, true, false, not}
use Rattle.sim_io.specs.Sink.{Rose, Got, GotPrefix}
use Rattle.task_stats.specs.Tasks.{after_records}
use Rattle.trace_out.specs.Lines.{lines_of, line_count}
use Rattle.tick_law.specs.SerialLoop.{System, records_at_time}
use Rattle.hub_laws.specs.HubState.{HubState}
use Rattle.hub_laws.specs.Events.{all_back, flipped, closed}
use Rattle.hub_floor.specs.declared.floor.Floor.{Floor}
use Rattle.hub_floor.specs.Floor.{hub_state, RestsOf, LinksOf}
use Rattle.run_hub.specs.GoesOn.{TraceView, TraceStays, TimeClosed, LinksOpened, AfterLinks}

not_false : (b : Bool) → not b ≡ false → b ≡ true
not_false true e = refl
not_false false e = absurd (cc)

not_true : (b : Bool) → not b ≡ true → b ≡ false
not_true true e = absurd (cc)
not_true false e = refl

module _ {P N : Type 0} where
  pub time_closed : (r : System P N) (vp : P → Type 0) (vn : N → Type 0) (until t : ℕ) (from : HubState) (new : Floor P N) (trace trace' : TraceView) (written : Bool) → RestsOf r vp vn until new → hub_state new ≡ closed (not written) from →
      (written ≡ true → Got trace.told trace'.told (lines_of trace.names trace.all (records_at_time r t))) → (written ≡ false → Rose trace.faults trace'.faults) → (written ≡ false → 0 < line_count trace.all (records_at_time r t)) → (written ≡ false → GotPrefix trace.told trace'.told (lines_of trace.names trace.all (records_at_time r t))) → trace'.stats ≡ after_records trace.stats (records_at_time r t) → TraceStays trace trace' → TimeClosed r vp vn until t from new trace trace'
  time_closed r vp vn until t from new trace trace' written rest event whole fault some part counted stays =
      let is : new.failed ≡ not written = ap (λ (s : HubState). s.failed) event in
      record {
        rest = rest;
        event = event ∙ ap (λ b. closed b from) (sym is);
        whole = λ e. whole (not_false written (sym is ∙ e));
        fault = λ e. fault (not_true written (sym is ∙ e));
        some = λ e. some (not_true written (sym is ∙ e));
        part = λ e. part (not_true written (sym is ∙ e));
        counted = counted;
        stays = stays;
      }

  -- after the links' pass opened
  pub then_links : (r : System P N) (vp : P → Type 0) (vn : N → Type 0) (until : ℕ) (old mid new : Floor P N) (trace trace' : TraceView) → LinksOf r vp vn until mid → hub_state mid ≡ flipped (hub_state old) → AfterLinks r vp vn until mid new trace trace' →
      LinksOpened r vp vn until old new trace trace' ⊎ ((all_back (flipped (hub_state old)).link_marks ≡ true) × TimeClosed r vp vn until old.at (flipped (hub_state old)) new trace trace')
  then_links r vp vn until old mid new trace trace' links e (inl (waits, same, kept)) =
      inl (record {
        floor = subst (λ (f : Floor P N). LinksOf r vp vn until f) (sym same) links;
        event = ap (λ (f : Floor P N). hub_state f) same ∙ e;
        waits = ap (λ (f : Floor P N). all_back f.link_marks) same ∙ waits;
        same = kept;
      })
  then_links r vp vn until old mid new trace trace' links e (inr (back, over)) =
      inr (sym (ap (λ (s : HubState). all_back s.link_marks) e) ∙ back, subst (λ (s : HubState). TimeClosed r vp vn until s.at s new trace trace') e over)
