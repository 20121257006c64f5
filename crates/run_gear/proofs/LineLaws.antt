-- Lines of records, one time after another.
use Rattle.std.proofs.Common.{◌≡◌, ℕ, ◌+◌, ◌-◌, ◌<◌, ◌≤◌, List, [], ◌++◌, length, zero, suc, sym, ◌∙◌, ap, subst, arith, refl}
use Rattle.std.specs.Prelude.{Option, Some, None, Bool, All, option_map}
use Rattle.std.proofs.lemmas.List.{append-nil}
use Rattle.std.proofs.lemmas.List.Elements.{All-nil, All-append, All-map}
use Rattle.std.proofs.lemmas.Grind.{flat_map-append}
use Rattle.sim_base.specs.declared.time.TheConstants.{LATEST_TICK}
use Rattle.port_msg.specs.RecView.{records_at, record_of}
use Rattle.port_msg.specs.declared.records.Record.{Record}
use Rattle.sim_io.specs.Sink.{Rose, Got, GotPrefix}
use Rattle.tick_law.specs.Machine.{Machine}
use Rattle.tick_law.specs.Wires.{Wires}
use Rattle.tick_law.specs.Pass.{Side}
use Rattle.tick_law.specs.PlanView.{PlanView}
use Rattle.tick_law.specs.SerialLoop.{System, begun, world_at, mid, parts_of, links_of, records_at_time}
use Rattle.tick_law.specs.Outcomes.{outcome, whats_of, records_to}
use Rattle.model_laws.specs.Fitted.{IsSetUp}
use Rattle.model_laws.proofs.BothCourses.{world_good}
use Rattle.trace_out.specs.Names.{NamesView}
use Rattle.trace_out.specs.Lines.{text_of, lines_of, line_count}
use Rattle.run_gear.specs.PlanNames.{names_of}
use Rattle.run_gear.specs.Written.{GotLines, GotSomeLines}
use Rattle.trace_out.proofs.Writing.{Got-more}

-- no text more
pub nothing_more : (told : Option (List ℕ)) → told ≡ option_map (λ held. held ++ []) told
nothing_more None = refl
nothing_more (Some bytes) = ap (λ l. Some l) (sym (append-nil bytes))

pub rose_later : (before between after : ℕ) → before ≤ between → Rose between after → Rose before after
rose_later before between after a b = grind arith

-- the lines of some records and of those that follow
pub lines_grow : (names : NamesView) (all : Bool) (a b both : List Record) (old mid new : Option (List ℕ)) → both ≡ a ++ b → Got old mid (lines_of names all a) → Got mid new (lines_of names all b) → Got old new (lines_of names all both)
lines_grow names all a b both old mid new is p q =
    subst (λ (bytes : List ℕ). Got old new bytes) (sym (flat_map-append (text_of names all) a b) ∙ ap (lines_of names all) (sym is))
    (Got-more old mid new (lines_of names all a) (lines_of names all b) p q)

actors_in : {S : Type 0} (m : Machine S) (w : Wires) (stepped : ℕ → Bool) (t : ℕ) (h : Side S) (base n most : ℕ) → base + n ≤ most → All (λ (x : Record). x.actor.0 < most) (records_to m w stepped t h base n)
actors_in m w stepped t h base zero most b = All-nil (λ (x : Record). x.actor.0 < most)
actors_in m w stepped t h base (suc n) most b =
    All-append (λ (x : Record). x.actor.0 < most) (records_to m w stepped t h base n) (records_at t (base + n) (whats_of (outcome m w stepped t h n)))
    (actors_in m w stepped t h base n most (omega arith))
    (All-map (λ (x : Record). x.actor.0 < most) (record_of t (base + n)) (whats_of (outcome m w stepped t h n)) (λ k d l. (let z : base + n < most = omega arith in z)))

module _ {P N : Type 0} where
  -- a line of time t was not written
  pub some_lines : (plan : PlanView P N) (r : System P N) (all : Bool) (t : ℕ) (old held new : Option (List ℕ)) → 0 < line_count all (records_at_time r t) → GotLines plan r all t old held → GotPrefix held new (lines_of (names_of plan) all (records_at_time r t)) → GotSomeLines plan r all (t + 1) old new
  some_lines plan r all t old held new one earlier prefix =
      let last : t ≡ t + 1 - 1 = omega arith in
      record {
        behind = omega arith;
        one = subst (λ n. 0 < line_count all (records_at_time r n)) last one;
        held = held;
        earlier = subst (λ n. GotLines plan r all n old held) last earlier;
        prefix = subst (λ n. GotPrefix held new (lines_of (names_of plan) all (records_at_time r n))) last prefix;
      }

  -- each record of a time is of an actor that is there
  pub known_actors : (r : System P N) (vp : P → Type 0) (vn : N → Type 0) (t most : ℕ) → IsSetUp r vp vn → t ≤ LATEST_TICK + 1 → most ≡ length r.start.world.parts + length r.start.world.links → All (λ (x : Record). x.actor.0 < most) (records_at_time r t)
  known_actors r vp vn t most up l e =
      let good = world_good r vp vn t up l in
      let parts : length (world_at r t).parts ≡ length r.start.world.parts = good.part_count in
      let links : length (mid r t).links ≡ length r.start.world.links = good.link_count in
      All-append (λ (x : Record). x.actor.0 < most) _ _
      (actors_in r.part r.part_wires (begun r.start.at t) t (parts_of (world_at r t)) 0 (length (world_at r t).parts) most (omega (arith, parts, e)))
      (actors_in r.link r.link_wires (begun r.start.at t) t (links_of (mid r t)) (length r.start.world.parts) (length (mid r t).links) most (omega (arith, links, e)))
