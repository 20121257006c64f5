use Rattle.std.proofs.Common.{◌≡◌, ◌+◌, ap, subst, ◌∙◌}
use Rattle.sim_io.specs.Sink.{Got}
use Rattle.tick_law.specs.SerialLoop.{records_below}
use Rattle.tick_law.specs.PlanView.{system_from}
use Rattle.trace_out.specs.Lines.{lines_of}
use Rattle.run_gear.specs.Counted.{counted_with}
use Rattle.run_gear.specs.PlanNames.{names_of}
use Rattle.phase_engine.specs.Engine.{EngineView}
use Rattle.phase_engine.proofs.RunLaws.{from_beginning, some_from_beginning, awake_then}
use Rattle.phase_engine.proofs.EngineLaws.{world_is}
use Rattle.phase_engine.proofs.AsleepLaws.{who_waits}
use Rattle.phase_engine.proofs.engine.Engine.run.Goals as goal

pub returns-then-not-run_due-clause-prefix : goal.returns-then-not-run_due-clause-prefix
returns-then-not-run_due-clause-prefix g c =
    let r = system_from g.P.Actor.machine g.N.Actor.machine g.C.Charter.plan g.C.Charter.start in
    let from = c.self.inside.run.at in
    let at : from ≡ g.C.Charter.start.at = ap (λ (e : EngineView _ _). e.at) c.self.view_is ∙ c.requires.beginning in
    let new = c.run_due.new in
    some_from_beginning g.C.Charter.plan r c.args.kept.all from new.run.at (g.K.Sink.told c.args.sink.now) (g.K.Sink.told new.sink) at (c.run_due.ensures.prefix c.if-not-run_due.true)

pub returns-then-not-run_due-clause-world : goal.returns-then-not-run_due-clause-world
returns-then-not-run_due-clause-world g c = world_is g.P.Actor.machine g.N.Actor.machine g.P.Actor.valid g.N.Actor.valid g.C.Charter.plan g.C.Charter.start c.run_due.new.run c.run_due.ensures.run

pub returns-then-not-run_due-clause-steps : goal.returns-then-not-run_due-clause-steps
returns-then-not-run_due-clause-steps g c =
    let r = system_from g.P.Actor.machine g.N.Actor.machine g.C.Charter.plan g.C.Charter.start in
    let at : c.self.inside.run.at ≡ g.C.Charter.start.at = ap (λ (e : EngineView _ _). e.at) c.self.view_is ∙ c.requires.beginning in
    awake_then r c.self.inside.run.at c.run_due.new.run.at c.args.steps.now c.run_due.new.steps at c.run_due.ensures.steps

pub returns-clause-lines : goal.returns-clause-lines
returns-clause-lines g c =
    let r = system_from g.P.Actor.machine g.N.Actor.machine g.C.Charter.plan g.C.Charter.start in
    let from = c.self.inside.run.at in
    let at : from ≡ g.C.Charter.start.at = ap (λ (e : EngineView _ _). e.at) c.self.view_is ∙ c.requires.beginning in
    let new = c.run_due.new in
    let ended : new.run.at ≡ g.C.Charter.plan.until + 1 = c.run_due.ensures.to_end c.if-not-run_due.false in
    subst (λ d. Got (g.K.Sink.told c.args.sink.now) (g.K.Sink.told new.sink) (lines_of (names_of g.C.Charter.plan) c.args.kept.all (records_below r d))) ended
    (subst (λ l. Got (g.K.Sink.told c.args.sink.now) (g.K.Sink.told new.sink) (lines_of (names_of g.C.Charter.plan) c.args.kept.all l))
    (from_beginning r from new.run.at at c.run_due.ensures.onward) (c.run_due.ensures.whole c.if-not-run_due.false))

pub returns-clause-world : goal.returns-clause-world
returns-clause-world g c = world_is g.P.Actor.machine g.N.Actor.machine g.P.Actor.valid g.N.Actor.valid g.C.Charter.plan g.C.Charter.start c.run_due.new.run c.run_due.ensures.run

pub returns-clause-steps : goal.returns-clause-steps
returns-clause-steps g c =
    let r = system_from g.P.Actor.machine g.N.Actor.machine g.C.Charter.plan g.C.Charter.start in
    let at : c.self.inside.run.at ≡ g.C.Charter.start.at = ap (λ (e : EngineView _ _). e.at) c.self.view_is ∙ c.requires.beginning in
    awake_then r c.self.inside.run.at c.run_due.new.run.at c.args.steps.now c.run_due.new.steps at c.run_due.ensures.steps

pub returns-then-not-run_due-clause-asleep : goal.returns-then-not-run_due-clause-asleep
returns-then-not-run_due-clause-asleep g c = who_waits g.P.Actor.machine g.N.Actor.machine g.P.Actor.valid g.N.Actor.valid g.C.Charter.plan g.C.Charter.start c.run_due.new.run c.run_due.ensures.run

pub returns-clause-asleep : goal.returns-clause-asleep
returns-clause-asleep g c = who_waits g.P.Actor.machine g.N.Actor.machine g.P.Actor.valid g.N.Actor.valid g.C.Charter.plan g.C.Charter.start c.run_due.new.run c.run_due.ensures.run

pub returns-then-not-run_due-clause-stats : goal.returns-then-not-run_due-clause-stats
returns-then-not-run_due-clause-stats g c =
    let r = system_from g.P.Actor.machine g.N.Actor.machine g.C.Charter.plan g.C.Charter.start in
    let from = c.self.inside.run.at in
    let at : from ≡ g.C.Charter.start.at = ap (λ (e : EngineView _ _). e.at) c.self.view_is ∙ c.requires.beginning in
    c.run_due.ensures.counted ∙ ap (counted_with c.args.kept.stats) (from_beginning r from c.run_due.new.run.at at c.run_due.ensures.onward)

pub returns-clause-stats : goal.returns-clause-stats
returns-clause-stats g c =
    let r = system_from g.P.Actor.machine g.N.Actor.machine g.C.Charter.plan g.C.Charter.start in
    let from = c.self.inside.run.at in
    let at : from ≡ g.C.Charter.start.at = ap (λ (e : EngineView _ _). e.at) c.self.view_is ∙ c.requires.beginning in
    c.run_due.ensures.counted ∙ ap (counted_with c.args.kept.stats) (from_beginning r from c.run_due.new.run.at at c.run_due.ensures.onward)
