use Rattle.std.proofs.Common.{◌≡◌, ◌+◌, ◌≤◌, ap, subst, sym, ◌∙◌}
use Rattle.std.specs.Prelude.{length, replicate, is_some}
use Rattle.task_stats.specs.Tasks.{no_tasks, after_records}
use Rattle.tick_law.specs.PlanView.{system_from}
use Rattle.tick_law.specs.SerialLoop.{world_at, records_below, end_below}
use Rattle.tick_law.specs.Verdict.{verdict_at}
use Rattle.run_gear.specs.Written.{GotLines, IsCut}
use Rattle.hub_laws.specs.Events.{is_over}
use Rattle.run_hub.specs.Hub.{HubView}
use Rattle.run_hub.specs.Ending.{unless}
use Rattle.run_hub.proofs.RunsEnd.{over_of, behind_of}
use Rattle.run_hub.proofs.hub.Hub.end.Goals as goal

pub ending_of-requires-clause-over : goal.ending_of-requires-clause-over
ending_of-requires-clause-over g c =
    let r = system_from g.P.Actor.machine g.N.Actor.machine g.C.Charter.plan g.C.Charter.start in
    over_of c.self.inside.floor.stage r g.P.Actor.valid g.N.Actor.valid g.C.Charter.plan.until c.self.inside.floor c.self.invariant.stands (ap (λ (v : HubView). is_over v.state.stage) c.self.view_is ∙ c.requires.over)

pub ending_of-requires-clause-home : goal.ending_of-requires-clause-home
ending_of-requires-clause-home g c = c.self.invariant.home_is

pub returns-clause-upto : goal.returns-clause-upto
returns-clause-upto g c = c.ending_of.ensures.upto ∙ ap (λ (v : HubView). v.state.at) c.self.view_is

pub returns-clause-world : goal.returns-clause-world
returns-clause-world g c =
    let r = system_from g.P.Actor.machine g.N.Actor.machine g.C.Charter.plan g.C.Charter.start in
    c.ending_of.ensures.world ∙ ap (world_at r) (sym c.ending_of.ensures.upto)

pub returns-clause-end : goal.returns-clause-end
returns-clause-end g c =
    let r = system_from g.P.Actor.machine g.N.Actor.machine g.C.Charter.plan g.C.Charter.start in
    c.ending_of.ensures.end ∙ ap (end_below r) (sym c.ending_of.ensures.upto)

pub returns-clause-stats : goal.returns-clause-stats
returns-clause-stats g c =
    let r = system_from g.P.Actor.machine g.N.Actor.machine g.C.Charter.plan g.C.Charter.start in
    c.ending_of.ensures.stats ∙ c.self.invariant.written.counted
    ∙ ap (λ d. after_records (replicate (length g.C.Charter.plan.parts) no_tasks) (records_below r d)) (sym c.ending_of.ensures.upto)

pub returns-clause-asks : goal.returns-clause-asks
returns-clause-asks g c = c.ending_of.ensures.asks ∙ ap (λ (v : HubView). v.state.asks) c.self.view_is

pub returns-clause-extra : goal.returns-clause-extra
returns-clause-extra g c = c.ending_of.ensures.extra ∙ ap (λ (v : HubView). v.state.extra) c.self.view_is

pub returns-clause-to_end : goal.returns-clause-to_end
returns-clause-to_end g c = λ e.
    let r = system_from g.P.Actor.machine g.N.Actor.machine g.C.Charter.plan g.C.Charter.start in
    let f = c.self.inside.floor in
    let over = over_of f.stage r g.P.Actor.valid g.N.Actor.valid g.C.Charter.plan.until f c.self.invariant.stands (ap (λ (v : HubView). is_over v.state.stage) c.self.view_is ∙ c.requires.over) in
    c.ending_of.ensures.upto ∙ behind_of f.failed f.at (g.C.Charter.plan.until + 1) over.why (ap (λ (v : HubView). v.state.failed) c.self.view_is ∙ e)

pub returns-clause-verdict : goal.returns-clause-verdict
returns-clause-verdict g c = λ e.
    let r = system_from g.P.Actor.machine g.N.Actor.machine g.C.Charter.plan g.C.Charter.start in
    c.ending_of.ensures.verdict ∙ ap (λ failed. unless failed (verdict_at r g.C.Charter.plan.until)) (ap (λ (v : HubView). v.state.failed) c.self.view_is ∙ e)

pub returns-clause-none : goal.returns-clause-none
returns-clause-none g c = λ e.
    let r = system_from g.P.Actor.machine g.N.Actor.machine g.C.Charter.plan g.C.Charter.start in
    c.ending_of.ensures.verdict ∙ ap (λ failed. unless failed (verdict_at r g.C.Charter.plan.until)) (ap (λ (v : HubView). v.state.failed) c.self.view_is ∙ e)

pub returns-clause-lines : goal.returns-clause-lines
returns-clause-lines g c = λ e.
    let plan = g.C.Charter.plan in
    let r = system_from g.P.Actor.machine g.N.Actor.machine plan g.C.Charter.start in
    let told = g.C.Opening.told in
    let is = c.ending_of.ensures in
    subst (λ d. GotLines plan r g.C.Opening.all d told (g.K.Sink.told c.ending_of.result.sink)) (sym is.upto)
    (subst (λ k. GotLines plan r g.C.Opening.all c.self.inside.floor.at told (g.K.Sink.told k)) (sym is.sink)
    (c.self.invariant.written.whole (ap (λ (v : HubView). v.state.failed) c.self.view_is ∙ e)))

pub returns-clause-fault : goal.returns-clause-fault
returns-clause-fault g c = λ e.
    let plan = g.C.Charter.plan in
    let r = system_from g.P.Actor.machine g.N.Actor.machine plan g.C.Charter.start in
    let told = g.C.Opening.told in
    let faults = g.C.Opening.faults in
    let f = c.self.inside.floor in
    let is = c.ending_of.ensures in
    let failed : f.failed ≡ _ = ap (λ (v : HubView). v.state.failed) c.self.view_is ∙ e in
    let over = over_of f.stage r g.P.Actor.valid g.N.Actor.valid plan.until f c.self.invariant.stands (ap (λ (v : HubView). is_over v.state.stage) c.self.view_is ∙ c.requires.over) in
    subst (λ d. IsCut plan r g.C.Opening.all d faults (g.K.Sink.faults c.ending_of.result.sink) told (g.K.Sink.told c.ending_of.result.sink)) (sym is.upto)
    (subst (λ k. IsCut plan r g.C.Opening.all f.at faults (g.K.Sink.faults k) told (g.K.Sink.told k)) (sym is.sink)
    (c.self.invariant.written.fault failed, over.floor.within, c.self.invariant.written.cut failed))

pub returns-clause-never_falls : goal.returns-clause-never_falls
returns-clause-never_falls g c = subst (λ k. g.C.Opening.faults ≤ g.K.Sink.faults k) (sym c.ending_of.ensures.sink) c.self.invariant.written.never_falls

pub returns-clause-telling : goal.returns-clause-telling
returns-clause-telling g c = ap (λ k. is_some (g.K.Sink.told k)) c.ending_of.ensures.sink ∙ c.self.invariant.written.telling
