use Rattle.std.proofs.Common.{subst, length}
use Rattle.tick_law.specs.PlanView.{system_from}
use Rattle.run_hub.specs.declared.task.TaskName.{TaskName}
use Rattle.run_hub.specs.declared.task.Away.{Away}
use Rattle.run_hub.specs.GoesOn.{trace_view}
use Rattle.run_hub.specs.Tasks.{PartDone, LinkDone, IsDoneOf}
use Rattle.run_hub.proofs.FinishLaws.{part_out_here, link_out_here, part_taken, link_taken}
use Rattle.run_hub.proofs.finish.take_back.Goals as goal

pub finish_part-requires : goal.finish_part-requires
finish_part-requires g c =
    let r = system_from g.P.Actor.machine g.N.Actor.machine g.C.Charter.plan g.C.Charter.start in
    let d = c.done.inside in
    let is : PartDone r d.name d.no c.in-Part.body.value d.flag = subst (λ (a : Away _ _). IsDoneOf r d.name d.no a d.flag) c.in-Part.is c.done.invariant in
    let named : PartDone r c.args.done d.no c.in-Part.body.value d.flag = subst (λ (n : TaskName). PartDone r n d.no c.in-Part.body.value d.flag) c.done.view_is is in
    let here = part_out_here r g.P.Actor.valid g.N.Actor.valid g.C.Charter.plan.until (length g.C.Charter.start.world.parts) d.no c.args.floor.now c.args.done c.in-Part.body.value d.flag c.requires.stands c.requires.out named in
    record { pass = here.pass; named = c.requires.written.named; out = here.mark; done = here.done }

pub finish_link-requires : goal.finish_link-requires
finish_link-requires g c =
    let r = system_from g.P.Actor.machine g.N.Actor.machine g.C.Charter.plan g.C.Charter.start in
    let d = c.done.inside in
    let is : LinkDone r d.name d.no c.in-Link.body.value d.flag = subst (λ (a : Away _ _). IsDoneOf r d.name d.no a d.flag) c.in-Link.is c.done.invariant in
    let named : LinkDone r c.args.done d.no c.in-Link.body.value d.flag = subst (λ (n : TaskName). LinkDone r n d.no c.in-Link.body.value d.flag) c.done.view_is is in
    let here = link_out_here r g.P.Actor.valid g.N.Actor.valid g.C.Charter.plan.until d.no c.args.floor.now c.args.done c.in-Link.body.value d.flag c.requires.stands c.requires.out named in
    record { pass = here.pass; named = c.requires.written.named; out = here.mark; done = here.done }

pub returns-in-Part : goal.returns-in-Part
returns-in-Part g c =
    let r = system_from g.P.Actor.machine g.N.Actor.machine g.C.Charter.plan g.C.Charter.start in
    let parts = length g.C.Charter.start.world.parts in
    let d = c.done.inside in
    let is : PartDone r d.name d.no c.in-Part.body.value d.flag = subst (λ (a : Away _ _). IsDoneOf r d.name d.no a d.flag) c.in-Part.is c.done.invariant in
    let named : PartDone r c.args.done d.no c.in-Part.body.value d.flag = subst (λ (n : TaskName). PartDone r n d.no c.in-Part.body.value d.flag) c.done.view_is is in
    let here = part_out_here r g.P.Actor.valid g.N.Actor.valid g.C.Charter.plan.until parts d.no c.args.floor.now c.args.done c.in-Part.body.value d.flag c.requires.stands c.requires.out named in
    part_taken r g.P.Actor.valid g.N.Actor.valid g.C.Charter.plan g.C.Opening.all g.C.Opening.told g.C.Opening.faults parts d.no c.args.floor.now c.finish_part.new.floor
    (trace_view g.K.Sink.told g.K.Sink.faults c.args.trace.now) (trace_view g.K.Sink.told g.K.Sink.faults c.finish_part.new.trace) c.args.done named.phase named.actor here.pass c.requires.written c.finish_part.ensures

pub returns-in-Link : goal.returns-in-Link
returns-in-Link g c =
    let r = system_from g.P.Actor.machine g.N.Actor.machine g.C.Charter.plan g.C.Charter.start in
    let parts = length g.C.Charter.start.world.parts in
    let d = c.done.inside in
    let is : LinkDone r d.name d.no c.in-Link.body.value d.flag = subst (λ (a : Away _ _). IsDoneOf r d.name d.no a d.flag) c.in-Link.is c.done.invariant in
    let named : LinkDone r c.args.done d.no c.in-Link.body.value d.flag = subst (λ (n : TaskName). LinkDone r n d.no c.in-Link.body.value d.flag) c.done.view_is is in
    let here = link_out_here r g.P.Actor.valid g.N.Actor.valid g.C.Charter.plan.until d.no c.args.floor.now c.args.done c.in-Link.body.value d.flag c.requires.stands c.requires.out named in
    link_taken r g.P.Actor.valid g.N.Actor.valid g.C.Charter.plan g.C.Opening.all g.C.Opening.told g.C.Opening.faults parts d.no c.args.floor.now c.finish_link.new.floor
    (trace_view g.K.Sink.told g.K.Sink.faults c.args.trace.now) (trace_view g.K.Sink.told g.K.Sink.faults c.finish_link.new.trace) c.args.done named.phase named.actor here.pass c.requires.written c.finish_link.ensures
