use Rattle.std.proofs.Common.{◌∙◌, ap, map}
use Rattle.sim_base.specs.declared.numbers.PortNo.{PortNo}
use Rattle.run_gear.proofs.Mapped.{mapped_more}
use Rattle.run_gear.proofs.wires.own_lists.Goals as goal

pub loop-list-preserved : goal.loop-list-preserved
loop-list-preserved c =
    mapped_more _ _ c.loop-list.lists.items c.push.new.self.items c.args.own.now c.loop-list.list-index c.in_ok-list.list c.list-item.result c.loop-list-test.true c.list-item.is c.in_ok-push.ensures.items
    (c.in_ok-list.ensures ∙ ap (map (λ (q : PortNo). q.0)) c.deref.ensures.value) c.loop-list.invariant
