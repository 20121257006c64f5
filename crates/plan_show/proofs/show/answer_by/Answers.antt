use Rattle.std.proofs.Common.{◌≤◌, sym, subst, arith}
use Rattle.tick_law.specs.SerialLoop.{world_at}
use Rattle.tick_law.specs.PlanView.{system_from}
use Rattle.part_kind.specs.Part.{part as kinds, IsValid as IsPart}
use Rattle.part_kind.specs.LinkKind.{link as link_kinds, IsValid as IsLink}
use Rattle.world_query.specs.Legend.{IsWorldOf}
use Rattle.world_query.proofs.PlanWorlds.{world_at-IsWorldOf}
use Rattle.plan_show.proofs.show.answer_by.Goals as goal

pub view-requires-clause-world : goal.view-requires-clause-world
view-requires-clause-world g c =
    let plan = g.C.Charter.plan in
    let start = g.C.Charter.start in
    let within : c.args.engine.now.at ≤ 501000000001 = omega (arith, c.known.ensures.within) in
    let is = world_at-IsWorldOf kinds link_kinds IsPart IsLink plan start c.args.engine.now.at c.known.ensures.set_up within c.requires.start in
    subst (λ w. IsWorldOf c.args.viewer.now w) (sym c.world.ensures.serial) (subst (λ l. IsWorldOf l (world_at (system_from kinds link_kinds plan start) c.args.engine.now.at)) (sym c.requires.viewer) is)
