use Rattle.std.proofs.Common.{subst}
use Rattle.tick_law.specs.PlanView.{IsPlan}
use Rattle.part_kind.specs.Part.{part as kinds}
use Rattle.part_kind.specs.LinkKind.{link as link_kinds}
use Rattle.world_query.proofs.PlanWorlds.{start_of-IsWorldOf}
use Rattle.plan_show.proofs.show.show_plan.Goals as goal

pub show_by-requires-clause-world : goal.show_by-requires-clause-world
show_by-requires-clause-world g c = start_of-IsWorldOf kinds link_kinds c.args.plan (subst (IsPlan kinds link_kinds) c.plan.view_is c.plan.invariant)
