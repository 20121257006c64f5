use Rattle.std.proofs.Common.{sym, subst, refl}
use Rattle.tick_law.specs.PlanView.{IsPlan}
use Rattle.part_kind.specs.Part.{part}
use Rattle.part_kind.specs.LinkKind.{link}
use Rattle.ring_plan.proofs.RingLaws.{ring_is_plan, plan_is, own_is}
use Rattle.ring_plan.proofs.plan.ring_plan.Goals as goal

pub invariant_of-result : goal.invariant_of-result
invariant_of-result c =
    subst (IsPlan part link) (sym (plan_is c.args.count c.args.until.0 _ _ _ _ _ _ _ _ c.in_ok-parts.ensures c.in_ok-links.ensures c.in_ok-part_names.ensures c.in_ok-link_names.ensures c.in_ok-fields.ensures c.in_ok-ports.ensures (own_is (λ v. v.items) c.in_ok-own.own.items c.args.count c.in_ok-own.ensures) refl))
    (ring_is_plan c.args.count c.args.until.0 c.requires.some c.requires.few c.requires.early)

pub returns : goal.returns
returns c = plan_is c.args.count c.args.until.0 _ _ _ _ _ _ _ _ c.in_ok-parts.ensures c.in_ok-links.ensures c.in_ok-part_names.ensures c.in_ok-link_names.ensures c.in_ok-fields.ensures c.in_ok-ports.ensures (own_is (λ v. v.items) c.in_ok-own.own.items c.args.count c.in_ok-own.ensures) refl
