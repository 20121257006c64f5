use Rattle.std.proofs.Common.{◌≡◌, ℕ, ◌+◌, sym, ◌∙◌, ap, subst, arith, refl}
use Rattle.tick_law.specs.PlanView.{system_from}
use Rattle.hub_laws.specs.declared.stage.Stage.TheVariants.{Over}
use Rattle.hub_floor.specs.declared.floor.Floor.{Floor}
use Rattle.hub_floor.specs.Floor.{hub_state}
use Rattle.hub_floor.specs.Begins.{IsEnded}
use Rattle.hub_floor.proofs.LeastLaws.{none_by_nothing, none_by_least, ends_here, ends_behind}
use Rattle.hub_floor.proofs.begin.begin_time.Goals as goal

pub returns-then-floor : goal.returns-then-floor
returns-then-floor g c =
    let r = system_from g.P.Actor.machine g.N.Actor.machine g.C.Charter.plan g.C.Charter.start in
    let f = c.args.floor.now in
    let until = g.C.Charter.plan.until in
    subst (λ (x : Floor _ _). IsEnded r g.P.Actor.valid g.N.Actor.valid until f x) (sym c.end_at.ensures) (ends_here r g.P.Actor.valid g.N.Actor.valid until f c.requires.floor c.requires.stage c.if-floor.true)

pub returns-in_default : goal.returns-in_default
returns-in_default g c =
    let r = system_from g.P.Actor.machine g.N.Actor.machine g.C.Charter.plan g.C.Charter.start in
    let f = c.args.floor.now in
    let until = g.C.Charter.plan.until in
    let end : c.end_at-in_default.new.floor ≡ record f { stage = Over; at = until + 1 } = c.end_at-in_default.ensures ∙ ap (λ (n : ℕ). let y : Floor _ _ = record f { stage = Over; at = n + 1 } in y) c.requires.until in
    subst (λ (x : Floor _ _). IsEnded r g.P.Actor.valid g.N.Actor.valid until f x) (sym end)
    (ends_behind r g.P.Actor.valid g.N.Actor.valid until f c.requires.floor c.requires.stage c.if-floor.false (none_by_nothing until (hub_state f) c.in_default.ensures))

pub returns-then-until-t : goal.returns-then-until-t
returns-then-until-t g c =
    let r = system_from g.P.Actor.machine g.N.Actor.machine g.C.Charter.plan g.C.Charter.start in
    let f = c.args.floor.now in
    let until = g.C.Charter.plan.until in
    let end : c.end_at-then-until-t.new.floor ≡ record f { stage = Over; at = until + 1 } = c.end_at-then-until-t.ensures ∙ ap (λ (n : ℕ). let y : Floor _ _ = record f { stage = Over; at = n + 1 } in y) c.requires.until in
    let u = c.requires.until in
    let b = c.if-until-t.true in
    subst (λ (x : Floor _ _). IsEnded r g.P.Actor.valid g.N.Actor.valid until f x) (sym end)
    (ends_behind r g.P.Actor.valid g.N.Actor.valid until f c.requires.floor c.requires.stage c.if-floor.false (none_by_least until c.in-Some.t (hub_state f) (omega (arith, u, b)) c.in-Some.ensures))

pub returns-then-floor-2 : goal.returns-then-floor-2
returns-then-floor-2 g c = (record { same = refl; written = c.if-floor.false; time = c.in-Some.t; least = c.in-Some.ensures; within = (let u = c.requires.until in let b = c.if-until-t.false in omega (arith, u, b)) }, c.if-floor-2.true)
