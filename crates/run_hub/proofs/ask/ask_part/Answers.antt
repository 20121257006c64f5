use Rattle.std.proofs.Common.{◌≡◌, ◌%◌, List, sym, ◌∙◌, ap, subst, arith}
use Rattle.std.specs.Prelude.{Option, true}
use Rattle.sim_base.specs.declared.time.Time.{Time}
use Rattle.tick_law.specs.PlanView.{system_from}
use Rattle.tick_law.specs.Course.{part_course, period}
use Rattle.hub_laws.specs.Events.{asked_edge}
use Rattle.hub_floor.specs.Floor.{hub_state}
use Rattle.run_hub.specs.Stands.{Stands}
use Rattle.run_hub.proofs.AskLaws.{asking, period_read, noted, noted_within, noted_event, told_edge, stands_asked, state_asked}
use Rattle.run_hub.proofs.ask.ask_part.Goals as goal

pub returns-clause-stands : goal.returns-clause-stands
returns-clause-stands g c =
    let r = system_from g.P.Actor.machine g.N.Actor.machine g.C.Charter.plan g.C.Charter.start in
    let f = c.args.floor.now in
    let until = g.C.Charter.plan.until in
    let e = c.asked_edge-edge.result in
    let asks = c.saturating_add-floor.result in
    let now = asking r g.P.Actor.valid g.N.Actor.valid until f c.requires.stands in
    let is : c.index-period.result.now ≡ period (part_course r) c.args.no = period_read r g.P.Actor.valid g.N.Actor.valid until c.args.no c.index-period.result.now f now.of c.requires.part c.index-period.ensures in
    let edge : e % period (part_course r) c.args.no ≡ 0 = ap (λ p. e % p) (sym is) ∙ c.asked_edge-edge.ensures.edge in
    let to = noted_within f.stage until e (noted f.stage c.args.until until e c.is_noted.result c.is_noted.ensures c.requires.until c.if-not-is_noted.false) in
    subst (λ (l : List (Option Time)). Stands r g.P.Actor.valid g.N.Actor.valid until (record f { asks = asks; asked = l })) (sym c.set.ensures.set)
    (stands_asked r g.P.Actor.valid g.N.Actor.valid until f asks c.args.no e c.requires.stands c.requires.part edge c.asked_edge-edge.ensures.from to)

pub returns-clause-event : goal.returns-clause-event
returns-clause-event g c =
    let r = system_from g.P.Actor.machine g.N.Actor.machine g.C.Charter.plan g.C.Charter.start in
    let f = c.args.floor.now in
    let until = g.C.Charter.plan.until in
    let e = c.asked_edge-edge.result in
    let asks = c.saturating_add-floor.result in
    let now = asking r g.P.Actor.valid g.N.Actor.valid until f c.requires.stands in
    let is : c.index-period.result.now ≡ period (part_course r) c.args.no = period_read r g.P.Actor.valid g.N.Actor.valid until c.args.no c.index-period.result.now f now.of c.requires.part c.index-period.ensures in
    let value : e ≡ asked_edge f.stage (period (part_course r) c.args.no) f.at = c.asked_edge-edge.ensures.value ∙ ap (λ p. asked_edge f.stage p f.at) is in
    ap (λ (l : List (Option Time)). hub_state (record f { asks = asks; asked = l })) c.set.ensures.set
    ∙ state_asked f asks c.args.no e (let a = now.of.asked_all in let b = c.requires.part in omega (arith, a, b))
    ∙ noted_event until (period (part_course r) c.args.no) c.args.no e asks (hub_state f) value
    (noted f.stage c.args.until until e c.is_noted.result c.is_noted.ensures c.requires.until c.if-not-is_noted.false) c.saturating_add-floor.ensures

pub returns-clause-edge : goal.returns-clause-edge
returns-clause-edge g c =
    let r = system_from g.P.Actor.machine g.N.Actor.machine g.C.Charter.plan g.C.Charter.start in
    let f = c.args.floor.now in
    let until = g.C.Charter.plan.until in
    let e = c.asked_edge-edge.result in
    let now = asking r g.P.Actor.valid g.N.Actor.valid until f c.requires.stands in
    let is : c.index-period.result.now ≡ period (part_course r) c.args.no = period_read r g.P.Actor.valid g.N.Actor.valid until c.args.no c.index-period.result.now f now.of c.requires.part c.index-period.ensures in
    let value : e ≡ asked_edge f.stage (period (part_course r) c.args.no) f.at = c.asked_edge-edge.ensures.value ∙ ap (λ p. asked_edge f.stage p f.at) is in
    told_edge until (period (part_course r) c.args.no) e (hub_state f) true value
    (noted f.stage c.args.until until e c.is_noted.result c.is_noted.ensures c.requires.until c.if-not-is_noted.false)
