use Rattle.std.proofs.Common.{false, ap, refl, ◌∙◌}
use Rattle.tick_law.specs.Verdict.{all_done, verdict_by}
use Rattle.phase_engine.proofs.EngineLaws.{cut_here, rest_here}
use Rattle.phase_engine.proofs.verdict.verdict_of.Goals as goal

pub returns-in-Some : goal.returns-in-Some
returns-in-Some g c =
    let there = c.in-Some.ensures.first.there in
    cut_here g.P.Actor.machine g.N.Actor.machine g.P.Actor.valid g.N.Actor.valid g.C.Charter.plan g.C.Charter.start c.args.run.now there.0 _ c.requires.run c.requires.over there.1

pub returns : goal.returns
returns g c =
    c.verdict_at_rest.ensures ∙ ap (verdict_by false) (c.are_done.ensures ∙ ap (all_done g.P.Actor.machine) c.deref.ensures.value)
    ∙ rest_here g.P.Actor.machine g.N.Actor.machine g.P.Actor.valid g.N.Actor.valid g.C.Charter.plan g.C.Charter.start c.args.run.now c.requires.run c.requires.over (c.in-None.ensures.none.0 refl)
