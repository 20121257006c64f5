use Rattle.std.proofs.Common.{◌≡◌, ap, arith}
use Rattle.phase_engine.specs.Engine.{EngineView}
use Rattle.phase_engine.proofs.engine.Engine.known.Goals as goal

pub returns-clause-set_up : goal.returns-clause-set_up
returns-clause-set_up g c = c.self.invariant.gear_is.fitted.set_up

pub returns-clause-within : goal.returns-clause-within
returns-clause-within g c =
    let at : c.self.inside.run.at ≡ c.args.self.now.at = ap (λ (e : EngineView _ _). e.at) c.self.view_is in
    let run = c.self.invariant in
    omega (arith, at, run.within, run.of.until_within)
