use Rattle.std.proofs.Common.{◌≡◌, ◌+◌, ◌*◌, ap, sym, ◌∙◌, arith}
use Rattle.actor_turn.proofs.BeatLaws.{at_edge, behind_edge}
use Rattle.actor_turn.proofs.beat.Beat.first_edge_from.Goals as goal

pub returns-then-t-self : goal.returns-then-t-self
returns-then-t-self c =
    let b = c.self.inside in
    let p = c.args.period in
    let edge : b.edge ≡ b.cycle * p = c.self.invariant.2 ∙ ap (λ x. b.cycle * x) (sym c.if-period-self.true) in
    ap (λ x. x + p) edge ∙ behind_edge p b.cycle c.args.t (omega (arith, edge, c.if-self-t.true)) (omega (arith, edge, c.if-t-self.true))

pub returns-then-t-self-2 : goal.returns-then-t-self-2
returns-then-t-self-2 c =
    let b = c.self.inside in
    let p = c.args.period in
    let edge : b.edge ≡ b.cycle * p = c.self.invariant.2 ∙ ap (λ x. b.cycle * x) (sym c.if-period-self-2.true) in
    at_edge p b.cycle c.args.t (c.if-t-self-2.true ∙ edge)
