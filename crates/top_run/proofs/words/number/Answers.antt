use Rattle.std.proofs.Common.{◌≡◌, ◌<◌, ◌^◌, sym, ◌∙◌, ap, arith}
use Rattle.std.specs.Fmt.{decimal}
use Rattle.top_run.proofs.words.number.Goals as goal

pub returns-in-None-clause-none : goal.returns-in-None-clause-none
returns-in-None-clause-none c = λ e n a b w.
    let most : c.args.most < 2 ^ 64 = omega (arith, c.ranges.most.fits) in
    cc (c.parsed.ensures n (omega (arith, b, most)) w)

pub returns-in-Some-clause-none : goal.returns-in-Some-clause-none
returns-in-Some-clause-none c = λ e n a b w.
    let most : c.args.most < 2 ^ 64 = omega (arith, c.ranges.most.fits) in
    let read = c.parsed.ensures n (omega (arith, b, most)) w in
    let same : c.in-Some.n ≡ n = cc in
    c.kept.ensures.none e (omega (arith, a, same)) (omega (arith, b, same)) (w ∙ ap decimal (sym same))
