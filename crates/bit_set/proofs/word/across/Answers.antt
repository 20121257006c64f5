use Rattle.bit_set.proofs.JoinLaws.{across_low, across_high}
use Rattle.bit_set.proofs.word.across.Goals as goal

pub returns-clause-low : goal.returns-clause-low
returns-clause-low c = λ i b. across_low c.args.low c.args.high c.args.shift i c.requires b

pub returns-clause-high : goal.returns-clause-high
returns-clause-high c = λ i b s. across_high c.args.low c.args.high c.args.shift i c.ranges.low.fits c.requires b s
