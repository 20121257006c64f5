use Rattle.bit_set.proofs.JoinLaws.{below_kept, below_none}
use Rattle.bit_set.proofs.word.below.Goals as goal

pub returns-clause-kept : goal.returns-clause-kept
returns-clause-kept c = λ i b. below_kept c.args.word c.args.at i c.requires b

pub returns-clause-none : goal.returns-clause-none
returns-clause-none c = λ i s b. below_none c.args.word c.args.at i c.requires s b
