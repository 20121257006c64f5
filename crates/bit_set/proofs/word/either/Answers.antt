use Rattle.bit_set.proofs.JoinLaws.{either_bit}
use Rattle.bit_set.proofs.word.either.Goals as goal

pub returns : goal.returns
returns c = λ i. either_bit c.args.word c.args.more i
