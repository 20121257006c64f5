use Rattle.std.proofs.Common.{ap, Ok, rules}
use Rattle.rv_isa.proofs.InstLemmas.{Spells-one}
use Rattle.rv_isa.proofs.decoding.decode.Goals as goal

pub returns-clause-only : goal.returns-clause-only
returns-clause-only c inst spells = ap Ok (Spells-one c.args.word _ inst (search rules) spells)
