use Rattle.std.proofs.lemmas.Fmt.{parse-decimal}
use Rattle.top_run.proofs.words.parsed.Goals as goal

pub returns-in-Ok : goal.returns-in-Ok
returns-in-Ok c = λ n b w. let read = parse-decimal 64 n _ _ b b w c.parse.ensures.value.0 in cc

pub returns-in-Err : goal.returns-in-Err
returns-in-Err c = λ n b w. absurd (cc (parse-decimal 64 n _ _ b b w c.parse.ensures.value.0))
