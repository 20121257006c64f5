use Rattle.std.proofs.Common.{rules, IsTrue, refl, arith}
use Rattle.top_run.specs.Words.{spelled}
use Rattle.top_run.proofs.WordRefusals.{within, length-spelled}
use Rattle.top_run.proofs.words.need_word.Goals as goal

pub returns-then-is_word-clause-here : goal.returns-then-is_word-clause-here
returns-then-is_word-clause-here c =
    let yes : IsTrue c.is_word.result = search rules in
    let count = length-spelled c.args.words.now in
    let there = within (spelled c.args.words.now) c.args.place c.args.text.now (c.is_word.ensures.0 yes) in
    omega (arith, there, count)

pub returns-clause-none : goal.returns-clause-none
returns-clause-none c = (refl, λ h. let yes = c.is_word.ensures.1 h in search rules)
