use Rattle.std.proofs.Common.{Some, None, not, ap, ◌∙◌, arith, length, length-append}
use Rattle.std.specs.Prelude.{[], ◌∷◌}
use Rattle.rtm_http.proofs.PieceLemmas.{before_empty, before_last, last_byte, some_same}
use Rattle.rtm_http.proofs.line_end.ends_head.Goals as goal

pub returns-in_default : goal.returns-in_default
returns-in_default c = λ ends. let read = before_empty c.args.text.now None c.in_default.ensures ends in cc

pub returns-in_default-before_line_end : goal.returns-in_default-before_line_end
returns-in_default-before_line_end c = λ ends.
    let lines = some_same (before_empty c.args.text.now (Some c.in-Some.lines.now) c.in-Some.ensures ends) in
    let read = before_last c.args.text.now c.in-Some.lines.now None ends lines c.in_default-before_line_end.ensures in
    cc

pub returns-in-Some-split_last : goal.returns-in-Some-split_last
returns-in-Some-split_last c = λ ends.
    let lines = some_same (before_empty c.args.text.now (Some c.in-Some.lines.now) c.in-Some.ensures ends) in
    let line = some_same (before_last c.args.text.now c.in-Some.lines.now (Some c.in-Some-before_line_end.line.now) ends lines c.in-Some-before_line_end.ensures) in
    ap not (c.is_newline.ensures ∙ last_byte c.args.text.now c.in-Some-before_line_end.line.now c.in-Some-split_last.field-0-1.now c.in-Some-split_last.byte.now ends line c.in-Some-split_last.ensures.cases.0)

pub returns-in-None : goal.returns-in-None
returns-in-None c = λ ends.
    let lines = some_same (before_empty c.args.text.now (Some c.in-Some.lines.now) c.in-Some.ensures ends) in
    let line = some_same (before_last c.args.text.now c.in-Some.lines.now (Some c.in-Some-before_line_end.line.now) ends lines c.in-Some-before_line_end.ensures) in
    absurd (omega (arith, c.in-None.ensures.cases, ap length line, length-append ends.line (ends.last ∷ [])))
