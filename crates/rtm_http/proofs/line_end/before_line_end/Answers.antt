use Rattle.std.proofs.Common.{List, ℕ, [], ◌∷◌, ◌++◌, Some, sym, ap, ◌∙◌}
use Rattle.rtm_http.proofs.PieceLemmas.{left_of, left_with_return, left_without_return}
use Rattle.rtm_http.proofs.line_end.before_line_end.Goals as goal

pub returns-then-before-eq13 : goal.returns-then-before-eq13
returns-then-before-eq13 c = λ line last end other text.
    let rest = c.in-Some.rest.now in
    let left = (left_of end (line ++ last ∷ []) rest c.in-Some.feed.now (sym c.in-Some.ensures.cases.0 ∙ text)).1 in
    let front : List ℕ = c.in-Some-split_last.line.now in
    ap Some (left_with_return end line rest front last other left (c.in-Some-split_last.ensures.cases.0 ∙ ap (λ (b : ℕ). front ++ b ∷ []) c.if-before-eq13.true))

pub returns-else-before-eq13 : goal.returns-else-before-eq13
returns-else-before-eq13 c = λ line last end other text.
    let rest = c.in-Some.rest.now in
    let left = (left_of end (line ++ last ∷ []) rest c.in-Some.feed.now (sym c.in-Some.ensures.cases.0 ∙ text)).1 in
    ap Some (left_without_return end line rest c.in-Some-split_last.line.now last c.in-Some-split_last.before.now c.if-before-eq13.false left c.in-Some-split_last.ensures.cases.0)
