use Rattle.std.proofs.Common.{List, ℕ, length, drop, ap, subst, ◌∙◌, Err, arith, length-take}
use Rattle.httparse.specs.Grammar.{ReadsRequest, HasNoRequest, NeverHasRequest, MayBecomeRequest}
use Rattle.httparse.specs.Spans.{RequestOverflows, RequestExceeds}
use Rattle.rtm_http.specs.Head.{most_lines, IsReadOf}
use Rattle.rtm_http.proofs.HeadLemmas.{waits_for_more, is_too_long, has_too_many, is_hopeless, is_whole, few_lines}
use Rattle.rtm_http.proofs.read.read_head.Goals as goal

pub whole_head-requires-clause-short : goal.whole_head-requires-clause-short
whole_head-requires-clause-short c = omega (arith, ap length c.front-front.ensures, length-take 16384 c.args.bytes.now)

pub returns-in-Ok-Complete : goal.returns-in-Ok-Complete
returns-in-Ok-Complete c =
    let found = rw c.in-Ok-Complete.field-0-is at c.in-Ok-Complete.ensures.complete in
    let h = found.0 in
    let few = few_lines _ _ _ h found.1 (omega arith) in
    let read = c.whole_head.ensures h found.1 in
    let same = c.front-front.ensures in
    is_whole c.args.bytes.now h _ c.whole_head.result (subst (λ (text : List ℕ). ReadsRequest text h (drop c.in-Ok-Complete.places.len c.front-front.result.now)) same found.1.reads) few (subst (λ (text : List ℕ). IsReadOf text h c.whole_head.result) same read)

pub returns-in-Ok-Partial : goal.returns-in-Ok-Partial
returns-in-Ok-Partial c =
    let none = rw c.in-Ok-Partial.field-0-is at c.in-Ok-Partial.ensures.partial in
    let may = rw c.in-Ok-Partial.field-0-is at c.in-Ok-Partial.ensures.unfinished in
    let same = c.front-front.ensures in
    waits_for_more c.args.bytes.now c.if-bytes-lt-LONGEST_HEAD.true (subst HasNoRequest same none) (subst MayBecomeRequest same may)

pub returns-in-Ok-Partial-2 : goal.returns-in-Ok-Partial-2
returns-in-Ok-Partial-2 c =
    let none = rw c.in-Ok-Partial.field-0-is at c.in-Ok-Partial.ensures.partial in
    let may = rw c.in-Ok-Partial.field-0-is at c.in-Ok-Partial.ensures.unfinished in
    let same = c.front-front.ensures in
    is_too_long c.args.bytes.now c.if-bytes-lt-LONGEST_HEAD.false (subst HasNoRequest same none) (subst MayBecomeRequest same may)

pub returns-in-TooManyHeaders : goal.returns-in-TooManyHeaders
returns-in-TooManyHeaders c =
    let same = c.front-front.ensures in
    let error = c.in-Err.is ∙ ap Err c.in-TooManyHeaders.is in
    has_too_many c.args.bytes.now (subst (RequestOverflows most_lines) same c.in-Err.ensures.no_room) (subst (RequestExceeds most_lines) same (c.parse_request.ensures.too_many error))

pub returns-in_default : goal.returns-in_default
returns-in_default c =
    let same = c.front-front.ensures in
    is_hopeless c.args.bytes.now (subst NeverHasRequest same (c.in-Err.ensures.invalid c.in_default.not-TooManyHeaders))
