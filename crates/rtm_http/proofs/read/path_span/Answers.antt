use Rattle.std.proofs.Common.{◌≡◌, ℕ, ◌==◌, ◌+◌, arith, ap, sym, subst, ◌∙◌}
use Rattle.std.specs.List.{position_or_len}
use Rattle.httparse.specs.Spans.{span_bytes}
use Rattle.rtm_http.specs.Head.{path_of, Covers}
use Rattle.rtm_http.proofs.SpanLemmas.{path_inside, path_covers}
use Rattle.rtm_http.proofs.read.path_span.Goals as goal

pub overflow_add-result : goal.overflow_add-result
overflow_add-result c =
    let place : c.path_length.result ≡ position_or_len (λ (b : ℕ). b == 63) (span_bytes c.args.bytes.now c.args.target) = c.path_length.ensures ∙ ap (position_or_len (λ (b : ℕ). b == 63)) c.of.ensures in
    let inside = path_inside c.args.bytes.now c.args.target c.requires.within in
    omega (arith, place)

pub overflow_cast-result-2 : goal.overflow_cast-result-2
overflow_cast-result-2 c =
    let place : c.path_length.result ≡ position_or_len (λ (b : ℕ). b == 63) (span_bytes c.args.bytes.now c.args.target) = c.path_length.ensures ∙ ap (position_or_len (λ (b : ℕ). b == 63)) c.of.ensures in
    let inside = path_inside c.args.bytes.now c.args.target c.requires.within in
    omega (arith, place)

pub returns : goal.returns
returns c =
    let target = c.args.target in
    let bytes = c.args.bytes.now in
    let place : c.path_length.result ≡ position_or_len (λ (b : ℕ). b == 63) (span_bytes bytes target) = c.path_length.ensures ∙ ap (position_or_len (λ (b : ℕ). b == 63)) c.of.ensures in
    subst (λ (n : ℕ). Covers bytes (record { begin = target.start; end = target.start + n }) (path_of (span_bytes bytes target))) (sym place) (path_covers bytes target c.requires.within)
