use Rattle.std.proofs.Common.{sym, ◌∙◌}
use Rattle.httparse.specs.declared.spans.HeaderSpan.{HeaderSpan}
use Rattle.rtm_http.proofs.LineLemmas.{asks_more, asks_at}
use Rattle.rtm_http.proofs.lines.asks_to_close.Goals as goal

blank : HeaderSpan
blank = record { name = record { start = 0; end = 0 }; value = record { start = 0; end = 0 } }

pub loop-line-preserved : goal.loop-line-preserved
unfolding blank
loop-line-preserved c = asks_more c.args.bytes.now c.args.lines.now c.loop-line.line-index blank c.loop-line-test.true c.loop-line.invariant (sym c.is_close_line.ensures ∙ c.if-is_close_line.false)

pub returns-then-is_close_line : goal.returns-then-is_close_line
unfolding blank
returns-then-is_close_line c = sym (asks_at c.args.bytes.now c.args.lines.now c.loop-line.line-index blank c.loop-line-test.true (sym c.is_close_line.ensures ∙ c.if-is_close_line.true))
