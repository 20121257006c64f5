use Rattle.std.proofs.Common.{◌<◌, length, sym, ◌∙◌}
use Rattle.httparse.specs.declared.spans.HeaderSpan.{HeaderSpan}
use Rattle.rtm_http.proofs.LineLemmas.{values_more_yes, values_more_no}
use Rattle.rtm_http.proofs.lines.values_named.Goals as goal
use Rattle.rtm_http.proofs.lines.values_named.Goals.{then-is_named, else-is_named}

blank : HeaderSpan
blank = record { name = record { start = 0; end = 0 }; value = record { start = 0; end = 0 } }

pub loop-line-preserved : goal.loop-line-preserved
unfolding blank
loop-line-preserved c =
    let below : c.loop-line.line-index < length c.args.lines.now = c.loop-line-test.true in
    elim c.if-is_named.branch [
      | then-is_named w ↦
          let more = values_more_yes c.args.name.now c.args.bytes.now c.args.lines.now c.loop-line.line-index blank below (sym c.is_named.ensures ∙ w.if-is_named.true) in
          let lists = w.and-found.ensures _ c.loop-line.invariant in
          rw (w.found-is, more, ← w.of.ensures) lists
      | else-is_named w ↦
          let more = values_more_no c.args.name.now c.args.bytes.now c.args.lines.now c.loop-line.line-index blank below (sym c.is_named.ensures ∙ w.if-is_named.false) in
          rw (w.found-is, more) c.loop-line.invariant
    ]
