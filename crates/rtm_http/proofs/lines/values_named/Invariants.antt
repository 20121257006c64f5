use Rattle.std.proofs.Common.{map, take}
use Rattle.httparse.specs.Spans.{header_bytes}
use Rattle.rtm_http.specs.Lines.{values_of, Lists}
use Rattle.rtm_http.proofs.lines.values_named.Given as goal

abbrev pub invariant-loop-line : goal.invariant-loop-line
invariant-loop-line l = Lists (values_of l.name (map (header_bytes l.bytes) (take l.line-index l.lines))) l.found
