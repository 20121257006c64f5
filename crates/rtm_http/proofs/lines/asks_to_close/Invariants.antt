use Rattle.std.proofs.Common.{◌≡◌, false, map, take}
use Rattle.httparse.specs.Spans.{header_bytes}
use Rattle.rtm_http.specs.Lines.{asks_to_close}
use Rattle.rtm_http.proofs.lines.asks_to_close.Given as goal

abbrev pub invariant-loop-line : goal.invariant-loop-line
invariant-loop-line l = asks_to_close (map (header_bytes l.bytes) (take l.line-index l.lines)) ≡ false
