use Rattle.std.proofs.Common.{sym, arith}
use Rattle.std.proofs.lemmas.List.{take_all, length-take-le}
use Rattle.rtm_http.proofs.read.front.Goals as goal

pub slice_bounds-result-end : goal.slice_bounds-result-end
slice_bounds-result-end c = sym (length-take-le 16384 c.args.bytes.now (omega arith))

pub returns-then-bytes-le-LONGEST_HEAD : goal.returns-then-bytes-le-LONGEST_HEAD
returns-then-bytes-le-LONGEST_HEAD c = sym (take_all 16384 c.args.bytes.now (omega arith))
