use Rattle.std.proofs.Common.{sym, subst, arith}
use Rattle.std.proofs.Math.Seq.{take-length}
use Rattle.httparse.specs.Grammar.{HasNoRequest}
use Rattle.rtm_http.proofs.PieceLemmas.{no_head_yet}
use Rattle.rtm_http.proofs.pieces.HeadPieces.read.Goals as goal

pub returns-then-bytes-lt-LONGEST_HEAD-clause-none : goal.returns-then-bytes-lt-LONGEST_HEAD-clause-none
returns-then-bytes-lt-LONGEST_HEAD-clause-none c = λ was more. no_head_yet c.args.bytes.now c.args.self.now.seen was.none (c.has_head_end-ends.ensures c.if-not-ends.true)

pub returns-then-bytes-lt-LONGEST_HEAD-clause-seen : goal.returns-then-bytes-lt-LONGEST_HEAD-clause-seen
returns-then-bytes-lt-LONGEST_HEAD-clause-seen c = λ was more. record {
  within = omega arith;
  none = subst HasNoRequest (sym (take-length c.args.bytes.now)) (no_head_yet c.args.bytes.now c.args.self.now.seen was.none (c.has_head_end-ends.ensures c.if-not-ends.true));
}
