use Rattle.std.proofs.Common.{arith}
use Rattle.rtm_http.proofs.PieceLemmas.{no_head_of_none}
use Rattle.rtm_http.proofs.pieces.HeadPieces.new.Goals as goal

pub returns : goal.returns
returns c = λ bytes. record { within = omega arith; none = no_head_of_none }
