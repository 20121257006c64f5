use Rattle.std.proofs.Common.{◌≡◌, arith, sym, ◌∙◌, ap}
use Rattle.std.specs.Fmt.{decimal}
use Rattle.std.proofs.lemmas.Bool.{false≢true}
use Rattle.rtm_http.proofs.NumberLemmas.{time_number}
use Rattle.rtm_http.proofs.wait.read_time.Goals as goal
use Rattle.rtm_http.proofs.wait.read_time.Goals.{else-time-le-LATEST_WAIT-via-then-time-le-LATEST_WAIT+else-is_decimal, else-time-le-LATEST_WAIT-via-else-time-le-LATEST_WAIT}

pub returns-in_err-time-clause-none : goal.returns-in_err-time-clause-none
returns-in_err-time-clause-none c = λ e time is. c.short_number.ensures.none c.in_err-time.was (time_number c.args.text.now time is).0

pub returns-else-time-le-LATEST_WAIT-clause-none : goal.returns-else-time-le-LATEST_WAIT-clause-none
returns-else-time-le-LATEST_WAIT-clause-none c = λ e time is.
    let read : c.in_ok-time.time ≡ time = c.in_ok-time.ensures.some.1 ∙ (time_number c.args.text.now time is).1 in
    elim c.else-time-le-LATEST_WAIT.branch [
      | else-time-le-LATEST_WAIT-via-then-time-le-LATEST_WAIT+else-is_decimal w ↦ false≢true (w.if-is_decimal.ensures.1 (is.digits ∙ ap decimal (sym read)))
      | else-time-le-LATEST_WAIT-via-else-time-le-LATEST_WAIT w ↦ omega (arith, w.if-time-le-LATEST_WAIT.false, is.within)
    ]
