use Rattle.std.proofs.Common.{◌≡◌, ◌∙◌, subst}
use Rattle.std.specs.Prelude.{string_bytes}
use Rattle.top_run.specs.Refusals.{Told}
use Rattle.top_run.proofs.Telling.{of_ok}
use Rattle.top_run.proofs.top.tell_made.Goals as goal

pub returns-in-Ok-clause-line : goal.returns-in-Ok-clause-line
returns-in-Ok-clause-line g c = λ is bytes same.
    let all : c.as_bytes.result.now ≡ bytes = c.as_bytes.ensures.value ∙ of_ok c.args.line c.in-Ok.text (λ text. string_bytes text ≡ bytes) c.in-Ok.is same in
    subst (λ line. Told line (g.E.Sink.told c.args.err.now) (g.E.Sink.told c.tell.new.err) (g.E.Sink.faults c.args.err.now) (g.E.Sink.faults c.tell.new.err)) all c.tell.ensures
