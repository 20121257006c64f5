use Rattle.std.proofs.Common.{◌≡◌, ◌∙◌, subst}
use Rattle.top_run.specs.Refusals.{Told, write_at_line}
use Rattle.top_run.proofs.top.tell_write_at.Goals as goal

pub returns : goal.returns
returns g c =
    let same : c.as_slice.result.now ≡ write_at_line c.args.upto.0 = c.as_slice.ensures.value ∙ c.write_at_line.ensures in
    subst (λ line. Told line (g.E.Sink.told c.args.err.now) (g.E.Sink.told c.tell.new.err) (g.E.Sink.faults c.args.err.now) (g.E.Sink.faults c.tell.new.err)) same c.tell.ensures
