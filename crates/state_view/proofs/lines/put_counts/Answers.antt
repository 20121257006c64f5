use Rattle.std.proofs.Common.{◌++◌, ◌∙◌, ap}
use Rattle.std.specs.Prelude.{codes}
use Rattle.std.specs.Fmt.{decimal}
use Rattle.state_view.specs.MemoryRows.{line_feed}
use Rattle.state_view.proofs.LineLaws.{on_ok, five_pieces}
use Rattle.state_view.proofs.lines.put_counts.Goals as goal

pub returns : goal.returns
returns c =
    let s = c.args.link.now in
    on_ok c.put-3.result _ _
    (five_pieces c.args.text.now (codes " direct moved ") (decimal s.moved) (codes " pointer ") (decimal s.pointer) line_feed
    c.put.new.self c.number.new.self c.put-2.new.self c.small_number.new.self c.put-3.new.self
    c.in_ok-put.ensures (c.in_ok-number.ensures ∙ ap (λ n. c.put.new.self ++ decimal n) c.moved.ensures) c.in_ok-put-2.ensures (c.in_ok-small_number.ensures ∙ ap (λ n. c.put-2.new.self ++ decimal n) c.pointer.ensures))
    c.put-3.ensures
