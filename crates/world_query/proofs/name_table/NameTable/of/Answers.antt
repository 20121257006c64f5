use Rattle.std.proofs.Common.{◌≡◌, ◌-◌, cond, Some, bytes_eq, ◌∙◌, sym, ap, arith}
use Rattle.world_query.specs.Directory.{number_in}
use Rattle.world_query.specs.Table.{entries_of}
use Rattle.world_query.proofs.TableLaws.{number_in-insert, position_from-drop}
use Rattle.world_query.proofs.name_table.NameTable.of.Goals as goal

pub loop-left-preserved : goal.loop-left-preserved
loop-left-preserved c =
    let left = c.loop-left.left - 1 in
    let name = c.index-names-left.result in
    let key : c.in_ok-name.name.items ≡ name = c.in_ok-name.ensures.items ∙ c.text.ensures.value in
    record {
      within = omega (arith, c.loop-left.invariant.within);
      numbered = λ text.
          ap (λ es. number_in (entries_of es) text) c.in_ok-insert.ensures.entries
          ∙ number_in-insert c.loop-left.numbers.entries c.in_ok-name.name left text
          ∙ ap (λ k. cond (bytes_eq text k) (Some left) (number_in (entries_of c.loop-left.numbers.entries) text)) key
          ∙ ap (λ r. cond (bytes_eq text name) (Some left) r) (c.loop-left.invariant.numbered text)
          ∙ sym (position_from-drop c.args.names.now left c.loop-left.left name text (omega (arith, c.loop-left-test.true)) (omega (arith, c.loop-left.invariant.within, c.loop-left-test.true)) c.index-names-left.is);
    }
