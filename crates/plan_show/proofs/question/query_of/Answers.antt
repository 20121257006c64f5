use Rattle.std.proofs.Common.{refl, sym, subst}
use Rattle.std.specs.Prelude.{IfOk}
use Rattle.world_query.specs.Directory.{number_in}
use Rattle.world_query.specs.Legend.{legend_of, IsQueryOf}
use Rattle.plan_show.proofs.Asked.{part_within, both_within}
use Rattle.plan_show.proofs.question.query_of.Goals as goal

pub returns-in-Part-clause-within : goal.returns-in-Part-clause-within
returns-in-Part-clause-within c = λ plan of.
    let d = c.args.directory.now in
    subst (λ r. IfOk r (IsQueryOf (legend_of plan))) (sym c.part_query.ensures) (part_within plan d c.items.result.now (number_in d.parts c.items.result.now) of refl)

pub returns-in-Field-clause-within : goal.returns-in-Field-clause-within
returns-in-Field-clause-within c = λ plan of.
    let d = c.args.directory.now in
    let name = c.items-in-Field.result.now in
    subst (λ r. IfOk r (IsQueryOf (legend_of plan))) (sym c.field_query.ensures) (both_within plan d name c.items-in-Field-2.result.now (number_in d.parts name) of refl)
