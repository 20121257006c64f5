use Rattle.std.proofs.Common.{◌≡◌, ◌∙◌, sym, subst}
use Rattle.std.specs.Prelude.{IfOk}
use Rattle.plan_show.proofs.Asked.{asked-plan}
use Rattle.plan_show.specs.Question.{query_in}
use Rattle.world_query.specs.Legend.{legend_of, IsQueryOf}
use Rattle.top_run.proofs.job.query_about.Goals as goal

pub returns-in-Ok-clause-query : goal.returns-in-Ok-clause-query
returns-in-Ok-clause-query c =
    let asked : c.query_of.result ≡ query_in c.args.plan.now c.args.question.now = c.query_of.ensures.query ∙ asked-plan c.args.plan.now c.in_ok-directory.directory c.args.question.now c.in_ok-directory.ensures in
    sym asked ∙ c.in-Ok.is

pub returns-in-Ok-clause-within : goal.returns-in-Ok-clause-within
returns-in-Ok-clause-within c = subst (λ r. IfOk r (IsQueryOf (legend_of c.args.plan.now))) c.in-Ok.is (c.query_of.ensures.within c.args.plan.now c.in_ok-directory.ensures)

pub returns-clause-fault : goal.returns-clause-fault
returns-clause-fault c =
    let asked : c.query_of.result ≡ query_in c.args.plan.now c.args.question.now = c.query_of.ensures.query ∙ asked-plan c.args.plan.now c.in_ok-directory.directory c.args.question.now c.in_ok-directory.ensures in
    sym asked ∙ c.in-Err.is
