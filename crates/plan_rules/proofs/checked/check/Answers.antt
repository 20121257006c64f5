use Rattle.std.proofs.Common.{◌≡◌, sym, ap, ◌∙◌}
use Rattle.std.specs.Prelude.{find}
use Rattle.plan_rules.specs.declared.rule.PlanRule.TheVariants.{TooMany}
use Rattle.plan_rules.specs.Rules.{too_many}
use Rattle.plan_rules.proofs.Few.{is_few, too_many-first}
use Rattle.plan_rules.proofs.checked.check.Goals as goal

pub open-requires : goal.open-requires
open-requires c = is_few c.args.text.now (ap (find (too_many c.args.text.now)) (sym (c.deref.ensures.value ∙ c.in_ok-tables.ensures {u = tt})) ∙ sym c.first_too_many.ensures ∙ c.in_default.is)

pub returns-in-Some-clause-broken : goal.returns-in-Some-clause-broken
returns-in-Some-clause-broken c = λ rule table same.
    (let told = too_many-first c.args.text.now c.in-Some.table (ap (find (too_many c.args.text.now)) (sym (c.deref.ensures.value ∙ c.in_ok-tables.ensures {u = tt})) ∙ sym c.first_too_many.ensures ∙ c.in-Some.is) in
    let rule_is : TooMany ≡ rule = cc in
    let table_is : c.in-Some.table ≡ table = cc in
    cc)
