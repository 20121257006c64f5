use Rattle.std.proofs.Common.{sym, ◌∙◌, subst}
use Rattle.std.specs.Prelude.{All, AllPairs, bytes_eq, []}
use Rattle.std.proofs.lemmas.List.Quantifiers.{position-Some}
use Rattle.sim_config.specs.Tables.{MapTable}
use Rattle.addr_map.specs.Range.{IsRange, Apart}
use Rattle.plan_check.proofs.MapLemmas.{map_apart}
use Rattle.plan_check.proofs.PlanLemmas.{kept}
use Rattle.plan_check.proofs.maps.map_of.Goals as goal

pub returns-in_ok-ranges_of-in-Some-clause-shape : goal.returns-in_ok-ranges_of-in-Some-clause-shape
returns-in_ok-ranges_of-in-Some-clause-shape c = subst (All IsRange) (sym c.of.ensures) c.in_ok-ranges_of-in-Some.ensures.shape

pub returns-in_ok-ranges_of-in-Some-clause-apart : goal.returns-in_ok-ranges_of-in-Some-clause-apart
returns-in_ok-ranges_of-in-Some-clause-apart c =
    let there = position-Some (λ (m : MapTable). bytes_eq m.name c.args.name.now) c.args.plan.now.maps c.in-Some.no (record { name = []; ranges = [] }) (sym c.map_no.ensures ∙ c.in-Some.is) in
    subst (AllPairs Apart) (sym (c.of.ensures ∙ c.in_ok-ranges_of-in-Some.ensures.ranges)) (map_apart c.args.plan.now (kept c.args.plan.now c.requires) c.in-Some.no there.0)
