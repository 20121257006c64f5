use Rattle.std.proofs.Common.{rules, arith, ℕ, subst}
use Rattle.top_run.specs.Words.{spelled, IsStorm, IsRefusedFrom, IsUsage, IsNumberAt}
use Rattle.top_run.proofs.WordRefusals.{length-spelled, usage_map}
use Rattle.top_run.proofs.CommandRefusals.{refused_end, no_agents, behind_agents}
use Rattle.top_run.proofs.words.read_storm.Goals as goal

pub returns-in_err-agents-clause-refused : goal.returns-in_err-agents-clause-refused
returns-in_err-agents-clause-refused c =
    let words = spelled c.args.words.now in
    let told : IsUsage (IsRefusedFrom IsStorm words 1) c.in_err-agents.field-0.0 = usage_map _ (IsRefusedFrom IsStorm words 1) _ (λ k none. no_agents words k none.0 (subst (λ m. (n : ℕ) → IsNumberAt words 1 1 m n → ⊥) c.from.ensures none.1)) c.in_err-agents.ensures.none in
    search rules

pub returns-in_err-need_end-clause-refused : goal.returns-in_err-need_end-clause-refused
returns-in_err-need_end-clause-refused c =
    let words = spelled c.args.words.now in
    let count = length-spelled c.args.words.now in
    let told : IsUsage (IsRefusedFrom IsStorm words 1) c.in_err-need_end.field-0.0 = usage_map _ (IsRefusedFrom IsStorm words 1) _ (λ k more. behind_agents words c.in_ok-agents.agents k (subst (λ m. IsNumberAt words 1 1 m c.in_ok-agents.agents) c.from.ensures c.in_ok-agents.ensures.some) (refused_end words 2 k more.0 (omega (arith, count, more.1)))) c.in_err-need_end.ensures.more in
    search rules
