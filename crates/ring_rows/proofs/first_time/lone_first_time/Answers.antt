use Rattle.std.proofs.Common.{◌≡◌, ℕ, ◌+◌, IfOk, OnOk, ap, ◌∙◌, subst}
use Rattle.tick_law.specs.SerialLoop.{System, WorldState, world_at, edges_below}
use Rattle.tick_law.specs.Verdict.{verdict_at}
use Rattle.tick_law.specs.declared.verdict.Verdict.{Verdict}
use Rattle.port_rows.specs.World.{state_of}
use Rattle.part_kind.specs.declared.part.Part.{Part}
use Rattle.part_kind.specs.declared.link_kind.LinkKind.{LinkKind}
use Rattle.ring_rows.specs.Lone.{lone}
use Rattle.ring_rows.proofs.LoneRun.{world_1, edges_1, verdict_1}
use Rattle.ring_rows.proofs.first_time.lone_first_time.Goals as goal

pub returns-clause-world : goal.returns-clause-world
returns-clause-world g c =
    let plan = c.in_ok-plan.plan in
    let same = ap (λ (s : System Part LinkKind). world_at s (plan.until + 1)) c.in_ok-plan.ensures.system ∙ ap (λ n. world_at lone (n + 1)) c.in_ok-plan.ensures.until ∙ world_1 in
    subst (λ (w : WorldState Part LinkKind). IfOk c.run_serial.result (λ e. state_of e.world ≡ w)) same c.run_serial.ensures.world

pub returns-clause-verdict : goal.returns-clause-verdict
returns-clause-verdict g c =
    let plan = c.in_ok-plan.plan in
    let same = ap (λ (s : System Part LinkKind). verdict_at s plan.until) c.in_ok-plan.ensures.system ∙ ap (verdict_at lone) c.in_ok-plan.ensures.until ∙ verdict_1 in
    subst (λ (v : Verdict). IfOk c.run_serial.result (λ e. e.verdict ≡ v)) same c.run_serial.ensures.verdict

pub returns-clause-steps : goal.returns-clause-steps
returns-clause-steps g c =
    let plan = c.in_ok-plan.plan in
    let same = ap (λ (s : System Part LinkKind). edges_below s (plan.until + 1)) c.in_ok-plan.ensures.system ∙ ap (λ n. edges_below lone (n + 1)) c.in_ok-plan.ensures.until ∙ edges_1 in
    subst (λ (n : ℕ). OnOk c.run_serial.result (c.run_serial.new.steps ≡ c.args.steps.now + n)) same c.run_serial.ensures.steps
