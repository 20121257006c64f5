use Rattle.model_rows.proofs.MissRows.{one_at_a_time}
use Rattle.model_rows.proofs.two_agents.one_at_a_time.Goals as goal

pub returns : goal.returns
returns c = record { run = one_at_a_time }
