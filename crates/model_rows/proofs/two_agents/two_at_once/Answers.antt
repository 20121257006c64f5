use Rattle.model_rows.proofs.MissRows.{two_at_once}
use Rattle.model_rows.proofs.two_agents.two_at_once.Goals as goal

pub returns : goal.returns
returns c = record { run = two_at_once }
