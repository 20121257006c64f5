use Rattle.sim_config.proofs.NameTests.{IsUtf8-from_IsName}
use Rattle.sim_config.proofs.fault.Key.as_str.Goals as goal

pub unreachable-requires : goal.unreachable-requires
unreachable-requires c = c.in-Err.ensures.cases.0 (IsUtf8-from_IsName _ c.text.ensures.shape)
