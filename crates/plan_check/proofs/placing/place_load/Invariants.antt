use Rattle.std.proofs.Common.{◌≡◌}
use Rattle.plan_check.specs.Programs.{byte_for, written_over}
use Rattle.plan_check.proofs.Writing.{below}
use Rattle.plan_check.proofs.placing.place_load.Given as goal

-- the bytes below this address are placed
abbrev pub invariant-loop-addr : goal.invariant-loop-addr
invariant-loop-addr l = l.bytes ≡ written_over l.base (below l.addr (byte_for l.port l.load)) l.initial.bytes
