use Rattle.std.proofs.Common.{◌≡◌}
use Rattle.port_rows.specs.Rows.{are_parts}
use Rattle.actor_turn.specs.Side.{edge_of}
use Rattle.actor_turn.specs.Waking.{shows_other}
use Rattle.model_laws.proofs.WokenByPorts.{Waked}
use Rattle.serial_loop.proofs.WakeLaws.{HaveSeen}
use Rattle.serial_loop.proofs.wake.wake_changed.Given as goal

abbrev pub invariant-loop-port : goal.invariant-loop-port
invariant-loop-port l = record {
  woke : Waked l.others.wiring (shows_other (are_parts l.side) l.fn.rows) (edge_of l.others l.from) l.fn.next l.next l.port;
  seen : HaveSeen l.fn.rows.ports l.fn.rows.seen l.rows.seen l.port;
  ports : l.rows.ports ≡ l.fn.rows.ports;
  wires : l.rows.wires ≡ l.fn.rows.wires;
}
