-- Messages and numbers of ports in worked rows.
use Rattle.std.specs.Prelude.{ℕ, ◌-◌, List, ◌++◌, length, replicate}
use Rattle.port_msg.specs.declared.message.Msg.{Msg}
use Rattle.port_msg.specs.declared.message.MsgId.{MsgId}
use Rattle.port_msg.specs.declared.message.MsgKind.{MsgKind}
use Rattle.sim_base.specs.declared.numbers.PortNo.{PortNo}

abbrev pub port : ℕ → PortNo
port q = record { 0 = q }

-- the request of this number, from 0, of a part
abbrev pub id : ℕ → ℕ → MsgId
id part seq = record { part = record { 0 = part }; seq = seq }

-- bytes with zeros behind them, 64 in all
abbrev pub with_zeros : List ℕ → List ℕ
with_zeros bytes = bytes ++ replicate (64 - length bytes) 0

-- a message from a port to a port
abbrev pub message : MsgKind → MsgId → ℕ → ℕ → ℕ → ℕ → List ℕ → Msg
message kind name src dst addr len bytes = record { id = name; src = port src; dst = port dst; kind = kind; addr = addr; len = len; bytes = with_zeros bytes }
