use Rattle.std.proofs.Common.{rules, ◌≡◌, ◌+◌, ◌-◌, ◌≤◌, ◌^◌, length, arith}
use Rattle.mem_ctrl.specs.Memory.{IsMemory}
use Rattle.state_view.proofs.RowLaws.{rows_within}
use Rattle.state_view.proofs.memory_rows.put_memory_rows.Goals as goal

pub put_rows-requires : goal.put_rows-requires
put_rows-requires c =
    let is : IsMemory c.args.memory.now = c.known.ensures in
    let bytes : c.bytes-bytes.result.now ≡ c.args.memory.now.bytes = c.bytes-bytes.ensures in
    let within : c.args.memory.now.base + length c.bytes-bytes.result.now ≤ 2 ^ 32 = rw bytes is.within_addresses in
    let base : c.from.result ≡ c.args.memory.now.base = search rules in
    let behind : c.before_rows-before.result ≤ length c.bytes-bytes.result.now = search rules in
    rw base (rows_within c.bytes-bytes.result.now c.args.memory.now.base c.before_rows-before.result (length c.bytes-bytes.result.now - c.before_rows-before.result) within behind)
