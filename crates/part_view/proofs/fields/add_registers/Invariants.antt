use Rattle.std.proofs.Common.{◌≡◌, ◌+◌, ◌++◌}
use Rattle.arrayvec.specs.ArrayVec.{array_vec_len}
use Rattle.part_view.specs.Fields.{register_fields, values}
use Rattle.part_view.proofs.fields.add_registers.Given as goal

abbrev pub invariant-loop-no : goal.invariant-loop-no
invariant-loop-no l = record {
  added : l.shown.items ≡ l.fn.shown.items ++ values (register_fields l.core.regs l.no);
  long : array_vec_len l.shown ≡ array_vec_len l.fn.shown + l.no;
}
