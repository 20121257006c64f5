use Rattle.std.proofs.Common.{◌≡◌, ◌∙◌, ap, arith, ◌++◌, [], ◌∷◌}
use Rattle.part_view.specs.Fields.{register_fields, values}
use Rattle.part_view.specs.declared.shown.Shown.TheVariants.{Number}
use Rattle.part_view.proofs.FieldLaws.{no_registers, one_register_more}
use Rattle.part_view.proofs.fields.add_registers.Goals as goal

pub loop-no-init : goal.loop-no-init
loop-no-init c = record {
  added = no_registers c.args.core.now.regs c.args.shown.now.items;
  long = omega arith;
}

pub loop-no-preserved : goal.loop-no-preserved
loop-no-preserved c = record {
  added = one_register_more c.args.core.now.regs c.loop-no.no c.args.shown.now.items c.loop-no.shown.items c.push.new.self.items c.loop-no.invariant.added
      (c.push.ensures.items ∙ ap (λ r. c.loop-no.shown.items ++ Number r ∷ []) (c.from.ensures ∙ c.reg.ensures));
  long = omega (arith, c.push.ensures.len, c.loop-no.invariant.long);
}

pub returns : goal.returns
returns c =
    let all : c.loop-no.no ≡ 32 = omega (arith, c.loop-no-test.false, c.loop-no.auto.no-end) in
    c.loop-no.invariant.added ∙ ap (λ k. c.args.shown.now.items ++ values (register_fields c.args.core.now.regs k)) all
