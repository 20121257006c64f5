use Rattle.std.proofs.Common.{◌≡◌, ap, arith, ◌∙◌}
use Rattle.plan_check.specs.Programs.{Load, byte_for, written_over}
use Rattle.plan_check.proofs.Writing.{end_placed, one_more, only, start_placed}
use Rattle.plan_check.proofs.placing.place_load.Goals as goal

pub loop-addr-init : goal.loop-addr-init
loop-addr-init c =
    let first : c.load.inside.segment.vaddr ≡ c.args.load.now.segment.vaddr = ap (λ (l : Load). l.segment.vaddr) c.load.view_is in
    start_placed c.args.base c.from-first.result c.args.port c.args.load.now c.args.bytes.now (λ a below from. omega (arith, first, c.from-first.ensures, c.max.ensures))

pub loop-addr-preserved : goal.loop-addr-preserved
loop-addr-preserved c =
    one_more c.args.base c.loop-addr.addr (byte_for c.args.port c.args.load.now) c.args.bytes.now c.loop-addr.bytes c.put.new.bytes c.loop-addr.invariant (c.put.ensures ∙ ap (λ o. written_over c.args.base (only c.loop-addr.addr o) c.loop-addr.bytes) c.byte_for.ensures)

pub returns : goal.returns
returns c =
    let first : c.load.inside.segment.vaddr ≡ c.args.load.now.segment.vaddr = ap (λ (l : Load). l.segment.vaddr) c.load.view_is in
    let size : c.load.inside.segment.mem_size ≡ c.args.load.now.segment.mem_size = ap (λ (l : Load). l.segment.mem_size) c.load.view_is in
    c.loop-addr.invariant ∙ end_placed c.args.base c.loop-addr.addr c.args.port c.args.load.now c.args.bytes.now (λ a from to. omega (arith, first, size, c.from.ensures, c.from-2.ensures, c.from-3.ensures, c.min-end.ensures, c.loop-addr-test.false))
