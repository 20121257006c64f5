use Rattle.std.proofs.Common.{◌+◌, length, sym, ◌∙◌, ap, arith, refl}
use Rattle.port_msg.specs.RecView.{RecView}
use Rattle.task_stats.specs.Tasks.{after_records}
use Rattle.run_hub.specs.Lines.{side_records}
use Rattle.run_hub.proofs.SideLines.{records_over, records_one}
use Rattle.run_hub.proofs.CountLaws.{counted_then}
use Rattle.run_hub.proofs.count.count_side.Goals as goal

pub loop-no-init : goal.loop-no-init
loop-no-init g c = record { within = omega arith; counted = refl }

pub recs_at-requires : goal.recs_at-requires
recs_at-requires g c = c.requires.here c.in-Some.no c.in-Some.ensures.least.here

pub loop-no-preserved : goal.loop-no-preserved
loop-no-preserved g c =
    let least = c.in-Some.ensures.least in
    let who = c.in-Some.no in
    let b = c.requires.here who least.here in
    let back = c.args.back.now in
    let seats = c.args.seats.now.items in
    record {
      within = (let w = least.within in omega (arith, w));
      counted = counted_then c.args.stats.now c.loop-no.stats c.add.new.self (side_records back seats who) b.0.recs.items (side_records back seats (who + 1)) (records_one back seats who b.0 least.here b.1)
          (c.loop-no.invariant.counted ∙ ap (after_records c.args.stats.now) (sym (records_over back seats c.loop-no.at who least.not_below least.least)))
          (c.add.ensures.counted ∙ ap (λ (r : RecView). after_records c.loop-no.stats r.items) (c.recs_at.ensures b.0 b.1));
    }

pub loop-no-smaller : goal.loop-no-smaller
loop-no-smaller g c =
    let a = c.in-Some.ensures.least.not_below in
    let b = c.in-Some.ensures.least.within in
    omega (arith, a, b)

pub returns : goal.returns
returns g c =
    let inv = c.loop-no.invariant in
    inv.counted ∙ ap (after_records c.args.stats.now) (sym (records_over c.args.back.now c.args.seats.now.items c.loop-no.at (length c.args.back.now) inv.within c.in_default.ensures.none))
