use Rattle.std.proofs.Common.{◌+◌, ◌<◌, List, length, sym, ◌∙◌, subst, arith, refl}
use Rattle.std.specs.Prelude.{All}
use Rattle.port_msg.specs.RecView.{RecView}
use Rattle.port_msg.specs.declared.records.Record.{Record}
use Rattle.sim_io.specs.Sink.{Got, GotPrefix}
use Rattle.trace_out.specs.Names.{actors_of}
use Rattle.trace_out.specs.Lines.{lines_of, line_count}
use Rattle.run_gear.proofs.LineLaws.{nothing_more, lines_grow, rose_later}
use Rattle.run_hub.specs.Lines.{side_records}
use Rattle.run_hub.proofs.SideLines.{records_over, records_one, prefix_of_all, prefix_grow, some_last, some_of_all}
use Rattle.run_hub.proofs.lines.write_side.Goals as goal

pub loop-no-init : goal.loop-no-init
loop-no-init g c = record { within = omega arith; got = nothing_more (g.K.Sink.told c.args.sink.now); falls = omega arith; telling = refl }

pub recs_at-requires : goal.recs_at-requires
recs_at-requires g c = c.requires.here c.in-Some.no c.in-Some.ensures.least.here

pub write_records-requires : goal.write_records-requires
write_records-requires g c =
    let least = c.in-Some.ensures.least in
    let b = c.requires.here c.in-Some.no least.here in
    record { known = subst (λ (r : RecView). All (λ (x : Record). x.actor.0 < actors_of c.args.names.now) r.items) (sym (c.recs_at.ensures b.0 b.1)) (c.requires.known c.in-Some.no b.0 least.here b.1) }

pub loop-no-preserved : goal.loop-no-preserved
loop-no-preserved g c =
    let inv = c.loop-no.invariant in
    let least = c.in-Some.ensures.least in
    let who = c.in-Some.no in
    let b = c.requires.here who least.here in
    let back = c.args.back.now in
    let seats = c.args.seats.now.items in
    let old = g.K.Sink.told c.args.sink.now in
    let mid = g.K.Sink.told c.loop-no.sink in
    let new = g.K.Sink.told c.write_records.new.sink in
    let here : Got mid new (lines_of c.args.names.now c.args.all b.0.recs.items) = subst (λ (r : RecView). Got mid new (lines_of c.args.names.now c.args.all r.items)) (c.recs_at.ensures b.0 b.1) c.in-Ok.ensures.ok in
    record {
      within = (let w = least.within in omega (arith, w));
      got = lines_grow c.args.names.now c.args.all (side_records back seats who) b.0.recs.items (side_records back seats (who + 1)) old mid new (records_one back seats who b.0 least.here b.1)
          (subst (λ (l : List Record). Got old mid (lines_of c.args.names.now c.args.all l)) (sym (records_over back seats c.loop-no.at who least.not_below least.least)) inv.got) here;
      falls = (let f = c.write_records.ensures.never_falls in omega (arith, f, inv.falls));
      telling = c.write_records.ensures.telling ∙ inv.telling;
    }

pub loop-no-smaller : goal.loop-no-smaller
loop-no-smaller g c =
    let a = c.in-Some.ensures.least.not_below in
    let b = c.in-Some.ensures.least.within in
    omega (arith, a, b)

pub returns-in-Err-clause-part : goal.returns-in-Err-clause-part
returns-in-Err-clause-part g c = λ failed.
    let inv = c.loop-no.invariant in
    let least = c.in-Some.ensures.least in
    let who = c.in-Some.no in
    let b = c.requires.here who least.here in
    let back = c.args.back.now in
    let seats = c.args.seats.now.items in
    let old = g.K.Sink.told c.args.sink.now in
    let mid = g.K.Sink.told c.loop-no.sink in
    let new = g.K.Sink.told c.write_records.new.sink in
    let here : GotPrefix mid new (lines_of c.args.names.now c.args.all b.0.recs.items) = subst (λ (r : RecView). GotPrefix mid new (lines_of c.args.names.now c.args.all r.items)) (c.recs_at.ensures b.0 b.1) c.in-Err.ensures.prefix in
    prefix_of_all back seats c.args.names.now c.args.all old new (who + 1) (length back) (let w = least.within in omega (arith, w))
    (prefix_grow c.args.names.now c.args.all (side_records back seats who) b.0.recs.items (side_records back seats (who + 1)) old mid new (records_one back seats who b.0 least.here b.1)
    (subst (λ (l : List Record). Got old mid (lines_of c.args.names.now c.args.all l)) (sym (records_over back seats c.loop-no.at who least.not_below least.least)) inv.got) here)

pub returns-in-Err-clause-some : goal.returns-in-Err-clause-some
returns-in-Err-clause-some g c = λ failed.
    let least = c.in-Some.ensures.least in
    let who = c.in-Some.no in
    let b = c.requires.here who least.here in
    let back = c.args.back.now in
    let seats = c.args.seats.now.items in
    let here : 0 < line_count c.args.all b.0.recs.items = subst (λ (r : RecView). 0 < line_count c.args.all r.items) (c.recs_at.ensures b.0 b.1) c.in-Err.ensures.some in
    some_of_all back seats c.args.all (who + 1) (length back) (let w = least.within in omega (arith, w))
    (some_last c.args.all (side_records back seats who) b.0.recs.items (side_records back seats (who + 1)) (records_one back seats who b.0 least.here b.1) here)

pub returns-in-Err-clause-fault : goal.returns-in-Err-clause-fault
returns-in-Err-clause-fault g c = λ failed. rose_later (g.K.Sink.faults c.args.sink.now) (g.K.Sink.faults c.loop-no.sink) (g.K.Sink.faults c.write_records.new.sink) c.loop-no.invariant.falls c.in-Err.ensures.fault

pub returns-in-Err-clause-never_falls : goal.returns-in-Err-clause-never_falls
returns-in-Err-clause-never_falls g c = let f = c.write_records.ensures.never_falls in let i = c.loop-no.invariant.falls in omega (arith, f, i)

pub returns-in-Err-clause-telling : goal.returns-in-Err-clause-telling
returns-in-Err-clause-telling g c = c.write_records.ensures.telling ∙ c.loop-no.invariant.telling

pub returns-clause-whole : goal.returns-clause-whole
returns-clause-whole g c = λ all.
    let inv = c.loop-no.invariant in
    subst (λ (l : List Record). Got (g.K.Sink.told c.args.sink.now) (g.K.Sink.told c.loop-no.sink) (lines_of c.args.names.now c.args.all l)) (sym (records_over c.args.back.now c.args.seats.now.items c.loop-no.at (length c.args.back.now) inv.within c.in_default.ensures.none)) inv.got
