use Rattle.std.proofs.Common.{◌≡◌, ◌+◌, ◌≤◌, [], length, subst, sym, ◌∙◌, ap, arith, refl, add-one}
use Rattle.std.specs.Prelude.{All, option_map, ◌++◌, ◌<◌}
use Rattle.sim_base.specs.declared.time.TheConstants.{LATEST_TIME}
use Rattle.port_msg.specs.declared.records.Record.{Record}
use Rattle.sim_io.specs.Sink.{Got, GotPrefix}
use Rattle.tick_law.specs.PlanView.{system_from}
use Rattle.tick_law.specs.Verdict.{awake_now, awake_below}
use Rattle.trace_out.specs.Names.{NamesView, actors_of}
use Rattle.trace_out.specs.Lines.{lines_of, line_count}
use Rattle.run_gear.specs.Counted.{counted_with}
use Rattle.run_gear.specs.PlanNames.{names_of}
use Rattle.phase_engine.specs.Between.{records_between}
use Rattle.phase_engine.specs.RunGear.{places_of}
use Rattle.run_gear.proofs.CountLaws.{counted_none}
use Rattle.run_gear.proofs.LineLaws.{nothing_more, known_actors, rose_later}
use Rattle.phase_engine.proofs.RunLaws.{is_due, to_due, records_jump, none_between, lines_then, counted_more, some_between, end_then}
use Rattle.phase_engine.proofs.run_lines.run_due.Goals as goal

pub loop-t-init : goal.loop-t-init
loop-t-init g c =
    let plan = g.C.Charter.plan in
    let start = g.C.Charter.start in
    let r = system_from g.P.Actor.machine g.N.Actor.machine plan start in
    let is = c.requires.run in
    let run = c.args.run.now in
    let due = c.next_due-t in
    let told = g.K.Sink.told c.args.sink.now in
    let bound : run.until + 1 ≡ plan.until + 1 = ap (λ n. n + 1) is.of.until_is in
    let last : due.result ≤ LATEST_TIME + 1 = (let u = is.of.until_within in omega (arith, due.ensures.within, bound, u)) in
    let reached = to_due r g.P.Actor.valid g.N.Actor.valid run.at due.result (places_of run.world) run.gear.next 0 (length start.world.parts) (length start.world.links) is.gear_is.fitted.set_up due.ensures.from last due.ensures.none is.at_is in
    let none : records_between r run.at due.result ≡ [] = records_jump r run.at run.at due.result (omega arith) due.ensures.from reached.records ∙ none_between r run.at in
    record {
      gear = is.gear_is;
      at = reached.boundary;
      of = is.of;
      bound = bound;
      within = due.ensures.within;
      due = λ l. is_due run.gear.next due.result (run.until + 1) l due.ensures.due;
      end = is.end_is ∙ sym reached.ending;
      onward = due.ensures.from;
      steps = (let e = reached.steps in omega (arith, e));
      lines = nothing_more told ∙ ap (λ l. option_map (λ held. held ++ lines_of (names_of plan) c.args.all l) told) (sym none);
      counted = counted_none c.args.stats.now ∙ ap (counted_with c.args.stats.now) (sym none);
      falls = omega arith;
      telling = refl;
    }

pub write_records-requires : goal.write_records-requires
write_records-requires g c =
    let plan = g.C.Charter.plan in
    let start = g.C.Charter.start in
    let r = system_from g.P.Actor.machine g.N.Actor.machine plan start in
    let t = c.loop-t.t in
    let inv = c.loop-t.invariant in
    let named = inv.of.actors_named in
    record {
      known = subst (λ l. All (λ (x : Record). x.actor.0 < actors_of c.loop-t.run.names) l) (sym c.one_time-stirred.ensures.records)
          (known_actors r g.P.Actor.valid g.N.Actor.valid t (actors_of c.loop-t.run.names) inv.gear.fitted.set_up (let u = inv.of.until_within in omega (arith, c.loop-t-test.true, inv.bound, u)) named);
    }

pub returns-in-Err-clause-fault : goal.returns-in-Err-clause-fault
returns-in-Err-clause-fault g c = λ failed. rose_later (g.K.Sink.faults c.args.sink.now) (g.K.Sink.faults c.loop-t.sink) (g.K.Sink.faults c.write_records.new.sink) c.loop-t.invariant.falls c.in-Err.ensures.fault

pub returns-in-Err-clause-prefix : goal.returns-in-Err-clause-prefix
returns-in-Err-clause-prefix g c = λ failed.
    let plan = g.C.Charter.plan in
    let r = system_from g.P.Actor.machine g.N.Actor.machine plan g.C.Charter.start in
    let inv = c.loop-t.invariant in
    let t = c.loop-t.t in
    let then = c.write_records.new.sink in
    let here : GotPrefix (g.K.Sink.told c.loop-t.sink) (g.K.Sink.told then) (lines_of (names_of plan) c.args.all (c.one_time-stirred.new.gear.recs.items)) = subst (λ (n : NamesView). GotPrefix (g.K.Sink.told c.loop-t.sink) (g.K.Sink.told then) (lines_of n c.args.all (c.one_time-stirred.new.gear.recs.items))) inv.of.names_are c.in-Err.ensures.prefix in
    some_between plan r c.args.all c.args.run.now.at t (g.K.Sink.told c.args.sink.now) (g.K.Sink.told c.loop-t.sink) (g.K.Sink.told then) inv.onward
    (subst (λ l. 0 < line_count c.args.all l) c.one_time-stirred.ensures.records c.in-Err.ensures.some) inv.lines
    (subst (λ l. GotPrefix (g.K.Sink.told c.loop-t.sink) (g.K.Sink.told then) (lines_of (names_of plan) c.args.all l)) c.one_time-stirred.ensures.records here)

pub returns-in-Err-clause-steps : goal.returns-in-Err-clause-steps
returns-in-Err-clause-steps g c =
    let r = system_from g.P.Actor.machine g.N.Actor.machine g.C.Charter.plan g.C.Charter.start in
    let z : awake_below r (c.loop-t.t + 1) ≡ awake_below r c.loop-t.t + awake_now r c.loop-t.t = ap (λ x. awake_below r x) (add-one c.loop-t.t) in
    omega (arith, z, c.loop-t.invariant.steps, c.one_time-stirred.ensures.steps)

pub loop-t-preserved : goal.loop-t-preserved
loop-t-preserved g c =
    let plan = g.C.Charter.plan in
    let start = g.C.Charter.start in
    let r = system_from g.P.Actor.machine g.N.Actor.machine plan start in
    let inv = c.loop-t.invariant in
    let t = c.loop-t.t in
    let now = c.one_time-stirred.new in
    let then = c.write_records.new.sink in
    let due = c.next_due-t-in-loop-t in
    let from = c.args.run.now.at in
    let told = g.K.Sink.told c.args.sink.now in
    let last : due.result ≤ LATEST_TIME + 1 = (let u = inv.of.until_within in omega (arith, due.ensures.within, inv.bound, u)) in
    let reached = to_due r g.P.Actor.valid g.N.Actor.valid (t + 1) due.result (places_of now.world) now.gear.next 0 (length start.world.parts) (length start.world.links) inv.gear.fitted.set_up due.ensures.from last due.ensures.none c.one_time-stirred.ensures.at in
    let end = end_then r t c.loop-t.run.end c.later-run.result c.one_time-stirred.result c.later-run.ensures c.one_time-stirred.ensures.flag inv.end in
    let here : Got (g.K.Sink.told c.loop-t.sink) (g.K.Sink.told then) (lines_of (names_of plan) c.args.all now.gear.recs.items) = subst (λ (n : NamesView). Got (g.K.Sink.told c.loop-t.sink) (g.K.Sink.told then) (lines_of n c.args.all now.gear.recs.items)) inv.of.names_are c.in-Ok.ensures.ok in
    let wrote = lines_then r (names_of plan) c.args.all from t told (g.K.Sink.told c.loop-t.sink) (g.K.Sink.told then) inv.onward inv.lines (subst (λ l. Got (g.K.Sink.told c.loop-t.sink) (g.K.Sink.told then) (lines_of (names_of plan) c.args.all l)) c.one_time-stirred.ensures.records here) in
    let z : awake_below r (t + 1) ≡ awake_below r t + awake_now r t = ap (λ x. awake_below r x) (add-one t) in
    let jumped : records_between r from due.result ≡ records_between r from (t + 1) = records_jump r from (t + 1) due.result (omega (arith, inv.onward)) due.ensures.from reached.records in
    record {
      gear = c.one_time-stirred.ensures.gear;
      at = reached.boundary;
      of = record { names_are = inv.of.names_are; actors_named = inv.of.actors_named; until_is = inv.of.until_is; until_within = inv.of.until_within };
      bound = inv.bound;
      within = due.ensures.within;
      due = λ l. is_due now.gear.next due.result (c.args.run.now.until + 1) l due.ensures.due;
      end = end ∙ sym reached.ending;
      onward = (let f = due.ensures.from in omega (arith, f, inv.onward));
      steps = (let e = reached.steps in omega (arith, e, z, inv.steps, c.one_time-stirred.ensures.steps));
      lines = subst (λ l. Got told (g.K.Sink.told then) (lines_of (names_of plan) c.args.all l)) (sym jumped) wrote;
      counted =
          counted_more r from t c.args.stats.now c.loop-t.stats c.count.new.stats now.gear.recs.items inv.onward c.one_time-stirred.ensures.records inv.counted c.count.ensures
          ∙ ap (counted_with c.args.stats.now) (sym jumped);
      falls = (let f = c.write_records.ensures.never_falls in omega (arith, f, inv.falls));
      telling = c.write_records.ensures.telling ∙ inv.telling;
    }

pub returns-in-Err-clause-counted : goal.returns-in-Err-clause-counted
returns-in-Err-clause-counted g c =
    let r = system_from g.P.Actor.machine g.N.Actor.machine g.C.Charter.plan g.C.Charter.start in
    let inv = c.loop-t.invariant in
    counted_more r c.args.run.now.at c.loop-t.t c.args.stats.now c.loop-t.stats c.count.new.stats c.one_time-stirred.new.gear.recs.items inv.onward c.one_time-stirred.ensures.records inv.counted c.count.ensures
