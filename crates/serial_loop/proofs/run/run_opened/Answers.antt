use Rattle.std.proofs.Common.{◌≡◌, ◌+◌, ◌<◌, ◌≤◌, ℕ, ◌++◌, length, suc, sym, ◌∙◌, ap, subst, arith, add-one}
use Rattle.std.specs.Prelude.{All, ◌||◌, option_map, slice_index_or}
use Rattle.sim_base.specs.declared.time.TheConstants.{LATEST_TIME}
use Rattle.sim_base.specs.Edge.{edge_from}
use Rattle.sim_io.specs.Sink.{Got, GotPrefix}
use Rattle.port_msg.specs.declared.records.Record.{Record}
use Rattle.tick_law.specs.SerialLoop.{whole_world, world_at, records_at_time, records_below, edges_at, edges_below, end_below}
use Rattle.tick_law.specs.PlanView.{system_from}
use Rattle.tick_law.specs.Verdict.{verdict_by, exists_to, all_done}
use Rattle.model_laws.proofs.TimesPassedOver.{end_more}
use Rattle.model_laws.specs.Boundary.{IsBoundary}
use Rattle.model_laws.specs.NextTable.{next_at_place}
use Rattle.trace_out.specs.Names.{actors_of}
use Rattle.trace_out.specs.Lines.{lines_of, line_count}
use Rattle.port_rows.specs.World.{state_of}
use Rattle.run_gear.specs.Counted.{counted_with}
use Rattle.run_gear.specs.IsGear.{IsGear}
use Rattle.run_gear.specs.PlanNames.{names_of}
use Rattle.serial_loop.proofs.EdgeLaws.{pass_over, edges_more}
use Rattle.run_gear.proofs.CountLaws.{counted_none, counted_then}
use Rattle.run_gear.proofs.LineLaws.{nothing_more, known_actors, some_lines}
use Rattle.serial_loop.proofs.RunLaws.{state_is, verdict_is, lines_then}
use Rattle.serial_loop.proofs.run.run_opened.Goals as goal

pub loop-t-init : goal.loop-t-init
loop-t-init g c =
    let mp = g.P.Actor.machine in
    let mn = g.N.Actor.machine in
    let plan = g.C.Charter.plan in
    let start = g.C.Charter.start in
    let r = system_from mp mn plan start in
    let o = c.args.opened in
    let e = c.next_edge-t.result in
    let f = c.next_edge-t.ensures in
    let gear : IsGear mp mn g.P.Actor.valid g.N.Actor.valid plan start o.gear = subst (λ s. IsGear mp mn g.P.Actor.valid g.N.Actor.valid plan s o.gear) (sym c.requires.start) c.requires.opened.gear_is in
    let within : e ≤ LATEST_TIME + 1 = omega (arith, f.within, c.requires.opened.until_is, c.requires.opened.until_within) in
    let passed = pass_over r g.P.Actor.valid g.N.Actor.valid o.gear.recs.room o.gear.recs.room 0 e o.gear.parts.periods.items o.gear.links.periods.items (whole_world (state_of o.world)) c.args.next.parts c.args.next.links gear.fitted f.from within
    (subst (λ l. (i : ℕ) → i < length l → e ≤ edge_from (slice_index_or l i 0) 0) c.deref.ensures.value f.parts)
    (subst (λ l. (i : ℕ) → i < length l → e ≤ edge_from (slice_index_or l i 0) 0) c.deref-2.ensures.value f.links)
    c.requires.at.boundary in
    let told = g.K.Sink.told c.args.sink.now in
    record {
      gear = gear;
      at = record { boundary = passed.reached.boundary; settled = c.requires.at.settled; wires = c.requires.at.wires };
      within = f.within;
      end = sym (ap (λ s. s.end) c.requires.start) ∙ sym passed.reached.ending;
      steps = (let counted = passed.counted in omega (arith, counted));
      lines = nothing_more told ∙ ap (λ l. option_map (λ held. held ++ lines_of (names_of plan) c.args.kept.all l) told) (sym passed.reached.records);
      counted = counted_none c.args.kept.stats ∙ ap (counted_with c.args.kept.stats) (sym passed.reached.records);
      falls = omega arith;
    }

pub write_records-requires : goal.write_records-requires
write_records-requires g c =
    let r = system_from g.P.Actor.machine g.N.Actor.machine g.C.Charter.plan g.C.Charter.start in
    let t = c.loop-t.t in
    let q = c.requires.opened in
    let count : actors_of c.args.opened.names ≡ length g.C.Charter.start.world.parts + length g.C.Charter.start.world.links = q.actors_named ∙ sym (ap (λ s. length s.world.parts + length s.world.links) c.requires.start) in
    record {
      known = subst (λ l. All (λ (x : Record). x.actor.0 < actors_of c.args.opened.names) l) (sym c.tick_time-stirred.ensures.records)
          (known_actors r g.P.Actor.valid g.N.Actor.valid t (actors_of c.args.opened.names) c.loop-t.invariant.gear.fitted.set_up (omega (arith, c.loop-t-test.true, q.until_is, q.until_within)) count);
    }

pub returns-in-Err-clause-prefix : goal.returns-in-Err-clause-prefix
returns-in-Err-clause-prefix g c =
    let plan = g.C.Charter.plan in
    let r = system_from g.P.Actor.machine g.N.Actor.machine plan g.C.Charter.start in
    let before = g.K.Sink.told c.loop-t.sink in
    let after = g.K.Sink.told c.write_records.new.sink in
    some_lines plan r c.args.kept.all c.loop-t.t (g.K.Sink.told c.args.sink.now) before after
    (subst (λ l. 0 < line_count c.args.kept.all l) c.tick_time-stirred.ensures.records c.in-Err.ensures.some) c.loop-t.invariant.lines
    (subst (λ n. GotPrefix before after (lines_of n c.args.kept.all (records_at_time r c.loop-t.t))) c.requires.opened.names_are
    (subst (λ l. GotPrefix before after (lines_of c.args.opened.names c.args.kept.all l)) c.tick_time-stirred.ensures.records c.in-Err.ensures.prefix))

pub returns-in-Err-clause-fault_steps : goal.returns-in-Err-clause-fault_steps
returns-in-Err-clause-fault_steps g c =
    let r = system_from g.P.Actor.machine g.N.Actor.machine g.C.Charter.plan g.C.Charter.start in
    let z : edges_below r (c.loop-t.t + 1) ≡ edges_below r c.loop-t.t + edges_at r c.loop-t.t = ap (λ x. edges_below r x) (add-one c.loop-t.t) in
    omega (arith, z, c.loop-t.invariant.steps, c.tick_time-stirred.ensures.steps)

pub loop-t-preserved : goal.loop-t-preserved
loop-t-preserved g c =
    let mp = g.P.Actor.machine in
    let mn = g.N.Actor.machine in
    let plan = g.C.Charter.plan in
    let r = system_from mp mn plan g.C.Charter.start in
    let inv = c.loop-t.invariant in
    let t = c.loop-t.t in
    let did = c.tick_time-stirred.ensures in
    let now = c.tick_time-stirred.new in
    let e = c.next_edge-t-in-loop-t.result in
    let f = c.next_edge-t-in-loop-t.ensures in
    let within : e ≤ LATEST_TIME + 1 = omega (arith, f.within, c.requires.opened.until_is, c.requires.opened.until_within) in
    let passed = pass_over r g.P.Actor.valid g.N.Actor.valid now.gear.recs.room now.gear.recs.room (t + 1) e now.gear.parts.periods.items now.gear.links.periods.items (whole_world (state_of now.world)) now.next.parts now.next.links did.gear.fitted f.from within
    (subst (λ l. (i : ℕ) → i < length l → e ≤ edge_from (slice_index_or l i 0) (t + 1)) c.deref-in-loop-t.ensures.value f.parts)
    (subst (λ l. (i : ℕ) → i < length l → e ≤ edge_from (slice_index_or l i 0) (t + 1)) c.deref-in-loop-t-2.ensures.value f.links)
    did.at.boundary in
    let told = g.K.Sink.told c.args.sink.now in
    let before = g.K.Sink.told c.loop-t.sink in
    let after = g.K.Sink.told c.write_records.new.sink in
    let wrote = lines_then r (names_of plan) c.args.kept.all t told before after inv.lines
    (subst (λ n. Got before after (lines_of n c.args.kept.all (records_at_time r t))) c.requires.opened.names_are
    (subst (λ l. Got before after (lines_of c.args.opened.names c.args.kept.all l)) did.records c.in-Ok.ensures.ok)) in
    record {
      gear = did.gear;
      at = record { boundary = passed.reached.boundary; settled = did.at.settled; wires = did.at.wires };
      within = f.within;
      end = end_more r t e c.loop-t.end c.later-end.result c.tick_time-stirred.result c.later-end.ensures did.flag inv.end passed.reached.ending;
      steps = edges_more r t e c.args.steps.now c.loop-t.steps now.steps inv.steps did.steps passed.counted;
      lines = subst (λ l. Got told after (lines_of (names_of plan) c.args.kept.all l)) (sym passed.reached.records) wrote;
      counted =
          counted_then c.args.kept.stats c.loop-t.stats c.count.new.stats (records_below r t) (records_at_time r t) (records_below r (t + 1)) (ap (λ n. records_below r n) (add-one t)) inv.counted (c.count.ensures ∙ ap (counted_with c.loop-t.stats) did.records)
          ∙ ap (counted_with c.args.kept.stats) (sym passed.reached.records);
      falls = (let n = c.write_records.ensures.never_falls in omega (arith, n, inv.falls));
    }

pub returns-clause-world : goal.returns-clause-world
returns-clause-world g c =
    let plan = g.C.Charter.plan in
    let r = system_from g.P.Actor.machine g.N.Actor.machine plan g.C.Charter.start in
    let at = c.loop-t.invariant.at in
    let end : c.loop-t.t ≡ plan.until + 1 = omega (arith, c.loop-t-test.false, c.loop-t.invariant.within, c.requires.opened.until_is) in
    state_is (state_of c.loop-t.world) (world_at r c.loop-t.t) at.boundary.world_is ∙ ap (world_at r) end

pub returns-clause-verdict : goal.returns-clause-verdict
returns-clause-verdict g c =
    let plan = g.C.Charter.plan in
    let r = system_from g.P.Actor.machine g.N.Actor.machine plan g.C.Charter.start in
    let inv = c.loop-t.invariant in
    let end : c.loop-t.t ≡ plan.until + 1 = omega (arith, c.loop-t-test.false, inv.within, c.requires.opened.until_is) in
    let state = state_of c.loop-t.world in
    c.verdict_of-verdict.ensures
    ∙ ap (λ l. verdict_by (exists_to (next_at_place c.loop-t.next.parts) (length c.loop-t.next.parts) || exists_to (next_at_place c.loop-t.next.links) (length c.loop-t.next.links)) (all_done g.P.Actor.machine l)) c.deref-3.ensures.value
    ∙ verdict_is r plan.until state c.loop-t.next.parts c.loop-t.next.links (subst (λ n. IsBoundary r n (whole_world state) c.loop-t.next.parts c.loop-t.next.links) end inv.at.boundary)

pub returns-clause-end : goal.returns-clause-end
returns-clause-end g c =
    let plan = g.C.Charter.plan in
    let r = system_from g.P.Actor.machine g.N.Actor.machine plan g.C.Charter.start in
    let inv = c.loop-t.invariant in
    let end : c.loop-t.t ≡ suc plan.until = omega (arith, c.loop-t-test.false, inv.within, c.requires.opened.until_is) in
    inv.end ∙ ap (end_below r) end

pub returns-clause-stats : goal.returns-clause-stats
returns-clause-stats g c =
    let plan = g.C.Charter.plan in
    let r = system_from g.P.Actor.machine g.N.Actor.machine plan g.C.Charter.start in
    let inv = c.loop-t.invariant in
    let end : c.loop-t.t ≡ plan.until + 1 = omega (arith, c.loop-t-test.false, inv.within, c.requires.opened.until_is) in
    inv.counted ∙ ap (λ d. counted_with c.args.kept.stats (records_below r d)) end
