use Rattle.std.proofs.Common.{length, ap, ◌∙◌, arith}
use Rattle.std.proofs.lemmas.List.{length-set, length-replicate}
use Rattle.event_queue.specs.NextTimes.{time_of}
use Rattle.phase_engine.proofs.TimesLaws.{none_set, first_more, first_left, first_all}
use Rattle.phase_engine.proofs.first_times.first_times.Goals as goal

pub loop-who-init : goal.loop-who-init
loop-who-init g c = record {
  all = ap length c.in_ok-next.ensures ∙ length-replicate c.args.actors _;
  set = λ i b. absurd (omega arith);
  unset = λ i b. ap (λ ts. time_of ts i) c.in_ok-next.ensures ∙ none_set c.args.actors i;
}

pub set_earlier-requires : goal.set_earlier-requires
set_earlier-requires g c = omega (arith, c.loop-who-test.true, c.loop-who.invariant.all)

pub loop-who-preserved : goal.loop-who-preserved
loop-who-preserved g c =
    let inv = c.loop-who.invariant in
    record {
      all = ap length c.set_earlier.ensures.set ∙ length-set c.loop-who.next c.loop-who.who _ ∙ inv.all;
      set = first_more c.loop-who.next c.set_earlier.new.self c.args.actors c.loop-who.who inv.all c.loop-who-test.true inv.set inv.unset c.set_earlier.ensures.set;
      unset = first_left c.loop-who.next c.set_earlier.new.self c.loop-who.who _ inv.unset c.set_earlier.ensures.set;
    }

pub returns : goal.returns
returns g c = first_all c.loop-who.next c.args.actors c.loop-who.who c.loop-who.invariant.all (omega (arith, c.loop-who-test.false)) c.loop-who.invariant.set
