use Rattle.std.proofs.Common.{rules, ◌+◌, ◌-◌, ◌≤◌, length, arith}
use Rattle.tick_law.specs.PlanView.{system_from}
use Rattle.hub_floor.specs.Floor.{hub_state}
use Rattle.run_hub.specs.declared.batch.TheConstants.{BATCH_ROOM}
use Rattle.run_hub.specs.Swaps.{waiting}
use Rattle.run_hub.proofs.SwapLaws.{got_goes, goes_waiting, pass_goes, put_long, no_wait}
use Rattle.run_hub.proofs.swap.+claim_more.Goals as goal

pub claim_more-requires : goal.claim_more-requires
claim_more-requires g t c κs within =
    let r = system_from g.P.Actor.machine g.N.Actor.machine g.C.Charter.plan g.C.Charter.start in
    let parts = length g.C.Charter.start.world.parts in
    let old = hub_state c.args.floor.now in
    let new = c.claim_opened.new.floor in
    let goes = got_goes parts old (hub_state new) c.claim_opened.result c.in-Got.task c.claim_opened.ensures.claims c.in-Got.is in
    let pass = pass_goes r g.P.Actor.valid g.N.Actor.valid g.C.Charter.plan.until parts old new c.in-Got.task goes c.claim_opened.ensures.stands in
    let waits = goes_waiting parts old (hub_state new) c.in-Got.task goes in
    let long = put_long c.args.batch.now c.put.new.self c.in-Got.task c.put.ensures in
    let some = c.if-more-eq0.false in
    let all = c.requires.enough in
    let fits = c.requires.room in
    let enough : c.args.more - 1 ≤ waiting (hub_state new) = omega (arith, waits, all) in
    let room : length c.put.new.self.tasks + length c.put.new.self.dones + (c.args.more - 1) ≤ BATCH_ROOM = omega (arith, long, some, fits) in
    search rules

pub unreachable-requires : goal.unreachable-requires
unreachable-requires g t c =
    let some = c.if-more-eq0.false in
    let all = c.requires.enough in
    no_wait (length g.C.Charter.start.world.parts) (hub_state c.args.floor.now) (hub_state c.claim_opened.new.floor) c.claim_opened.result c.in-Wait._why c.claim_opened.ensures.claims c.in-Wait.is (omega (arith, some, all))
