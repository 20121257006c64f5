use Rattle.std.proofs.Common.{◌≡◌, ◌-◌, ◌<◌, length, get_or, ap, arith, refl, suc}
use Rattle.model_laws.proofs.OneMoreActor.{length-scatter}
use Rattle.std.proofs.Common.{drop}
use Rattle.port_rows.specs.Rows.{RowsView}
use Rattle.port_rows.proofs.RowsLaws.{lent_one}
use Rattle.port_rows.proofs.rows.PortRows.lend.Goals as goal

pub exchange-requires-clause-here : goal.exchange-requires-clause-here
exchange-requires-clause-here c =
    let n = c.loop-left.left - 1 in
    let own = c.args.own.now in
    let b : n < length own = omega (arith, c.loop-left.invariant.within, c.loop-left-test.true) in
    omega (arith, c.requires.within (get_or own n 0) (n, b, refl), ap (λ (v : RowsView). length v.ports) c.loop-left.invariant.here, length-scatter c.args.self.now.ports (drop c.loop-left.left own) (drop c.loop-left.left c.args.hand.now.ports))

pub loop-left-preserved : goal.loop-left-preserved
loop-left-preserved c =
    let n = c.loop-left.left - 1 in
    let inv = c.loop-left.invariant in
    let some : c.loop-left.left ≡ suc n = omega (arith, c.loop-left-test.true) in
    let r = lent_one c.args.self.now c.loop-left.self c.exchange.new.self c.args.hand.now c.loop-left.hand c.exchange.new.hand c.args.own.now c.loop-left.left n some inv.within c.requires.same c.requires.apart inv.here inv.there c.exchange.ensures.here c.exchange.ensures.there in
    record {
      within = omega (arith, inv.within);
      here = r.0;
      there = r.1;
    }
