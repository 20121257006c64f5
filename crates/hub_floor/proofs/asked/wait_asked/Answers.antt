use Rattle.std.proofs.Common.{sym, ◌∙◌, arith}
use Rattle.hub_floor.proofs.AskedInTurn.{waited_none, waited_to, waited_one, waited_end}
use Rattle.hub_floor.proofs.asked.wait_asked.Goals as goal

pub loop-no-init : goal.loop-no-init
loop-no-init g c = waited_none c.args.t c.args.parts c.args.asked.now c.args.waiting.now c.requires.asked c.requires.waiting

pub clear-requires : goal.clear-requires
clear-requires g c =
    let l = c.in-Some.ensures.least.below_end in
    let a = c.loop-no.invariant.all in
    omega (arith, l, a)

pub wait_one-alone-requires : goal.wait_one-alone-requires
wait_one-alone-requires g c =
    let l = c.in-Some.ensures.least.below_end in
    let a = c.loop-no.invariant.wait_all in
    omega (arith, l, a)

pub loop-no-preserved : goal.loop-no-preserved
loop-no-preserved g c =
    let inv = c.loop-no.invariant in
    let least = c.in-Some.ensures.least in
    let who = c.in-Some.no.0 in
    let b = least.below_end in
    waited_one c.args.t c.args.parts c.args.asked.now c.args.waiting.now who c.loop-no.asked c.clear.new.self c.loop-no.waiting c.wait_one-alone.new.waiting c.loop-no.alone c.wait_one-alone.result b least.due c.clear.ensures.cleared c.wait_one-alone.ensures.waiting c.wait_one-alone.ensures.count
    (waited_to c.args.t c.args.parts c.args.asked.now c.args.waiting.now c.loop-no.at who c.loop-no.asked c.loop-no.waiting c.loop-no.alone least.not_below_from (omega (arith, b)) least.least inv)

pub loop-no-smaller : goal.loop-no-smaller
loop-no-smaller g c =
    let least = c.in-Some.ensures.least in
    let a = least.not_below_from in
    let b = least.below_end in
    omega (arith, a, b)

pub returns-clause-asked : goal.returns-clause-asked
returns-clause-asked g c =
    (waited_end c.args.t c.args.parts c.args.asked.now c.args.waiting.now c.loop-no.at c.loop-no.asked c.loop-no.waiting c.loop-no.alone c.requires.waiting c.in_default.ensures.none c.loop-no.invariant).asked_are

pub returns-clause-all : goal.returns-clause-all
returns-clause-all g c = c.loop-no.invariant.all ∙ sym c.requires.asked

pub returns-clause-waiting : goal.returns-clause-waiting
returns-clause-waiting g c =
    (waited_end c.args.t c.args.parts c.args.asked.now c.args.waiting.now c.loop-no.at c.loop-no.asked c.loop-no.waiting c.loop-no.alone c.requires.waiting c.in_default.ensures.none c.loop-no.invariant).waiting_are

pub returns-clause-count : goal.returns-clause-count
returns-clause-count g c =
    (waited_end c.args.t c.args.parts c.args.asked.now c.args.waiting.now c.loop-no.at c.loop-no.asked c.loop-no.waiting c.loop-no.alone c.requires.waiting c.in_default.ensures.none c.loop-no.invariant).counted
