use Rattle.std.proofs.Common.{inl, length, ◌∙◌, arith}
use Rattle.hub_floor.proofs.Closes.{forgot_none, forgot_over, forgot_one}
use Rattle.hub_floor.proofs.close.forget.Goals as goal

pub loop-no-init : goal.loop-no-init
loop-no-init g c = record { within = omega arith; forgot = forgot_none c.args.back.now c.args.seats.now.items }

pub forget_one-requires-clause-here : goal.forget_one-requires-clause-here
forget_one-requires-clause-here g c =
    let least = c.in-Some.ensures.least in
    let was = c.requires.here c.in-Some.no least.here in
    (was.0, c.loop-no.invariant.forgot.others c.in-Some.no (inl (let l = least.not_below in omega (arith, l))) ∙ was.1)

pub forget_one-requires-clause-within : goal.forget_one-requires-clause-within
forget_one-requires-clause-within g c =
    let b = c.in-Some.ensures.least.within in
    let l = c.requires.long in
    let n = c.loop-no.invariant.forgot.long in
    omega (arith, b, l, n)

pub loop-no-preserved : goal.loop-no-preserved
loop-no-preserved g c =
    let least = c.in-Some.ensures.least in
    let who = c.in-Some.no in
    let was = c.requires.here who least.here in
    let inv = c.loop-no.invariant in
    record {
      within = (let b = least.within in omega (arith, b));
      forgot = forgot_one c.args.back.now who c.args.seats.now.items c.loop-no.seats.items c.forget_one.new.seats.items least.here c.forget_one.ensures was.0 was.1
          (forgot_over c.args.back.now c.loop-no.at who c.args.seats.now.items c.loop-no.seats.items least.not_below least.least inv.forgot);
    }

pub loop-no-smaller : goal.loop-no-smaller
loop-no-smaller g c =
    let a = c.in-Some.ensures.least.not_below in
    let b = c.in-Some.ensures.least.within in
    omega (arith, a, b)

pub returns : goal.returns
returns g c =
    let inv = c.loop-no.invariant in
    forgot_over c.args.back.now c.loop-no.at (length c.args.back.now) c.args.seats.now.items c.loop-no.seats.items inv.within c.in_default.ensures.none inv.forgot
