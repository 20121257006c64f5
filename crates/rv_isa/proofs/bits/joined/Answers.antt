use Rattle.std.proofs.Common.{◌+◌, ◌-◌, ◌≤◌, arith}
use Rattle.std.proofs.lemmas.Nat.{shl_whole, or_shifted}
use Rattle.rv_isa.proofs.bits.joined.Goals as goal

pub returns : goal.returns
returns c =
    let k : (32 - c.args.width) + c.args.width ≤ 32 = omega (arith, c.requires.inside) in
    rw (shl_whole c.args.high (32 - c.args.width) c.args.width 32 c.requires.fits_high k) (or_shifted c.args.high c.args.width c.args.low c.requires.fits_low)
