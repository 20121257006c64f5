use Rattle.std.proofs.Common.{◌≡◌, ◌+◌, ◌/◌, ◌^◌, ◌≤◌, arith}
use Rattle.std.proofs.lemmas.Nat.Bits.{ones_shl}
use Rattle.rv_isa.proofs.BitsLemmas.{or_high_ones, sign_bit}
use Rattle.rv_isa.proofs.bits.sign_extended.Goals as goal

pub returns-else-bits-sign-eq0 : goal.returns-else-bits-sign-eq0
returns-else-bits-sign-eq0 c =
    let k : c.args.sign + 1 ≤ 32 = omega (arith, c.requires.inside) in
    let one : c.args.bits / 2 ^ c.args.sign ≡ 1 = omega (arith, sign_bit c.args.sign c.args.bits c.requires.fits) in
    rw (ones_shl 32 (c.args.sign + 1) k, or_high_ones (c.args.sign + 1) c.args.bits k c.requires.fits, one) (omega arith)
