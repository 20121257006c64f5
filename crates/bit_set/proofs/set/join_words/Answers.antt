use Rattle.std.proofs.Common.{◌≡◌, ℕ, ◌+◌, ◌-◌, ◌*◌, get_or, ap, ◌∙◌, arith}
use Rattle.std.specs.Prelude.{Bool, ◌==◌, ◌||◌, slice_index}
use Rattle.std.specs.Int.{bit_at}
use Rattle.bit_set.specs.Bits.{in_words}
use Rattle.bit_set.proofs.JoinLaws.{join_on, across_in}
use Rattle.bit_set.proofs.set.join_words.Goals as goal

pub loop-n-preserved : goal.loop-n-preserved
loop-n-preserved c =
    let others = c.args.others.now in
    let start = c.args.start in
    let shift = c.args.shift in
    let n = c.loop-n.n in
    let In : ℕ → Bool = λ k. in_words others (start * 64 + shift + k) in
    let next : start + n + 1 ≡ start + (n + 1) = omega arith in (
      join_on _ c.loop-n.words In n _ c.loop-n.invariant.0 (omega (arith, c.loop-n-test.true, c.loop-n.invariant.0.long))
          (λ i small.
          let number : (start + n) * 64 + shift + i ≡ start * 64 + shift + (n * 64 + i) = omega arith in
          c.either.ensures i ∙ ap (λ b. (bit_at (get_or c.loop-n.words n 0) i == 1) || b) (across_in others (start + n) shift c.across.result i c.requires.shift small
          (λ lt. c.across.ensures.low i lt ∙ ap (λ x. bit_at x (shift + i)) c.loop-n.invariant.1)
          (λ le. c.across.ensures.high i small le ∙ ap (λ x. bit_at x (shift + i - 64)) c.word_at-high.ensures)
          ∙ ap (in_words others) number)),
      c.word_at-high.ensures ∙ ap (slice_index others) next,
    )
