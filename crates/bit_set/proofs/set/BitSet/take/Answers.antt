use Rattle.std.proofs.Common.{◌≡◌, ℕ, ◌+◌, ◌*◌, ◌/◌, ◌%◌, ◌<◌, List, length, ap, sym, ◌∙◌, arith}
use Rattle.std.specs.Prelude.{Bool}
use Rattle.std.specs.Vec.{with_items}
use Rattle.std.proofs.lemmas.List.{with_items_is}
use Rattle.bit_set.specs.Bits.{in_words, flags_of, is_in}
use Rattle.bit_set.proofs.BitLaws.{length-flags, flag_at, flag_any}
use Rattle.bit_set.proofs.set.BitSet.take.Goals as goal

pub returns-clause-taken : goal.returns-clause-taken
returns-clause-taken c = λ i b.
    let count = c.self.inside.count in
    let words = c.self.inside.words.items in
    let others = c.other.inside.words.items in
    let from = c.args.from in
    let lt : i < count = omega (arith, b, length-flags words count, ap length c.self.view_is) in
    let within : i < length c.deref_mut.result.now * 64 = omega (arith, lt, c.self.invariant.0, ap length c.deref_mut.ensures.value) in
    let place : from / 64 * 64 + from % 64 + i ≡ from + i = omega arith in
    let more : in_words c.deref.result.now (from / 64 * 64 + from % 64 + i) ≡ is_in c.args.other.now (from + i) =
    ap (λ (w : List ℕ). in_words w (from / 64 * 64 + from % 64 + i)) c.deref.ensures.value
    ∙ ap (in_words others) place
    ∙ sym (flag_any others c.other.inside.count (from + i) c.other.invariant.2)
    ∙ ap (λ (l : List Bool). is_in l (from + i)) c.other.view_is in
    ap (λ (w : List ℕ). is_in (flags_of w count) i) (with_items_is (with_items c.self.inside.words c.copy_words.new.words) c.cut.new.words (c.cut.ensures.long ∙ c.deref_mut-2.ensures.len))
    ∙ flag_at c.cut.new.words count i lt
    ∙ c.cut.ensures.kept i lt
    ∙ ap (λ (w : List ℕ). in_words w i) (c.deref_mut-2.ensures.value ∙ with_items_is c.self.inside.words c.copy_words.new.words (c.copy_words.ensures.long ∙ c.deref_mut.ensures.len))
    ∙ c.copy_words.ensures.copied i within
    ∙ more
