-- The word of one register more.
use Rattle.std.proofs.Common.{◌≡◌, ℕ, ◌+◌, List, [], ◌++◌, suc, refl, sym, ◌∙◌, ap, append_assoc, append-nil, add-one}
use Rattle.std.specs.Prelude.{codes}
use Rattle.std.specs.Int.{to_be_bytes, w32}
use Rattle.hex.specs.Hex.{encode_lower}
use Rattle.rv_isa.specs.Regs.{register}
use Rattle.state_view.specs.RegsLine.{register_words}

pub no_words : (regs start : List ℕ) → start ≡ start ++ register_words regs 0
unfolding register_words
no_words regs start = sym (append-nil start)

words_step : (regs : List ℕ) (n : ℕ) → register_words regs n ++ codes " " ++ encode_lower (to_be_bytes w32 (register regs n)) ≡ register_words regs (suc n)
unfolding register_words
words_step regs n = refl

pub one_word_more : (regs : List ℕ) (n : ℕ) (start before blank after : List ℕ) → before ≡ start ++ register_words regs n → blank ≡ before ++ codes " " → after ≡ blank ++ encode_lower (to_be_bytes w32 (register regs n)) → after ≡ start ++ register_words regs (n + 1)
one_word_more regs n start before blank after b s w =
    let word = encode_lower (to_be_bytes w32 (register regs n)) in
    w ∙ ap (λ l. l ++ word) s ∙ ap (λ l. (l ++ codes " ") ++ word) b
    ∙ ap (λ l. l ++ word) (append_assoc start (register_words regs n) (codes " ")) ∙ append_assoc start (register_words regs n ++ codes " ") word
    ∙ ap (λ l. start ++ l) (words_step regs n) ∙ ap (λ k. start ++ register_words regs k) (sym (add-one n))
