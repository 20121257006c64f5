use Rattle.std.proofs.Common.{ℕ, ◌==◌, ltb, length, rules, tests, ap, ◌∙◌, refl}
use Rattle.std.specs.Prelude.{unwrap_or}
use Rattle.std.specs.List.{position_or_len}
use Rattle.std.proofs.lemmas.Iterator.{YieldsList-from_slice}
use Rattle.std.proofs.lemmas.Iterator.Search.{position_from_yields_List}
use Rattle.std.proofs.lemmas.List.Sums.{prefix_len-le-length}
use Rattle.rtm_http.proofs.TextLemmas.{place_or}
use Rattle.rtm_http.proofs.text.segment_length.Goals as goal

pub returns-clause-place : goal.returns-clause-place
returns-clause-place c =
    let text = c.args.text.now in
    let place : ℕ = position_or_len (λ (b : ℕ). b == 47) text in
    let found = position_from_yields_List (λ (b : ℕ). b == 47) _ _ c.position.result c.position.ensures.ran (YieldsList-from_slice text cc) (λ x b q k. search (rules, tests)) in
    c.unwrap_or.ensures ∙ ap (λ r. unwrap_or r (length text)) found ∙ place_or (ltb place (length text)) place (length text) refl (prefix_len-le-length _ text)
