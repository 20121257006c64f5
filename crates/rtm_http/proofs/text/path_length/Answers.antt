use Rattle.std.proofs.Common.{ℕ, ◌==◌, ltb, length, rules, tests, ap, ◌∙◌, refl}
use Rattle.std.specs.Prelude.{unwrap_or}
use Rattle.std.specs.List.{position_or_len}
use Rattle.std.proofs.lemmas.Iterator.{YieldsList-from_slice}
use Rattle.std.proofs.lemmas.Iterator.Search.{position_from_yields_List}
use Rattle.std.proofs.lemmas.List.Sums.{prefix_len-le-length}
use Rattle.rtm_http.proofs.TextLemmas.{place_or}
use Rattle.rtm_http.proofs.text.path_length.Goals as goal

pub returns : goal.returns
returns c =
    let target = c.args.target.now in
    let place : ℕ = position_or_len (λ (b : ℕ). b == 63) target in
    let found = position_from_yields_List (λ (b : ℕ). b == 63) _ _ c.position.result c.position.ensures.ran (YieldsList-from_slice target cc) (λ x b q k. search (rules, tests)) in
    c.unwrap_or.ensures ∙ ap (λ r. unwrap_or r (length target)) found ∙ place_or (ltb place (length target)) place (length target) refl (prefix_len-le-length _ target)
