use Rattle.std.proofs.Common.{◌≡◌, ℕ, ◌+◌, ◌==◌, ◌++◌, List, length, codes, refl, sym, ap, subst, ◌∙◌, append_assoc, length-append, take}
use Rattle.std.specs.List.{position_or_len}
use Rattle.rtm_http.specs.Route.{IsNameRead}
use Rattle.rtm_http.proofs.TextLemmas.{segment_place, segment_take}
use Rattle.rtm_http.proofs.endpoint.read_field.Goals as goal

pub returns : goal.returns
returns c = λ name word segment text.
    let rest : List ℕ = codes "/field/" ++ word in
    let names : c.behind-names.result.now ≡ name ++ rest = c.behind-names.ensures (codes "/part/") (name ++ rest) refl text in
    let count : c.segment_length-length.result ≡ length name = c.segment_length-length.ensures.place ∙ ap (position_or_len (λ (b : ℕ). b == 47)) names ∙ segment_place name _ segment.no_slash in
    let part = ap (take c.segment_length-length.result) names ∙ segment_take name rest c.segment_length-length.result count in
    let front : List ℕ = name ++ codes "/field/" in
    let place : length front ≡ c.segment_length-length.result + 7 = length-append name (codes "/field/") ∙ ap (λ n. n + 7) (sym count) in
    let field = c.behind.ensures front word place (names ∙ sym (append_assoc name (codes "/field/") word)) in (
      c.read_name-part.result,
      c.read_name-field.result,
      subst (λ (t : List ℕ). IsNameRead t c.read_name-part.result) part c.read_name-part.ensures,
      subst (λ (t : List ℕ). IsNameRead t c.read_name-field.result) field c.read_name-field.ensures,
      refl,
    )
