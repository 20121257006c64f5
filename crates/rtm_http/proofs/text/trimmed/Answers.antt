use Rattle.std.proofs.Common.{reverse, ap, ◌∙◌, sym}
use Rattle.std.proofs.lemmas.List.{reverse-reverse}
use Rattle.httparse.specs.Grammar.{skip_ows, trim_ows}
use Rattle.rtm_http.proofs.text.trimmed.Goals as goal

pub returns : goal.returns
unfolding trim_ows
returns c =
    sym (reverse-reverse c.without_back.result.now)
    ∙ ap reverse (c.without_back.ensures ∙ ap (λ front. skip_ows (reverse front)) c.without_front.ensures)
