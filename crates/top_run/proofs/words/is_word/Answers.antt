use Rattle.std.proofs.Common.{rules, ◌≡◌, Some, None, sym, ap, ◌∙◌, option_map, string_bytes}
use Rattle.std.proofs.lemmas.Option.{slice_get-map}
use Rattle.std.specs.Prelude.{slice_get}
use Rattle.top_run.specs.Words.{spelled}
use Rattle.top_run.proofs.WordRefusals.{got_some, got_none}
use Rattle.top_run.proofs.words.is_word.Goals as goal

pub returns-in-Some : goal.returns-in-Some
returns-in-Some c =
    let found = c.in-Some.ensures.lookup.3 in
    let got : slice_get c.args.words.now c.args.place ≡ Some c.in-Some.word.now = got_some c.args.words.now c.args.place c.in-Some.word.now found.0 (found.1 c.in-Some.word.now) in
    let bytes : string_bytes c.in-Some.word.now ≡ c.as_bytes.result.now = sym c.as_bytes.ensures.value in
    let there : slice_get (spelled c.args.words.now) c.args.place ≡ Some c.as_bytes.result.now = slice_get-map string_bytes c.args.words.now c.args.place ∙ ap (option_map string_bytes) got ∙ ap (λ b. Some b) bytes in (
      λ h. let same : c.as_bytes.result.now ≡ c.args.text.now = search rules in there ∙ ap (λ b. Some b) same,
      λ h. let same : Some c.as_bytes.result.now ≡ Some c.args.text.now = sym there ∙ h in search rules,
    )

pub returns-in-None : goal.returns-in-None
returns-in-None c =
    let got : slice_get c.args.words.now c.args.place ≡ None = got_none c.args.words.now c.args.place c.in-None.ensures.lookup.3 in
    let there : slice_get (spelled c.args.words.now) c.args.place ≡ None = slice_get-map string_bytes c.args.words.now c.args.place ∙ ap (option_map string_bytes) got in (
      λ h. search rules,
      λ h. let none = sym there ∙ h in search rules,
    )
