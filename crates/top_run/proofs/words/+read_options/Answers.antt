use Rattle.std.proofs.Common.{rules, ◌≡◌, ◌<◌, ◌+◌, refl, Some, None, codes, drop, length, IsTrue, subst, arith}
use Rattle.std.specs.Prelude.{slice_get, false, IfOk, IfErr}
use Rattle.top_run.specs.declared.command.Detail.{Detail}
use Rattle.top_run.specs.Words.{spelled, detail_word, has_detail, HasOptions, IsRefusedFrom, IsUsage, AreSettings}
use Rattle.top_run.proofs.WordRefusals.{usage_map, ok_map, err_map, length-spelled}
use Rattle.top_run.proofs.CommandRefusals.{no_option, until_from, time_from, settings_from, detail_from, detail_settings_from}
use Rattle.top_run.proofs.words.+read_options.Goals as goal

pub returns-in_err-until-clause-refused : goal.returns-in_err-until-clause-refused
returns-in_err-until-clause-refused t c =
    let words = spelled c.args.words.now in
    let yes : IsTrue c.is_free_until.result = search rules in
    let free = c.is_free_until.ensures.0 yes in
    let told : IsUsage (IsRefusedFrom (HasOptions c.args.options) words c.args.place) c.in_err-until.field-0.0 = usage_map _ (IsRefusedFrom (HasOptions c.args.options) words c.args.place) _ (λ k none. until_from words c.args.options c.args.place k free.0 free.1 none.0 none.1) c.in_err-until.ensures.none in
    search rules

pub returns-then-is_free_until-clause-accepted : goal.returns-then-is_free_until-clause-accepted
returns-then-is_free_until-clause-accepted t c =
    let words = spelled c.args.words.now in
    let yes : IsTrue c.is_free_until.result = search rules in
    let free = c.is_free_until.ensures.0 yes in
    let settings = subst (λ o. IfOk c.read_options.result (λ after. AreSettings o after (drop (c.args.place + 2) words))) c.with_time.ensures c.read_options.ensures.accepted in
    ok_map _ _ c.read_options.result (λ after is. settings_from words c.args.options after c.args.place c.in_ok-until.until free.0 free.1 c.in_ok-until.ensures.some is) settings

pub returns-then-is_free_until-clause-refused : goal.returns-then-is_free_until-clause-refused
returns-then-is_free_until-clause-refused t c =
    let words = spelled c.args.words.now in
    let yes : IsTrue c.is_free_until.result = search rules in
    let free = c.is_free_until.ensures.0 yes in
    let behind = subst (λ o. IfErr c.read_options.result (IsUsage (IsRefusedFrom (HasOptions o) words (c.args.place + 2)))) c.with_time.ensures c.read_options.ensures.refused in
    err_map _ _ c.read_options.result (λ refusal is. usage_map _ (IsRefusedFrom (HasOptions c.args.options) words c.args.place) refusal (λ k r. time_from words c.args.options c.args.place c.in_ok-until.until k free.0 free.1 c.in_ok-until.ensures.some r) is) behind

pub returns-in-Some-clause-accepted : goal.returns-in-Some-clause-accepted
returns-in-Some-clause-accepted t c =
    let words = spelled c.args.words.now in
    let free = c.in-Some.ensures.some in
    let settings = subst (λ o. IfOk c.read_options-in-Some.result (λ after. AreSettings o after (drop (c.args.place + 1) words))) c.with.ensures c.read_options-in-Some.ensures.accepted in
    ok_map _ _ c.read_options-in-Some.result (λ after is. detail_settings_from words c.args.options after c.args.place c.in-Some.detail free.1 free.0 is) settings

pub returns-in-Some-clause-refused : goal.returns-in-Some-clause-refused
returns-in-Some-clause-refused t c =
    let words = spelled c.args.words.now in
    let free = c.in-Some.ensures.some in
    let behind = subst (λ o. IfErr c.read_options-in-Some.result (IsUsage (IsRefusedFrom (HasOptions o) words (c.args.place + 1)))) c.with.ensures c.read_options-in-Some.ensures.refused in
    err_map _ _ c.read_options-in-Some.result (λ refusal is. usage_map _ (IsRefusedFrom (HasOptions c.args.options) words c.args.place) refusal (λ k r. detail_from words c.args.options c.args.place k c.in-Some.detail free.1 free.0 r) is) behind

pub returns-clause-refused : goal.returns-clause-refused
returns-clause-refused t c =
    let words = spelled c.args.words.now in
    let count = length-spelled c.args.words.now in
    let there : c.args.place < length words = omega (arith, count, c.if-words-place.false) in
    let other : slice_get words c.args.place ≡ Some (codes "--until") → c.args.options.until ≡ None → ⊥ = λ at free. let yes = c.is_free_until.ensures.1 (at, free) in search rules in
    let shows : (d : Detail) → slice_get words c.args.place ≡ Some (detail_word d) → has_detail c.args.options d ≡ false → ⊥ = λ d at free. c.free_detail.ensures.none (search rules) d at free in
    no_option words c.args.options c.args.place (c.args.place + 1) refl there other shows
