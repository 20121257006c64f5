use Rattle.std.proofs.lemmas.Str.{IsUtf8-from_is_utf8, is_utf8-from_IsUtf8}
use Rattle.std.proofs.lemmas.Bool.{false_from_ne_true}
use Rattle.sim_config.proofs.reader.text_of.Goals as goal

pub returns-in-Ok : goal.returns-in-Ok
returns-in-Ok c =
    let cases = c.in-Ok.ensures.cases in
    record { some = (is_utf8-from_IsUtf8 c.args.bytes.now cases.1, cases.0); none = tt }

pub returns-in-Err : goal.returns-in-Err
returns-in-Err c =
    let no_text = c.in-Err.ensures.cases.0 in
    record { some = tt; none = false_from_ne_true _ (λ t. no_text (IsUtf8-from_is_utf8 c.args.bytes.now t)) }
