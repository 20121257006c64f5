use Rattle.std.proofs.Common.{◌-◌, ◌++◌, length, ◌∙◌, ap}
use Rattle.std.specs.Prelude.{replicate}
use Rattle.std.proofs.lemmas.List.{drop-replicate}
use Rattle.sim_base.proofs.name.padded.Goals as goal

-- the bytes behind the text are the zeros that stood there
pub returns : goal.returns
returns c =
    ap (λ l. c.copy_from_slice.new.self ++ l) (drop-replicate (length c.args.text.now) 32 0)
    ∙ ap (λ l. l ++ replicate (32 - length c.args.text.now) 0) c.copy_from_slice.ensures.after
