use Rattle.rv_isa.proofs.encoding.tests.read_again.Goals as goal

pub returns : goal.returns
returns c = c.decode.ensures.only c.args.inst c.encode.ensures.spelled
