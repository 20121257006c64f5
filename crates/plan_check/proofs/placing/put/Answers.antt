use Rattle.plan_check.proofs.Writing.{none_put, put_written}
use Rattle.plan_check.proofs.placing.put.Goals as goal

pub returns-in-Some : goal.returns-in-Some
returns-in-Some c = put_written c.args.base c.args.addr c.in-Some.byte c.args.byte c.args.bytes.now c.requires.from c.requires.below c.in-Some.is

pub returns-in_default : goal.returns-in_default
returns-in_default c = none_put c.args.base c.args.addr c.args.byte c.args.bytes.now c.in_default.is
