use Rattle.std.proofs.Common.{length, ◌∙◌, arith}
use Rattle.due_pass.proofs.PassGlue.{marked_due}
use Rattle.due_pass.proofs.link_pass.pass_due_links.Goals as goal

pub pass_marked_links-requires-clause-marked : goal.pass_marked_links-requires-clause-marked
pass_marked_links-requires-clause-marked g c = λ i b. marked_due c.args.gear.now.next c.args.gear.now.links.first (length c.args.world.now.links.items) c.args.t c.mark_due.new.due (c.mark_due.ensures.long ∙ c.requires.due) (λ k l e. c.mark_due.ensures.marked k (omega (arith, l, c.mark_due.ensures.long)) e) (λ k e. c.mark_due.ensures.only k e) i b
