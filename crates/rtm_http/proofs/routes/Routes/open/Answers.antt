use Rattle.std.proofs.Common.{ap, ◌∙◌}
use Rattle.matchit.specs.Order.{placed}
use Rattle.matchit.proofs.OnLiterals.{matchit_on_literals}
use Rattle.rtm_http.proofs.routes.Routes.open.Goals as goal

-- each route goes into its place among those before it
pub invariant_of-result : goal.invariant_of-result
unfolding matchit_on_literals
invariant_of-result c =
    let now = c.in_ok-add.ensures.1 ∙ ap (placed _) c.new-router.ensures in
    let parts = c.in_ok-add-2.ensures.1 ∙ ap (placed _) now in
    let part = c.in_ok-add-3.ensures.1 ∙ ap (placed _) parts in
    let field = c.in_ok-add-4.ensures.1 ∙ ap (placed _) part in
    let buffers = c.in_ok-add-5.ensures.1 ∙ ap (placed _) field in
    let progress = c.in_ok-add-6.ensures.1 ∙ ap (placed _) buffers in
    let stuck = c.in_ok-add-7.ensures.1 ∙ ap (placed _) progress in
    let wait = c.in_ok-add-8.ensures.1 ∙ ap (placed _) stuck in
    let pause = c.in_ok-add-9.ensures.1 ∙ ap (placed _) wait in
    let continued = c.in_ok-add-10.ensures.1 ∙ ap (placed _) pause in
    let tick = c.in_ok-add-11.ensures.1 ∙ ap (placed _) continued in
    let leave = c.in_ok-add-12.ensures.1 ∙ ap (placed _) tick in
    record { rows = leave }
