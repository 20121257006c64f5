-- The pair at the place, and then what stands below it on the left and on the right.
use Rattle.std.proofs.Common.{◌≡◌, ◌-◌, length, ap, sym, ◌∙◌, arith}
use Rattle.std.proofs.lemmas.Bool.{eq-eqb}
use Rattle.sim_base.specs.declared.numbers.ActorNo.{ActorNo}
use Rattle.sim_base.specs.declared.time.Time.{Time}
use Rattle.event_queue.specs.Due.{one_by}
use Rattle.event_queue.specs.Mark.{one_left, marked}
use Rattle.event_queue.proofs.DueLemmas.{tree_past, tree_zero, tree_cost, one_by-here}
use Rattle.event_queue.proofs.MarkLemmas.{one_left-past, one_left-none, one_left-mono, left_kept, left_late}
use Rattle.event_queue.proofs.mark.+mark_due.Goals as goal

pub returns-then-asked-time-clause-all : goal.returns-then-asked-time-clause-all
returns-then-asked-time-clause-all g t c =
    let time_is = ap (λ (u : Time). u.0) c.time-time.ensures.value in
    λ levels lt. left_late c.args.row.now.pairs c.args.asked.now.t c.args.asked.now.from c.args.asked.now.below c.args.due.now c.requires.heap c.requires.actors levels c.args.place (λ _. omega (arith, time_is, c.if-asked-time.true))

pub returns-then-place-len-clause-all : goal.returns-then-place-len-clause-all
returns-then-place-len-clause-all g t c =
    let pairs = c.args.row.now.pairs in
    let place = c.args.place in
    let due = c.mark_where.new.due in
    let time_is = ap (λ (u : Time). u.0) c.time-time.ensures.value in
    let who_is = ap (λ (w : ActorNo). w.0) c.who.ensures in
    let none_here = one_left-none pairs c.args.asked.now.t c.args.asked.now.from c.args.asked.now.below due place (λ same lo hi. sym (ap (marked due c.args.asked.now.from) who_is) ∙ c.mark_where.ensures.here (eq-eqb _ _ (time_is ∙ same)) (omega (arith, who_is, lo)) (omega (arith, who_is, hi))) in
    let past = one_left-past pairs c.args.asked.now.t c.args.asked.now.from c.args.asked.now.below due in
    tree_zero _ (length pairs) place c.requires.within none_here
    (λ k _. tree_past _ (length pairs) past k _ (omega (arith, c.if-place-len.true, c.len-len.ensures.value)))
    (λ k _. tree_past _ (length pairs) past k _ (omega (arith, c.if-place-len.true, c.len-len.ensures.value)))

pub returns-then-left-len-clause-all : goal.returns-then-left-len-clause-all
returns-then-left-len-clause-all g t c =
    let pairs = c.args.row.now.pairs in
    let place = c.args.place in
    let due = c.mark_where.new.due in
    let more = c.mark_due.new.due in
    let time_is = ap (λ (u : Time). u.0) c.time-time.ensures.value in
    let who_is = ap (λ (w : ActorNo). w.0) c.who.ensures in
    let none_here = one_left-none pairs c.args.asked.now.t c.args.asked.now.from c.args.asked.now.below due place (λ same lo hi. sym (ap (marked due c.args.asked.now.from) who_is) ∙ c.mark_where.ensures.here (eq-eqb _ _ (time_is ∙ same)) (omega (arith, who_is, lo)) (omega (arith, who_is, hi))) in
    let none_now : one_left pairs c.args.asked.now.t c.args.asked.now.from c.args.asked.now.below more place ≡ 0 = omega (arith, none_here, one_left-mono pairs c.args.asked.now.t c.args.asked.now.from c.args.asked.now.below due more c.mark_due.ensures.kept place) in
    tree_zero _ (length pairs) place c.requires.within none_now
    c.mark_due.ensures.all
    (λ k _. tree_past _ (length pairs) (one_left-past pairs c.args.asked.now.t c.args.asked.now.from c.args.asked.now.below more) k _ (omega (arith, c.if-left-len.true, c.len-len.ensures.value)))

pub returns-then-left-len-clause-cost : goal.returns-then-left-len-clause-cost
returns-then-left-len-clause-cost g t c =
    let pairs = c.args.row.now.pairs in
    let place = c.args.place in
    let time_is = ap (λ (u : Time). u.0) c.time-time.ensures.value in
    let one = one_by-here pairs c.args.asked.now.t place c.requires.within (omega (arith, time_is, c.if-asked-time.false)) in
    let l = c.mark_due.new.looks - c.time-time.new.looks in
    λ levels lt.
    omega (
      arith,
      c.time-time.ensures.cost,
      tree_cost (one_by pairs c.args.asked.now.t) (length pairs) place l 0 c.requires.within (omega (arith, one))
          (λ k wide. omega (arith, c.mark_due.ensures.cost k wide))
          (λ k _. omega arith)
          levels lt,
    )

pub returns-clause-all : goal.returns-clause-all
returns-clause-all g t c =
    let pairs = c.args.row.now.pairs in
    let place = c.args.place in
    let due = c.mark_where.new.due in
    let more = c.mark_due.new.due in
    let most = c.mark_due-2.new.due in
    let time_is = ap (λ (u : Time). u.0) c.time-time.ensures.value in
    let who_is = ap (λ (w : ActorNo). w.0) c.who.ensures in
    let none_here = one_left-none pairs c.args.asked.now.t c.args.asked.now.from c.args.asked.now.below due place (λ same lo hi. sym (ap (marked due c.args.asked.now.from) who_is) ∙ c.mark_where.ensures.here (eq-eqb _ _ (time_is ∙ same)) (omega (arith, who_is, lo)) (omega (arith, who_is, hi))) in
    let none_now : one_left pairs c.args.asked.now.t c.args.asked.now.from c.args.asked.now.below most place ≡ 0 = omega (arith, none_here, one_left-mono pairs c.args.asked.now.t c.args.asked.now.from c.args.asked.now.below due more c.mark_due.ensures.kept place, one_left-mono pairs c.args.asked.now.t c.args.asked.now.from c.args.asked.now.below more most c.mark_due-2.ensures.kept place) in
    tree_zero _ (length pairs) place c.requires.within none_now
    (λ k wide. left_kept pairs c.args.asked.now.t c.args.asked.now.from c.args.asked.now.below more most c.mark_due-2.ensures.kept k _ (c.mark_due.ensures.all k wide))
    c.mark_due-2.ensures.all

pub returns-clause-cost : goal.returns-clause-cost
returns-clause-cost g t c =
    let pairs = c.args.row.now.pairs in
    let place = c.args.place in
    let time_is = ap (λ (u : Time). u.0) c.time-time.ensures.value in
    let one = one_by-here pairs c.args.asked.now.t place c.requires.within (omega (arith, time_is, c.if-asked-time.false)) in
    let l = c.mark_due.new.looks - c.time-time.new.looks in
    let r = c.mark_due-2.new.looks - c.mark_due.new.looks in
    λ levels lt.
    omega (
      arith,
      c.time-time.ensures.cost,
      tree_cost (one_by pairs c.args.asked.now.t) (length pairs) place l r c.requires.within (omega (arith, one))
          (λ k wide. omega (arith, c.mark_due.ensures.cost k wide))
          (λ k wide. omega (arith, c.mark_due-2.ensures.cost k wide))
          levels lt,
    )
