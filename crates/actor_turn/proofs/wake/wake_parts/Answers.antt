use Rattle.std.proofs.Common.{◌≡◌, ℕ, List, ◌<◌, length, get_or, set, ap, subst, ◌∙◌, arith, refl}
use Rattle.std.specs.Prelude.{true}
use Rattle.tick_law.specs.Wires.{own_of}
use Rattle.tick_law.specs.Pass.{port_at}
use Rattle.port_row.specs.Row.{face_at, face_of}
use Rattle.actor_turn.specs.Waking.{woken_by, shows_other}
use Rattle.port_rows.specs.Rows.{RowsView}
use Rattle.actor_turn.proofs.WakingLaws.{can_wake_still, can_wake_owner, waking_none, waking_to, waking_more}
use Rattle.actor_turn.proofs.wake.wake_parts.Goals as goal

pub loop-k-init : goal.loop-k-init
loop-k-init g c = record {
  within = omega arith;
  waking = waking_none true (own_of c.args.rows.now.wires c.args.link) c.args.parts.now c.args.from c.args.rows.now c.args.next.now;
}

pub next_touched-requires : goal.next_touched-requires
next_touched-requires g c = omega (arith, c.requires.link, ap (λ w. length w.own) c.loop-k.invariant.waking.wires)

pub own-requires : goal.own-requires
own-requires g c = omega (arith, c.requires.link, ap (λ w. length w.own) c.loop-k.invariant.waking.wires)

pub note_change-changed-requires : goal.note_change-changed-requires
note_change-changed-requires g c =
    let own = own_of c.args.rows.now.wires c.args.link in
    let k = c.in-Some.k in
    let was = c.loop-k.invariant.waking in
    let read : c.own.result.now ≡ own = c.own.ensures ∙ ap (λ w. own_of w c.args.link) was.wires in
    let b : k < length own = omega (arith, c.in-Some.ensures.least.within, ap (λ w. length (own_of w c.args.link)) was.wires) in
    let here = c.requires.within (get_or own k 0) (k, b, refl) in
    let port_is = ap (λ l. get_or l k 0) read in
    omega (arith, here, port_is, ap length was.ports)

pub wake_where-requires-clause-port : goal.wake_where-requires-clause-port
wake_where-requires-clause-port g c =
    let own = own_of c.args.rows.now.wires c.args.link in
    let k = c.in-Some.k in
    let was = c.loop-k.invariant.waking in
    let read : c.own.result.now ≡ own = c.own.ensures ∙ ap (λ w. own_of w c.args.link) was.wires in
    let b : k < length own = omega (arith, c.in-Some.ensures.least.within, ap (λ w. length (own_of w c.args.link)) was.wires) in
    let here = c.requires.within (get_or own k 0) (k, b, refl) in
    let port_is = ap (λ l. get_or l k 0) read in
    omega (arith, here, port_is, c.requires.wakes.wakes.owner)

pub wake_where-requires-clause-wakes : goal.wake_where-requires-clause-wakes
wake_where-requires-clause-wakes g c =
    can_wake_owner c.args.parts.now (length c.args.rows.now.ports) c.loop-k.next
    (can_wake_still c.args.parts.now (length c.args.rows.now.ports) c.args.next.now c.loop-k.next c.requires.wakes c.loop-k.invariant.waking.all)

pub loop-k-preserved : goal.loop-k-preserved
loop-k-preserved g c =
    let rows = c.loop-k.rows in
    let own = own_of c.args.rows.now.wires c.args.link in
    let k = c.in-Some.k in
    let was = c.loop-k.invariant.waking in
    let read : c.own.result.now ≡ own = c.own.ensures ∙ ap (λ w. own_of w c.args.link) was.wires in
    let b : k < length own = omega (arith, c.in-Some.ensures.least.within, ap (λ w. length (own_of w c.args.link)) was.wires) in
    let here = c.requires.within (get_or own k 0) (k, b, refl) in
    let port_is = ap (λ l. get_or l k 0) read in
    let is : own_of rows.wires c.args.link ≡ own = ap (λ w. own_of w c.args.link) was.wires in
    let noted = c.note_change-changed.ensures in
    let to = waking_to true own c.args.parts.now c.args.from c.args.rows.now c.args.next.now c.loop-k.at k rows c.loop-k.next c.requires.apart c.in-Some.ensures.least.not_below (omega (arith, b)) was
    (λ i a l. subst (λ (xs : List ℕ). face_at rows.seen (get_or xs i 0) ≡ face_of (port_at rows.ports (get_or xs i 0))) is (c.in-Some.ensures.least.before i a l)) in
    record {
      within = omega (arith, b);
      waking = waking_more true own c.args.parts.now (length c.args.rows.now.ports) c.args.from c.args.rows.now c.args.next.now k rows c.note_change-changed.new.rows c.loop-k.next c.wake_where.new.next c.requires.apart b here c.requires.wakes to
          (omega (arith, noted.within, port_is))
          (noted.rows ∙ ap (λ q. let x : RowsView = record rows { seen = set rows.seen q (face_of (port_at rows.ports q)) } in x) port_is)
          (c.wake_where.ensures ∙ ap (λ x. woken_by x c.args.parts.now (get_or c.own.result.now k 0) c.args.from c.loop-k.next) noted.changed ∙ ap (λ q. woken_by (shows_other true rows q) c.args.parts.now q c.args.from c.loop-k.next) port_is);
    }

pub returns : goal.returns
returns g c =
    let own = own_of c.args.rows.now.wires c.args.link in
    let rows = c.loop-k.rows in
    let was = c.loop-k.invariant.waking in
    let is : own_of rows.wires c.args.link ≡ own = ap (λ w. own_of w c.args.link) was.wires in
    waking_to true own c.args.parts.now c.args.from c.args.rows.now c.args.next.now c.loop-k.at (length own) rows c.loop-k.next c.requires.apart c.loop-k.invariant.within (omega arith) was
    (λ i a l. subst (λ (xs : List ℕ). face_at rows.seen (get_or xs i 0) ≡ face_of (port_at rows.ports (get_or xs i 0))) is (c.in_default.ensures.none i a (omega (arith, l, ap length is))))
