use Rattle.std.proofs.Common.{length, map, sym, ◌∙◌, ap, subst, refl}
use Rattle.port_msg.specs.RecView.{RecView}
use Rattle.tick_law.specs.PlanView.{part_wires, system_from}
use Rattle.port_row.specs.Row.{face_of}
use Rattle.port_rows.specs.Rows.{RowsView}
use Rattle.port_rows.specs.Opening.{AreHands}
use Rattle.actor_turn.specs.Act.{parts_acting, links_acting}
use Rattle.actor_turn.specs.declared.side.SideGear.{SideGear}
use Rattle.run_gear.specs.declared.gear.Gear.{Gear}
use Rattle.serial_loop.specs.Pass.{CanPass, HasPassed}
use Rattle.serial_loop.proofs.TimeLaws.{PartsTicked, IsTicked, CanBegin, CanBeWoken, can_tick, can_be_woken, parts_begin, links_begin, then_settled, with_rows, run_ticked, is_gear_still}
use Rattle.serial_loop.proofs.time.tick_time.Given.{Over}
use Rattle.serial_loop.proofs.time.tick_time.Goals as goal
use Rattle.serial_loop.proofs.time.tick_time.Goals.{After-clear, After-wake_changed-arg-3-1, After-wake_changed, After-wake_changed-arg-6-1, After-wake_changed-2}

-- the gear whose records are cleared
abbrev cleared : Gear → RecView → Gear
cleared g recs = record g { recs = recs }

-- the pass of the parts can begin
first : (g : Over) (c : After-clear g) → CanBegin g.P.Actor.machine g.P.Actor.valid c.args.gear.now.parts c.args.gear.now.links c.args.t (parts_acting c.args.world.now c.clear.new.self c.args.steps.now) c.args.next.now.parts c.args.next.now.links
first g c =
    parts_begin g.P.Actor.machine g.N.Actor.machine g.P.Actor.valid g.N.Actor.valid g.C.Charter.start c.args.t c.args.steps.now c.args.world.now (cleared c.args.gear.now c.clear.new.self) c.args.next.now.parts c.args.next.now.links
    (can_tick g.P.Actor.machine g.N.Actor.machine g.P.Actor.valid g.N.Actor.valid g.C.Charter.plan g.C.Charter.start c.args.t c.args.world.now c.args.gear.now c.clear.new.self c.args.next.now c.requires.gear c.requires.at c.requires.time c.clear.ensures (cleared c.args.gear.now c.clear.new.self) refl refl refl)

-- links can be woken then
first_woken : (g : Over) (c : After-wake_changed-arg-3-1 g) → CanBeWoken c.pass_parts-parts.new.gear.links c.pass_parts-parts.new.world.rows c.args.next.now.links
first_woken g c =
    can_be_woken g.P.Actor.machine g.P.Actor.valid c.args.gear.now.parts c.args.gear.now.links c.pass_parts-parts.new.gear.links c.args.t (parts_acting c.args.world.now c.clear.new.self c.args.steps.now) (parts_acting c.pass_parts-parts.new.world c.pass_parts-parts.new.gear.recs c.pass_parts-parts.new.steps) c.args.next.now.parts c.pass_parts-parts.new.next c.args.next.now.links c.pass_parts-parts.result
    (parts_begin g.P.Actor.machine g.N.Actor.machine g.P.Actor.valid g.N.Actor.valid g.C.Charter.start c.args.t c.args.steps.now c.args.world.now (cleared c.args.gear.now c.clear.new.self) c.args.next.now.parts c.args.next.now.links
    (can_tick g.P.Actor.machine g.N.Actor.machine g.P.Actor.valid g.N.Actor.valid g.C.Charter.plan g.C.Charter.start c.args.t c.args.world.now c.args.gear.now c.clear.new.self c.args.next.now c.requires.gear c.requires.at c.requires.time c.clear.ensures (cleared c.args.gear.now c.clear.new.self) refl refl refl))
    c.pass_parts-parts.ensures.passed c.requires.at.settled c.pass_parts-parts.ensures.stays.links

-- the pass of the parts, and whom it woke
one : (g : Over) (c : After-wake_changed g) → PartsTicked g.P.Actor.machine c.args.t c.args.steps.now c.args.world.now (cleared c.args.gear.now c.clear.new.self) c.args.next.now.parts c.args.next.now.links c.pass_parts-parts.new.steps c.pass_parts-parts.new.world c.pass_parts-parts.new.gear c.pass_parts-parts.new.next c.wake_changed.new.next c.wake_changed.new.rows c.pass_parts-parts.result
one g c =
    let did = c.pass_parts-parts.ensures in
    record {
      passed = did.passed;
      links = did.links;
      stays = record { parts = did.stays.parts; links = did.stays.links; hands = did.stays.hands };
      woke = record { woken_are = c.wake_changed.ensures.woken; rows_are = c.wake_changed.ensures.settled };
    }

-- the pass of the links can begin
second : (g : Over) (c : After-wake_changed g) → CanBegin g.N.Actor.machine g.N.Actor.valid c.args.gear.now.links c.args.gear.now.parts c.args.t (links_acting (with_rows c.pass_parts-parts.new.world c.wake_changed.new.rows) c.pass_parts-parts.new.gear.recs c.pass_parts-parts.new.steps) c.wake_changed.new.next c.pass_parts-parts.new.next
second g c =
    links_begin g.P.Actor.machine g.N.Actor.machine g.P.Actor.valid g.N.Actor.valid g.C.Charter.start c.args.t c.args.steps.now c.pass_parts-parts.new.steps c.args.world.now c.pass_parts-parts.new.world (cleared c.args.gear.now c.clear.new.self) c.pass_parts-parts.new.gear c.args.next.now.parts c.args.next.now.links c.pass_parts-parts.new.next c.wake_changed.new.next c.wake_changed.new.rows c.pass_parts-parts.result
    (can_tick g.P.Actor.machine g.N.Actor.machine g.P.Actor.valid g.N.Actor.valid g.C.Charter.plan g.C.Charter.start c.args.t c.args.world.now c.args.gear.now c.clear.new.self c.args.next.now c.requires.gear c.requires.at c.requires.time c.clear.ensures (cleared c.args.gear.now c.clear.new.self) refl refl refl)
    (one g c)

pub pass_parts-parts-requires-clause-can : goal.pass_parts-parts-requires-clause-can
pass_parts-parts-requires-clause-can g c = (first g (goal.at.pass_parts-parts-requires-clause-can g c).After-clear).can

pub pass_parts-parts-requires-clause-hands : goal.pass_parts-parts-requires-clause-hands
pass_parts-parts-requires-clause-hands g c =
    let is = c.requires.gear in
    subst (λ w. AreHands c.args.gear.now.hands.items w (length c.args.world.now.parts.items)) (sym is.part_wires_are)
    (subst (λ n. AreHands c.args.gear.now.hands.items (part_wires g.C.Charter.plan) n) (sym c.requires.at.boundary.parts_are.long ∙ (first g (goal.at.pass_parts-parts-requires-clause-hands g c).After-clear).can.all_next) is.hands_are)

pub wake_changed-requires-clause-wakes : goal.wake_changed-requires-clause-wakes
wake_changed-requires-clause-wakes g c = (first_woken g c).wakes

pub wake_changed-requires-clause-few : goal.wake_changed-requires-clause-few
wake_changed-requires-clause-few g c = (first_woken g c).few

pub wake_changed-requires-clause-seen : goal.wake_changed-requires-clause-seen
wake_changed-requires-clause-seen g c = (first_woken g c).seen_all

pub pass_links-links-requires-clause-can : goal.pass_links-links-requires-clause-can
pass_links-links-requires-clause-can g c =
    subst (λ (s : SideGear). CanPass g.N.Actor.machine g.N.Actor.valid s c.args.t (links_acting (with_rows c.pass_parts-parts.new.world c.wake_changed.new.rows) c.pass_parts-parts.new.gear.recs c.pass_parts-parts.new.steps) c.wake_changed.new.next) (sym c.pass_parts-parts.ensures.stays.links)
    (second g (goal.at.pass_links-links-requires-clause-can g c).After-wake_changed).can

pub pass_links-links-requires-clause-wires : goal.pass_links-links-requires-clause-wires
pass_links-links-requires-clause-wires g c =
    ap (λ (s : SideGear). s.wiring) c.pass_parts-parts.ensures.stays.links
    ∙ c.requires.gear.link_wires_are
    ∙ sym c.requires.at.wires
    ∙ sym c.pass_parts-parts.ensures.passed.wires
    ∙ sym (ap (λ (v : RowsView). v.wires) c.wake_changed.ensures.settled)

-- parts can be woken then
second_woken : (g : Over) (c : After-wake_changed-arg-6-1 g) → CanBeWoken c.pass_links-links.new.gear.parts c.pass_links-links.new.world.rows c.pass_parts-parts.new.next
second_woken g c =
    let did = c.pass_parts-parts.ensures in
    let one : PartsTicked g.P.Actor.machine c.args.t c.args.steps.now c.args.world.now (cleared c.args.gear.now c.clear.new.self) c.args.next.now.parts c.args.next.now.links c.pass_parts-parts.new.steps c.pass_parts-parts.new.world c.pass_parts-parts.new.gear c.pass_parts-parts.new.next c.wake_changed.new.next c.wake_changed.new.rows c.pass_parts-parts.result = (record { passed = did.passed; links = did.links; stays = record { parts = did.stays.parts; links = did.stays.links; hands = did.stays.hands }; woke = record { woken_are = c.wake_changed.ensures.woken; rows_are = c.wake_changed.ensures.settled } }) in
    let begin = links_begin g.P.Actor.machine g.N.Actor.machine g.P.Actor.valid g.N.Actor.valid g.C.Charter.start c.args.t c.args.steps.now c.pass_parts-parts.new.steps c.args.world.now c.pass_parts-parts.new.world (cleared c.args.gear.now c.clear.new.self) c.pass_parts-parts.new.gear c.args.next.now.parts c.args.next.now.links c.pass_parts-parts.new.next c.wake_changed.new.next c.wake_changed.new.rows c.pass_parts-parts.result
    (can_tick g.P.Actor.machine g.N.Actor.machine g.P.Actor.valid g.N.Actor.valid g.C.Charter.plan g.C.Charter.start c.args.t c.args.world.now c.args.gear.now c.clear.new.self c.args.next.now c.requires.gear c.requires.at c.requires.time c.clear.ensures (cleared c.args.gear.now c.clear.new.self) refl refl refl)
    one in
    let old = links_acting (with_rows c.pass_parts-parts.new.world c.wake_changed.new.rows) c.pass_parts-parts.new.gear.recs c.pass_parts-parts.new.steps in
    let new = links_acting c.pass_links-links.new.world c.pass_links-links.new.gear.recs c.pass_links-links.new.steps in
    can_be_woken g.N.Actor.machine g.N.Actor.valid c.args.gear.now.links c.args.gear.now.parts c.pass_links-links.new.gear.parts c.args.t old new c.wake_changed.new.next c.pass_links-links.new.next c.pass_parts-parts.new.next c.pass_links-links.result
    begin
    (subst (λ (s : SideGear). HasPassed g.N.Actor.machine s c.args.t old c.wake_changed.new.next new c.pass_links-links.new.next c.pass_links-links.result) did.stays.links c.pass_links-links.ensures.passed)
    (then_settled g.P.Actor.machine c.args.t c.args.steps.now c.pass_parts-parts.new.steps c.args.world.now c.pass_parts-parts.new.world (cleared c.args.gear.now c.clear.new.self) c.pass_parts-parts.new.gear c.args.next.now.parts c.args.next.now.links c.pass_parts-parts.new.next c.wake_changed.new.next c.wake_changed.new.rows c.pass_parts-parts.result one)
    (c.pass_links-links.ensures.stays.parts ∙ did.stays.parts)

pub wake_changed-requires-2-clause-wakes : goal.wake_changed-requires-2-clause-wakes
wake_changed-requires-2-clause-wakes g c = (second_woken g c).wakes

pub wake_changed-requires-2-clause-few : goal.wake_changed-requires-2-clause-few
wake_changed-requires-2-clause-few g c = (second_woken g c).few

pub wake_changed-requires-2-clause-seen : goal.wake_changed-requires-2-clause-seen
wake_changed-requires-2-clause-seen g c = (second_woken g c).seen_all

-- a time of the run
done : (g : Over) (c : After-wake_changed-2 g) → IsTicked (system_from g.P.Actor.machine g.N.Actor.machine g.C.Charter.plan g.C.Charter.start) c.args.t c.pass_links-links.new.world c.wake_changed-2.new.rows c.wake_changed-2.new.next c.pass_links-links.new.next c.pass_links-links.new.gear.recs.items c.pass_parts-parts.result c.pass_links-links.result c.args.steps.now c.pass_links-links.new.steps
done g c =
    let did = c.pass_parts-parts.ensures in
    let then = c.pass_links-links.ensures in
    run_ticked g.P.Actor.machine g.N.Actor.machine g.P.Actor.valid g.N.Actor.valid g.C.Charter.plan g.C.Charter.start c.args.t c.args.steps.now c.pass_parts-parts.new.steps c.pass_links-links.new.steps c.args.world.now c.pass_parts-parts.new.world c.pass_links-links.new.world (cleared c.args.gear.now c.clear.new.self) c.pass_parts-parts.new.gear c.pass_links-links.new.gear c.args.next.now.parts c.args.next.now.links c.pass_parts-parts.new.next c.wake_changed.new.next c.wake_changed-2.new.next c.pass_links-links.new.next c.wake_changed.new.rows c.wake_changed-2.new.rows c.pass_parts-parts.result c.pass_links-links.result
    c.requires.gear.part_wires_are c.requires.gear.link_wires_are (ap (λ (r : RecView). r.items) c.clear.ensures)
    (can_tick g.P.Actor.machine g.N.Actor.machine g.P.Actor.valid g.N.Actor.valid g.C.Charter.plan g.C.Charter.start c.args.t c.args.world.now c.args.gear.now c.clear.new.self c.args.next.now c.requires.gear c.requires.at c.requires.time c.clear.ensures (cleared c.args.gear.now c.clear.new.self) refl refl refl)
    (record { passed = did.passed; links = did.links; stays = record { parts = did.stays.parts; links = did.stays.links; hands = did.stays.hands }; woke = record { woken_are = c.wake_changed.ensures.woken; rows_are = c.wake_changed.ensures.settled } })
    (record { passed = then.passed; parts = then.parts; stays = record { parts = then.stays.parts; links = then.stays.links; hands = then.stays.hands }; woke = record { woken_are = c.wake_changed-2.ensures.woken; rows_are = c.wake_changed-2.ensures.settled } })

pub returns-clause-gear : goal.returns-clause-gear
returns-clause-gear g c =
    let is = c.requires.gear in
    let did = c.pass_parts-parts.ensures in
    let then = c.pass_links-links.ensures in
    is_gear_still g.P.Actor.machine g.N.Actor.machine g.P.Actor.valid g.N.Actor.valid g.C.Charter.plan g.C.Charter.start c.args.gear.now c.pass_links-links.new.gear is (then.stays.parts ∙ did.stays.parts) (then.stays.links ∙ did.stays.links) (then.stays.hands ∙ did.stays.hands) (then.passed.room ∙ did.passed.room ∙ ap (λ (r : RecView). r.room) c.clear.ensures)

pub returns-clause-at : goal.returns-clause-at
returns-clause-at g c = record {
  boundary = (done g (goal.at.returns-clause-at g c).After-wake_changed-2).boundary;
  settled = ap (λ (v : RowsView). v.seen) c.wake_changed-2.ensures.settled ∙ sym (ap (λ (v : RowsView). map face_of v.ports) c.wake_changed-2.ensures.settled);
  wires =
      ap (λ (v : RowsView). v.wires) c.wake_changed-2.ensures.settled
      ∙ c.pass_links-links.ensures.passed.wires
      ∙ ap (λ (v : RowsView). v.wires) c.wake_changed.ensures.settled
      ∙ c.pass_parts-parts.ensures.passed.wires
      ∙ c.requires.at.wires;
}

pub returns-clause-records : goal.returns-clause-records
returns-clause-records g c = (done g (goal.at.returns-clause-records g c).After-wake_changed-2).records_are

pub returns-clause-flag : goal.returns-clause-flag
returns-clause-flag g c = c.either.ensures ∙ (done g (goal.at.returns-clause-flag g c).After-wake_changed-2).flag_is

pub returns-clause-steps : goal.returns-clause-steps
returns-clause-steps g c = (done g (goal.at.returns-clause-steps g c).After-wake_changed-2).steps_are
