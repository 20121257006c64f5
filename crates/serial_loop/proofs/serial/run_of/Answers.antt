use Rattle.std.proofs.Common.{◌≡◌, length, map, replicate, sym, ◌∙◌, ap, subst, rules}
use Rattle.std.specs.Prelude.{Some}
use Rattle.tick_law.specs.PlanView.{start_of}
use Rattle.port_row.specs.Row.{face_of}
use Rattle.port_rows.specs.Rows.{RowsView}
use Rattle.port_rows.specs.World.{state_of}
use Rattle.run_gear.specs.IsOpened.{IsOpened}
use Rattle.serial_loop.proofs.RunLaws.{state_same, boundary_start}
use Rattle.serial_loop.proofs.serial.run_of.Goals as goal

pub run_opened-requires-clause-opened : goal.run_opened-requires-clause-opened
run_opened-requires-clause-opened g c = subst (λ p. IsOpened g.P.Actor.machine g.N.Actor.machine g.P.Actor.valid g.N.Actor.valid p c.in_ok-opened.opened) c.requires.plan c.in_ok-opened.ensures

pub run_opened-requires-clause-at : goal.run_opened-requires-clause-at
run_opened-requires-clause-at g c =
    let plan = g.C.Charter.plan in
    let o = c.in_ok-opened.opened in
    let is : IsOpened g.P.Actor.machine g.N.Actor.machine g.P.Actor.valid g.N.Actor.valid plan o = subst (λ p. IsOpened g.P.Actor.machine g.N.Actor.machine g.P.Actor.valid g.N.Actor.valid p o) c.requires.plan c.in_ok-opened.ensures in
    let fresh = is.world_is in
    let ports : o.world.rows.ports ≡ (start_of plan).ports = ap (λ (v : RowsView). v.ports) fresh.rows_are in
    let parts_count : c.len.result ≡ length o.world.parts.items = search rules in
    let links_count : c.len-2.result ≡ length o.world.links.items = search rules in
    record {
      boundary = boundary_start g.P.Actor.machine g.N.Actor.machine plan g.C.Charter.start (state_of o.world) c.in_ok-parts.parts c.in_ok-links.links c.requires.start
          (state_same (state_of o.world) (start_of plan) fresh.parts_are fresh.links_are ports)
          (c.in_ok-parts.ensures ∙ ap (λ n. replicate n (Some 0)) (parts_count ∙ ap length fresh.parts_are))
          (c.in_ok-links.ensures ∙ ap (λ n. replicate n (Some 0)) (links_count ∙ ap length fresh.links_are));
      settled = ap (λ (v : RowsView). v.seen) fresh.rows_are ∙ ap (map face_of) (sym ports);
      wires = ap (λ (v : RowsView). v.wires) fresh.rows_are;
    }
