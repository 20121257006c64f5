use Rattle.std.proofs.Common.{◌≡◌, ◌∙◌, [], length, refl, sym, ap, arith}
use Rattle.std.specs.Prelude.{Some, slice_get}
use Rattle.std.proofs.lemmas.Option.{slice_get_read}
use Rattle.port_msg.specs.PortView.{port_view}
use Rattle.port_rows.specs.World.{state_of}
use Rattle.part_view.specs.Entries.{port_entry}
use Rattle.part_view.proofs.EntryLaws.{one_entry_more, slice_get_at, as_many, same_cap}
use Rattle.part_view.proofs.lists.port_values.Goals as goal

pub port_entry-requires : goal.port_entry-requires
port_entry-requires c =
    let labels = c.args.labels.now in
    let ports = (state_of c.args.world.now).ports in
    let count : length ports ≡ length labels = as_many ports labels c.requires.caps in
    let label : slice_get labels c.loop-no.no ≡ Some c.index-labels-no.result = slice_get_read labels (length labels) c.loop-no.no c.index-labels-no.result refl c.loop-no-test.true c.index-labels-no.is in
    let port : slice_get ports c.loop-no.no ≡ Some c.port-port.result.now = slice_get_at ports c.loop-no.no (port_view [] [] 0) (omega (arith, count, c.loop-no-test.true)) ∙ ap Some (sym c.port-port.ensures) in
    same_cap ports labels c.loop-no.no c.index-labels-no.result c.port-port.result.now c.requires.caps label port

pub loop-no-preserved : goal.loop-no-preserved
loop-no-preserved c =
    let labels = c.args.labels.now in
    let ports = (state_of c.args.world.now).ports in
    let count : length ports ≡ length labels = as_many ports labels c.requires.caps in
    let label : slice_get labels c.loop-no.no ≡ Some c.index-labels-no.result = slice_get_read labels (length labels) c.loop-no.no c.index-labels-no.result refl c.loop-no-test.true c.index-labels-no.is in
    let port : slice_get ports c.loop-no.no ≡ Some c.port-port.result.now = slice_get_at ports c.loop-no.no (port_view [] [] 0) (omega (arith, count, c.loop-no-test.true)) ∙ ap Some (sym c.port-port.ensures) in
    one_entry_more (port_entry c.args.list) labels ports c.loop-no.no c.index-labels-no.result c.port-port.result.now _ _ _ label port
    c.in_ok-entry.ensures c.loop-no.invariant c.in_ok-add.ensures
