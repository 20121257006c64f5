use Rattle.std.proofs.Common.{◌≡◌, drop, length}
use Rattle.toml.specs.View.{items_view}
use Rattle.sim_config.specs.Values.{at_key, elements}
use Rattle.sim_config.proofs.Fronts.{with_front}
use Rattle.sim_config.proofs.list.elements.Given as goal

-- what has been read, and the rest, are the whole
abbrev pub invariant-loop-value : goal.invariant-loop-value
invariant-loop-value g l =
    let read = g.E.Element.value_in in
    record {
      count : length l.read.items ≡ l.value-index;
      whole : with_front l.read.items (at_key l.section.place l.word (elements read (items_view (drop l.value-index l.values))))
          ≡ at_key l.section.place l.word (elements read (items_view l.values));
    }
