use Rattle.std.proofs.Common.{◌∙◌, ap}
use Rattle.world_query.specs.Directory.{number_in}
use Rattle.world_query.proofs.TableLaws.{lookup-entries}
use Rattle.world_query.proofs.name_table.NameTable.number.Goals as goal

pub returns : goal.returns
returns c = c.copied.ensures ∙ c.get.ensures.value ∙ lookup-entries c.self.inside.numbers.entries c.args.name.now ∙ ap (λ t. number_in t c.args.name.now) c.self.view_is
