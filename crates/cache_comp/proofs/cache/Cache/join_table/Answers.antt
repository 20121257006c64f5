use Rattle.std.proofs.Common.{◌≡◌, ◌+◌, ◌<◌, [], ◌∷◌, ◌++◌, length, rules, subst, sym}
use Rattle.cache_comp.specs.Lines.{places}
use Rattle.cache_comp.specs.Cache.{CacheState, IsMiss}
use Rattle.cache_comp.specs.CacheLaws.{joined_table}
use Rattle.cache_comp.proofs.cache.Cache.join_table.Goals as goal

pub invariant_of-self : goal.invariant_of-self
invariant_of-self c =
    let less : length c.self.inside.table.items + length c.self.inside.ready.items < c.self.inside.miss_room = subst (λ (s : CacheState). length s.table + length s.ready < s.miss_room) (sym c.self.view_is) c.requires.room in
    let held : IsMiss c.self.inside.lines.line (places c.self.inside.lines) c.args.miss = subst (λ (s : CacheState). IsMiss s.lines.line (places s.lines) c.args.miss) (sym c.self.view_is) c.requires.held in
    let table : c.push-made.new.self.items ≡ c.self.inside.table.items ++ c.args.miss ∷ [] = search rules in
    joined_table _ c.push-made.new.self.items c.args.miss _ _ _ c.self.invariant c.push-made.ensures.capacity less held table
