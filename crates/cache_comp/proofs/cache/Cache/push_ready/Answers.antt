use Rattle.std.proofs.Common.{◌≡◌, ◌+◌, ◌<◌, [], ◌∷◌, ◌++◌, length, rules, subst, sym}
use Rattle.cache_comp.specs.Cache.{CacheState}
use Rattle.cache_comp.specs.CacheLaws.{pushed_ready}
use Rattle.cache_comp.proofs.cache.Cache.push_ready.Goals as goal

pub invariant_of-self : goal.invariant_of-self
invariant_of-self c =
    let less : length c.self.inside.table.items + length c.self.inside.ready.items < c.self.inside.miss_room = subst (λ (s : CacheState). length s.table + length s.ready < s.miss_room) (sym c.self.view_is) c.requires in
    let ready : c.try_push_back-made.new.self.items ≡ c.self.inside.ready.items ++ c.args.answer ∷ [] = search rules in
    let room : c.try_push_back-made.new.self.capacity ≡ c.self.inside.ready.capacity = search rules in
    pushed_ready _ c.try_push_back-made.new.self.items c.args.answer _ _ c.try_push_back-made.new.self.capacity c.self.invariant room less ready
