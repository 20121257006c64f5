use Rattle.cache_comp.specs.CacheLaws.{held_with_lines}
use Rattle.cache_comp.proofs.cache.Cache.access_line.Goals as goal

pub invariant_of-self : goal.invariant_of-self
invariant_of-self c = held_with_lines _ c.access.new.self _ _ c.self.invariant c.access.ensures.sizes
