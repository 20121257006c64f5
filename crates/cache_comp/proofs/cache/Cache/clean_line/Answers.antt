use Rattle.cache_comp.specs.CacheLaws.{held_with_lines}
use Rattle.cache_comp.proofs.cache.Cache.clean_line.Goals as goal

pub invariant_of-self : goal.invariant_of-self
invariant_of-self c = held_with_lines _ c.clean.new.self _ _ c.self.invariant c.clean.ensures.sizes
