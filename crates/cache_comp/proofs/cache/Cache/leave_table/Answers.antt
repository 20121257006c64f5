use Rattle.std.proofs.Common.{◌<◌, ◌≤◌, List, length, vec_capacity, arith, ap, subst, sym}
use Rattle.std.proofs.lemmas.List.Edits.{length-remove}
use Rattle.cache_comp.specs.declared.miss.Miss.{Miss}
use Rattle.cache_comp.specs.Cache.{CacheState}
use Rattle.cache_comp.specs.CacheLaws.{left_table}
use Rattle.cache_comp.proofs.cache.Cache.leave_table.Goals as goal

pub invariant_of-self : goal.invariant_of-self
invariant_of-self c =
    let within : c.args.k < length c.self.inside.table.items = subst (λ (s : CacheState). c.args.k < length s.table) (sym c.self.view_is) c.requires in
    let room : vec_capacity c.self.inside.table ≤ vec_capacity c.remove.new.self = omega (arith, c.remove.ensures.capacity) in
    left_table _ c.remove.new.self.items c.args.k _ _ _ c.self.invariant room within c.remove.ensures.items

pub returns-clause-room : goal.returns-clause-room
returns-clause-room c =
    let within : c.args.k < length c.self.inside.table.items = subst (λ (s : CacheState). c.args.k < length s.table) (sym c.self.view_is) c.requires in
    omega (arith, c.self.invariant.state.few, length-remove c.self.inside.table.items c.args.k within, ap (λ (t : List Miss). length t) c.remove.ensures.items)
