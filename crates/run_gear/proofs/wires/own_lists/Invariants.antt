use Rattle.std.proofs.Common.{◌≡◌, take, map}
use Rattle.sim_base.specs.declared.numbers.PortNo.{PortNo}
use Rattle.run_gear.proofs.wires.own_lists.Given as goal

abbrev pub invariant-loop-list : goal.invariant-loop-list
invariant-loop-list l = map (λ v. v.items) l.lists.items ≡ map (λ v. map (λ (q : PortNo). q.0) v.items) (take l.list-index l.own)
