use Rattle.std.proofs.Common.{◌≡◌, ◌+◌, ◌*◌, ◌≤◌, [], ◌∷◌, ◌++◌, length, true, rules, sym, subst}
use Rattle.sim_base.specs.declared.time.TheConstants.{LATEST_TICK}
use Rattle.mem_ctrl.specs.Memory.{MemoryState, accepts}
use Rattle.mem_ctrl.specs.MemoryLaws.{joined_queue}
use Rattle.mem_ctrl.proofs.memory.Memory.take_request.Goals as goal

pub invariant_of-self-2 : goal.invariant_of-self-2
invariant_of-self-2 c =
    let accepted : accepts c.self.inside.base (length c.self.inside.bytes.items) c.in-Some.request ≡ true = search rules in
    let time : c.args.cycle * c.self.inside.period ≤ LATEST_TICK = subst (λ (s : MemoryState). c.args.cycle * s.period ≤ LATEST_TICK) (sym c.self.view_is) c.requires.time in
    let queue : c.try_push_back.new.self.items ≡ c.self.inside.queue.items ++ (record { request = c.in-Some.request; deadline = c.args.cycle + c.self.inside.latency }) ∷ [] = search rules in
    let depth : c.try_push_back.new.self.capacity ≡ c.self.inside.queue.capacity = search rules in
    joined_queue _ c.try_push_back.new.self.items c.try_push_back.new.self.capacity c.args.cycle c.in-Some.request c.self.invariant accepted time queue depth
