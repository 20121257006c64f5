use Rattle.std.proofs.Common.{ap}
use Rattle.circular_buffer.specs.Buffer.{Buffer}
use Rattle.mem_ctrl.specs.declared.waiting.Waiting.{Waiting}
use Rattle.mem_ctrl.specs.MemoryLaws.{left_queue}
use Rattle.mem_ctrl.proofs.memory.Memory.serve.Goals as goal

pub invariant_of-self : goal.invariant_of-self
invariant_of-self c =
    let queue = ap (λ (b : Buffer Waiting). b.items) c.pop_front.ensures.items in
    let depth = ap (λ (b : Buffer Waiting). b.capacity) c.pop_front.ensures.items in
    left_queue _ c.pop_front.new.self.items c.pop_front.new.self.capacity c.saturating_add-self-inside.result c.self-2.invariant queue depth
