use Rattle.std.proofs.Common.{ap}
use Rattle.port_msg.specs.declared.message.Msg.{Msg}
use Rattle.circular_buffer.specs.Buffer.{Buffer}
use Rattle.cache_comp.specs.CacheLaws.{popped_ready}
use Rattle.cache_comp.proofs.cache.Cache.pop_ready.Goals as goal

pub invariant_of-self : goal.invariant_of-self
invariant_of-self c =
    let ready = ap (λ (b : Buffer Msg). b.items) c.pop_front.ensures.items in
    let room = ap (λ (b : Buffer Msg). b.capacity) c.pop_front.ensures.items in
    popped_ready _ c.pop_front.new.self.items _ _ c.pop_front.new.self.capacity c.self.invariant room ready
