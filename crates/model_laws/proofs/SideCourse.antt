-- The run of one side: what its actors find at each time, and what wakes them.
use Rattle.std.specs.Prelude.{◌≡◌, ℕ, ◌+◌, ◌/◌, ◌<◌, ◌≤◌, List, length, Some, Bool, true, false, slice_get}
use Rattle.std.proofs.Common.{suc}
use Rattle.port_msg.specs.PortView.{PortView}
use Rattle.tick_law.specs.Quiet.{Quiet, Asleep}
use Rattle.tick_law.specs.Frame.{PortFrame}
use Rattle.tick_law.specs.Wires.{Wired, own_of}
use Rattle.tick_law.specs.Pass.{port_at, gather, has_edge}
use Rattle.model_laws.specs.WellFormed.{IsSound}
use Rattle.tick_law.specs.Laws.{Lawful}
use Rattle.tick_law.specs.NextTime.{due_is}
use Rattle.tick_law.specs.Course.{Course, after}

abbrev pub other : Bool → Bool
other true = false
other false = true

module _ {S : Type 0} where
  -- what is true of each run's side
  pub record IsCourse (c : Course S) (valid : S → Type 0) (end : ℕ) : Type 0 where
    pub lawful : Lawful c.machine valid
    pub quiet : (s : S) (ports : List PortView) (n : ℕ) → valid s → length ports ≡ c.machine.own s → (c.machine.step s ports n).flag ≡ false → Quiet S c.machine s ports n
    pub later : (s : S) (n t : ℕ) → valid s → c.machine.due s n ≡ Some t → n < t
    pub steady : (s : S) (n k : ℕ) → valid s → n ≤ k → ((t : ℕ) → c.machine.due s n ≡ Some t → k < t) → c.machine.due s k ≡ c.machine.due s n
    pub positive : (s : S) → valid s → 0 < c.machine.period s
    pub sided : c.machine.is_part ≡ c.side
    pub wired : (t : ℕ) → Wired c.wires (length (c.before t).ports)
    pub sound : (t : ℕ) → t ≤ end → IsSound c.machine valid c.wires (c.before t)
    pub states : (t : ℕ) → (c.before (suc t)).states ≡ (after c t).states
    pub gaps : (t q : ℕ) → t < end → q < length (c.before t).ports → PortFrame (other c.side) (port_at (after c t).ports q) (port_at (c.before (suc t)).ports q)
    pub asleep : (i t : ℕ) (s : S) → slice_get (c.before t).states i ≡ Some s → has_edge c.machine t s ≡ true → t < c.from → c.from ≤ t + c.machine.period s →
        due_is (c.first i) (t + c.machine.period s) ≡ false → Asleep S c.machine s (gather (c.before t).ports (own_of c.wires i)) (t / c.machine.period s)
    pub small : end ≤ 501000000001
