-- One side in its pass at a time, of which some actors wait, some are out, and some are back.
use Rattle.std.specs.Prelude.{◌≡◌, ℕ, ◌+◌, ◌*◌, ◌≤◌, ◌<◌, ◌||◌, List, [], length, map, Option, Some, None, Bool, true, false, slice_get, Box}
use Rattle.std.proofs.Common.{Global}
use Rattle.bit_set.specs.Bits.{is_in}
use Rattle.port_msg.specs.PortView.{PortView}
use Rattle.port_msg.specs.RecView.{records_at}
use Rattle.port_msg.specs.declared.records.Record.{Record}
use Rattle.port_row.specs.Row.{face_of}
use Rattle.port_rows.specs.Rows.{RowsView}
use Rattle.tick_law.specs.Machine.{Machine, Outcome}
use Rattle.tick_law.specs.Wires.{own_of}
use Rattle.tick_law.specs.Pass.{Side, pass, gather, has_edge, port_at}
use Rattle.tick_law.specs.Outcomes.{outcome, stirs, whats_of, flag_of}
use Rattle.tick_law.specs.Wires.{Wires}
use Rattle.tick_law.specs.SerialLoop.{pick}
use Rattle.tick_law.specs.NextTime.{woken}
use Rattle.tick_law.specs.Course.{Course, outcome_in, ready, ticked}
use Rattle.model_laws.specs.NextTable.{IsTable, due_at_time}
use Rattle.model_laws.specs.Changed.{changed}
use Rattle.away_rows.specs.declared.body.Body.{Body}
use Rattle.away_rows.specs.declared.marks.Marks.{Marks}
use Rattle.away_rows.specs.Bodies.{Seated, Placed}

module _ {S : Type 0} where
  -- the side where those who are back have made their steps, and nobody else
  abbrev pub so_far : Course S → ℕ → List Bool → Side S
  so_far c t back = pass c.machine c.wires (is_in back) t (c.before t)

  -- the step of actor i, where it is back
  abbrev pub step_so_far : Course S → ℕ → List Bool → ℕ → Option (Outcome S)
  step_so_far c t back i = outcome c.machine c.wires (is_in back) t (c.before t) i

  -- what it has recorded, as actor base + i of all
  abbrev pub did_so_far : Course S → ℕ → ℕ → List Bool → ℕ → List Record
  did_so_far c base t back i = records_at t (base + i) (whats_of (step_so_far c t back i))

  -- one of those who are back made progress
  abbrev pub stirs_so_far : Course S → ℕ → List Bool → Bool
  stirs_so_far c t back = stirs c.machine c.wires (is_in back) t (c.before t)

  -- actor i has an edge at t
  abbrev pub EdgeAt : Course S → ℕ → ℕ → Type 0
  EdgeAt c t i = (s : S) → slice_get (c.before t).states i ≡ Some s → has_edge c.machine t s ≡ true

  -- nobody has two marks, and who waits has an edge
  pub record AreMarks (c : Course S) (t : ℕ) (marks : Marks) : Type 0 where
    pub waiting_all : length marks.waiting ≡ length (c.before t).states
    pub out_all : length marks.out ≡ length (c.before t).states
    pub back_all : length marks.back ≡ length (c.before t).states
    pub waits : (i : ℕ) → is_in marks.waiting i ≡ true → (is_in marks.out i ≡ false) × (is_in marks.back i ≡ false) × EdgeAt c t i
    pub outs : (i : ℕ) → is_in marks.out i ≡ true → is_in marks.back i ≡ false

  -- each actor that is due has a mark
  abbrev pub AllDueMarked : Course S → ℕ → Marks → Type 0
  AllDueMarked c t marks = (i : ℕ) → i < length (c.before t).states → due_at_time c t i ≡ true → (is_in marks.waiting i || (is_in marks.out i || is_in marks.back i)) ≡ true

  -- all that are at home stand as after the steps of those who are back
  pub record InPass (c : Course S) (base t : ℕ) (all_seen : Bool) (marks : Marks) (seats : List (Option (Box (Body S) Global))) (rows : RowsView) : Type 0 where
    pub seated : Seated c.wires marks.out (so_far c t marks.back).states (did_so_far c base t marks.back) seats
    pub placed : Placed c.wires all_seen marks.out (so_far c t marks.back).ports rows

  -- the row of actor i that is out, and its room
  pub record HasKit (c : Course S) (i : ℕ) (b : Body S) : Type 0 where
    pub ports : length b.row.ports ≡ length (own_of c.wires i)
    pub seen : length b.row.seen ≡ length (own_of c.wires i)
    pub room : 64 * length (own_of c.wires i) ≤ b.recs.room

  -- what was seen of the ports that it took along, where this goes along with them
  abbrev pub SeenAlong : Course S → ℕ → ℕ → Bool → Body S → Type 0
  SeenAlong c t i all_seen b = all_seen ≡ false → b.row.seen ≡ map (λ q. face_of (port_at (c.before t).ports q)) (own_of c.wires i)

  -- actor i that is out for its step at t, before this step
  pub record IsBefore (c : Course S) (t i : ℕ) (all_seen : Bool) (b : Body S) : Type 0 where
    pub begun : c.from ≤ t
    pub state : slice_get (c.before t).states i ≡ Some b.actor
    pub edge : has_edge c.machine t b.actor ≡ true
    pub ports : b.row.ports ≡ gather (c.before t).ports (own_of c.wires i)
    pub none : b.recs.items ≡ []
    pub kit : HasKit c i b
    pub along : SeenAlong c t i all_seen b

  abbrev pub state_made : Option (Outcome S) → Option S
  state_made None = None
  state_made (Some o) = Some o.state

  abbrev pub ports_made : Option (Outcome S) → List PortView
  ports_made None = []
  ports_made (Some o) = o.ports

  -- actor i that is out for its step at t, after this step
  pub record IsAfter (c : Course S) (base t i : ℕ) (all_seen : Bool) (b : Body S) (flag : Bool) : Type 0 where
    pub state : state_made (outcome_in c i t) ≡ Some b.actor
    pub ports : b.row.ports ≡ ports_made (outcome_in c i t)
    pub did : b.recs.items ≡ records_at t (base + i) (whats_of (outcome_in c i t))
    pub flag_is : flag ≡ flag_of (outcome_in c i t)
    pub kit : HasKit c i b
    pub along : SeenAlong c t i all_seen b

  -- the next times in the pass of a side: its own are those after the step where an actor is back, and else those before the pass;
  -- those of the other side, where the own ports of those who are back show somebody something else, are that actor's first edge
  pub record AreTimes (c : Course S) (t : ℕ) (part : Bool) (back : List Bool) (count : ℕ) (others : Wires) (edge : ℕ → ℕ) (old : ℕ → Option ℕ) (other_count : ℕ) (mine theirs : List (Option ℕ)) : Type 0 where
    pub own : IsTable mine (λ i. pick (is_in back i) (ticked c i (t + 1)) (ready c i t)) count
    pub woke : IsTable theirs (λ j. woken (changed part (c.before t).ports (so_far c t back).ports others j) (edge j) (old j)) other_count
