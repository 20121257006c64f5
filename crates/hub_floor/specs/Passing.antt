-- One side whose pass is open at a time.
use Rattle.std.specs.Prelude.{◌≡◌, ℕ, ◌≤◌, List, length, Option, Bool, Box}
use Rattle.std.proofs.Common.{Global}
use Rattle.sim_base.specs.declared.time.Time.{Time}
use Rattle.sim_base.specs.declared.time.TheConstants.{LATEST_TICK}
use Rattle.port_rows.specs.Rows.{RowsView}
use Rattle.tick_law.specs.Course.{Course}
use Rattle.actor_turn.specs.declared.side.SideGear.{SideGear}
use Rattle.actor_turn.specs.Side.{edge_of, times_of}
use Rattle.away_rows.specs.declared.body.Body.{Body}
use Rattle.away_rows.specs.declared.marks.Marks.{Marks}
use Rattle.away_rows.specs.SidePass.{AreMarks, AllDueMarked, InPass, AreTimes, IsBefore}

module _ {S : Type 0} where
  -- who is due has a mark, those at home stand as after the steps of those who are back, and so do the next times of both sides
  pub record Passing (c : Course S) (base t from : ℕ) (part all_seen : Bool) (mine others : SideGear) (count other_count : ℕ) (old : ℕ → Option ℕ) (marks : Marks) (seats : List (Option (Box (Body S) Global))) (rows : RowsView) (next : List (Option Time)) : Type 0 where
    pub marks_are : AreMarks c t marks
    pub all_due : AllDueMarked c t marks
    pub pass : InPass c base t all_seen marks seats rows
    pub times : AreTimes c t part marks.back count others.wiring (edge_of others from) old other_count (times_of mine next) (times_of others next)

  -- actor i that is out for its step at t, before it
  pub record IsTask (c : Course S) (t i : ℕ) (all_seen : Bool) (b : Body S) : Type 0 where
    pub before : IsBefore c t i all_seen b
    pub own : length b.row.ports ≡ c.machine.own b.actor
    pub time : t ≤ LATEST_TICK
