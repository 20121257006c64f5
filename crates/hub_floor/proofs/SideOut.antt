-- An actor that waits goes out.
use Rattle.std.proofs.Common.{◌≡◌, ℕ, ◌≤◌, List, ◌∙◌, Global}
use Rattle.std.specs.Prelude.{Option, Some, None, Bool, true, Box}
use Rattle.sim_base.specs.declared.time.Time.{Time}
use Rattle.sim_base.specs.declared.time.TheConstants.{LATEST_TICK}
use Rattle.bit_set.specs.Bits.{is_in}
use Rattle.port_rows.specs.Rows.{RowsView}
use Rattle.tick_law.specs.Wires.{own_of}
use Rattle.tick_law.specs.Course.{Course}
use Rattle.model_laws.proofs.SideCourse.{IsCourse}
use Rattle.actor_turn.specs.declared.side.SideGear.{SideGear}
use Rattle.away_rows.specs.declared.body.Body.{Body}
use Rattle.away_rows.specs.declared.marks.Marks.{Marks}
use Rattle.away_rows.specs.Marks.{claimed}
use Rattle.away_rows.specs.Bodies.{body_at, SeatSet}
use Rattle.away_rows.proofs.SideLaws.{IsSide, Leaves, side_claims, due_still}
use Rattle.hub_floor.specs.Passing.{Passing, IsTask}

module _ {S : Type 0} where
  pub record WentOut (c : Course S) (base t from i : ℕ) (part all_seen : Bool) (mine others : SideGear) (count other_count : ℕ) (old : ℕ → Option ℕ) (marks : Marks) (seats : List (Option (Box (Body S) Global))) (rows : RowsView) (next : List (Option Time)) (taken : Body S) : Type 0 where
    pub passing : Passing c base t from part all_seen mine others count other_count old (claimed marks i) seats rows next
    pub task : IsTask c t i all_seen taken

  pub goes_out : (c : Course S) (valid : S → Type 0) (base t from i : ℕ) (part all_seen : Bool) (mine others : SideGear) (count other_count : ℕ) (old : ℕ → Option ℕ) (marks : Marks) (seats new : List (Option (Box (Body S) Global))) (rows rows' : RowsView) (next : List (Option Time)) (b taken : Body S) →
      IsCourse c valid LATEST_TICK → t ≤ LATEST_TICK → IsSide c t → Passing c base t from part all_seen mine others count other_count old marks seats rows next → is_in marks.waiting i ≡ true →
      body_at seats i ≡ Some b → SeatSet seats new i None → Leaves all_seen (own_of c.wires i) rows rows' b taken →
      WentOut c base t from i part all_seen mine others count other_count old marks new rows' next taken
  goes_out c valid base t from i part all_seen mine others count other_count old marks seats new rows rows' next b taken is l side was waits sits gone left =
      let done = side_claims c base t i all_seen marks seats new rows rows' b taken side was.marks_are was.pass waits sits gone left in
      record {
        passing = record {
          marks_are = done.marks_are;
          all_due = due_still c t marks i was.marks_are waits was.all_due;
          pass = done.pass;
          times = was.times;
        };
        task = record {
          before = done.before;
          own = done.before.kit.ports ∙ ((is.sound t l).states i taken.actor done.before.state).1;
          time = l;
        };
      }
