-- An actor that was out is back.
use Rattle.std.proofs.Common.{◌≡◌, ℕ, ◌+◌, ◌<◌, ◌≤◌, List, length, set, sym, ◌∙◌, ap, refl, Global}
use Rattle.std.specs.Prelude.{Option, Some, Bool, true, false, ◌||◌, Box, nat_le}
use Rattle.sim_base.specs.declared.time.Time.{Time}
use Rattle.sim_base.specs.declared.time.TheConstants.{LATEST_TICK}
use Rattle.event_queue.specs.NextTimes.{time_of}
use Rattle.bit_set.specs.Bits.{is_in}
use Rattle.port_rows.specs.Rows.{RowsView}
use Rattle.tick_law.specs.Wires.{own_of}
use Rattle.tick_law.specs.Course.{Course, outcome_in, period, flag}
use Rattle.tick_law.specs.NextTime.{due_is}
use Rattle.tick_law.specs.Outcomes.{flag_of}
use Rattle.tick_law.specs.SerialLoop.{pick}
use Rattle.model_laws.specs.SideTimes.{number_of, timed}
use Rattle.model_laws.specs.Pass.{scatter}
use Rattle.model_laws.proofs.SideCourse.{IsCourse}
use Rattle.model_laws.proofs.StepsFromStart.{begun_all}
use Rattle.actor_turn.specs.declared.side.SideGear.{SideGear}
use Rattle.actor_turn.specs.Side.{edge_of, times_of}
use Rattle.actor_turn.specs.Next.{left_by}
use Rattle.actor_turn.specs.Waking.{Waking}
use Rattle.away_rows.specs.declared.body.Body.{Body}
use Rattle.away_rows.specs.declared.marks.Marks.{Marks}
use Rattle.away_rows.specs.Marks.{finished}
use Rattle.away_rows.specs.Bodies.{SeatSet}
use Rattle.away_rows.specs.SidePass.{stirs_so_far, IsAfter}
use Rattle.away_rows.proofs.SideLaws.{IsSide, due_back}
use Rattle.away_rows.proofs.TimesLaws.{Halves}
use Rattle.hub_laws.specs.Events.{next_left, shows_some, woken_all}
use Rattle.hub_laws.proofs.SideBack.{SeenBack, side_back}
use Rattle.hub_floor.specs.Passing.{Passing}

nat_true : (a b : ℕ) → a ≤ b → nat_le a b ≡ true
nat_true a b l = ap (λ (who : ℕ → Bool). who 0) (begun_all a b l)

pub or_more : (a b c : Bool) → ((a || b) || c) ≡ (a || (b || c))
or_more true b c = refl
or_more false b c = refl

module _ {S : Type 0} where
  -- what it tells of progress is the loop's flag
  pub flag_told : (c : Course S) (base t i : ℕ) (all_seen : Bool) (b : Body S) (told : Bool) → c.from ≤ t → IsAfter c base t i all_seen b told → told ≡ flag c i t
  flag_told c base t i all_seen b told from after = after.flag_is ∙ sym (ap (λ x. pick x (flag_of (outcome_in c i t)) (due_is (c.first i) (t + period c i))) (nat_true c.from t from))

  pub record CameBack (c : Course S) (base t from i : ℕ) (part all_seen : Bool) (mine others : SideGear) (count other_count : ℕ) (old : ℕ → Option ℕ) (marks : Marks) (seats : List (Option (Box (Body S) Global))) (rows : RowsView) (next next2 : List (Option Time)) (told : Bool) : Type 0 where
    pub passing : Passing c base t from part all_seen mine others count other_count old (finished marks i) seats rows next2
    pub stirs_are : stirs_so_far c t (set marks.back i true) ≡ (stirs_so_far c t marks.back || told)
    pub own_is : times_of mine next2 ≡ set (times_of mine next) i (next_left c i t)
    pub woke_is : times_of others next2 ≡ woken_all (λ j. shows_some part c i t (own_of others.wiring j)) (edge_of others from) (times_of others next)

  pub comes_back : (c : Course S) (valid : S → Type 0) (base t from i : ℕ) (part all_seen : Bool) (mine others : SideGear) (count other_count : ℕ) (old : ℕ → Option ℕ) (marks : Marks) (seats new : List (Option (Box (Body S) Global))) (rows back now : RowsView) (next next1 next2 : List (Option Time)) (b put : Body S) (told : Bool) →
      IsCourse c valid LATEST_TICK → t < LATEST_TICK → IsSide c t → Halves c t mine others count other_count next → Passing c base t from part all_seen mine others count other_count old marks seats rows next → is_in marks.out i ≡ true → IsAfter c base t i all_seen b told →
      SeatSet seats new i (Some put) → put.actor ≡ b.actor → put.recs ≡ b.recs → length put.row.ports ≡ length (own_of c.wires i) → length put.row.seen ≡ length (own_of c.wires i) →
      back.ports ≡ scatter rows.ports (own_of c.wires i) b.row.ports → SeenBack c t all_seen (own_of c.wires i) rows back b.row.seen →
      next1 ≡ set next (mine.first + i) (timed (left_by c.machine t told (number_of (time_of next (mine.first + i))) b.actor)) →
      Waking part (own_of c.wires i) others from back next1 (length (own_of c.wires i)) now next2 →
      CameBack c base t from i part all_seen mine others count other_count old marks new now next next2 told
  comes_back c valid base t from i part all_seen mine others count other_count old marks seats new rows back now next next1 next2 b put told is l side halves was out after sat actor recs ports_long seen_long moved seen noted w =
      let done = side_back c valid LATEST_TICK base t i from part all_seen marks mine others count other_count seats new rows back now b put told old next next1 next2 is l side halves was.marks_are was.pass out after sat actor recs ports_long seen_long moved seen noted w was.times in
      record {
        passing = record {
          marks_are = done.finished.marks_are;
          all_due = due_back c t marks i was.marks_are out was.all_due;
          pass = done.finished.pass;
          times = done.times;
        };
        stirs_are = done.finished.stirs_are;
        own_is = done.own_is;
        woke_is = done.woke_is;
      }
