-- The machine of events: what may happen, where it may happen, and what it changes.
use Rattle.std.specs.Prelude.{◌≡◌, ℕ, ◌+◌, ◌≤◌, ◌<◌, ◌^◌, ◌-◌, ◌==◌, ◌&&◌, ◌||◌, ◌⊎◌, min, nat_le, not, List, [], ◌∷◌, length, map, Option, Some, None, Bool, true, false, slice_set}
use Rattle.std.proofs.Common.{zero, suc}
use Rattle.bit_set.specs.Bits.{is_in}
use Rattle.sim_base.specs.Edge.{edge_from, edge_after}
use Rattle.tick_law.specs.Pass.{map_index}
use Rattle.tick_law.specs.Wires.{own_of}
use Rattle.tick_law.specs.NextTime.{woken, due_is}
use Rattle.tick_law.specs.SerialLoop.{System, pick}
use Rattle.tick_law.specs.Course.{Course, any_of, part_course, link_course, period, flag, timer, after}
use Rattle.model_laws.specs.NextTable.{next_at_place}
use Rattle.model_laws.specs.Changed.{changed_of}
use Rattle.away_rows.specs.declared.marks.Marks.{Marks}
use Rattle.away_rows.specs.Marks.{no_marks, claimed, finished}
use Rattle.hub_laws.specs.declared.stage.Stage.{Stage}
use Rattle.hub_laws.specs.declared.stage.Stage.TheVariants.{Boundary, Primary, Secondary, Over}
use Rattle.hub_laws.specs.HubState.{HubState}

-- those whose time is t
abbrev pub those_at : List (Option ℕ) → ℕ → List Bool
those_at times t = map (λ o. due_is o t) times

-- those of either set
abbrev pub either_of : List Bool → List Bool → List Bool
either_of xs ys = map_index (λ i x. x || is_in ys i) 0 xs

-- nobody is in
abbrev pub is_none : List Bool → Bool
is_none [] = true
is_none (x ∷ xs) = not x && is_none xs

-- a time that is t is none
abbrev pub unless_at : ℕ → Option ℕ → Option ℕ
unless_at t None = None
unless_at t (Some n) = pick (n == t) None (Some n)

-- the times other than t
abbrev pub without : List (Option ℕ) → ℕ → List (Option ℕ)
without times t = map (unless_at t) times

-- how many of the first so many pass a test
abbrev pub count_to : (ℕ → Bool) → ℕ → ℕ
count_to test zero = 0
count_to test (suc n) = count_to test n + pick (test n) 1 0

-- part i was asked to step at t, which is not its next time: it steps for that alone
abbrev pub asked_only : List (Option ℕ) → List (Option ℕ) → ℕ → ℕ → Bool
asked_only asked next t i = due_is (next_at_place asked i) t && not (due_is (next_at_place next i) t)

-- a count stands still at its greatest number
abbrev pub counted : ℕ → ℕ → ℕ
counted n more = min (n + more) (2 ^ 64 - 1)

-- these wait
abbrev pub waiting_in : Marks → List Bool → Marks
waiting_in marks waiting = record marks { waiting = waiting }

-- nobody has a mark any more
abbrev pub cleared : Marks → Marks
cleared marks = no_marks (length marks.waiting)

-- a set of marks of which none waits and none is out
abbrev pub all_back : Marks → Bool
all_back marks = is_none marks.waiting && is_none marks.out

-- all those are woken at their edges
abbrev pub woken_all : (ℕ → Bool) → (ℕ → ℕ) → List (Option ℕ) → List (Option ℕ)
woken_all test edge times = map_index (λ j o. woken (test j) (edge j) o) 0 times

module _ {S : Type 0} where
  -- the next time that the step of actor i at its edge t leaves it: a period on with the flag, else its timer, or none
  abbrev pub next_left : Course S → ℕ → ℕ → Option ℕ
  next_left c i t = woken (flag c i t) (t + period c i) (timer c i t)

  -- the step of actor i at t changed the face of one of these ports (towards the parts: true, or the links: false)
  abbrev pub shows_some : Bool → Course S → ℕ → ℕ → List ℕ → Bool
  shows_some part c i t own = any_of (changed_of part (c.before t).ports (after c t).ports (own_of c.wires i)) own

-- the least of all next times and asked edges is t
pub record IsLeastTime (s : HubState) (t : ℕ) : Type 0 where
  pub there : ((i : ℕ) × (next_at_place s.part_next i ≡ Some t)) ⊎ (((i : ℕ) × (next_at_place s.link_next i ≡ Some t)) ⊎ ((i : ℕ) × (next_at_place s.asked i ≡ Some t)))
  pub part_least : (i n : ℕ) → next_at_place s.part_next i ≡ Some n → t ≤ n
  pub link_least : (i n : ℕ) → next_at_place s.link_next i ≡ Some n → t ≤ n
  pub asked_least : (i n : ℕ) → next_at_place s.asked i ≡ Some n → t ≤ n

-- no next time and no asked edge is up to this time
pub record NoneBy (until : ℕ) (s : HubState) : Type 0 where
  pub parts : (i n : ℕ) → next_at_place s.part_next i ≡ Some n → until < n
  pub links : (i n : ℕ) → next_at_place s.link_next i ≡ Some n → until < n
  pub asks : (i n : ℕ) → next_at_place s.asked i ≡ Some n → until < n

-- Flip: the links whose next time it is wait
abbrev pub flipped : HubState → HubState
flipped s = record s { stage = Secondary; link_marks = waiting_in s.link_marks (those_at s.link_next s.at) }

-- where no part waits, the pass of the links is open at once
abbrev pub begun_with : Bool → HubState → HubState
begun_with true s = flipped s
begun_with false s = s

-- the parts whose next time or asked edge is t
abbrev pub due_parts : HubState → ℕ → List Bool
due_parts s t = either_of (those_at s.part_next t) (those_at s.asked t)

-- Open, first for the parts: those whose next time or asked edge is t wait, and are asked no more
abbrev pub parts_opened : HubState → ℕ → HubState
parts_opened s t = record s {
  stage = Primary;
  at = t;
  part_marks = waiting_in s.part_marks (due_parts s t);
  asked = without s.asked t;
  extra = counted s.extra (count_to (asked_only s.asked s.part_next t) (length s.asked));
}

-- Open: the parts that are due wait, or else the links
abbrev pub opened : HubState → ℕ → HubState
opened s t = begun_with (is_none (due_parts s t)) (parts_opened s t)

-- it may come at a boundary where no write failed, which is not paused and where nobody wants to look
pub record MayOpen (until : ℕ) (s : HubState) (t : ℕ) : Type 0 where
  pub stage : s.stage ≡ Boundary
  pub written : s.failed ≡ false
  pub goes_on : s.paused ≡ false
  pub unwanted : s.wants ≡ 0
  pub least : IsLeastTime s t
  pub within : t ≤ until

-- Claim: one that waits is out
abbrev pub part_claimed : HubState → ℕ → HubState
part_claimed s i = record s { part_marks = claimed s.part_marks i }

abbrev pub link_claimed : HubState → ℕ → HubState
link_claimed s i = record s { link_marks = claimed s.link_marks i }

-- Close: the time is over
abbrev pub closed : Bool → HubState → HubState
closed failed s = record s {
  stage = Boundary;
  at = s.at + 1;
  part_marks = cleared s.part_marks;
  link_marks = cleared s.link_marks;
  end = pick s.stirred s.at s.end;
  stirred = false;
  failed = failed;
}

-- End: at the boundary behind the greatest time, or where a write failed at this boundary
abbrev pub ended : ℕ → HubState → HubState
ended until s = record s { stage = Over; at = pick s.failed s.at (until + 1) }

pub record MayEnd (until : ℕ) (s : HubState) : Type 0 where
  pub stage : s.stage ≡ Boundary
  pub why : (s.failed ≡ true) ⊎ NoneBy until s

-- Look, where it was wanted; Want; Pause, Continue; and the word that nobody lingers, which no event reads
abbrev pub looked : HubState → HubState
looked s = record s { wants = s.wants - 1 }

abbrev pub wanted : HubState → HubState
wanted s = record s { wants = s.wants + 1 }

abbrev pub paused_to : Bool → HubState → HubState
paused_to paused s = record s { paused = paused }

abbrev pub left_now : HubState → HubState
left_now s = record s { left = true }

-- the edge at which a part of this period that is asked now steps: its first from a boundary, or its first after the time whose
-- pass is open
abbrev pub asked_edge : Stage → ℕ → ℕ → ℕ
asked_edge Boundary p d = edge_from p d
asked_edge Primary p t = edge_after t p
asked_edge Secondary p t = edge_after t p
asked_edge Over p d = edge_from p d

abbrev pub is_over : Stage → Bool
is_over Boundary = false
is_over Primary = false
is_over Secondary = false
is_over Over = true

-- AskTick: it is counted, and noted where the run is not over and the edge is not above the greatest time
abbrev pub ask_noted : Bool → HubState → ℕ → ℕ → HubState
ask_noted true s i e = record s { asks = counted s.asks 1; asked = slice_set s.asked i (Some e) }
ask_noted false s i e = record s { asks = counted s.asks 1 }

abbrev pub tick_asked : ℕ → HubState → ℕ → ℕ → HubState
tick_asked until s p i = ask_noted (not (is_over s.stage) && nat_le (asked_edge s.stage p s.at) until) s i (asked_edge s.stage p s.at)

module _ {P N : Type 0} where
  -- Finish: one that was out is back. Its next time is what its step left; the other owner of each port whose face the step changed
  -- is woken at its first edge: a link from this time on, a part after it
  abbrev pub part_finished : System P N → HubState → ℕ → HubState
  part_finished r s i = record s {
    part_marks = finished s.part_marks i;
    part_next = slice_set s.part_next i (next_left (part_course r) i s.at);
    link_next = woken_all (λ j. shows_some false (part_course r) i s.at (own_of r.link_wires j)) (λ j. edge_from (period (link_course r) j) s.at) s.link_next;
    stirred = s.stirred || flag (part_course r) i s.at;
  }

  abbrev pub link_finished : System P N → HubState → ℕ → HubState
  link_finished r s i = record s {
    link_marks = finished s.link_marks i;
    link_next = slice_set s.link_next i (next_left (link_course r) i s.at);
    part_next = woken_all (λ j. shows_some true (link_course r) i s.at (own_of r.part_wires j)) (λ j. edge_from (period (part_course r) j) (s.at + 1)) s.part_next;
    stirred = s.stirred || flag (link_course r) i s.at;
  }
