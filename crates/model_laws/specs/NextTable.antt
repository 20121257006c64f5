-- Tables of next times.
use Rattle.std.specs.Prelude.{◌≡◌, ℕ, ◌+◌, ◌/◌, ◌<◌, List, length, Option, Some, None, Bool, true, false, slice_index_or}
use Rattle.tick_law.specs.Machine.{Machine, Outcome}
use Rattle.tick_law.specs.Pass.{has_edge, pass}
use Rattle.tick_law.specs.NextTime.{woken, due_is, times}
use Rattle.tick_law.specs.Course.{Course, awake, part_course, link_course, period, timer, ready}
use Rattle.tick_law.specs.SerialLoop.{System, world_at, mid, parts_of, links_of}
use Rattle.tick_law.specs.Outcomes.{steps_of}
use Rattle.model_laws.specs.Stepping.{Stepping, Everyone, Due}

abbrev pub next_at_place : List (Option ℕ) → ℕ → Option ℕ
next_at_place next i = slice_index_or next i None

-- whose next time is t
abbrev pub due_in : List (Option ℕ) → ℕ → ℕ → Bool
due_in next t i = due_is (next_at_place next i) t

-- who steps in a pass at t, of those with an edge there
abbrev pub chosen : Stepping → List (Option ℕ) → ℕ → ℕ → Bool
chosen Everyone next t i = true
chosen Due next t i = due_in next t i

-- the table has these next times
pub record IsTable (next : List (Option ℕ)) (is : ℕ → Option ℕ) (count : ℕ) : Type 0 where
  pub long : length next ≡ count
  pub at : (i : ℕ) → i < count → next_at_place next i ≡ is i

module _ {S : Type 0} where
  -- the next time that a step with this flag at t leaves to an actor that is now in state s
  abbrev pub next_by : Bool → Machine S → ℕ → Bool → Option ℕ → S → Option ℕ
  next_by true m t flag old s = woken flag (t + m.period s) (times (m.period s) (m.due s (t / m.period s)))
  next_by false m t flag old s = old

  abbrev pub next_seat : Machine S → ℕ → Bool → Option ℕ → Option (Option S) → Option ℕ
  next_seat m t flag old None = old
  next_seat m t flag old (Some None) = old
  next_seat m t flag old (Some (Some s)) = next_by (has_edge m t s) m t flag old s

  -- whose steps a pass at t takes, told by the serial loop alone
  abbrev pub counted : Stepping → Course S → ℕ → ℕ → Bool
  counted Everyone c t i = true
  counted Due c t i = awake c i t

module _ {P N : Type 0} where
  -- how many steps a time takes
  abbrev pub steps_now : Stepping → System P N → ℕ → ℕ
  steps_now stepping r t =
      steps_of r.part r.part_wires (counted stepping (part_course r) t) t (parts_of (world_at r t))
      + steps_of r.link r.link_wires (counted stepping (link_course r) t) t (links_of (mid r t))

module _ {S : Type 0} where
  -- whose next time is t, told by the serial loop alone
  abbrev pub due_at_time : Course S → ℕ → ℕ → Bool
  due_at_time c t i = due_is (ready c i t) t

  -- the next time that an actor's step leaves: a period on with the flag, else its timer
  abbrev pub next_after : Machine S → ℕ → Option (Outcome S) → Option ℕ → Option ℕ
  next_after m t None old = old
  next_after m t (Some st) old = woken st.flag (t + m.period st.state) (times (m.period st.state) (m.due st.state (t / m.period st.state)))
