-- Lists of optional times that are kept apart and read as one.
use Rattle.std.specs.Prelude.{◌≡◌, ℕ, ◌≤◌, nat_lt, ◌==◌, ◌&&◌, ◌||◌, Bool, cond, List, length, map, Option, Some, None}
use Rattle.std.specs.List.{range_with_len}
use Rattle.sim_base.specs.declared.time.Time.{Time}
use Rattle.event_queue.specs.declared.key.Key.{Key}
use Rattle.event_queue.specs.NextTimes.{time_of}

-- the actors of a set have this time, and the others none
abbrev pub time_in : Time → Bool → Option Time
time_in t is = cond is (Some t) None

abbrev pub times_in : Time → List Bool → List (Option Time)
times_in t actors = map (time_in t) actors

-- the first of two times that is there
abbrev pub or_time : Option Time → Option Time → Option Time
or_time None u = u
or_time (Some t) u = Some t

-- of each actor its time by the first list, or else by the second
abbrev pub merged : List (Option Time) → List (Option Time) → List (Option Time)
merged x y = map (λ i. or_time (time_of x i) (time_of y i)) (range_with_len 0 (length x))

-- no actor has a time in both
pub record IsApart (x y : List (Option Time)) : Type 0 where
  pub same_length : length y ≡ length x
  pub apart : (i : ℕ) (t : Time) → time_of x i ≡ Some t → time_of y i ≡ None

-- no actor has a time
abbrev pub NoTimes : List (Option Time) → Type 0
NoTimes times = (i : ℕ) → time_of times i ≡ None

-- this is the least time of all, and the least actor that has it
pub record IsLeastKey (times : List (Option Time)) (key : Key) : Type 0 where
  pub there : time_of times key.who.0 ≡ Some key.time
  pub least : (i : ℕ) (t : Time) → time_of times i ≡ Some t → key.time.0 ≤ t.0
  pub lowest : (i : ℕ) → time_of times i ≡ Some key.time → key.who.0 ≤ i

-- the least pair, or None where no actor has a time
abbrev pub IsLeastIn : List (Option Time) → Option Key → Type 0
IsLeastIn times None = NoTimes times
IsLeastIn times (Some key) = IsLeastKey times key

-- the lesser of two pairs, by time and at one time by actor
abbrev pub is_less : Key → Key → Bool
is_less b a = nat_lt b.time.0 a.time.0 || ((b.time.0 == a.time.0) && nat_lt b.who.0 a.who.0)

abbrev pub lesser_of : Option Key → Option Key → Option Key
lesser_of None o = o
lesser_of (Some a) None = Some a
lesser_of (Some a) (Some b) = cond (is_less b a) (Some b) (Some a)
