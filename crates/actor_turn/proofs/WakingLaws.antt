-- One port more is looked at.
use Rattle.std.proofs.Common.{◌≡◌, ◌≢◌, ℕ, ◌+◌, ◌-◌, ◌<◌, ◌≤◌, ◌⊎◌, inl, inr, List, length, get_or, map, set, take, sym, ◌∙◌, ap, subst, arith, refl, zero, suc}
use Rattle.std.specs.Prelude.{Option, Some, Bool, true, false, ◌||◌}
use Rattle.std.proofs.lemmas.List.{get_or-set_same, get_or-set_other, length-set, length-take, get_or-take, set-get_or}
use Rattle.std.proofs.lemmas.Bool.{cases_eq}
use Rattle.sim_base.specs.declared.time.Time.{Time}
use Rattle.event_queue.specs.NextTimes.{time_of}
use Rattle.tick_law.specs.Wires.{owner_of, Has, AllApart}
use Rattle.tick_law.specs.Pass.{port_at}
use Rattle.tick_law.specs.Face.{differ}
use Rattle.model_laws.proofs.PortsPutBack.{has_or_not}
use Rattle.model_laws.proofs.OnePortMore.{apart_take, not_before}
use Rattle.model_laws.specs.SideTimes.{half_of, timed}
use Rattle.model_laws.proofs.SideTimesLaws.{half_in, length-half, number-timed}
use Rattle.model_laws.proofs.WokenByChanges.{Woke, woke_none, woke_skip, woke_more, elsewhere}
use Rattle.port_row.specs.declared.face.Face.{Face}
use Rattle.port_row.specs.Row.{face_at, face_of, no_face}
use Rattle.port_row.proofs.RowLaws.{face-map}
use Rattle.port_rows.specs.Rows.{RowsView, other_face, settled_at}
use Rattle.actor_turn.specs.declared.side.SideGear.{SideGear}
use Rattle.actor_turn.specs.Waking.{CanWake, woken_by, shows_other, Waking}
use Rattle.actor_turn.specs.Side.{edge_of}

same_differ : (a : Bool) → differ a a ≡ false
same_differ true = refl
same_differ false = refl

no_other : (part : Bool) (a b : Face) → a ≡ b → other_face part a b ≡ false
no_other true a b e = ap (λ f. other_face true f b) e ∙ ap (λ x. x || differ b.out_room b.out_room) (same_differ b.in_head) ∙ same_differ b.out_room
no_other false a b e = ap (λ f. other_face false f b) e ∙ ap (λ x. x || differ b.in_room b.in_room) (same_differ b.out_head) ∙ same_differ b.in_room

pub can_wake_still : (side : SideGear) (ports : ℕ) (start next : List (Option Time)) → CanWake side ports start → length next ≡ length start → CanWake side ports next
can_wake_still side ports start next can e =
    let count = length side.periods.items in
    let same : length (half_of side.first count next) ≡ length (half_of side.first count start) = length-half side.first count next ∙ sym (length-half side.first count start) in
    record {
      wakes = record {
        wired = can.wakes.wired;
        owner = can.wakes.owner;
        owned = λ q b. omega (arith, can.wakes.owned q b, same);
        all = can.wakes.all ∙ sym same;
        held = can.wakes.held;
      };
      here = omega (arith, can.here, e);
      few = can.few;
    }

-- how many ports there are is told by the table of owners
pub can_wake_owner : (side : SideGear) (ports : ℕ) (next : List (Option Time)) → CanWake side ports next → CanWake side (length side.wiring.owner) next
can_wake_owner side ports next can = subst (λ n. CanWake side n next) (sym can.wakes.owner) can

pub waking_none : (part : Bool) (own : List ℕ) (others : SideGear) (from : ℕ) (old : RowsView) (start : List (Option Time)) → Waking part own others from old start 0 old start
waking_none part own others from old start =
    let count = length others.periods.items in
    record {
      ports = refl;
      wires = refl;
      long = refl;
      settled = λ q h. absurd (omega (arith, h.1));
      left = λ q h. refl;
      all = refl;
      rest = λ i out. refl;
      woken = woke_none (shows_other part old) own others.wiring (edge_of others from) (half_of others.first count start) count (length-half others.first count start);
    }

-- one of the first places that is not the last of them
has_before : (own : List ℕ) (at r : ℕ) → at < length own → Has (take (at + 1) own) r → r ≢ get_or own at 0 → Has (take at own) r
has_before own at r b (j, l, e) n =
    let below : j < at + 1 = omega (arith, l, length-take (at + 1) own) in
    let is : get_or own j 0 ≡ r = sym (get_or-take (at + 1) own j 0 below) ∙ e in
    let other : j ≢ at = λ f. n (sym is ∙ ap (λ i. get_or own i 0) f) in
    let less : j < at = omega (arith, below, other) in
    (j, omega (arith, less, length-take at own, b), get_or-take at own j 0 less ∙ is)

-- a port that shows what was seen of it
pub waking_skip : (part : Bool) (own : List ℕ) (others : SideGear) (from : ℕ) (old : RowsView) (start : List (Option Time)) (at : ℕ) (now : RowsView) (next : List (Option Time)) → AllApart own → at < length own → Waking part own others from old start at now next → face_at now.seen (get_or own at 0) ≡ face_of (port_at now.ports (get_or own at 0)) → Waking part own others from old start (at + 1) now next
waking_skip part own others from old start at now next apart b was same =
    let count = length others.periods.items in
    let q = get_or own at 0 in
    let here : face_at now.seen q ≡ face_of (port_at old.ports q) = same ∙ ap (λ l. face_of (port_at l q)) was.ports in
    let seen : face_at old.seen q ≡ face_of (port_at old.ports q) = sym (was.left q (λ h. apart_take own at apart b h)) ∙ here in
    record {
      ports = was.ports;
      wires = was.wires;
      long = was.long;
      settled = λ r h. settled r h (cases_eq r q) (has_or_not (take at own) r);
      left = λ r n. was.left r (not_before own at r b n).0;
      all = was.all;
      rest = was.rest;
      woken = woke_skip (shows_other part old) own others.wiring (edge_of others from) (half_of others.first count start) (half_of others.first count next) at count b (no_other part (face_at old.seen q) (face_of (port_at old.ports q)) seen) was.woken;
    }
  where
    settled : (r : ℕ) → Has (take (at + 1) own) r → (r ≡ get_or own at 0) ⊎ (r ≡ get_or own at 0 → ⊥) → Has (take at own) r ⊎ (Has (take at own) r → ⊥) → face_at now.seen r ≡ face_of (port_at old.ports r)
    settled r h (inl e) o = ap (λ i. face_at now.seen i) e ∙ same ∙ ap (λ l. face_of (port_at l (get_or own at 0))) was.ports ∙ ap (λ i. face_of (port_at old.ports i)) (sym e)
    settled r h (inr n) (inl o) = was.settled r o
    settled r h (inr n) (inr o) = absurd (o (has_before own at r b h n))

-- a port that may show something else, and is settled
pub waking_more : (part : Bool) (own : List ℕ) (others : SideGear) (ports from : ℕ) (old : RowsView) (start : List (Option Time)) (at : ℕ) (now new : RowsView) (next next' : List (Option Time)) → AllApart own → at < length own → get_or own at 0 < ports → CanWake others ports start → Waking part own others from old start at now next → get_or own at 0 < length now.seen →
    new ≡ record now { seen = set now.seen (get_or own at 0) (face_of (port_at now.ports (get_or own at 0))) } →
    next' ≡ woken_by (shows_other part now (get_or own at 0)) others (get_or own at 0) from next →
    Waking part own others from old start (at + 1) new next'
waking_more part own others ports from old start at now new next next' apart b here can was within is woke =
    let count = length others.periods.items in
    let q = get_or own at 0 in
    let face = face_of (port_at now.ports q) in
    let same : face ≡ face_of (port_at old.ports q) = ap (λ l. face_of (port_at l q)) was.ports in
    let shows : shows_other part now q ≡ shows_other part old q = ap (λ f. other_face part f face) (was.left q (λ h. apart_take own at apart b h)) ∙ ap (other_face part (face_at old.seen q)) same in
    record {
      ports = ap (λ (v : RowsView). v.ports) is ∙ was.ports;
      wires = ap (λ (v : RowsView). v.wires) is ∙ was.wires;
      long = ap (λ (v : RowsView). length v.seen) is ∙ length-set now.seen q face ∙ was.long;
      settled = λ r h. ap (λ (v : RowsView). face_at v.seen r) is ∙ settled r h (cases_eq r q);
      left = λ r n. ap (λ (v : RowsView). face_at v.seen r) is ∙ get_or-set_other now.seen q r face no_face (not_before own at r b n).1 ∙ was.left r (not_before own at r b n).0;
      all = ap length (woke ∙ ap (λ x. woken_by x others q from next) shows) ∙ all_by (shows_other part old q) ∙ was.all;
      rest = λ i out. ap (λ l. time_of l i) (woke ∙ ap (λ x. woken_by x others q from next) shows) ∙ rest_by (shows_other part old q) i out ∙ was.rest i out;
      woken = subst (λ l. Woke (shows_other part old) own others.wiring (edge_of others from) (half_of others.first count start) (half_of others.first count l) (at + 1) count) (sym (woke ∙ ap (λ x. woken_by x others q from next) shows)) (woken_more (shows_other part old q) refl);
    }
  where
    owned : owner_of others.wiring (get_or own at 0) < length others.periods.items
    owned = omega (arith, can.wakes.owned (get_or own at 0) here, can.wakes.all)

    settled : (r : ℕ) → Has (take (at + 1) own) r → (r ≡ get_or own at 0) ⊎ (r ≡ get_or own at 0 → ⊥) → face_at (set now.seen (get_or own at 0) (face_of (port_at now.ports (get_or own at 0)))) r ≡ face_of (port_at old.ports r)
    settled r h (inl e) =
        ap (λ i. face_at (set now.seen (get_or own at 0) (face_of (port_at now.ports (get_or own at 0)))) i) e
        ∙ get_or-set_same now.seen (get_or own at 0) (face_of (port_at now.ports (get_or own at 0))) no_face within
        ∙ ap (λ l. face_of (port_at l (get_or own at 0))) was.ports ∙ ap (λ i. face_of (port_at old.ports i)) (sym e)
    settled r h (inr n) = get_or-set_other now.seen (get_or own at 0) r (face_of (port_at now.ports (get_or own at 0))) no_face n ∙ was.settled r (has_before own at r b h n)

    all_by : (x : Bool) → length (woken_by x others (get_or own at 0) from next) ≡ length next
    all_by true = length-set next (others.first + owner_of others.wiring (get_or own at 0)) (timed (Some (edge_of others from (owner_of others.wiring (get_or own at 0)))))
    all_by false = refl

    rest_by : (x : Bool) (i : ℕ) → (i < others.first) ⊎ (others.first + length others.periods.items ≤ i) → time_of (woken_by x others (get_or own at 0) from next) i ≡ time_of next i
    rest_by true i out = elsewhere next others.first (length others.periods.items) (owner_of others.wiring (get_or own at 0)) i (timed (Some (edge_of others from (owner_of others.wiring (get_or own at 0))))) owned out
    rest_by false i out = refl

    woken_more : (x : Bool) → shows_other part old (get_or own at 0) ≡ x → Woke (shows_other part old) own others.wiring (edge_of others from) (half_of others.first (length others.periods.items) start) (half_of others.first (length others.periods.items) (woken_by x others (get_or own at 0) from next)) (at + 1) (length others.periods.items)
    woken_more true e =
        let count = length others.periods.items in
        let j = owner_of others.wiring (get_or own at 0) in
        let room : others.first + j < length next = omega (arith, owned, was.all, can.here) in
        let half : half_of others.first count (woken_by true others (get_or own at 0) from next) ≡ set (half_of others.first count next) j (Some (edge_of others from j)) =
        half_in others.first count j next (timed (Some (edge_of others from j))) owned room ∙ ap (set (half_of others.first count next) j) (number-timed (Some (edge_of others from j))) in
        woke_more (shows_other part old) own others.wiring ports (edge_of others from) (half_of others.first count start) (half_of others.first count next) (half_of others.first count (woken_by true others (get_or own at 0) from next)) at count can.wakes.wired b here owned e half was.woken
    woken_more false e = woke_skip (shows_other part old) own others.wiring (edge_of others from) (half_of others.first (length others.periods.items) start) (half_of others.first (length others.periods.items) next) at (length others.periods.items) b e was.woken

-- several that show what was seen of them
waking_skips : (part : Bool) (own : List ℕ) (others : SideGear) (from : ℕ) (old : RowsView) (start : List (Option Time)) (at n : ℕ) (now : RowsView) (next : List (Option Time)) → AllApart own → at + n ≤ length own → Waking part own others from old start at now next → ((k : ℕ) → at ≤ k → k < at + n → face_at now.seen (get_or own k 0) ≡ face_of (port_at now.ports (get_or own k 0))) → Waking part own others from old start (at + n) now next
waking_skips part own others from old start at zero now next apart b was same = subst (λ k. Waking part own others from old start k now next) (let z : at ≡ at + 0 = omega arith in z) was
waking_skips part own others from old start at (suc n) now next apart b was same =
    let before = waking_skips part own others from old start at n now next apart (omega (arith, b)) was (λ k a l. same k a (omega (arith, l))) in
    subst (λ k. Waking part own others from old start k now next) (let z : at + n + 1 ≡ at + suc n = omega arith in z)
    (waking_skip part own others from old start (at + n) now next apart (omega (arith, b)) before (same (at + n) (omega arith) (omega arith)))

pub waking_to : (part : Bool) (own : List ℕ) (others : SideGear) (from : ℕ) (old : RowsView) (start : List (Option Time)) (at to : ℕ) (now : RowsView) (next : List (Option Time)) → AllApart own → at ≤ to → to ≤ length own → Waking part own others from old start at now next → ((k : ℕ) → at ≤ k → k < to → face_at now.seen (get_or own k 0) ≡ face_of (port_at now.ports (get_or own k 0))) → Waking part own others from old start to now next
waking_to part own others from old start at to now next apart a b was same =
    let e : at + (to - at) ≡ to = omega (arith, a) in
    subst (λ k. Waking part own others from old start k now next) e (waking_skips part own others from old start at (to - at) now next apart (omega (arith, e, b)) was (λ k c d. same k c (omega (arith, d, e))))

-- a port that is settled again stays as it was seen
pub settled_still : (v : RowsView) (q : ℕ) → q < length v.ports → v.seen ≡ map face_of v.ports → settled_at v q ≡ v
settled_still v q b seen =
    let same : face_of (port_at v.ports q) ≡ face_at v.seen q = sym (ap (λ l. face_at l q) seen ∙ face-map v.ports q b) in
    ap (λ f. let x : RowsView = record v { seen = set v.seen q f } in x) same
    ∙ ap (λ l. let x : RowsView = record v { seen = l } in x) (set-get_or v.seen q no_face)

-- ports that all show what was seen of them wake nobody
pub waking_still : (part : Bool) (own : List ℕ) (others : SideGear) (from : ℕ) (v : RowsView) (start : List (Option Time)) → AllApart own → ((q : ℕ) → Has own q → q < length v.ports) → v.seen ≡ map face_of v.ports → Waking part own others from v start (length own) v start
waking_still part own others from v start apart within seen =
    waking_to part own others from v start 0 (length own) v start apart (omega arith) (omega arith) (waking_none part own others from v start)
    (λ k a b. ap (λ l. face_at l (get_or own k 0)) seen ∙ face-map v.ports (get_or own k 0) (within (get_or own k 0) (k, b, refl)))
