-- The pass of a side opens, where everybody is at home.
use Rattle.std.proofs.Common.{◌≡◌, ◌≢◌, ℕ, zero, suc, ◌+◌, ◌<◌, inr, List, [], ◌∷◌, length, get_or, map, replicate, sym, ◌∙◌, ap, subst, arith, refl, Global}
use Rattle.std.specs.Prelude.{Option, Some, None, Bool, true, false, ◌||◌, ◌==◌, Box}
use Rattle.std.proofs.lemmas.List.{same_lists, get_or_default, length-map, length-replicate}
use Rattle.std.proofs.lemmas.Bool.{eq-eqb}
use Rattle.sim_base.specs.declared.time.Time.{Time}
use Rattle.event_queue.specs.NextTimes.{time_of}
use Rattle.event_queue.specs.Mark.{AllMarked}
use Rattle.bit_set.specs.Bits.{is_in}
use Rattle.port_msg.specs.PortView.{PortView, port_view}
use Rattle.port_msg.specs.declared.records.Record.{Record}
use Rattle.port_row.specs.Row.{face_at, face_of, no_face}
use Rattle.port_rows.specs.Rows.{RowsView, settled_rows}
use Rattle.tick_law.specs.Wires.{Wires, own_of, owner_of}
use Rattle.tick_law.specs.Pass.{Side, port_at}
use Rattle.tick_law.specs.SerialLoop.{pick}
use Rattle.tick_law.specs.NextTime.{due_is}
use Rattle.tick_law.specs.Course.{Course, ready}
use Rattle.model_laws.specs.NextTable.{IsTable, due_at_time, next_at_place}
use Rattle.model_laws.specs.SideTimes.{half_of, number_of}
use Rattle.model_laws.proofs.SideTimesLaws.{length-half, half_at}
use Rattle.model_laws.proofs.OneMoreActor.{is_same, is_other, get-map_index_zero}
use Rattle.actor_turn.specs.declared.side.SideGear.{SideGear}
use Rattle.actor_turn.specs.Side.{edge_of, times_of}
use Rattle.away_rows.specs.declared.body.Body.{Body}
use Rattle.away_rows.specs.declared.marks.Marks.{Marks}
use Rattle.away_rows.specs.Bodies.{body_at, Sits, Seated, Placed}
use Rattle.away_rows.specs.SidePass.{so_far, did_so_far, EdgeAt}
use Rattle.away_rows.proofs.SideLaws.{IsSide, none_before}
use Rattle.hub_laws.specs.Events.{those_at, either_of, unless_at, without}
use Rattle.hub_laws.proofs.PassBegins.{none_back, own_first, woke_first}
use Rattle.hub_floor.specs.Passing.{Passing}

pub in_none : (n i : ℕ) → is_in (replicate n false) i ≡ false
in_none zero i = refl
in_none (suc n) zero = refl
in_none (suc n) (suc i) = in_none n i

pub none_of : (xs : List Bool) (n : ℕ) → xs ≡ replicate n false → (i : ℕ) → is_in xs i ≡ false
none_of xs n e i = ap (λ l. is_in l i) e ∙ in_none n i

-- those whose time it is
pub those_in : (times : List (Option ℕ)) (t i : ℕ) → is_in (those_at times t) i ≡ due_is (next_at_place times i) t
those_in [] t i = refl
those_in (o ∷ os) t zero = refl
those_in (o ∷ os) t (suc i) = those_in os t i

pub either_in : (xs ys : List Bool) (i : ℕ) → i < length xs → is_in (either_of xs ys) i ≡ (is_in xs i || is_in ys i)
either_in xs ys i b = get-map_index_zero (λ k x. x || is_in ys k) xs i false false b

pub due_some : (o : Option ℕ) (t : ℕ) → due_is o t ≡ true → o ≡ Some t
due_some None t e = absurd (cc)
due_some (Some k) t e = ap (λ x. Some x) (is_same k t e)

pub some_due : (o : Option ℕ) (t : ℕ) → o ≡ Some t → due_is o t ≡ true
some_due None t e = absurd (cc)
some_due (Some k) t e = (let f : k ≡ t = cc in eq-eqb k t f)

pub below_next : (times : List (Option ℕ)) (i t : ℕ) → next_at_place times i ≡ Some t → i < length times
below_next [] i t e = absurd (cc)
below_next (o ∷ os) zero t e = omega arith
below_next (o ∷ os) (suc i) t e = let b = below_next os i t e in omega (arith, b)

pub without_at : (times : List (Option ℕ)) (t i : ℕ) → next_at_place (without times t) i ≡ unless_at t (next_at_place times i)
without_at [] t i = refl
without_at (o ∷ os) t zero = refl
without_at (o ∷ os) t (suc i) = without_at os t i

pub unless_some : (t : ℕ) (o : Option ℕ) (n : ℕ) → unless_at t o ≡ Some n → (o ≡ Some n) × (n ≢ t)
unless_some t None n e = absurd (cc)
unless_some t (Some m) n e = at (m == t) refl
  where
    at : (b : Bool) → (m == t) ≡ b → (Some m ≡ Some n) × (n ≢ t)
    at true f = absurd (let g : None ≡ Some n = sym (ap (λ x. pick x None (Some m)) f) ∙ e in cc)
    at false f = let g : Some m ≡ Some n = sym (ap (λ x. pick x None (Some m)) f) ∙ e in (g, λ h. is_other m t f (let k : m ≡ n = cc in k ∙ h))

-- a set with exactly those whose time it is
pub marked_those : (times : List (Option Time)) (t first count : ℕ) (due : List Bool) → length due ≡ count → AllMarked times (record { 0 = t }) first count due → ((i : ℕ) → is_in due i ≡ true → time_of times (first + i) ≡ Some (record { 0 = t })) → due ≡ those_at (half_of first count times) t
marked_those times t first count due long all only =
    same_lists due (those_at (half_of first count times) t) (long ∙ sym (length-map (half_of first count times) (λ o. due_is o t) ∙ length-half first count times))
    (λ k d b. let l : k < count = omega (arith, b, long) in
    get_or_default due k d false b ∙ here k l (is_in due k) refl ∙ sym (those_in (half_of first count times) t k)
    ∙ get_or_default (those_at (half_of first count times) t) k false d (let m = length-map (half_of first count times) (λ o. due_is o t) in let h = length-half first count times in omega (arith, l, m, h)))
  where
    at : (k : ℕ) → k < count → due_is (next_at_place (half_of first count times) k) t ≡ due_is (number_of (time_of times (first + k))) t
    at k l = ap (λ o. due_is o t) (half_at first count times k l)

    told : (o : Option Time) → due_is (number_of o) t ≡ true → o ≡ Some (record { 0 = t })
    told None e = absurd (cc)
    told (Some x) e = let f : x.0 ≡ t = is_same x.0 t e in ap (λ (n : ℕ). let y : Time = record { 0 = n } in Some y) f

    here : (k : ℕ) → k < count → (x : Bool) → is_in due k ≡ x → is_in due k ≡ due_is (next_at_place (half_of first count times) k) t
    here k l true e = e ∙ sym (at k l ∙ ap (λ o. due_is (number_of o) t) (only k e) ∙ some_due (Some t) t refl)
    here k l false e = e ∙ sym (at k l ∙ not_true (due_is (number_of (time_of times (first + k))) t) (λ f. (let g : true ≡ false = sym (all k l (told (time_of times (first + k)) f)) ∙ e in cc)))
      where
        not_true : (b : Bool) → (b ≡ true → ⊥) → b ≡ false
        not_true true h = absurd (h refl)
        not_true false h = refl

-- ports that stand in their rows, each seen as it is
pub record AllStand (ports : List PortView) (rows : RowsView) : Type 0 where
  pub long : length rows.ports ≡ length ports
  pub seen_long : length rows.seen ≡ length ports
  pub stand : (q : ℕ) → q < length ports → port_at rows.ports q ≡ port_at ports q
  pub seen : (q : ℕ) → q < length ports → face_at rows.seen q ≡ face_of (port_at ports q)

get_map : {A B : Type 0} (f : A → B) (xs : List A) (k : ℕ) (d : A) (e : B) → k < length xs → get_or (map f xs) k e ≡ f (get_or xs k d)
get_map f [] k d e b = absurd (omega arith)
get_map f (x ∷ xs) zero d e b = refl
get_map f (x ∷ xs) (suc k) d e b = get_map f xs k d e (omega arith)

pub stand_settled : (ports : List PortView) (w : Wires) (rows : RowsView) → rows ≡ settled_rows ports w → AllStand ports rows
stand_settled ports w rows e =
    let p : rows.ports ≡ ports = ap (λ (x : RowsView). x.ports) e in
    let s : rows.seen ≡ map face_of ports = ap (λ (x : RowsView). x.seen) e in
    record {
      long = ap length p;
      seen_long = ap length s ∙ length-map ports face_of;
      stand = λ q b. ap (λ l. port_at l q) p;
      seen = λ q b. ap (λ l. face_at l q) s ∙ get_map face_of ports q (port_view [] [] 0) no_face b;
    }

pub settled_stand : (ports : List PortView) (w : Wires) (rows : RowsView) → AllStand ports rows → rows.wires ≡ w → rows ≡ settled_rows ports w
settled_stand ports w rows is wires =
    ap (λ l. let x : RowsView = record { ports = l; seen = rows.seen; wires = rows.wires } in x) a
    ∙ ap (λ l. let x : RowsView = record { ports = ports; seen = l; wires = rows.wires } in x) b
    ∙ ap (λ l. let x : RowsView = record { ports = ports; seen = map face_of ports; wires = l } in x) wires
  where
    a : rows.ports ≡ ports
    a = same_lists rows.ports ports is.long (λ k d b. get_or_default rows.ports k d (port_view [] [] 0) b ∙ is.stand k (let l = is.long in omega (arith, b, l)) ∙ get_or_default ports k (port_view [] [] 0) d (let l = is.long in omega (arith, b, l)))

    b : rows.seen ≡ map face_of ports
    b = same_lists rows.seen (map face_of ports) (is.seen_long ∙ sym (length-map ports face_of))
        (λ k d b. let l : k < length ports = (let z = is.seen_long in omega (arith, b, z)) in get_or_default rows.seen k d no_face b ∙ is.seen k l ∙ sym (get_map face_of ports k (port_view [] [] 0) d l))

pub stand_placed : (w : Wires) (all_seen : Bool) (out : List Bool) (ports : List PortView) (rows : RowsView) → AllStand ports rows → Placed w all_seen out ports rows
stand_placed w all_seen out ports rows is = record { long = is.long; seen_long = is.seen_long; stand = λ q b home. is.stand q b; seen = λ q b how. is.seen q b }

pub placed_stand : (w : Wires) (all_seen : Bool) (out : List Bool) (ports : List PortView) (rows : RowsView) → Placed w all_seen out ports rows → ((i : ℕ) → is_in out i ≡ false) → AllStand ports rows
placed_stand w all_seen out ports rows is home = record { long = is.long; seen_long = is.seen_long; stand = λ q b. is.stand q b (home (owner_of w q)); seen = λ q b. is.seen q b (inr (home (owner_of w q))) }

module _ {S : Type 0} where
  -- where nobody is out it does not matter who could be
  pub seated_as : (w : Wires) (out out' : List Bool) (states : List S) (did did' : ℕ → List Record) (seats : List (Option (Box (Body S) Global))) → ((i : ℕ) → is_in out i ≡ false) → ((i : ℕ) → did' i ≡ did i) → Seated w out states did seats → Seated w out' states did' seats
  seated_as w out out' states did did' seats home same was = record {
    all = was.all;
    sits = λ i s e here. subst (λ l. Sits (own_of w i) s l (body_at seats i)) (sym (same i)) (was.sits i s e (home i));
  }

  pub opens : (c : Course S) (base t from : ℕ) (part all_seen : Bool) (mine others : SideGear) (count other_count : ℕ) (old : ℕ → Option ℕ) (marks : Marks) (seats : List (Option (Box (Body S) Global))) (rows : RowsView) (next : List (Option Time)) →
      IsSide c t → count ≡ length (c.before t).states → length marks.waiting ≡ count → marks.out ≡ replicate count false → marks.back ≡ replicate count false →
      ((i : ℕ) → is_in marks.waiting i ≡ true → EdgeAt c t i) → ((i : ℕ) → i < count → due_at_time c t i ≡ true → is_in marks.waiting i ≡ true) →
      Seated c.wires [] (c.before t).states (λ i. []) seats → AllStand (c.before t).ports rows →
      IsTable (times_of mine next) (λ i. ready c i t) count → IsTable (times_of others next) old other_count →
      Passing c base t from part all_seen mine others count other_count old marks seats rows next
  opens c base t from part all_seen mine others count other_count old marks seats rows next side long waiting out back edges dues seated stand own theirs = record {
    marks_are = record {
      waiting_all = waiting ∙ long;
      out_all = ap length out ∙ length-replicate count false ∙ long;
      back_all = ap length back ∙ length-replicate count false ∙ long;
      waits = λ i e. (home i, none i, edges i e);
      outs = λ i e. none i;
    };
    all_due = λ i b due. ap (λ x. x || (is_in marks.out i || is_in marks.back i)) (dues i (omega (arith, b, long)) due);
    pass = record {
      seated = subst (λ (h : Side S). Seated c.wires marks.out h.states (did_so_far c base t marks.back) seats) (sym same)
          (seated_as c.wires [] marks.out (c.before t).states (λ i. []) (did_so_far c base t marks.back) seats (λ i. refl) (λ i. none_before c base t marks.back i (none i)) seated);
      placed = subst (λ (h : Side S). Placed c.wires all_seen marks.out h.ports rows) (sym same) (stand_placed c.wires all_seen marks.out (c.before t).ports rows stand);
    };
    times = record {
      own = own_first c t count marks.back (times_of mine next) none own;
      woke = woke_first c t other_count part marks.back others.wiring (edge_of others from) old (times_of others next) same theirs;
    };
  }
    where
      none : (i : ℕ) → is_in marks.back i ≡ false
      none = none_of marks.back count back

      home : (i : ℕ) → is_in marks.out i ≡ false
      home = none_of marks.out count out

      same : so_far c t marks.back ≡ c.before t
      same = none_back c t marks.back side none
