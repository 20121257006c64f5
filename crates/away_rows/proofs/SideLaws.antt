-- One actor of a side leaves for its step in a pass, or comes back from it.
use Rattle.std.proofs.Common.{◌≡◌, ◌≢◌, ℕ, zero, suc, ◌+◌, ◌*◌, ◌/◌, ◌<◌, ◌≤◌, ◌⊎◌, inl, inr, List, [], ◌∷◌, length, get_or, set, map, sym, ◌∙◌, ap, subst, arith, refl, Global}
use Rattle.std.specs.Prelude.{Option, Some, None, Bool, true, false, ◌==◌, ◌&&◌, ◌||◌, slice_get, Box}
use Rattle.std.proofs.lemmas.List.{length-set, length-map, get_or-set_same, get_or-set_other}
use Rattle.std.proofs.lemmas.Bool.{cases_eq, cases_lt, eq-eqb, ne_eqb}
use Rattle.bit_set.specs.Bits.{is_in}
use Rattle.port_msg.specs.PortView.{PortView, port_view}
use Rattle.port_msg.specs.RecView.{records_at}
use Rattle.port_row.specs.declared.face.Face.{Face}
use Rattle.port_row.specs.Row.{PortsView, face_at, face_of, no_face}
use Rattle.port_rows.specs.Rows.{RowsView, with_own, with_row, row_of_link}
use Rattle.tick_law.specs.Machine.{Machine, Outcome}
use Rattle.tick_law.specs.Wires.{Wires, own_of, owner_of, Has, Wired}
use Rattle.tick_law.specs.Pass.{Side, pass, port_at, gather, has_edge, step_of, also, map_index, state_after, port_after}
use Rattle.tick_law.specs.SerialLoop.{begun}
use Rattle.tick_law.specs.Outcomes.{outcome, outcome_by, outcome_if, whats_of, flag_of, stirs, stirs_to}
use Rattle.tick_law.specs.Course.{Course, outcome_in}
use Rattle.model_laws.specs.Pass.{scatter}
use Rattle.model_laws.proofs.OneMoreActor.{is_same, is_other, length-map_index, get-map_index_zero, length-scatter, scatter_other, scatter_at, gather_same, gather_waiting, port_kept, one_more}
use Rattle.model_laws.proofs.ActorByActor.{state_kept, length_states, length_ports}
use Rattle.model_laws.proofs.DueByDue.{pass_same}
use Rattle.model_laws.proofs.PortsPutBack.{has_or_not}
use Rattle.away_rows.specs.declared.body.Body.{Body}
use Rattle.away_rows.specs.declared.marks.Marks.{Marks}
use Rattle.away_rows.specs.Marks.{claimed, finished}
use Rattle.away_rows.specs.Bodies.{body_at, Sits, IsBody, HasRow, SeatSet, Seated, Placed, with_own_ports, with_own_row}
use Rattle.away_rows.specs.SidePass.{so_far, step_so_far, did_so_far, stirs_so_far, EdgeAt, AreMarks, AllDueMarked, InPass, HasKit, SeenAlong, IsBefore, IsAfter, state_made, ports_made}
use Rattle.away_rows.proofs.SeatLaws.{sits_some, sits_row, in_same, in_other, seated_leave, seated_return, placed_leave}

pub in_below : (xs : List Bool) (i : ℕ) → is_in xs i ≡ true → i < length xs
in_below [] i e = absurd (cc)
in_below (x ∷ xs) zero e = omega arith
in_below (x ∷ xs) (suc i) e = let b = in_below xs i e in omega (arith, b)

map_index_forth : {A B : Type 0} (f : ℕ → A → B) (i : ℕ) (xs : List A) (k : ℕ) (x : A) → slice_get xs k ≡ Some x → slice_get (map_index f i xs) k ≡ Some (f (i + k) x)
map_index_forth f i [] k x e = absurd (cc)
map_index_forth f i (y ∷ ys) zero x e = (let same : y ≡ x = cc in ap (λ z. Some (f i z)) same) ∙ ap (λ j. Some (f j x)) (let z : i ≡ i + 0 = omega arith in z)
map_index_forth f i (y ∷ ys) (suc k) x e = map_index_forth f (suc i) ys k x e ∙ ap (λ j. Some (f j x)) (let z : suc i + k ≡ i + suc k = omega arith in z)

map_at : {A B : Type 0} (f g : A → B) (xs : List A) → ((k : ℕ) (x : A) → slice_get xs k ≡ Some x → f x ≡ g x) → map f xs ≡ map g xs
map_at f g [] h = refl
map_at f g (x ∷ xs) h =
    let first : f x ≡ g x = h 0 x refl in
    let rest : map f xs ≡ map g xs = map_at f g xs (λ k y e. h (suc k) y e) in
    cc

has_at : (qs : List ℕ) (k q : ℕ) → slice_get qs k ≡ Some q → Has qs q
has_at [] k q e = absurd (cc)
has_at (x ∷ xs) zero q e = (0, omega arith, (let same : x ≡ q = cc in same))
has_at (x ∷ xs) (suc k) q e = let r = has_at xs k q e in (suc r.0, (let b = r.1 in omega (arith, b)), r.2)

-- what is asked of a side for a pass
pub record IsSide {S : Type 0} (c : Course S) (t : ℕ) : Type 0 where
  pub begun : c.from ≤ t
  pub wired : Wired c.wires (length (c.before t).ports)
  pub owned : (q : ℕ) → q < length (c.before t).ports → owner_of c.wires q < length (c.before t).states

-- how an actor left with its ports
pub record Leaves {S : Type 0} (all_seen : Bool) (own : List ℕ) (rows new : RowsView) (b taken : Body S) : Type 0 where
  pub actor : taken.actor ≡ b.actor
  pub recs : taken.recs ≡ b.recs
  pub ports : taken.row.ports ≡ gather rows.ports own
  pub moved : new.ports ≡ scatter rows.ports own b.row.ports
  pub seen : ((all_seen ≡ true) × (new.seen ≡ rows.seen) × (taken.row.seen ≡ b.row.seen)) ⊎ ((all_seen ≡ false) × (new.seen ≡ scatter rows.seen own b.row.seen) × (taken.row.seen ≡ map (λ q. face_at rows.seen q) own))

-- how the ports of an actor came back
pub record Returns (own : List ℕ) (ports : List PortView) (rows now : RowsView) : Type 0 where
  pub moved : now.ports ≡ scatter rows.ports own ports
  pub seen_long : length now.seen ≡ length rows.seen
  pub seen_here : (q : ℕ) → Has own q → face_at now.seen q ≡ face_of (port_at now.ports q)
  pub seen_left : (q : ℕ) → (Has own q → ⊥) → face_at now.seen q ≡ face_at rows.seen q

-- one more is back
pub also_back : (back : List Bool) (i k : ℕ) → i < length back → is_in (set back i true) k ≡ also (is_in back) i k
also_back back i k b = at (k == i) refl
  where
    at : (x : Bool) → (k == i) ≡ x → is_in (set back i true) k ≡ ((k == i) || is_in back k)
    at true e = ap (is_in (set back i true)) (is_same k i e) ∙ in_same back i true b ∙ sym (ap (λ y. y || is_in back k) e)
    at false e = in_other back i k true (is_other k i e) ∙ sym (ap (λ y. y || is_in back k) e)

module _ {S : Type 0} where
  -- a port whose owner is not back is as it was
  pub port_before : (c : Course S) (t : ℕ) (back : List Bool) (q : ℕ) → q < length (c.before t).ports → is_in back (owner_of c.wires q) ≡ false → port_at (so_far c t back).ports q ≡ port_at (c.before t).ports q
  port_before c t back q b e =
      get-map_index_zero (port_after c.machine c.wires (is_in back) t (c.before t)) (c.before t).ports q (port_view [] [] 0) (port_view [] [] 0) b
      ∙ port_kept c.machine c.wires (is_in back) t (c.before t).ports q (port_at (c.before t).ports q) (slice_get (c.before t).states (owner_of c.wires q)) e

  -- and so is the state of who is not back
  pub state_before : (c : Course S) (t : ℕ) (back : List Bool) (i : ℕ) (s : S) → slice_get (c.before t).states i ≡ Some s → is_in back i ≡ false → slice_get (so_far c t back).states i ≡ Some s
  state_before c t back i s at e =
      map_index_forth (state_after c.machine c.wires (is_in back) t (c.before t).ports) 0 (c.before t).states i s at
      ∙ ap (λ k. Some (state_after c.machine c.wires (is_in back) t (c.before t).ports k s)) (let z : 0 + i ≡ i = omega arith in z)
      ∙ ap (λ x. Some x) (state_kept c.machine c.wires (is_in back) t (c.before t).ports i s e)

  -- who is not back has recorded nothing
  outcome_not : (m : Machine S) (w : Wires) (stepped : ℕ → Bool) (t : ℕ) (ports : List PortView) (i : ℕ) (o : Option S) → stepped i ≡ false → outcome_by m w stepped t ports i o ≡ None
  outcome_not m w stepped t ports i None e = refl
  outcome_not m w stepped t ports i (Some s) e = rw e refl

  pub none_before : (c : Course S) (base t : ℕ) (back : List Bool) (i : ℕ) → is_in back i ≡ false → did_so_far c base t back i ≡ []
  none_before c base t back i e = ap (λ o. records_at t (base + i) (whats_of o)) (outcome_not c.machine c.wires (is_in back) t (c.before t).ports i (slice_get (c.before t).states i) e)

  state_there : (xs : List S) (i : ℕ) → i < length xs → (s : S) × (slice_get xs i ≡ Some s)
  state_there [] i b = absurd (omega arith)
  state_there (x ∷ xs) zero b = (x, refl)
  state_there (x ∷ xs) (suc i) b = state_there xs i (omega arith)

  -- the marks when one that waited is out
  marks_claimed : (c : Course S) (t : ℕ) (marks : Marks) (i : ℕ) → AreMarks c t marks → is_in marks.waiting i ≡ true → AreMarks c t (claimed marks i)
  marks_claimed c t marks i are waits = record {
    waiting_all = length-set marks.waiting i false ∙ are.waiting_all;
    out_all = length-set marks.out i true ∙ are.out_all;
    back_all = are.back_all;
    waits = λ k e. still k e (cases_eq k i);
    outs = λ k e. gone k e (cases_eq k i);
  }
    where
      still : (k : ℕ) → is_in (set marks.waiting i false) k ≡ true → (k ≡ i) ⊎ (k ≢ i) → (is_in (set marks.out i true) k ≡ false) × (is_in marks.back k ≡ false) × EdgeAt c t k
      still k e (inl f) = absurd (let x : true ≡ false = sym e ∙ ap (is_in (set marks.waiting i false)) f ∙ in_same marks.waiting i false (in_below marks.waiting i waits) in cc)
      still k e (inr n) = let r = are.waits k (sym (in_other marks.waiting i k false n) ∙ e) in (in_other marks.out i k true n ∙ r.0, r.1, r.2)

      gone : (k : ℕ) → is_in (set marks.out i true) k ≡ true → (k ≡ i) ⊎ (k ≢ i) → is_in marks.back k ≡ false
      gone k e (inl f) = ap (is_in marks.back) f ∙ (are.waits i waits).1
      gone k e (inr n) = are.outs k (sym (in_other marks.out i k true n) ∙ e)

  -- what a claim gives
  pub record Claimed (c : Course S) (base t i : ℕ) (all_seen : Bool) (marks : Marks) (seats : List (Option (Box (Body S) Global))) (rows : RowsView) (taken : Body S) : Type 0 where
    pub marks_are : AreMarks c t marks
    pub pass : InPass c base t all_seen marks seats rows
    pub before : IsBefore c t i all_seen taken

  -- the waiting actor i leaves
  pub side_claims : (c : Course S) (base t i : ℕ) (all_seen : Bool) (marks : Marks) (seats new : List (Option (Box (Body S) Global))) (rows rows' : RowsView) (b taken : Body S) →
      IsSide c t → AreMarks c t marks → InPass c base t all_seen marks seats rows → is_in marks.waiting i ≡ true → body_at seats i ≡ Some b → SeatSet seats new i None → Leaves all_seen (own_of c.wires i) rows rows' b taken →
      Claimed c base t i all_seen (claimed marks i) new rows' taken
  side_claims c base t i all_seen marks seats new rows rows' b taken side are was waits sits gone left = record {
    marks_are = marks_claimed c t marks i are waits;
    pass = record {
      seated = seated_leave c.wires marks.out h.states (did_so_far c base t marks.back) seats new i out_here gone was.seated;
      placed = placed_leave c.wires all_seen marks.out h.ports rows rows' i b.row.ports b.row.seen out_here wired_now left.moved (seen_moved left.seen) was.placed;
    };
    before = record {
      begun = side.begun;
      state = found.1 ∙ ap (λ x. Some x) (sym (left.actor ∙ body.actor));
      edge = subst (λ x. has_edge c.machine t x ≡ true) (sym (left.actor ∙ body.actor)) (free.2 found.0 found.1);
      ports = left.ports ∙ gather_same rows.ports (c.before t).ports own (λ q has. was.placed.stand q (in_now q has) (home q has) ∙ kept q has);
      none = ap (λ r. r.items) left.recs ∙ body.items ∙ none_before c base t marks.back i free.1;
      kit = record {
        ports = ap length left.ports ∙ length-map own (λ q. port_at rows.ports q);
        seen = long_seen left.seen;
        room = subst (λ r. 64 * length own ≤ r.room) (sym left.recs) body.room;
      };
      along = λ e. seen_along e left.seen;
    };
  }
    where
      own : List ℕ
      own = own_of c.wires i

      h : Side S
      h = so_far c t marks.back

      free : (is_in marks.out i ≡ false) × (is_in marks.back i ≡ false) × EdgeAt c t i
      free = are.waits i waits

      waits_here : i < length (c.before t).states
      waits_here = let l = in_below marks.waiting i waits in omega (arith, l, are.waiting_all)

      out_here : i < length marks.out
      out_here = omega (arith, waits_here, are.out_all)

      found : (s : S) × (slice_get (c.before t).states i ≡ Some s)
      found = state_there (c.before t).states i waits_here

      body : IsBody own found.0 (did_so_far c base t marks.back i) b
      body = subst (λ o. Sits own found.0 (did_so_far c base t marks.back i) o) sits (was.seated.sits i found.0 (state_before c t marks.back i found.0 found.1 free.1) free.0)

      wired_now : Wired c.wires (length h.ports)
      wired_now = subst (λ n. Wired c.wires n) (sym (length_ports c.machine c.wires (is_in marks.back) t (c.before t))) side.wired

      in_now : (q : ℕ) → Has own q → q < length h.ports
      in_now q has = wired_now.within i q has

      home : (q : ℕ) → Has own q → is_in marks.out (owner_of c.wires q) ≡ false
      home q has = ap (is_in marks.out) (wired_now.listed i q has) ∙ free.0

      kept : (q : ℕ) → Has own q → port_at h.ports q ≡ port_at (c.before t).ports q
      kept q has = port_before c t marks.back q (side.wired.within i q has) (ap (is_in marks.back) (side.wired.listed i q has) ∙ free.1)

      seen_moved : ((all_seen ≡ true) × (rows'.seen ≡ rows.seen) × (taken.row.seen ≡ b.row.seen)) ⊎ ((all_seen ≡ false) × (rows'.seen ≡ scatter rows.seen own b.row.seen) × (taken.row.seen ≡ map (λ q. face_at rows.seen q) own)) → ((all_seen ≡ true) × (rows'.seen ≡ rows.seen)) ⊎ ((all_seen ≡ false) × (rows'.seen ≡ scatter rows.seen own b.row.seen))
      seen_moved (inl (e, f, g)) = inl (e, f)
      seen_moved (inr (e, f, g)) = inr (e, f)

      long_seen : ((all_seen ≡ true) × (rows'.seen ≡ rows.seen) × (taken.row.seen ≡ b.row.seen)) ⊎ ((all_seen ≡ false) × (rows'.seen ≡ scatter rows.seen own b.row.seen) × (taken.row.seen ≡ map (λ q. face_at rows.seen q) own)) → length taken.row.seen ≡ length own
      long_seen (inl (e, f, g)) = ap length g ∙ body.seen
      long_seen (inr (e, f, g)) = ap length g ∙ length-map own (λ q. face_at rows.seen q)

      seen_along : all_seen ≡ false → ((all_seen ≡ true) × (rows'.seen ≡ rows.seen) × (taken.row.seen ≡ b.row.seen)) ⊎ ((all_seen ≡ false) × (rows'.seen ≡ scatter rows.seen own b.row.seen) × (taken.row.seen ≡ map (λ q. face_at rows.seen q) own)) → taken.row.seen ≡ map (λ q. face_of (port_at (c.before t).ports q)) own
      seen_along x (inl (e, f, g)) = absurd (let y : true ≡ false = sym e ∙ x in cc)
      seen_along x (inr (e, f, g)) =
          g ∙ map_at (λ q. face_at rows.seen q) (λ q. face_of (port_at (c.before t).ports q)) own
          (λ k q at. let has = has_at own k q at in was.placed.seen q (in_now q has) (inr (home q has)) ∙ ap face_of (kept q has))

  outcome_same : (m : Machine S) (w : Wires) (a b : ℕ → Bool) (t : ℕ) (ports : List PortView) (k : ℕ) (o : Option S) → a k ≡ b k → outcome_by m w a t ports k o ≡ outcome_by m w b t ports k o
  outcome_same m w a b t ports k None e = refl
  outcome_same m w a b t ports k (Some s) e = rw e refl

  -- what actor i has made, where it is out for its step
  pub record Made (c : Course S) (t i : ℕ) : Type 0 where
    pub state : S
    pub there : slice_get (c.before t).states i ≡ Some state
    pub edge : has_edge c.machine t state ≡ true
    pub made : outcome_in c i t ≡ Some (step_of c.machine c.wires t (c.before t).ports i state)

  pub made_of : (c : Course S) (t i : ℕ) (s : S) → state_made (outcome_in c i t) ≡ Some s → Made c t i
  made_of c t i s e = by_seat (slice_get (c.before t).states i) refl
    where
      by_seat : (o : Option S) → slice_get (c.before t).states i ≡ o → Made c t i
      by_seat None f = absurd (let g : state_made (outcome_by c.machine c.wires (begun c.from t) t (c.before t).ports i None) ≡ Some s = ap (λ o. state_made (outcome_by c.machine c.wires (begun c.from t) t (c.before t).ports i o)) (sym f) ∙ e in cc)
      by_seat (Some x) f = by_edge (begun c.from t i) refl (has_edge c.machine t x) refl
        where
          is : outcome_in c i t ≡ outcome_if (begun c.from t i && has_edge c.machine t x) (step_of c.machine c.wires t (c.before t).ports i x)
          is = ap (λ o. outcome_by c.machine c.wires (begun c.from t) t (c.before t).ports i o) f

          by_edge : (y : Bool) → begun c.from t i ≡ y → (z : Bool) → has_edge c.machine t x ≡ z → Made c t i
          by_edge true g true k = record {
            state = x;
            there = f;
            edge = k;
            made = is ∙ ap (λ b. outcome_if (b && has_edge c.machine t x) (step_of c.machine c.wires t (c.before t).ports i x)) g ∙ ap (λ b. outcome_if b (step_of c.machine c.wires t (c.before t).ports i x)) k;
          }
          by_edge true g false k = absurd (let n : state_made (outcome_if false (step_of c.machine c.wires t (c.before t).ports i x)) ≡ Some s = ap (λ b. state_made (outcome_if b (step_of c.machine c.wires t (c.before t).ports i x))) (sym (ap (λ b. b && has_edge c.machine t x) g ∙ k)) ∙ ap state_made (sym is) ∙ e in cc)
          by_edge false g z k = absurd (let n : state_made (outcome_if false (step_of c.machine c.wires t (c.before t).ports i x)) ≡ Some s = ap (λ b. state_made (outcome_if b (step_of c.machine c.wires t (c.before t).ports i x))) (sym (ap (λ b. b && has_edge c.machine t x) g)) ∙ ap state_made (sym is) ∙ e in cc)

  -- the marks when one that was out is back
  marks_finished : (c : Course S) (t : ℕ) (marks : Marks) (i : ℕ) → AreMarks c t marks → is_in marks.out i ≡ true → AreMarks c t (finished marks i)
  marks_finished c t marks i are out = record {
    waiting_all = are.waiting_all;
    out_all = length-set marks.out i false ∙ are.out_all;
    back_all = length-set marks.back i true ∙ are.back_all;
    waits = λ k e. still k e (cases_eq k i);
    outs = λ k e. gone k e (cases_eq k i);
  }
    where
      here : i < length marks.out
      here = in_below marks.out i out

      still : (k : ℕ) → is_in marks.waiting k ≡ true → (k ≡ i) ⊎ (k ≢ i) → (is_in (set marks.out i false) k ≡ false) × (is_in (set marks.back i true) k ≡ false) × EdgeAt c t k
      still k e (inl f) = absurd (let x : true ≡ false = sym out ∙ ap (is_in marks.out) (sym f) ∙ (are.waits k e).0 in cc)
      still k e (inr n) = let r = are.waits k e in (in_other marks.out i k false n ∙ r.0, in_other marks.back i k true n ∙ r.1, r.2)

      gone : (k : ℕ) → is_in (set marks.out i false) k ≡ true → (k ≡ i) ⊎ (k ≢ i) → is_in (set marks.back i true) k ≡ false
      gone k e (inl f) = absurd (let x : true ≡ false = sym e ∙ ap (is_in (set marks.out i false)) f ∙ in_same marks.out i false here in cc)
      gone k e (inr n) = in_other marks.back i k true n ∙ are.outs k (sym (in_other marks.out i k false n) ∙ e)

  stirs_more : (m : Machine S) (w : Wires) (a b : ℕ → Bool) (t : ℕ) (h : Side S) (i : ℕ) (flag : Bool) → ((k : ℕ) → k ≢ i → b k ≡ a k) → outcome m w a t h i ≡ None → flag_of (outcome m w b t h i) ≡ flag → (n : ℕ) →
      ((n ≤ i → stirs_to m w b t h n ≡ stirs_to m w a t h n) × (i < n → stirs_to m w b t h n ≡ (stirs_to m w a t h n || flag)))
  stirs_more m w a b t h i flag others none is zero = (λ l. refl, λ l. absurd (omega arith))
  stirs_more m w a b t h i flag others none is (suc n) = at (cases_eq n i) (stirs_more m w a b t h i flag others none is n)
    where
      or_none : (x : Bool) → (x || false) ≡ x
      or_none true = refl
      or_none false = refl

      or_swap : (x y z : Bool) → ((x || y) || z) ≡ ((x || z) || y)
      or_swap true y z = refl
      or_swap false true true = refl
      or_swap false true false = refl
      or_swap false false true = refl
      or_swap false false false = refl

      other : n ≢ i → outcome m w b t h n ≡ outcome m w a t h n
      other e = outcome_same m w b a t h.ports n (slice_get h.states n) (others n e)

      at : (n ≡ i) ⊎ (n ≢ i) → ((n ≤ i → stirs_to m w b t h n ≡ stirs_to m w a t h n) × (i < n → stirs_to m w b t h n ≡ (stirs_to m w a t h n || flag))) →
          ((suc n ≤ i → stirs_to m w b t h (suc n) ≡ stirs_to m w a t h (suc n)) × (i < suc n → stirs_to m w b t h (suc n) ≡ (stirs_to m w a t h (suc n) || flag)))
      at (inl e) (r, r') = (
        λ l. absurd (omega (arith, l, e)),
        λ l.
            ap (λ x. x || flag_of (outcome m w b t h n)) (r (omega (arith, e)))
            ∙ ap (λ x. stirs_to m w a t h n || x) (ap (λ k. flag_of (outcome m w b t h k)) e ∙ is)
            ∙ sym (ap (λ x. (stirs_to m w a t h n || x) || flag) (ap (λ k. flag_of (outcome m w a t h k)) e ∙ ap flag_of none) ∙ ap (λ x. x || flag) (or_none (stirs_to m w a t h n))),
      )
      at (inr e) (r, r') = (
        λ l. ap (λ x. x || flag_of (outcome m w b t h n)) (r (omega (arith, l))) ∙ ap (λ o. stirs_to m w a t h n || flag_of o) (other e),
        λ l. ap (λ x. x || flag_of (outcome m w b t h n)) (r' (omega (arith, l, e))) ∙ ap (λ o. (stirs_to m w a t h n || flag) || flag_of o) (other e) ∙ or_swap (stirs_to m w a t h n) flag (flag_of (outcome m w a t h n)),
      )

  -- what a finish gives
  pub record Finished (c : Course S) (base t i : ℕ) (all_seen : Bool) (marks : Marks) (seats : List (Option (Box (Body S) Global))) (rows : RowsView) (flag : Bool) : Type 0 where
    pub marks_are : AreMarks c t (finished marks i)
    pub pass : InPass c base t all_seen (finished marks i) seats rows
    pub stirs_are : stirs_so_far c t (set marks.back i true) ≡ (stirs_so_far c t marks.back || flag)

  -- the side when actor i is back too
  pub one_back : (c : Course S) (base t i : ℕ) (all_seen : Bool) (marks : Marks) (b : Body S) (flag : Bool) → IsSide c t → AreMarks c t marks → is_in marks.out i ≡ true → IsAfter c base t i all_seen b flag →
      let own = own_of c.wires i in
      let old : Side S = so_far c t marks.back in
      so_far c t (set marks.back i true) ≡ record { states = set old.states i b.actor; ports = scatter old.ports own b.row.ports }
  one_back c base t i all_seen marks b flag side are out after =
      let m = c.machine in
      let w = c.wires in
      let h = c.before t in
      let x = made_of c t i b.actor after.state in
      let st = step_of m w t h.ports i x.state in
      let state : st.state ≡ b.actor = (let e : Some st.state ≡ Some b.actor = ap state_made (sym x.made) ∙ after.state in cc) in
      let ports : b.row.ports ≡ st.ports = after.ports ∙ ap ports_made x.made in
      let in_back : i < length marks.back = (let l = in_below marks.out i out in omega (arith, l, are.out_all, are.back_all)) in
      pass_same m w (is_in (set marks.back i true)) (also (is_in marks.back) i) t h (λ k l. also_back marks.back i k in_back) side.owned
      ∙ one_more m w (is_in marks.back) t h i x.state side.wired x.there x.edge (sym (ap length ports) ∙ after.kit.ports)
      ∙ ap (λ y. let z : Side S = record { states = set (so_far c t marks.back).states i y; ports = scatter (so_far c t marks.back).ports (own_of w i) st.ports } in z) state
      ∙ ap (λ l. let z : Side S = record { states = set (so_far c t marks.back).states i b.actor; ports = scatter (so_far c t marks.back).ports (own_of w i) l } in z) (sym ports)

  pub side_finishes : (c : Course S) (base t i : ℕ) (all_seen : Bool) (marks : Marks) (seats new : List (Option (Box (Body S) Global))) (rows now : RowsView) (b put : Body S) (flag : Bool) →
      IsSide c t → AreMarks c t marks → InPass c base t all_seen marks seats rows → is_in marks.out i ≡ true → IsAfter c base t i all_seen b flag →
      SeatSet seats new i (Some put) → put.actor ≡ b.actor → put.recs ≡ b.recs → length put.row.ports ≡ length (own_of c.wires i) → length put.row.seen ≡ length (own_of c.wires i) →
      Returns (own_of c.wires i) b.row.ports rows now →
      Finished c base t i all_seen marks new now flag
  side_finishes c base t i all_seen marks seats new rows now b put flag side are was out after sat actor recs ports_long seen_long back = record {
    marks_are = marks_finished c t marks i are out;
    pass = record {
      seated = seated_return c.wires marks.out h.states h'.states (did_so_far c base t marks.back) (did_so_far c base t (set marks.back i true)) seats new i b.actor put
          (let l = in_below marks.out i out in omega (arith, l, are.out_all, length_states c.machine c.wires (is_in marks.back) t (c.before t)))
          (ap (λ (x : Side S). x.states) more)
          (λ k n. ap (λ o. records_at t (base + k) (whats_of o)) (outcome_same c.machine c.wires (is_in (set marks.back i true)) (is_in marks.back) t (c.before t).ports k (slice_get (c.before t).states k) (in_other marks.back i k true n)))
          sat
          (record {
            actor = actor;
            ports = ports_long;
            seen = seen_long;
            items = ap (λ r. r.items) recs ∙ after.did ∙ ap (λ o. records_at t (base + i) (whats_of o)) (made.made ∙ sym step_back);
            room = subst (λ r. 64 * length own ≤ r.room) (sym recs) after.kit.room;
          })
          was.seated;
      placed = record {
        long = ap length back.moved ∙ length-scatter rows.ports own b.row.ports ∙ was.placed.long ∙ sym ports_all;
        seen_long = back.seen_long ∙ was.placed.seen_long ∙ sym ports_all;
        stand = λ q l home. stand q (omega (arith, l, ports_all)) home (has_or_not own q);
        seen = λ q l how. seen q (omega (arith, l, ports_all)) how (has_or_not own q);
      };
    };
    stirs_are = ((stirs_more c.machine c.wires (is_in marks.back) (is_in (set marks.back i true)) t (c.before t) i flag
        (λ k n. in_other marks.back i k true n)
        (outcome_not c.machine c.wires (is_in marks.back) t (c.before t).ports i (slice_get (c.before t).states i) not_back)
        (ap flag_of step_back ∙ ap flag_of (sym made.made) ∙ sym after.flag_is) (length (c.before t).states))).1 (let l = in_below marks.out i out in omega (arith, l, are.out_all));
  }
    where
      own : List ℕ
      own = own_of c.wires i

      h : Side S
      h = so_far c t marks.back

      h' : Side S
      h' = so_far c t (set marks.back i true)

      not_back : is_in marks.back i ≡ false
      not_back = are.outs i out

      made : Made c t i
      made = made_of c t i b.actor after.state

      step_back : step_so_far c t (set marks.back i true) i ≡ Some (step_of c.machine c.wires t (c.before t).ports i made.state)
      step_back =
          let in_back : i < length marks.back = (let l = in_below marks.out i out in omega (arith, l, are.out_all, are.back_all)) in
          ap (λ o. outcome_by c.machine c.wires (is_in (set marks.back i true)) t (c.before t).ports i o) made.there
          ∙ ap (λ x. outcome_if (x && has_edge c.machine t made.state) (step_of c.machine c.wires t (c.before t).ports i made.state)) (in_same marks.back i true in_back)
          ∙ ap (λ x. outcome_if x (step_of c.machine c.wires t (c.before t).ports i made.state)) made.edge

      more : h' ≡ record { states = set h.states i b.actor; ports = scatter h.ports own b.row.ports }
      more = one_back c base t i all_seen marks b flag side are out after

      ports_more : h'.ports ≡ scatter h.ports own b.row.ports
      ports_more = ap (λ (x : Side S). x.ports) more

      ports_all : length h'.ports ≡ length h.ports
      ports_all = ap length ports_more ∙ length-scatter h.ports own b.row.ports

      wired_now : Wired c.wires (length h.ports)
      wired_now = subst (λ n. Wired c.wires n) (sym (length_ports c.machine c.wires (is_in marks.back) t (c.before t))) side.wired

      elsewhere : (q : ℕ) → q < length h.ports → (Has own q → ⊥) → owner_of c.wires q ≢ i
      elsewhere q l n e = n (subst (λ j. Has (own_of c.wires j) q) e (wired_now.found q l))

      here_port : (q : ℕ) → q < length h.ports → Has own q → port_at now.ports q ≡ port_at h'.ports q
      here_port q l has =
          ap (λ x. port_at x q) back.moved
          ∙ scatter_at rows.ports own b.row.ports q (port_view [] [] 0) has (sym after.kit.ports) (omega (arith, l, was.placed.long))
          ∙ sym (ap (λ x. port_at x q) ports_more ∙ scatter_at h.ports own b.row.ports q (port_view [] [] 0) has (sym after.kit.ports) l)

      stand : (q : ℕ) → q < length h.ports → is_in (set marks.out i false) (owner_of c.wires q) ≡ false → Has own q ⊎ (Has own q → ⊥) → port_at now.ports q ≡ port_at h'.ports q
      stand q l home (inl has) = here_port q l has
      stand q l home (inr n) =
          ap (λ x. port_at x q) back.moved ∙ scatter_other rows.ports own b.row.ports q (port_view [] [] 0) n
          ∙ was.placed.stand q l (sym (in_other marks.out i (owner_of c.wires q) false (elsewhere q l n)) ∙ home)
          ∙ sym (ap (λ x. port_at x q) ports_more ∙ scatter_other h.ports own b.row.ports q (port_view [] [] 0) n)

      seen : (q : ℕ) → q < length h.ports → (all_seen ≡ true) ⊎ (is_in (set marks.out i false) (owner_of c.wires q) ≡ false) → Has own q ⊎ (Has own q → ⊥) → face_at now.seen q ≡ face_of (port_at h'.ports q)
      seen q l how (inl has) = back.seen_here q has ∙ ap face_of (here_port q l has)
      seen q l how (inr n) =
          back.seen_left q n ∙ was.placed.seen q l (before how)
          ∙ ap face_of (sym (ap (λ x. port_at x q) ports_more ∙ scatter_other h.ports own b.row.ports q (port_view [] [] 0) n))
        where
          before : (all_seen ≡ true) ⊎ (is_in (set marks.out i false) (owner_of c.wires q) ≡ false) → (all_seen ≡ true) ⊎ (is_in marks.out (owner_of c.wires q) ≡ false)
          before (inl e) = inl e
          before (inr e) = inr (sym (in_other marks.out i (owner_of c.wires q) false (elsewhere q l n)) ∙ e)

  -- who waits sits in its seat
  pub waiting_sits : (c : Course S) (base t i : ℕ) (all_seen : Bool) (marks : Marks) (seats : List (Option (Box (Body S) Global))) (rows : RowsView) → AreMarks c t marks → InPass c base t all_seen marks seats rows → is_in marks.waiting i ≡ true →
      HasRow (own_of c.wires i) (body_at seats i)
  waiting_sits c base t i all_seen marks seats rows are was waits =
      let free = are.waits i waits in
      let found = state_there (c.before t).states i (let l = in_below marks.waiting i waits in omega (arith, l, are.waiting_all)) in
      sits_row (own_of c.wires i) found.0 (did_so_far c base t marks.back i) (body_at seats i) (was.seated.sits i found.0 (state_before c t marks.back i found.0 found.1 free.1) free.0)

-- how a part left
pub part_left : {S : Type 0} (own : List ℕ) (rows new : RowsView) (b taken : Body S) → taken ≡ with_own_ports b (gather rows.ports own) → new ≡ with_own rows own b.row.ports → Leaves true own rows new b taken
part_left own rows new b taken e f = record {
  actor = ap (λ (x : Body _). x.actor) e;
  recs = ap (λ (x : Body _). x.recs) e;
  ports = ap (λ (x : Body _). x.row.ports) e;
  moved = ap (λ (v : RowsView). v.ports) f;
  seen = inl (refl, ap (λ (v : RowsView). v.seen) f, ap (λ (x : Body _). x.row.seen) e);
}

-- how a link left
pub link_left : {S : Type 0} (own : List ℕ) (j : ℕ) (rows new : RowsView) (b taken : Body S) → own_of rows.wires j ≡ own → taken ≡ with_own_row b (row_of_link rows j) → new ≡ with_row rows j b.row → Leaves false own rows new b taken
link_left own j rows new b taken w e f = record {
  actor = ap (λ (x : Body _). x.actor) e;
  recs = ap (λ (x : Body _). x.recs) e;
  ports = ap (λ (x : Body _). x.row.ports) e ∙ ap (gather rows.ports) w;
  moved = ap (λ (v : RowsView). v.ports) f ∙ ap (λ l. scatter rows.ports l b.row.ports) w;
  seen = inr (refl, ap (λ (v : RowsView). v.seen) f ∙ ap (λ l. scatter rows.seen l b.row.seen) w, ap (λ (x : Body _). x.row.seen) e ∙ ap (λ l. map (λ q. face_at rows.seen q) l) w);
}

module _ {S : Type 0} where
  pub so_far_long : (c : Course S) (t : ℕ) (back : List Bool) → length (so_far c t back).ports ≡ length (c.before t).ports
  so_far_long c t back = length_ports c.machine c.wires (is_in back) t (c.before t)

  -- who is due has a mark still when one that waited is out
  pub due_still : (c : Course S) (t : ℕ) (marks : Marks) (i : ℕ) → AreMarks c t marks → is_in marks.waiting i ≡ true → AllDueMarked c t marks → AllDueMarked c t (claimed marks i)
  due_still c t marks i are waits was k l due = at (cases_eq k i)
    where
      or_one : (a b : Bool) → (a || (true || b)) ≡ true
      or_one true b = refl
      or_one false b = refl

      at : (k ≡ i) ⊎ (k ≢ i) → (is_in (set marks.waiting i false) k || (is_in (set marks.out i true) k || is_in marks.back k)) ≡ true
      at (inl e) =
          let out : is_in (set marks.out i true) k ≡ true = ap (is_in (set marks.out i true)) e ∙ in_same marks.out i true (let b = in_below marks.waiting i waits in omega (arith, b, are.waiting_all, are.out_all)) in
          ap (λ x. is_in (set marks.waiting i false) k || (x || is_in marks.back k)) out ∙ or_one (is_in (set marks.waiting i false) k) (is_in marks.back k)
      at (inr n) =
          ap (λ x. x || (is_in (set marks.out i true) k || is_in marks.back k)) (in_other marks.waiting i k false n)
          ∙ ap (λ x. is_in marks.waiting k || (x || is_in marks.back k)) (in_other marks.out i k true n)
          ∙ was k l due

  -- and when one that was out is back
  pub due_back : (c : Course S) (t : ℕ) (marks : Marks) (i : ℕ) → AreMarks c t marks → is_in marks.out i ≡ true → AllDueMarked c t marks → AllDueMarked c t (finished marks i)
  due_back c t marks i are out was k l due = at (cases_eq k i)
    where
      or_last : (a b : Bool) → (a || (b || true)) ≡ true
      or_last true b = refl
      or_last false true = refl
      or_last false false = refl

      at : (k ≡ i) ⊎ (k ≢ i) → (is_in marks.waiting k || (is_in (set marks.out i false) k || is_in (set marks.back i true) k)) ≡ true
      at (inl e) =
          let back : is_in (set marks.back i true) k ≡ true = ap (is_in (set marks.back i true)) e ∙ in_same marks.back i true (let b = in_below marks.out i out in omega (arith, b, are.out_all, are.back_all)) in
          ap (λ x. is_in marks.waiting k || (is_in (set marks.out i false) k || x)) back ∙ or_last (is_in marks.waiting k) (is_in (set marks.out i false) k)
      at (inr n) =
          ap (λ x. is_in marks.waiting k || (x || is_in (set marks.back i true) k)) (in_other marks.out i k false n)
          ∙ ap (λ x. is_in marks.waiting k || (is_in marks.out k || x)) (in_other marks.back i k true n)
          ∙ was k l due
