-- A time is over.
use Rattle.std.proofs.Common.{◌≡◌, ◌≢◌, ℕ, zero, suc, ◌+◌, ◌<◌, ◌≤◌, ◌⊎◌, inl, inr, List, [], ◌∷◌, length, sym, ◌∙◌, ap, subst, arith, refl, Global, add-one}
use Rattle.std.specs.Prelude.{Option, Some, None, Bool, true, false, ◌||◌, slice_get, Box}
use Rattle.std.proofs.lemmas.Bool.{cases_eq, cases_lt}
use Rattle.sim_base.specs.Edge.{edge_from}
use Rattle.sim_base.specs.declared.time.TheConstants.{LATEST_TICK}
use Rattle.bit_set.specs.Bits.{is_in, NoneIn}
use Rattle.port_msg.specs.declared.records.Record.{Record}
use Rattle.port_rows.specs.Rows.{settled_rows}
use Rattle.tick_law.specs.Wires.{Wires, own_of}
use Rattle.tick_law.specs.Pass.{Side}
use Rattle.tick_law.specs.SerialLoop.{System, world_at, mid, whole_world, pick, begun, parts_of, stirs_at, end_below}
use Rattle.tick_law.specs.Outcomes.{stirs as stirs_of}
use Rattle.tick_law.specs.NextTime.{woken}
use Rattle.tick_law.specs.Course.{Course, part_course, link_course, ticked, after}
use Rattle.model_laws.specs.Boundary.{IsBoundary}
use Rattle.model_laws.specs.Changed.{changed}
use Rattle.model_laws.proofs.NobodyIsDue.{part_woken, period_at_start}
use Rattle.actor_turn.specs.Side.{edge_of, times_of}
use Rattle.away_rows.specs.declared.body.Body.{Body}
use Rattle.away_rows.specs.Marks.{IsQuiet}
use Rattle.away_rows.specs.Bodies.{body_at, Sits, IsBody, SeatSet, Seated}
use Rattle.away_rows.specs.SidePass.{so_far, did_so_far, stirs_so_far}
use Rattle.away_rows.proofs.SideLaws.{in_below, none_before}
use Rattle.hub_laws.proofs.PassIsOver.{pass_over, stirs_over, own_over}
use Rattle.hub_floor.specs.declared.floor.Floor.{Floor}
use Rattle.hub_floor.specs.Forgot.{forgotten, Forgot}
use Rattle.hub_floor.specs.Floor.{LinksOf}
use Rattle.hub_floor.proofs.FloorGives.{parts_course, links_course, links_count}
use Rattle.hub_floor.proofs.SideOpens.{AllStand, placed_stand, settled_stand}

module _ {S : Type 0} where
  -- an actor that left its seat, and came back without its records
  pub forgot_seat : (old mid new : List (Option (Box (Body S) Global))) (i : ℕ) (x y b : Body S) → body_at old i ≡ Some x → body_at old i ≡ Some b → y ≡ forgotten x → SeatSet old mid i None → SeatSet mid new i (Some y) → SeatSet old new i (Some (forgotten b))
  forgot_seat old mid new i x y b e f is gone put = record {
    long = put.long ∙ gone.long;
    here = put.here ∙ ap (λ z. Some z) is ∙ ap (λ z. Some (forgotten z)) (let same : Some x ≡ Some b = sym e ∙ f in let z : x ≡ b = cc in z);
    others = λ k n. put.others k n ∙ gone.others k n;
  }

  pub forgot_none : (back : List Bool) (seats : List (Option (Box (Body S) Global))) → Forgot back 0 seats seats
  forgot_none back seats = record { long = refl; gone = λ i b l e at. absurd (omega arith); others = λ i o. refl }

  -- those from one place on that are not in are passed over
  pub forgot_over : (back : List Bool) (at to : ℕ) (old now : List (Option (Box (Body S) Global))) → at ≤ to → NoneIn back at to → Forgot back at old now → Forgot back to old now
  forgot_over back at to old now order none was = record {
    long = was.long;
    gone = λ i b l e here. gone i b l e here (cases_lt i at);
    others = λ i o. others i o (cases_lt i at);
  }
    where
      gone : (i : ℕ) (b : Body S) → i < to → is_in back i ≡ true → body_at old i ≡ Some b → (i < at) ⊎ (at ≤ i) → body_at now i ≡ Some (forgotten b)
      gone i b l e here (inl m) = was.gone i b m e here
      gone i b l e here (inr m) = absurd (let f : true ≡ false = sym e ∙ none i m l in cc)

      others : (i : ℕ) → (to ≤ i) ⊎ (is_in back i ≡ false) → (i < at) ⊎ (at ≤ i) → body_at now i ≡ body_at old i
      others i o (inr m) = was.others i (inl m)
      others i (inr e) (inl m) = was.others i (inr e)
      others i (inl k) (inl m) = absurd (omega (arith, order, k, m))

  -- one more of the set
  pub forgot_one : (back : List Bool) (at : ℕ) (old now new : List (Option (Box (Body S) Global))) → is_in back at ≡ true → ((b : Body S) → body_at now at ≡ Some b → SeatSet now new at (Some (forgotten b))) → (b : Body S) → body_at old at ≡ Some b → Forgot back at old now → Forgot back (at + 1) old new
  forgot_one back at old now new in_it set b here was = record {
    long = done.long ∙ was.long;
    gone = λ i x l e there. gone i x l e there (cases_eq i at);
    others = λ i o. others i o (cases_eq i at);
  }
    where
      still : body_at now at ≡ Some b
      still = was.others at (inl (omega arith)) ∙ here

      done : SeatSet now new at (Some (forgotten b))
      done = set b still

      gone : (i : ℕ) (x : Body S) → i < at + 1 → is_in back i ≡ true → body_at old i ≡ Some x → (i ≡ at) ⊎ (i ≢ at) → body_at new i ≡ Some (forgotten x)
      gone i x l e there (inl f) =
          let same : b ≡ x = (let g : Some b ≡ Some x = sym here ∙ ap (body_at old) (sym f) ∙ there in cc) in
          ap (body_at new) f ∙ done.here ∙ ap (λ y. Some (forgotten y)) same
      gone i x l e there (inr n) = done.others i n ∙ was.gone i x (omega (arith, l, n)) e there

      others : (i : ℕ) → (at + 1 ≤ i) ⊎ (is_in back i ≡ false) → (i ≡ at) ⊎ (i ≢ at) → body_at new i ≡ body_at old i
      others i (inl l) (inl f) = absurd (omega (arith, l, f))
      others i (inr e) (inl f) = absurd (let h : true ≡ false = sym in_it ∙ ap (is_in back) (sym f) ∙ e in cc)
      others i (inl l) (inr n) = done.others i n ∙ was.others i (inl (omega (arith, l)))
      others i (inr e) (inr n) = done.others i n ∙ was.others i (inr e)

  -- who has made its step sits in its seat
  pub sits_back : (w : Wires) (out : List Bool) (states : List S) (did : ℕ → List Record) (seats : List (Option (Box (Body S) Global))) (i : ℕ) → ((k : ℕ) → is_in out k ≡ false) → i < length states → Seated w out states did seats → (b : Body S) × (body_at seats i ≡ Some b)
  sits_back w out states did seats i home l was = let s = state_there states i l in found s.0 (body_at seats i) refl (was.sits i s.0 s.1 (home i))
    where
      state_there : (xs : List S) (k : ℕ) → k < length xs → (s : S) × (slice_get xs k ≡ Some s)
      state_there [] k b = absurd (omega arith)
      state_there (x ∷ xs) zero b = (x, refl)
      state_there (x ∷ xs) (suc k) b = state_there xs k (omega arith)

      found : (s : S) (o : Option (Body S)) → body_at seats i ≡ o → Sits (own_of w i) s (did i) (body_at seats i) → (b : Body S) × (body_at seats i ≡ Some b)
      found s None e h = absurd (subst (λ x. Sits (own_of w i) s (did i) x) e h)
      found s (Some b) e h = (b, e)

  -- the seats when all records are forgotten
  pub seated_over : (c : Course S) (base t : ℕ) (back out : List Bool) (states : List S) (seats new : List (Option (Box (Body S) Global))) → ((i : ℕ) → is_in out i ≡ false) → Seated c.wires out states (did_so_far c base t back) seats → Forgot back (length back) seats new → Seated c.wires [] states (λ i. []) new
  seated_over c base t back out states seats new home was forgot = record {
    all = forgot.long ∙ was.all;
    sits = λ i s e here. by i s (was.sits i s e (home i)) (is_in back i) refl (body_at seats i) refl;
  }
    where
      by : (i : ℕ) (s : S) → Sits (own_of c.wires i) s (did_so_far c base t back i) (body_at seats i) → (x : Bool) → is_in back i ≡ x → (o : Option (Body S)) → body_at seats i ≡ o → Sits (own_of c.wires i) s [] (body_at new i)
      by i s h x f None e = absurd (subst (λ o. Sits (own_of c.wires i) s (did_so_far c base t back i) o) e h)
      by i s h false f (Some b) e =
          subst (λ o. Sits (own_of c.wires i) s [] o) (sym (forgot.others i (inr f)))
          (subst (λ l. Sits (own_of c.wires i) s l (body_at seats i)) (none_before c base t back i f) h)
      by i s h true f (Some b) e =
          let is : IsBody (own_of c.wires i) s (did_so_far c base t back i) b = subst (λ o. Sits (own_of c.wires i) s (did_so_far c base t back i) o) e h in
          let l : i < length back = in_below back i f in
          subst (λ o. Sits (own_of c.wires i) s [] o) (sym (forgot.gone i b l f e))
          (record { actor = is.actor; ports = is.ports; seen = is.seen; items = refl; room = is.room })

module _ {P N : Type 0} where
  -- what the end of a time gives
  pub record TimeOver (r : System P N) (f : Floor P N) (parts : List (Option (Box (Body P) Global))) (links : List (Option (Box (Body N) Global))) : Type 0 where
    pub boundary : IsBoundary r (f.at + 1) (whole_world (world_at r (f.at + 1))) (times_of f.part_side f.next) (times_of f.link_side f.next)
    pub parts_home : Seated r.part_wires [] (world_at r (f.at + 1)).parts (λ i. []) parts
    pub links_home : Seated r.link_wires [] (world_at r (f.at + 1)).links (λ j. []) links
    pub rows_stand : f.rows ≡ settled_rows (world_at r (f.at + 1)).ports r.link_wires
    pub end_is : pick f.stirred f.at f.end ≡ end_below r (f.at + 1)

  pub time_over : (r : System P N) (vp : P → Type 0) (vn : N → Type 0) (until : ℕ) (f : Floor P N) (parts : List (Option (Box (Body P) Global))) (links : List (Option (Box (Body N) Global))) → LinksOf r vp vn until f → IsQuiet f.link_marks →
      Forgot f.part_marks.back (length f.part_marks.back) f.parts.items parts → Forgot f.link_marks.back (length f.link_marks.back) f.links.items links → TimeOver r f parts links
  time_over r vp vn until f parts links is quiet gone gone' = record {
    boundary = record {
      begun = (let b = is.links.begun in omega (arith, b));
      world_is = refl;
      parts_are = record {
        long = is.links.passing.times.woke.long;
        at = λ j b.
            is.links.passing.times.woke.at j b
            ∙ ap (λ (h : Side N). woken (changed true (mid r t).ports h.ports f.part_side.wiring j) (edge_of f.part_side (t + 1) j) (ticked (part_course r) j (t + 1))) links_over
            ∙ ap (λ (w : Wires). woken (changed true (mid r t).ports (world_at r (suc t)).ports w j) (edge_of f.part_side (t + 1) j) (ticked (part_course r) j (t + 1))) is.of.part_wires_are
            ∙ ap (λ p. woken (changed true (mid r t).ports (world_at r (suc t)).ports r.part_wires j) (edge_from p (t + 1)) (ticked (part_course r) j (t + 1))) (is.of.fitted.part_period j b).0
            ∙ sym (part_woken r t j (period_at_start (part_course r) vp LATEST_TICK j (parts_course r vp vn until f is.of) b));
      };
      links_are = own_over (link_course r) vn LATEST_TICK t (length r.start.world.links) f.link_marks (times_of f.link_side f.next) (links_course r vp vn until f is.of) small is.links.begun (sym (links_count r vp vn until t f is.of)) is.links.passing.all_due quiet is.links.passing.times.own;
    };
    parts_home = subst (λ d. Seated r.part_wires [] (world_at r d).parts (λ i. []) parts) (sym (add-one t))
        (subst (λ (h : Side P). Seated r.part_wires [] h.states (λ i. []) parts) parts_over
        (seated_over (part_course r) 0 t f.part_marks.back f.part_marks.out (so_far (part_course r) t f.part_marks.back).states f.parts.items parts is.links.parts_quiet.none_out is.links.parts_home gone));
    links_home = subst (λ d. Seated r.link_wires [] (world_at r d).links (λ j. []) links) (sym (add-one t))
        (subst (λ (h : Side N). Seated r.link_wires [] h.states (λ j. []) links) links_over
        (seated_over (link_course r) (length r.start.world.parts) t f.link_marks.back f.link_marks.out (so_far (link_course r) t f.link_marks.back).states f.links.items links quiet.none_out is.links.passing.pass.seated gone'));
    rows_stand = settled_stand (world_at r (t + 1)).ports r.link_wires f.rows
        (subst (λ d. AllStand (world_at r d).ports f.rows) (sym (add-one t))
        (subst (λ (h : Side N). AllStand h.ports f.rows) links_over
        (placed_stand r.link_wires false f.link_marks.out (so_far (link_course r) t f.link_marks.back).ports f.rows is.links.passing.pass.placed quiet.none_out))) is.of.rows_are;
    end_is = ap (λ x. pick x t f.end) stirs ∙ ap (pick (stirs_at r t) t) is.links.end_is ∙ sym (ap (end_below r) (add-one t));
  }
    where
      t : ℕ
      t = f.at

      small : t ≤ LATEST_TICK
      small = let w = is.within in let u = is.of.until_within in omega (arith, w, u)

      parts_over : so_far (part_course r) t f.part_marks.back ≡ after (part_course r) t
      parts_over = pass_over (part_course r) vp LATEST_TICK t f.part_marks (parts_course r vp vn until f is.of) small is.links.begun is.links.parts_due is.links.parts_quiet

      links_over : so_far (link_course r) t f.link_marks.back ≡ after (link_course r) t
      links_over = pass_over (link_course r) vn LATEST_TICK t f.link_marks (links_course r vp vn until f is.of) small is.links.begun is.links.passing.all_due quiet

      stirs : f.stirred ≡ stirs_at r t
      stirs =
          is.links.stirred_is
          ∙ ap (λ x. x || stirs_so_far (link_course r) t f.link_marks.back) (stirs_over (part_course r) vp LATEST_TICK t f.part_marks (parts_course r vp vn until f is.of) small is.links.begun is.links.parts_due is.links.parts_quiet)
          ∙ ap (λ x. stirs_of r.part r.part_wires (begun r.start.at t) t (parts_of (world_at r t)) || x) (stirs_over (link_course r) vn LATEST_TICK t f.link_marks (links_course r vp vn until f is.of) small is.links.begun is.links.passing.all_due quiet)
