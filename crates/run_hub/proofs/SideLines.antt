-- The lines of a side, one actor after another.
use Rattle.std.proofs.Common.{◌≡◌, ℕ, zero, suc, ◌+◌, ◌-◌, ◌<◌, ◌≤◌, List, [], ◌∷◌, ◌++◌, length, take, drop, sym, ◌∙◌, ap, subst, arith, refl, Global, add-one}
use Rattle.std.specs.Prelude.{Option, Some, None, Bool, true, false, Box, slice_get, cond}
use Rattle.std.proofs.Math.Seq.{take-append_seam}
use Rattle.std.proofs.lemmas.List.{take-append-drop, append_assoc, append-nil}
use Rattle.std.proofs.lemmas.Grind.{flat_map-append}
use Rattle.std.proofs.lemmas.List.Sums.{sum_by-append}
use Rattle.bit_set.specs.Bits.{is_in, NoneIn}
use Rattle.port_msg.specs.RecView.{records_at}
use Rattle.port_msg.specs.declared.records.Record.{Record}
use Rattle.sim_io.specs.Sink.{Got, GotPrefix}
use Rattle.trace_out.specs.Names.{NamesView}
use Rattle.trace_out.specs.Lines.{text_of, has_line, lines_of, line_count}
use Rattle.tick_law.specs.Wires.{own_of}
use Rattle.tick_law.specs.SerialLoop.{pick}
use Rattle.tick_law.specs.Outcomes.{outcome, whats_of, records_to}
use Rattle.tick_law.specs.Course.{Course}
use Rattle.model_laws.proofs.DueByDue.{outcome_none}
use Rattle.away_rows.specs.declared.body.Body.{Body}
use Rattle.away_rows.specs.Bodies.{body_at, Sits, Seated}
use Rattle.away_rows.specs.SidePass.{so_far, did_so_far}
use Rattle.trace_out.proofs.Writing.{Got-more}
use Rattle.run_hub.specs.Lines.{records_in, side_records}

-- the lines of a prefix of a text's second part
got_prefix : (old mid new : Option (List ℕ)) (a b : List ℕ) → Got old mid a → GotPrefix mid new b → GotPrefix old new (a ++ b)
got_prefix old mid new a b p (k, q) =
    let text = a ++ take k b in
    let whole : a ++ b ≡ text ++ drop k b = ap (λ l. a ++ l) (sym (take-append-drop k b)) ∙ regroup a (take k b) (drop k b) in
    (length text, subst (λ (bytes : List ℕ). Got old new bytes) (sym (ap (take (length text)) whole ∙ take-append_seam text (drop k b))) (Got-more old mid new a (take k b) p q))
  where
    regroup : (a b c : List ℕ) → a ++ (b ++ c) ≡ (a ++ b) ++ c
    regroup a b c = simp append_assoc

-- the lines of some records and of those that follow, where not all of the following came
pub prefix_grow : (names : NamesView) (all : Bool) (a b both : List Record) (old mid new : Option (List ℕ)) → both ≡ a ++ b → Got old mid (lines_of names all a) → GotPrefix mid new (lines_of names all b) → GotPrefix old new (lines_of names all both)
prefix_grow names all a b both old mid new is p q =
    subst (λ (bytes : List ℕ). GotPrefix old new bytes) (sym (flat_map-append (text_of names all) a b) ∙ ap (lines_of names all) (sym is))
    (got_prefix old mid new (lines_of names all a) (lines_of names all b) p q)

-- a prefix of a text is one of a longer text
got_more : (old new : Option (List ℕ)) (a b : List ℕ) → GotPrefix old new a → GotPrefix old new (a ++ b)
got_more old new a b (k, q) =
    let text = take k a in
    let whole : a ++ b ≡ text ++ (drop k a ++ b) = ap (λ l. l ++ b) (sym (take-append-drop k a)) ∙ append_assoc text (drop k a) b in
    (length text, subst (λ (bytes : List ℕ). Got old new bytes) (sym (ap (take (length text)) whole ∙ take-append_seam text (drop k a ++ b))) q)

-- the lines of some of the first records, and of those that follow
pub prefix_first : (names : NamesView) (all : Bool) (a b both : List Record) (old new : Option (List ℕ)) → both ≡ a ++ b → GotPrefix old new (lines_of names all a) → GotPrefix old new (lines_of names all both)
prefix_first names all a b both old new is got =
    subst (λ (bytes : List ℕ). GotPrefix old new bytes) (sym (flat_map-append (text_of names all) a b) ∙ ap (lines_of names all) (sym is))
    (got_more old new (lines_of names all a) (lines_of names all b) got)

-- the lines of some records and of those that follow are so many
count_both : (all : Bool) (a b : List Record) → line_count all (a ++ b) ≡ line_count all a + line_count all b
count_both all a b = sum_by-append (λ (r : Record). cond (has_line all r) 1 0) a b

-- where some of the first records, or of those that follow, have a line there is one
pub some_first : (all : Bool) (a b both : List Record) → both ≡ a ++ b → 0 < line_count all a → 0 < line_count all both
some_first all a b both is some = let n : line_count all both ≡ line_count all a + line_count all b = ap (line_count all) is ∙ count_both all a b in omega (arith, n, some)

pub some_last : (all : Bool) (a b both : List Record) → both ≡ a ++ b → 0 < line_count all b → 0 < line_count all both
some_last all a b both is some = let n : line_count all both ≡ line_count all a + line_count all b = ap (line_count all) is ∙ count_both all a b in omega (arith, n, some)

module _ {S : Type 0} where
  -- those of a set from one place on that nobody is in
  pub records_same : (back : List Bool) (seats : List (Option (Box (Body S) Global))) (at k : ℕ) → NoneIn back at (at + k) → side_records back seats (at + k) ≡ side_records back seats at
  records_same back seats at zero none = ap (side_records back seats) (let z : at + 0 ≡ at = omega arith in z)
  records_same back seats at (suc k) none =
      ap (side_records back seats) (let z : at + suc k ≡ suc (at + k) = omega arith in z)
      ∙ ap (λ x. side_records back seats (at + k) ++ pick x (records_in (body_at seats (at + k))) []) (none (at + k) (omega arith) (omega arith))
      ∙ append-nil (side_records back seats (at + k))
      ∙ records_same back seats at k (λ i l m. none i l (omega (arith, m)))

  pub records_over : (back : List Bool) (seats : List (Option (Box (Body S) Global))) (at to : ℕ) → at ≤ to → NoneIn back at to → side_records back seats to ≡ side_records back seats at
  records_over back seats at to l none =
      let z : at + (to - at) ≡ to = omega (arith, l) in
      ap (side_records back seats) (sym z) ∙ records_same back seats at (to - at) (subst (λ n. NoneIn back at n) (sym z) none)

  -- one more that is in
  pub records_one : (back : List Bool) (seats : List (Option (Box (Body S) Global))) (at : ℕ) (b : Body S) → is_in back at ≡ true → body_at seats at ≡ Some b → side_records back seats (at + 1) ≡ side_records back seats at ++ b.recs.items
  records_one back seats at b e here =
      ap (side_records back seats) (add-one at)
      ∙ ap (λ x. side_records back seats at ++ pick x (records_in (body_at seats at)) []) e
      ∙ ap (λ o. side_records back seats at ++ records_in o) here

  -- the first so many are the beginning of all
  records_more : (back : List Bool) (seats : List (Option (Box (Body S) Global))) (n k : ℕ) → (rest : List Record) × (side_records back seats (n + k) ≡ side_records back seats n ++ rest)
  records_more back seats n zero = ([], ap (side_records back seats) (let z : n + 0 ≡ n = omega arith in z) ∙ sym (append-nil (side_records back seats n)))
  records_more back seats n (suc k) =
      let before = records_more back seats n k in
      let last = pick (is_in back (n + k)) (records_in (body_at seats (n + k))) [] in
      (before.0 ++ last, ap (side_records back seats) (let z : n + suc k ≡ suc (n + k) = omega arith in z) ∙ ap (λ l. l ++ last) before.1 ∙ append_assoc (side_records back seats n) before.0 last)

  pub prefix_of_all : (back : List Bool) (seats : List (Option (Box (Body S) Global))) (names : NamesView) (all : Bool) (old new : Option (List ℕ)) (n m : ℕ) → n ≤ m → GotPrefix old new (lines_of names all (side_records back seats n)) → GotPrefix old new (lines_of names all (side_records back seats m))
  prefix_of_all back seats names all old new n m l got =
      let z : n + (m - n) ≡ m = omega (arith, l) in
      let more = records_more back seats n (m - n) in
      subst (λ k. GotPrefix old new (lines_of names all (side_records back seats k))) z
      (subst (λ x. GotPrefix old new (lines_of names all x)) (sym more.1)
      (subst (λ (bytes : List ℕ). GotPrefix old new bytes) (sym (flat_map-append (text_of names all) (side_records back seats n) more.0))
      (got_more old new (lines_of names all (side_records back seats n)) (lines_of names all more.0) got)))

  -- where some of the first so many have a line there is one
  pub some_of_all : (back : List Bool) (seats : List (Option (Box (Body S) Global))) (all : Bool) (n m : ℕ) → n ≤ m → 0 < line_count all (side_records back seats n) → 0 < line_count all (side_records back seats m)
  some_of_all back seats all n m l some =
      let z : n + (m - n) ≡ m = omega (arith, l) in
      let more = records_more back seats n (m - n) in
      some_first all (side_records back seats n) more.0 (side_records back seats m) (ap (side_records back seats) (sym z) ∙ more.1) some

  state_there : (xs : List S) (k : ℕ) → k < length xs → (s : S) × (slice_get xs k ≡ Some s)
  state_there [] k b = absurd (omega arith)
  state_there (x ∷ xs) zero b = (x, refl)
  state_there (x ∷ xs) (suc k) b = state_there xs k (omega arith)

  items_of : (own : List ℕ) (s : S) (did : List Record) (o : Option (Body S)) → Sits own s did o → records_in o ≡ did
  items_of own s did None h = absurd h
  items_of own s did (Some b) h = h.items

  -- the records that the seats have are those of the steps of those who are back
  pub records_are : (c : Course S) (base t : ℕ) (back out : List Bool) (seats : List (Option (Box (Body S) Global))) (n : ℕ) → ((i : ℕ) → is_in out i ≡ false) → n ≤ length (so_far c t back).states → Seated c.wires out (so_far c t back).states (did_so_far c base t back) seats →
      side_records back seats n ≡ records_to c.machine c.wires (is_in back) t (c.before t) base n
  records_are c base t back out seats zero home l was = refl
  records_are c base t back out seats (suc n) home l was =
      ap (λ x. x ++ pick (is_in back n) (records_in (body_at seats n)) []) (records_are c base t back out seats n home (omega (arith, l)) was)
      ∙ ap (λ x. records_to c.machine c.wires (is_in back) t (c.before t) base n ++ x) (by (is_in back n) refl)
    where
      by : (x : Bool) → is_in back n ≡ x → pick (is_in back n) (records_in (body_at seats n)) [] ≡ records_at t (base + n) (whats_of (outcome c.machine c.wires (is_in back) t (c.before t) n))
      by true e =
          let s = state_there (so_far c t back).states n (omega (arith, l)) in
          ap (λ y. pick y (records_in (body_at seats n)) []) e ∙ items_of (own_of c.wires n) s.0 (did_so_far c base t back n) (body_at seats n) (was.sits n s.0 s.1 (home n))
      by false e = ap (λ y. pick y (records_in (body_at seats n)) []) e ∙ sym (ap (λ o. records_at t (base + n) (whats_of o)) (outcome_none c.machine c.wires (is_in back) t n (c.before t) e))
