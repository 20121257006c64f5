-- A run of a hub of which a tick is asked for.
use Rattle.std.proofs.Common.{◌≡◌, ◌≢◌, ℕ, ◌+◌, ◌<◌, ◌≤◌, ◌%◌, ◌⊎◌, inl, inr, List, length, get_or, sym, ◌∙◌, ap, subst, arith, refl}
use Rattle.std.specs.Prelude.{Option, Some, None, Bool, true, false, nat_le, ◌&&◌, slice_set}
use Rattle.std.proofs.lemmas.Bool.{cases_eq}
use Rattle.std.proofs.lemmas.Bool.Decides.{nat_tests}
use Rattle.std.proofs.lemmas.List.{length-set, get_or-set_same, get_or-set_other}
use Rattle.std.proofs.lemmas.Grind.{get_or_default_zero}
use Rattle.sim_base.specs.declared.time.Time.{Time}
use Rattle.tick_law.specs.SerialLoop.{System}
use Rattle.tick_law.specs.Course.{part_course, period}
use Rattle.model_laws.specs.NextTable.{next_at_place}
use Rattle.model_laws.specs.SideTimes.{half_of}
use Rattle.model_laws.proofs.SideTimesLaws.{length-half, half_in}
use Rattle.hub_laws.specs.HubState.{HubState}
use Rattle.hub_laws.specs.Events.{counted, asked_edge, ask_noted, tick_asked}
use Rattle.hub_laws.specs.declared.stage.Stage.{Stage}
use Rattle.hub_laws.specs.declared.stage.Stage.TheVariants.{Boundary, Primary, Secondary, Over}
use Rattle.hub_floor.specs.declared.floor.Floor.{Floor}
use Rattle.hub_floor.specs.Floor.{hub_state, IsOf, AreAsked, RestsOf}
use Rattle.hub_floor.proofs.FloorGives.{of_same}
use Rattle.run_hub.specs.Stands.{StandsAt, Stands}
use Rattle.run_hub.specs.Asks.{first_asked, is_noted_at, told_where}

some_is : (a b : ℕ) → ◌≡◌ {A = Option ℕ} (Some a) (Some b) → a ≡ b
some_is a b e = cc

right_of : (a b : Bool) → (a && b) ≡ true → b ≡ true
right_of true b e = e
right_of false b e = absurd (cc)

le_of : (a b : ℕ) → nat_le a b ≡ true → a ≤ b
le_of a b e = grind (arith, nat_tests)

-- an edge that is noted is within the run
pub noted_within : (s : Stage) (until e : ℕ) → is_noted_at s until e ≡ true → e ≤ until
noted_within s until e is = le_of e until (right_of _ (nat_le e until) is)

pub noted : (s : Stage) (until until' e : ℕ) (b : Bool) → b ≡ is_noted_at s until e → until ≡ until' → b ≡ true → is_noted_at s until' e ≡ true
noted s until until' e b is same told = sym (is ∙ ap (λ u. is_noted_at s u e) same) ∙ told

-- AskTick, where the edge is noted
pub noted_event : (until p i e asks : ℕ) (s : HubState) → e ≡ asked_edge s.stage p s.at → is_noted_at s.stage until e ≡ true → asks ≡ counted s.asks 1 → record s { asks = asks; asked = slice_set s.asked i (Some e) } ≡ tick_asked until s p i
noted_event until p i e asks s edge is count =
    ap (λ n. let x : HubState = record s { asks = n; asked = slice_set s.asked i (Some e) } in x) count
    ∙ ap (λ b. ask_noted b s i e) (sym is)
    ∙ ap (λ n. ask_noted (is_noted_at s.stage until n) s i n) edge

-- what is told of it
pub told_edge : (until p e : ℕ) (s : HubState) (b : Bool) → e ≡ asked_edge s.stage p s.at → is_noted_at s.stage until e ≡ b → told_where b e ≡ told_where (is_noted_at s.stage until (asked_edge s.stage p s.at)) (asked_edge s.stage p s.at)
told_edge until p e s b edge is = ap (λ x. told_where x e) (sym is) ∙ ap (λ n. told_where (is_noted_at s.stage until n) n) edge

module _ {P N : Type 0} where
  -- its run, its time and its asked edges, whatever its stage
  pub record Asking (r : System P N) (vp : P → Type 0) (vn : N → Type 0) (until : ℕ) (f : Floor P N) : Type 0 where
    pub of : IsOf r vp vn until f
    pub asked : AreAsked r (first_asked f.stage f.at) until (half_of 0 (length f.asked) f.asked)
    pub within : f.at ≤ until + 1

  asking_at : (s : Stage) (r : System P N) (vp : P → Type 0) (vn : N → Type 0) (until : ℕ) (f : Floor P N) → f.stage ≡ s → StandsAt s r vp vn until f → Asking r vp vn until f
  asking_at Boundary r vp vn until f e is = record { of = is.of; asked = subst (λ (s : Stage). AreAsked r (first_asked s f.at) until (half_of 0 (length f.asked) f.asked)) (sym e) is.asked; within = is.within }
  asking_at Primary r vp vn until f e is = record { of = is.floor.of; asked = subst (λ (s : Stage). AreAsked r (first_asked s f.at) until (half_of 0 (length f.asked) f.asked)) (sym e) is.floor.asked; within = (let l = is.floor.within in omega (arith, l)) }
  asking_at Secondary r vp vn until f e is = record { of = is.floor.of; asked = subst (λ (s : Stage). AreAsked r (first_asked s f.at) until (half_of 0 (length f.asked) f.asked)) (sym e) is.floor.asked; within = (let l = is.floor.within in omega (arith, l)) }
  asking_at Over r vp vn until f e is = record { of = is.floor.of; asked = subst (λ (s : Stage). AreAsked r (first_asked s f.at) until (half_of 0 (length f.asked) f.asked)) (sym e) is.floor.asked; within = is.floor.within }

  pub asking : (r : System P N) (vp : P → Type 0) (vn : N → Type 0) (until : ℕ) (f : Floor P N) → Stands r vp vn until f → Asking r vp vn until f
  asking r vp vn until f is = asking_at f.stage r vp vn until f refl is

  -- what is read as the period of a part is its period
  pub period_read : (r : System P N) (vp : P → Type 0) (vn : N → Type 0) (until i p : ℕ) (f : Floor P N) → IsOf r vp vn until f → i < length r.start.world.parts → p ≡ get_or f.part_side.periods.items i p → p ≡ period (part_course r) i
  period_read r vp vn until i p f is b e =
      e ∙ get_or_default_zero f.part_side.periods.items i p (let n = is.fitted.part_count in omega (arith, b, n)) ∙ (is.fitted.part_period i b).0

  -- one more edge is asked for
  pub one_more_asked : (r : System P N) (least until i e : ℕ) (asked : List (Option ℕ)) → i < length asked → AreAsked r least until asked → e % period (part_course r) i ≡ 0 → least ≤ e → e ≤ until → AreAsked r least until (slice_set asked i (Some e))
  one_more_asked r least until i e asked b are edge from to j n told = by (cases_eq j i)
    where
      by : (j ≡ i) ⊎ (j ≢ i) → (n % period (part_course r) j ≡ 0) × (least ≤ n) × (n ≤ until)
      by (inl same) =
          let is : n ≡ e = some_is n e (sym told ∙ ap (λ k. next_at_place (slice_set asked i (Some e)) k) same ∙ get_or-set_same asked i (Some e) None b) in
          (ap (λ k. k % period (part_course r) j) is ∙ ap (λ k. e % period (part_course r) k) same ∙ edge, omega (arith, is, from), omega (arith, is, to))
      by (inr other) = are j n (sym (get_or-set_other asked i j (Some e) None other) ∙ told)

  -- the same run with this count of asks and these asked edges
  asked_at : (s : Stage) (r : System P N) (vp : P → Type 0) (vn : N → Type 0) (until : ℕ) (f : Floor P N) (asks : ℕ) (asked : List (Option Time)) → length asked ≡ length f.asked → AreAsked r (first_asked s f.at) until (half_of 0 (length asked) asked) → StandsAt s r vp vn until f → StandsAt s r vp vn until (record f { asks = asks; asked = asked })
  asked_at Boundary r vp vn until f asks asked long are is = rests f asks asked long are is
    where
      rests : (f : Floor P N) (asks : ℕ) (asked : List (Option Time)) → length asked ≡ length f.asked → AreAsked r f.at until (half_of 0 (length asked) asked) → RestsOf r vp vn until f → RestsOf r vp vn until (record f { asks = asks; asked = asked })
      rests f asks asked long are is = record {
        of = of_same r vp vn until f _ is.of refl refl refl refl long;
        rest = record {
          boundary = is.rest.boundary;
          parts_home = is.rest.parts_home;
          links_home = is.rest.links_home;
          rows_stand = is.rest.rows_stand;
          parts_unmarked = is.rest.parts_unmarked;
          links_unmarked = is.rest.links_unmarked;
          calm = is.rest.calm;
          end_is = is.rest.end_is;
        };
        asked = are;
        within = is.within;
      }
  asked_at Primary r vp vn until f asks asked long are is = record {
    floor = record {
      stage_is = is.floor.stage_is;
      of = of_same r vp vn until f _ is.floor.of refl refl refl refl long;
      parts = record {
        begun = is.floor.parts.begun;
        passing = is.floor.parts.passing;
        links_home = is.floor.parts.links_home;
        links_unmarked = is.floor.parts.links_unmarked;
        stirred_is = is.floor.parts.stirred_is;
        end_is = is.floor.parts.end_is;
      };
      asked = are;
      within = is.floor.within;
    };
    goes_on = is.goes_on;
    written = is.written;
  }
  asked_at Secondary r vp vn until f asks asked long are is = record {
    floor = record {
      stage_is = is.floor.stage_is;
      of = of_same r vp vn until f _ is.floor.of refl refl refl refl long;
      links = record {
        begun = is.floor.links.begun;
        passing = is.floor.links.passing;
        parts_home = is.floor.links.parts_home;
        parts_marked = is.floor.links.parts_marked;
        parts_due = is.floor.links.parts_due;
        parts_quiet = is.floor.links.parts_quiet;
        stirred_is = is.floor.links.stirred_is;
        end_is = is.floor.links.end_is;
      };
      asked = are;
      within = is.floor.within;
    };
    goes_on = is.goes_on;
    written = is.written;
  }
  asked_at Over r vp vn until f asks asked long are is = record {
    floor = record {
      of = of_same r vp vn until f _ is.floor.of refl refl refl refl long;
      rest = record {
        boundary = is.floor.rest.boundary;
        parts_home = is.floor.rest.parts_home;
        links_home = is.floor.rest.links_home;
        rows_stand = is.floor.rest.rows_stand;
        parts_unmarked = is.floor.rest.parts_unmarked;
        links_unmarked = is.floor.rest.links_unmarked;
        calm = is.floor.rest.calm;
        end_is = is.floor.rest.end_is;
      };
      asked = are;
      within = is.floor.within;
    };
    why = is.why;
  }

  asked_half : (f : Floor P N) (i e : ℕ) → i < length f.asked → half_of 0 (length (slice_set f.asked i (Some (record { 0 = e })))) (slice_set f.asked i (Some (record { 0 = e }))) ≡ slice_set (half_of 0 (length f.asked) f.asked) i (Some e)
  asked_half f i e b =
      ap (λ n. half_of 0 n (slice_set f.asked i (Some (record { 0 = e })))) (length-set f.asked i (Some (record { 0 = e })))
      ∙ subst (λ k. half_of 0 (length f.asked) (slice_set f.asked k (Some (record { 0 = e }))) ≡ slice_set (half_of 0 (length f.asked) f.asked) i (Some e)) (let z : 0 + i ≡ i = omega arith in z)
      (half_in 0 (length f.asked) i f.asked (Some (record { 0 = e })) b (omega (arith, b)))

  -- the ask is counted, and its edge noted
  pub stands_asked : (r : System P N) (vp : P → Type 0) (vn : N → Type 0) (until : ℕ) (f : Floor P N) (asks i e : ℕ) → Stands r vp vn until f → i < length r.start.world.parts → e % period (part_course r) i ≡ 0 → first_asked f.stage f.at ≤ e → e ≤ until →
      Stands r vp vn until (record f { asks = asks; asked = slice_set f.asked i (Some (record { 0 = e })) })
  stands_asked r vp vn until f asks i e is b edge from to =
      let now = asking r vp vn until f is in
      let known : i < length f.asked = (let n = now.of.asked_all in omega (arith, b, n)) in
      asked_at f.stage r vp vn until f asks (slice_set f.asked i (Some (record { 0 = e }))) (length-set f.asked i (Some (record { 0 = e })))
      (subst (AreAsked r (first_asked f.stage f.at) until) (sym (asked_half f i e known))
      (one_more_asked r (first_asked f.stage f.at) until i e (half_of 0 (length f.asked) f.asked) (let n = length-half 0 (length f.asked) f.asked in omega (arith, known, n)) now.asked edge from to))
      is

  pub state_asked : (f : Floor P N) (asks i e : ℕ) → i < length f.asked → hub_state (record f { asks = asks; asked = slice_set f.asked i (Some (record { 0 = e })) }) ≡ record (hub_state f) { asks = asks; asked = slice_set (hub_state f).asked i (Some e) }
  state_asked f asks i e b = ap (λ (l : List (Option ℕ)). let s : HubState = record (hub_state f) { asks = asks; asked = l } in s) (asked_half f i e b)
