-- A floor whose passes have opened.
use Rattle.std.proofs.Common.{◌≡◌, ℕ, ◌+◌, ◌≤◌, List, length, sym, ◌∙◌, ap, subst, refl}
use Rattle.std.specs.Prelude.{Option, Some, Bool, true, false, ◌&&◌, not}
use Rattle.std.proofs.lemmas.List.{length-replicate}
use Rattle.sim_base.specs.declared.time.Time.{Time}
use Rattle.bit_set.specs.Bits.{is_in}
use Rattle.event_queue.specs.Mark.{AllMarked}
use Rattle.event_queue.specs.NextTimes.{time_of}
use Rattle.tick_law.specs.NextTime.{due_is}
use Rattle.tick_law.specs.SerialLoop.{System}
use Rattle.model_laws.specs.SideTimes.{half_of}
use Rattle.model_laws.specs.NextTable.{next_at_place}
use Rattle.model_laws.proofs.SideTimesLaws.{length-half}
use Rattle.actor_turn.specs.declared.side.SideGear.{SideGear}
use Rattle.actor_turn.specs.Side.{times_of}
use Rattle.away_rows.specs.declared.marks.Marks.{Marks}
use Rattle.away_rows.specs.Marks.{IsQuiet}
use Rattle.hub_laws.specs.HubState.{HubState}
use Rattle.hub_laws.specs.declared.stage.Stage.TheVariants.{Primary, Secondary}
use Rattle.hub_laws.specs.Events.{IsLeastTime, those_at, either_of, due_parts, waiting_in, without, counted, count_to, asked_only, parts_opened, flipped}
use Rattle.hub_floor.specs.declared.floor.Floor.{Floor}
use Rattle.hub_floor.specs.Floor.{hub_state, AreAsked, IsOf, RestsOf, PartsOf, LinksOf}
use Rattle.hub_floor.proofs.FloorGives.{parts_count, links_count, of_same}
use Rattle.hub_floor.proofs.SideOpens.{marked_those, those_in}
use Rattle.hub_floor.proofs.AskedInTurn.{count_same}
use Rattle.hub_floor.proofs.FloorOpens.{PartsOpened, parts_open, LinksOpened, links_open}

state_opened : (s : HubState) (t : ℕ) (m m' : Marks) (a a' : List (Option ℕ)) (x x' : ℕ) → m ≡ m' → a ≡ a' → x ≡ x' →
    (let u : HubState = record s { stage = Primary; at = t; part_marks = m; asked = a; extra = x } in let v : HubState = record s { stage = Primary; at = t; part_marks = m'; asked = a'; extra = x' } in u ≡ v)
state_opened s t m m' a a' x x' e f g = cc

module _ {P N : Type 0} where
  -- those that were marked are those whose next time it is
  pub parts_marked : (r : System P N) (vp : P → Type 0) (vn : N → Type 0) (until t count : ℕ) (f : Floor P N) (due : List Bool) → IsOf r vp vn until f → length due ≡ count → count ≡ length r.start.world.parts →
      AllMarked f.next (record { 0 = t }) 0 count due → ((i : ℕ) → is_in due i ≡ true → time_of f.next (0 + i) ≡ Some (record { 0 = t })) → due ≡ those_at (times_of f.part_side f.next) t
  parts_marked r vp vn until t count f due of long e all only =
      subst (λ (k : ℕ). due ≡ those_at (half_of k (length f.part_side.periods.items) f.next) t) (sym of.order.start)
      (subst (λ (n : ℕ). due ≡ those_at (half_of 0 n f.next) t) (e ∙ sym of.fitted.part_count) (marked_those f.next t 0 count due long all only))

  pub record PartsAreOpen (r : System P N) (vp : P → Type 0) (vn : N → Type 0) (until t : ℕ) (f new : Floor P N) : Type 0 where
    pub floor : PartsOf r vp vn until new
    pub event_is : hub_state new ≡ parts_opened (hub_state f) t

  alone_is : (f : Floor P N) (t count alone : ℕ) (due : List Bool) → count ≡ length f.asked → due ≡ those_at (times_of f.part_side f.next) t →
      alone ≡ count_to (λ i. is_in (those_at (half_of 0 count f.asked) t) i && not (is_in due i)) count → alone ≡ count_to (asked_only (hub_state f).asked (hub_state f).part_next t) (length (hub_state f).asked)
  alone_is f t count alone due e d a =
      a
      ∙ count_same (λ i. is_in (those_at (half_of 0 count f.asked) t) i && not (is_in due i)) (asked_only (hub_state f).asked (hub_state f).part_next t) count
      (λ i l.
      ap (λ x. x && not (is_in due i)) (ap (λ n. is_in (those_at (half_of 0 n f.asked) t) i) e ∙ those_in (half_of 0 (length f.asked) f.asked) t i)
      ∙ ap (λ x. due_is (next_at_place (half_of 0 (length f.asked) f.asked) i) t && not x) (ap (λ l0. is_in l0 i) d ∙ those_in (times_of f.part_side f.next) t i))
      ∙ ap (count_to (asked_only (hub_state f).asked (hub_state f).part_next t)) (e ∙ sym (length-half 0 (length f.asked) f.asked))

  pub parts_are_open : (r : System P N) (vp : P → Type 0) (vn : N → Type 0) (until t count alone extra : ℕ) (f new : Floor P N) (due waiting : List Bool) (asked : List (Option Time)) →
      RestsOf r vp vn until f → IsLeastTime (hub_state f) t → t ≤ until → count ≡ length r.start.world.parts →
      due ≡ those_at (times_of f.part_side f.next) t → waiting ≡ either_of due (those_at (half_of 0 count f.asked) t) → length asked ≡ length f.asked → half_of 0 count asked ≡ without (half_of 0 count f.asked) t →
      alone ≡ count_to (λ i. is_in (those_at (half_of 0 count f.asked) t) i && not (is_in due i)) count → extra ≡ counted f.extra alone →
      new ≡ record f { asked = asked; part_marks = waiting_in f.part_marks waiting; extra = extra; at = t; stage = Primary } → PartsAreOpen r vp vn until t f new
  parts_are_open r vp vn until t count alone extra f new due waiting asked is least within count_is marked waiting_is asked_long asked_is alone_are extra_is new_is =
      subst (λ (x : Floor P N). PartsAreOpen r vp vn until t f x) (sym new_is)
      (record {
        floor = record {
          stage_is = refl;
          of = of_same r vp vn until f _ is.of refl refl refl refl asked_long;
          parts = record {
            begun = done.begun;
            passing = done.passing;
            links_home = done.links_home;
            links_unmarked = is.rest.links_unmarked;
            stirred_is = done.stirred_is;
            end_is = done.end_is;
          };
          asked = subst (λ l. AreAsked r (t + 1) until l) (sym asks) done.asked;
          within = within;
        };
        event_is = state_opened (hub_state f) t (waiting_in f.part_marks waiting) (waiting_in f.part_marks (due_parts (hub_state f) t)) (half_of 0 (length asked) asked) (without (half_of 0 (length f.asked) f.asked) t) extra _
            (ap (waiting_in f.part_marks) waits) asks (extra_is ∙ ap (counted f.extra) (alone_is f t count alone due number marked alone_are));
      })
    where
      number : count ≡ length f.asked
      number = count_is ∙ sym is.of.asked_all

      waits : waiting ≡ due_parts (hub_state f) t
      waits = waiting_is ∙ ap (λ l. either_of l (those_at (half_of 0 count f.asked) t)) marked ∙ ap (λ n. either_of (those_at (times_of f.part_side f.next) t) (those_at (half_of 0 n f.asked) t)) number

      asks : half_of 0 (length asked) asked ≡ without (half_of 0 (length f.asked) f.asked) t
      asks = ap (λ n. half_of 0 n asked) (asked_long ∙ sym number) ∙ asked_is ∙ ap (λ n. without (half_of 0 n f.asked) t) number

      done : PartsOpened r until t f (waiting_in f.part_marks waiting)
      done = parts_open r vp vn until t f (waiting_in f.part_marks waiting) is least within waits refl refl

  pub record LinksAreOpen (r : System P N) (vp : P → Type 0) (vn : N → Type 0) (until : ℕ) (f : Floor P N) (due : List Bool) : Type 0 where
    pub floor : LinksOf r vp vn until (record f { link_marks = waiting_in f.link_marks due; stage = Secondary })
    pub event_is : hub_state (record f { link_marks = waiting_in f.link_marks due; stage = Secondary }) ≡ flipped (hub_state f)

  pub links_are_open : (r : System P N) (vp : P → Type 0) (vn : N → Type 0) (until count : ℕ) (f : Floor P N) (due : List Bool) → PartsOf r vp vn until f → IsQuiet f.part_marks → count ≡ length r.start.world.links → length due ≡ count →
      AllMarked f.next (record { 0 = f.at }) f.link_side.first count due → ((i : ℕ) → is_in due i ≡ true → time_of f.next (f.link_side.first + i) ≡ Some (record { 0 = f.at })) → LinksAreOpen r vp vn until f due
  links_are_open r vp vn until count f due was quiet count_is long all only = record {
    floor = record {
      stage_is = refl;
      of = of_same r vp vn until f _ was.of refl refl refl refl refl;
      links = record {
        begun = was.parts.begun;
        passing = done.passing;
        parts_home = was.parts.passing.pass.seated;
        parts_marked = was.parts.passing.marks_are;
        parts_due = was.parts.passing.all_due;
        parts_quiet = quiet;
        stirred_is = done.stirred_is;
        end_is = was.parts.end_is;
      };
      asked = was.asked;
      within = was.within;
    };
    event_is = ap (λ (l : List Bool). let s : HubState = record (hub_state f) { stage = Secondary; link_marks = waiting_in f.link_marks l } in s) marked;
  }
    where
      marked : due ≡ those_at (times_of f.link_side f.next) f.at
      marked = subst (λ (n : ℕ). due ≡ those_at (half_of f.link_side.first n f.next) f.at) (count_is ∙ sym was.of.fitted.link_count) (marked_those f.next f.at f.link_side.first count due long all only)

      done : LinksOpened r f (waiting_in f.link_marks due)
      done = links_open r vp vn until f (waiting_in f.link_marks due) was quiet marked refl refl

  -- sides that know other edges are the same to contracts
  pub same_sides : (f : Floor P N) (a b : SideGear) (t extra : ℕ) (asked : List (Option Time)) (marks : Marks) → a ≡ f.part_side → b ≡ f.link_side →
      (let u : Floor P N = record f { part_side = a; link_side = b; asked = asked; part_marks = marks; extra = extra; at = t; stage = Primary } in let v : Floor P N = record f { asked = asked; part_marks = marks; extra = extra; at = t; stage = Primary } in u ≡ v)
  same_sides f a b t extra asked marks e h =
      ap (λ (s : SideGear). let u : Floor P N = record f { part_side = s; link_side = b; asked = asked; part_marks = marks; extra = extra; at = t; stage = Primary } in u) e
      ∙ ap (λ (s : SideGear). let u : Floor P N = record f { link_side = s; asked = asked; part_marks = marks; extra = extra; at = t; stage = Primary } in u) h

  -- marks and seats of those who are at home
  pub rest_waits : (r : System P N) (vp : P → Type 0) (vn : N → Type 0) (until : ℕ) (f : Floor P N) → RestsOf r vp vn until f → length f.part_marks.waiting ≡ length r.start.world.parts
  rest_waits r vp vn until f is = ap (λ (m : Marks). length m.waiting) is.rest.parts_unmarked ∙ length-replicate (length r.start.world.parts) false

  pub rest_seats : (r : System P N) (vp : P → Type 0) (vn : N → Type 0) (until : ℕ) (f : Floor P N) → RestsOf r vp vn until f → length f.parts.items ≡ length r.start.world.parts
  rest_seats r vp vn until f is = is.rest.parts_home.all ∙ parts_count r vp vn until f.at f is.of

  pub links_wait : (r : System P N) (vp : P → Type 0) (vn : N → Type 0) (until : ℕ) (f : Floor P N) → PartsOf r vp vn until f → length f.link_marks.waiting ≡ length r.start.world.links
  links_wait r vp vn until f was = ap (λ (m : Marks). length m.waiting) was.parts.links_unmarked ∙ length-replicate (length r.start.world.links) false

  pub links_sit : (r : System P N) (vp : P → Type 0) (vn : N → Type 0) (until : ℕ) (f : Floor P N) → PartsOf r vp vn until f → length f.links.items ≡ length r.start.world.links
  links_sit r vp vn until f was = was.parts.links_home.all ∙ links_count r vp vn until f.at f was.of
