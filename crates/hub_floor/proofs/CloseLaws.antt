-- A floor whose time is over.
use Rattle.std.proofs.Common.{◌≡◌, ℕ, ◌+◌, length, sym, ◌∙◌, ap, arith, refl, Vec, Global}
use Rattle.std.specs.Prelude.{Option, Some, Bool, true, false, Box}
use Rattle.bit_set.specs.Bits.{is_in}
use Rattle.tick_law.specs.SerialLoop.{System, pick}
use Rattle.tick_law.specs.Course.{part_course, link_course}
use Rattle.model_laws.proofs.ActorByActor.{length_states}
use Rattle.away_rows.specs.declared.body.Body.{Body}
use Rattle.away_rows.specs.declared.marks.Marks.{Marks}
use Rattle.away_rows.specs.Marks.{no_marks, IsQuiet}
use Rattle.away_rows.specs.Bodies.{body_at}
use Rattle.away_rows.specs.SidePass.{so_far, did_so_far}
use Rattle.away_rows.proofs.SideLaws.{in_below}
use Rattle.hub_laws.specs.HubState.{HubState}
use Rattle.hub_laws.specs.declared.stage.Stage.TheVariants.{Boundary}
use Rattle.hub_laws.specs.Events.{cleared, closed}
use Rattle.hub_floor.specs.declared.floor.Floor.{Floor}
use Rattle.hub_floor.specs.Forgot.{Forgot}
use Rattle.hub_floor.specs.Floor.{hub_state, RestsOf, LinksOf}
use Rattle.hub_floor.proofs.FloorGives.{parts_count, links_count, of_same}
use Rattle.hub_floor.proofs.Closes.{TimeOver, time_over, sits_back}

state_closed : (s : HubState) (failed : Bool) (m m' n n' : Marks) (e e' : ℕ) → m ≡ m' → n ≡ n' → e ≡ e' →
    (let u : HubState = record s { stage = Boundary; at = s.at + 1; part_marks = m; link_marks = n; end = e; stirred = false; failed = failed } in let v : HubState = record s { stage = Boundary; at = s.at + 1; part_marks = m'; link_marks = n'; end = e'; stirred = false; failed = failed } in u ≡ v)
state_closed s failed m m' n n' e e' a b d = cc

module _ {P N : Type 0} where
  -- there are as many marks as seats
  states_long : (r : System P N) (vp : P → Type 0) (vn : N → Type 0) (until : ℕ) (f : Floor P N) → LinksOf r vp vn until f → length (so_far (part_course r) f.at f.part_marks.back).states ≡ length f.part_marks.back
  states_long r vp vn until f was = length_states r.part r.part_wires (is_in f.part_marks.back) f.at ((part_course r).before f.at) ∙ sym was.links.parts_marked.back_all

  link_states_long : (r : System P N) (vp : P → Type 0) (vn : N → Type 0) (until : ℕ) (f : Floor P N) → LinksOf r vp vn until f → length (so_far (link_course r) f.at f.link_marks.back).states ≡ length f.link_marks.back
  link_states_long r vp vn until f was = length_states r.link r.link_wires (is_in f.link_marks.back) f.at ((link_course r).before f.at) ∙ sym was.links.passing.marks_are.back_all

  pub parts_back_long : (r : System P N) (vp : P → Type 0) (vn : N → Type 0) (until : ℕ) (f : Floor P N) → LinksOf r vp vn until f → length f.part_marks.back ≡ length f.parts.items
  parts_back_long r vp vn until f was = sym (was.links.parts_home.all ∙ states_long r vp vn until f was)

  pub links_back_long : (r : System P N) (vp : P → Type 0) (vn : N → Type 0) (until : ℕ) (f : Floor P N) → LinksOf r vp vn until f → length f.link_marks.back ≡ length f.links.items
  links_back_long r vp vn until f was = sym (was.links.passing.pass.seated.all ∙ link_states_long r vp vn until f was)

  -- and who is back sits in its seat
  pub part_here : (r : System P N) (vp : P → Type 0) (vn : N → Type 0) (until : ℕ) (f : Floor P N) → LinksOf r vp vn until f → (i : ℕ) → is_in f.part_marks.back i ≡ true → (b : Body P) × (body_at f.parts.items i ≡ Some b)
  part_here r vp vn until f was i e =
      let b = in_below f.part_marks.back i e in
      let l = states_long r vp vn until f was in
      sits_back r.part_wires f.part_marks.out (so_far (part_course r) f.at f.part_marks.back).states (did_so_far (part_course r) 0 f.at f.part_marks.back) f.parts.items i was.links.parts_quiet.none_out (omega (arith, b, l)) was.links.parts_home

  pub link_here : (r : System P N) (vp : P → Type 0) (vn : N → Type 0) (until : ℕ) (f : Floor P N) → LinksOf r vp vn until f → IsQuiet f.link_marks → (i : ℕ) → is_in f.link_marks.back i ≡ true → (b : Body N) × (body_at f.links.items i ≡ Some b)
  link_here r vp vn until f was quiet i e =
      let b = in_below f.link_marks.back i e in
      let l = link_states_long r vp vn until f was in
      sits_back r.link_wires f.link_marks.out (so_far (link_course r) f.at f.link_marks.back).states (did_so_far (link_course r) (length r.start.world.parts) f.at f.link_marks.back) f.links.items i quiet.none_out (omega (arith, b, l)) was.links.passing.pass.seated

  pub record TimeIsClosed (r : System P N) (vp : P → Type 0) (vn : N → Type 0) (until : ℕ) (failed : Bool) (f new : Floor P N) : Type 0 where
    pub floor : RestsOf r vp vn until new
    pub event_is : hub_state new ≡ closed failed (hub_state f)

  pub time_is_closed : (r : System P N) (vp : P → Type 0) (vn : N → Type 0) (until : ℕ) (failed : Bool) (f : Floor P N) (parts : Vec (Option (Box (Body P) Global)) Global) (links : Vec (Option (Box (Body N) Global)) Global) (m n : Marks) (e : ℕ) →
      LinksOf r vp vn until f → IsQuiet f.link_marks → Forgot f.part_marks.back (length f.part_marks.back) f.parts.items parts.items → Forgot f.link_marks.back (length f.link_marks.back) f.links.items links.items →
      m ≡ cleared f.part_marks → n ≡ cleared f.link_marks → e ≡ pick f.stirred f.at f.end →
      TimeIsClosed r vp vn until failed f (record f { parts = parts; links = links; part_marks = m; link_marks = n; end = e; stirred = false; failed = failed; at = f.at + 1; stage = Boundary })
  time_is_closed r vp vn until failed f parts links m n e was quiet gone gone' m_is n_is e_is = record {
    floor = record {
      of = of_same r vp vn until f _ was.of refl refl refl refl refl;
      rest = record {
        boundary = done.boundary;
        parts_home = done.parts_home;
        links_home = done.links_home;
        rows_stand = done.rows_stand;
        parts_unmarked = m_is ∙ ap no_marks parts_all;
        links_unmarked = n_is ∙ ap no_marks links_all;
        calm = refl;
        end_is = e_is ∙ done.end_is;
      };
      asked = was.asked;
      within = (let w = was.within in omega (arith, w));
    };
    event_is = state_closed (hub_state f) failed m (cleared f.part_marks) n (cleared f.link_marks) e (pick f.stirred f.at f.end) m_is n_is e_is;
  }
    where
      done : TimeOver r f parts.items links.items
      done = time_over r vp vn until f parts.items links.items was quiet gone gone'

      parts_all : length f.part_marks.waiting ≡ length r.start.world.parts
      parts_all = was.links.parts_marked.waiting_all ∙ parts_count r vp vn until f.at f was.of

      links_all : length f.link_marks.waiting ≡ length r.start.world.links
      links_all = was.links.passing.marks_are.waiting_all ∙ links_count r vp vn until f.at f was.of
