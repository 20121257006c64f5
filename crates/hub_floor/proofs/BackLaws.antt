-- A floor when an actor that was out is back.
use Rattle.std.proofs.Common.{◌≡◌, ℕ, ◌+◌, ◌<◌, inl, inr, List, length, set, sym, ◌∙◌, ap, subst, arith, refl, Vec, Global}
use Rattle.std.specs.Prelude.{Option, Some, Bool, true, false, ◌||◌, Box}
use Rattle.std.proofs.lemmas.List.{length-set, length-map}
use Rattle.sim_base.specs.declared.time.TheConstants.{LATEST_TICK}
use Rattle.sim_base.specs.declared.time.Time.{Time}
use Rattle.event_queue.specs.NextTimes.{time_of}
use Rattle.bit_set.specs.Bits.{is_in}
use Rattle.port_row.specs.Row.{face_at}
use Rattle.port_rows.specs.Rows.{RowsView, with_own, with_row, row_of_link}
use Rattle.tick_law.specs.Wires.{own_of, Has}
use Rattle.tick_law.specs.Pass.{gather, port_at}
use Rattle.tick_law.specs.SerialLoop.{System, world_at, mid}
use Rattle.tick_law.specs.Course.{part_course, link_course, ticked}
use Rattle.tick_law.specs.Verdict.{link_next}
use Rattle.model_laws.specs.Pass.{scatter}
use Rattle.model_laws.specs.SideTimes.{number_of, timed}
use Rattle.model_laws.proofs.ActorByActor.{length_states}
use Rattle.actor_turn.specs.Next.{left_by}
use Rattle.actor_turn.specs.Waking.{Waking}
use Rattle.away_rows.specs.declared.body.Body.{Body}
use Rattle.away_rows.specs.declared.marks.Marks.{Marks}
use Rattle.away_rows.specs.Marks.{finished}
use Rattle.away_rows.specs.Bodies.{SeatSet, with_own_ports, with_own_row}
use Rattle.away_rows.specs.SidePass.{stirs_so_far, IsAfter}
use Rattle.away_rows.proofs.SideLaws.{in_below, so_far_long}
use Rattle.hub_laws.specs.Events.{part_finished, link_finished}
use Rattle.hub_floor.specs.declared.floor.Floor.{Floor}
use Rattle.hub_floor.specs.Passing.{Passing}
use Rattle.hub_floor.specs.Floor.{hub_state, PartsOf, LinksOf}
use Rattle.hub_floor.proofs.FloorGives.{parts_course, links_course, parts_count, links_count, part_side_is, link_side_is, part_halves, link_halves, port_count_at, mid_count_at, of_same}
use Rattle.hub_floor.proofs.SideIn.{CameBack, comes_back, flag_told, or_more}
use Rattle.hub_floor.proofs.Events.{part_event, link_event}

module _ {P N : Type 0} where
  -- who is out is one of the parts
  pub part_out_is : (r : System P N) (vp : P → Type 0) (vn : N → Type 0) (until i : ℕ) (f : Floor P N) → PartsOf r vp vn until f → is_in f.part_marks.out i ≡ true → i < length r.start.world.parts
  part_out_is r vp vn until i f was out =
      let here = in_below f.part_marks.out i out in
      let all : length f.part_marks.out ≡ length (world_at r f.at).parts = was.parts.passing.marks_are.out_all in
      let count = parts_count r vp vn until f.at f was.of in
      omega (arith, here, all, count)

  pub link_out_is : (r : System P N) (vp : P → Type 0) (vn : N → Type 0) (until i : ℕ) (f : Floor P N) → LinksOf r vp vn until f → is_in f.link_marks.out i ≡ true → i < length r.start.world.links
  link_out_is r vp vn until i f was out =
      let here = in_below f.link_marks.out i out in
      let all : length f.link_marks.out ≡ length (mid r f.at).links = was.links.passing.marks_are.out_all in
      let count = links_count r vp vn until f.at f was.of in
      omega (arith, here, all, count)

  -- there are as many seats
  pub part_seats : (r : System P N) (vp : P → Type 0) (vn : N → Type 0) (until : ℕ) (f : Floor P N) → PartsOf r vp vn until f → length f.parts.items ≡ length r.start.world.parts
  part_seats r vp vn until f was =
      was.parts.passing.pass.seated.all ∙ length_states r.part r.part_wires (is_in f.part_marks.back) f.at ((part_course r).before f.at) ∙ parts_count r vp vn until f.at f was.of

  pub link_seats : (r : System P N) (vp : P → Type 0) (vn : N → Type 0) (until : ℕ) (f : Floor P N) → LinksOf r vp vn until f → length f.links.items ≡ length r.start.world.links
  link_seats r vp vn until f was =
      was.links.passing.pass.seated.all ∙ length_states r.link r.link_wires (is_in f.link_marks.back) f.at ((link_course r).before f.at) ∙ links_count r vp vn until f.at f was.of

  -- and ports
  pub part_rows : (r : System P N) (vp : P → Type 0) (vn : N → Type 0) (until : ℕ) (f : Floor P N) → PartsOf r vp vn until f → length f.rows.ports ≡ length r.start.world.ports
  part_rows r vp vn until f was = was.parts.passing.pass.placed.long ∙ so_far_long (part_course r) f.at f.part_marks.back ∙ port_count_at r f.at

  pub link_rows : (r : System P N) (vp : P → Type 0) (vn : N → Type 0) (until : ℕ) (f : Floor P N) → LinksOf r vp vn until f → length f.rows.ports ≡ length r.start.world.ports
  link_rows r vp vn until f was = was.links.passing.pass.placed.long ∙ so_far_long (link_course r) f.at f.link_marks.back ∙ mid_count_at r f.at

  -- the ports of a part are there
  pub own_ports : (r : System P N) (vp : P → Type 0) (vn : N → Type 0) (until i : ℕ) (f : Floor P N) (own : List ℕ) → PartsOf r vp vn until f → own ≡ own_of r.part_wires i → (q : ℕ) → Has own q → q < length f.rows.ports
  own_ports r vp vn until i f own was e q has =
      let b = was.of.fitted.set_up.part_wired.within i q (subst (λ l. Has l q) e has) in
      let n = part_rows r vp vn until f was in
      omega (arith, b, n)

  pub part_small : (r : System P N) (vp : P → Type 0) (vn : N → Type 0) (until : ℕ) (f : Floor P N) → PartsOf r vp vn until f → f.at < LATEST_TICK
  part_small r vp vn until f was = let w = was.within in let u = was.of.until_within in omega (arith, w, u)

  pub link_small : (r : System P N) (vp : P → Type 0) (vn : N → Type 0) (until : ℕ) (f : Floor P N) → LinksOf r vp vn until f → f.at < LATEST_TICK
  link_small r vp vn until f was = let w = was.within in let u = was.of.until_within in omega (arith, w, u)

  pub record PartIsBack (r : System P N) (vp : P → Type 0) (vn : N → Type 0) (until i : ℕ) (f new : Floor P N) : Type 0 where
    pub floor : PartsOf r vp vn until new
    pub event_is : hub_state new ≡ part_finished r (hub_state f) i

  pub record LinkIsBack (r : System P N) (vp : P → Type 0) (vn : N → Type 0) (until i : ℕ) (f new : Floor P N) : Type 0 where
    pub floor : LinksOf r vp vn until new
    pub event_is : hub_state new ≡ link_finished r (hub_state f) i

  pub part_comes_back : (r : System P N) (vp : P → Type 0) (vn : N → Type 0) (until i : ℕ) (f : Floor P N) (own : List ℕ) (b : Body P) (told : Bool) (seats : Vec (Option (Box (Body P) Global)) Global) (back now : RowsView) (next1 next2 : List (Option Time)) (marks : Marks) (stirred : Bool) →
      PartsOf r vp vn until f → is_in f.part_marks.out i ≡ true → own ≡ own_of r.part_wires i → IsAfter (part_course r) 0 f.at i true b told →
      next1 ≡ set f.next (f.part_side.first + i) (timed (left_by r.part f.at told (number_of (time_of f.next (f.part_side.first + i))) b.actor)) →
      back ≡ with_own f.rows own b.row.ports → SeatSet f.parts.items seats.items i (Some (with_own_ports b (gather f.rows.ports own))) →
      Waking false own f.link_side f.at back next1 (length own) now next2 → marks ≡ finished f.part_marks i → stirred ≡ (f.stirred || told) →
      PartIsBack r vp vn until i f (record f { next = next2; parts = seats; rows = now; part_marks = marks; stirred = stirred })
  part_comes_back r vp vn until i f own b told seats back now next1 next2 marks stirred was out e after noted rows seat w m s = record {
    floor = record {
      stage_is = was.stage_is;
      of = of_same r vp vn until f _ was.of refl refl (w.wires ∙ ap (λ (x : RowsView). x.wires) rows) (w.all ∙ ap length noted ∙ length-set f.next _ _) refl;
      parts = record {
        begun = was.parts.begun;
        passing = subst (λ (x : Marks). Passing (part_course r) 0 f.at f.at false true f.part_side f.link_side (length r.start.world.parts) (length r.start.world.links) (link_next r f.at) x seats.items now next2) (sym m) done.passing;
        links_home = was.parts.links_home;
        links_unmarked = was.parts.links_unmarked;
        stirred_is = s ∙ ap (λ x. x || told) was.parts.stirred_is ∙ sym done.stirs_are ∙ sym (ap (λ (x : Marks). stirs_so_far (part_course r) f.at x.back) m);
        end_is = was.parts.end_is;
      };
      asked = was.asked;
      within = was.within;
    };
    event_is = part_event r vp vn until f i marks next2 stirred was.of was.parts.passing.times.woke.long m done.own_is done.woke_is
        (s ∙ ap (λ x. f.stirred || x) (flag_told (part_course r) 0 f.at i true b told was.parts.begun after));
  }
    where
      mine : List ℕ
      mine = own_of r.part_wires i

      small : f.at < LATEST_TICK
      small = let x = was.within in let u = was.of.until_within in omega (arith, x, u)

      done : CameBack (part_course r) 0 f.at f.at i false true f.part_side f.link_side (length r.start.world.parts) (length r.start.world.links) (link_next r f.at) f.part_marks seats.items now f.next next2 told
      done =
          comes_back (part_course r) vp 0 f.at f.at i false true f.part_side f.link_side (length r.start.world.parts) (length r.start.world.links) (link_next r f.at) f.part_marks f.parts.items seats.items f.rows back now f.next next1 next2 b (with_own_ports b (gather f.rows.ports mine)) told
          (parts_course r vp vn until f was.of) small (part_side_is r vp vn until f.at f was.of was.parts.begun) (part_halves r vp vn until f.at f was.of) was.parts.passing out after
          (subst (λ l. SeatSet f.parts.items seats.items i (Some (with_own_ports b (gather f.rows.ports l)))) e seat) refl refl
          (length-map mine (λ q. port_at f.rows.ports q)) after.kit.seen
          (ap (λ (x : RowsView). x.ports) rows ∙ ap (λ l. scatter f.rows.ports l b.row.ports) e)
          (record { how = inl (refl, ap (λ (x : RowsView). x.seen) rows) }) noted
          (subst (λ l. Waking false l f.link_side f.at back next1 (length l) now next2) e w)

  pub link_comes_back : (r : System P N) (vp : P → Type 0) (vn : N → Type 0) (until i : ℕ) (f : Floor P N) (b : Body N) (told : Bool) (seats : Vec (Option (Box (Body N) Global)) Global) (back now : RowsView) (next1 next2 : List (Option Time)) (marks : Marks) (stirred : Bool) →
      LinksOf r vp vn until f → is_in f.link_marks.out i ≡ true → IsAfter (link_course r) (length r.start.world.parts) f.at i false b told →
      next1 ≡ set f.next (f.link_side.first + i) (timed (left_by r.link f.at told (number_of (time_of f.next (f.link_side.first + i))) b.actor)) →
      back ≡ with_row f.rows i b.row → SeatSet f.links.items seats.items i (Some (with_own_row b (row_of_link f.rows i))) →
      Waking true (own_of back.wires i) f.part_side (f.at + 1) back next1 (length (own_of back.wires i)) now next2 → marks ≡ finished f.link_marks i → stirred ≡ (f.stirred || told) →
      LinkIsBack r vp vn until i f (record f { next = next2; links = seats; rows = now; link_marks = marks; stirred = stirred })
  link_comes_back r vp vn until i f b told seats back now next1 next2 marks stirred was out after noted rows seat w m s = record {
    floor = record {
      stage_is = was.stage_is;
      of = of_same r vp vn until f _ was.of refl refl (w.wires ∙ ap (λ (x : RowsView). x.wires) rows) (w.all ∙ ap length noted ∙ length-set f.next _ _) refl;
      links = record {
        begun = was.links.begun;
        passing = subst (λ (x : Marks). Passing (link_course r) (length r.start.world.parts) f.at (f.at + 1) true false f.link_side f.part_side (length r.start.world.links) (length r.start.world.parts) (λ k. ticked (part_course r) k (f.at + 1)) x seats.items now next2) (sym m) done.passing;
        parts_home = was.links.parts_home;
        parts_marked = was.links.parts_marked;
        parts_due = was.links.parts_due;
        parts_quiet = was.links.parts_quiet;
        stirred_is = s ∙ ap (λ x. x || told) was.links.stirred_is
            ∙ or_more (stirs_so_far (part_course r) f.at f.part_marks.back) (stirs_so_far (link_course r) f.at f.link_marks.back) told
            ∙ ap (λ x. stirs_so_far (part_course r) f.at f.part_marks.back || x) (sym done.stirs_are ∙ sym (ap (λ (x : Marks). stirs_so_far (link_course r) f.at x.back) m));
        end_is = was.links.end_is;
      };
      asked = was.asked;
      within = was.within;
    };
    event_is = link_event r vp vn until f i marks next2 stirred was.of was.links.passing.times.woke.long m done.own_is done.woke_is
        (s ∙ ap (λ x. f.stirred || x) (flag_told (link_course r) (length r.start.world.parts) f.at i false b told was.links.begun after));
  }
    where
      mine : List ℕ
      mine = own_of r.link_wires i

      own_is : own_of f.rows.wires i ≡ mine
      own_is = ap (λ w0. own_of w0 i) was.of.rows_are

      back_is : own_of back.wires i ≡ mine
      back_is = ap (λ (x : RowsView). own_of x.wires i) rows ∙ own_is

      small : f.at < LATEST_TICK
      small = let x = was.within in let u = was.of.until_within in omega (arith, x, u)

      done : CameBack (link_course r) (length r.start.world.parts) f.at (f.at + 1) i true false f.link_side f.part_side (length r.start.world.links) (length r.start.world.parts) (λ k. ticked (part_course r) k (f.at + 1)) f.link_marks seats.items now f.next next2 told
      done =
          comes_back (link_course r) vn (length r.start.world.parts) f.at (f.at + 1) i true false f.link_side f.part_side (length r.start.world.links) (length r.start.world.parts) (λ k. ticked (part_course r) k (f.at + 1)) f.link_marks f.links.items seats.items f.rows back now f.next next1 next2 b (with_own_row b (row_of_link f.rows i)) told
          (links_course r vp vn until f was.of) small (link_side_is r vp vn until f.at f was.of was.links.begun) (link_halves r vp vn until f.at f was.of) was.links.passing out after seat refl refl
          (length-map (own_of f.rows.wires i) (λ q. port_at f.rows.ports q) ∙ ap length own_is)
          (length-map (own_of f.rows.wires i) (λ q. face_at f.rows.seen q) ∙ ap length own_is)
          (ap (λ (x : RowsView). x.ports) rows ∙ ap (λ l. scatter f.rows.ports l b.row.ports) own_is)
          (record { how = inr (refl, ap (λ (x : RowsView). x.seen) rows ∙ ap (λ l. scatter f.rows.seen l b.row.seen) own_is) }) noted
          (subst (λ l. Waking true l f.part_side (f.at + 1) back next1 (length l) now next2) back_is w)
