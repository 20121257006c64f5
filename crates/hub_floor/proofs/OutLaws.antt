-- A floor when an actor that waits goes out.
use Rattle.std.proofs.Common.{◌≡◌, ℕ, ◌+◌, ◌<◌, ◌≤◌, List, length, sym, ◌∙◌, ap, subst, arith, refl, Vec, Global}
use Rattle.std.specs.Prelude.{Option, Some, None, true, false, ◌||◌, Box}
use Rattle.sim_base.specs.declared.time.TheConstants.{LATEST_TICK}
use Rattle.bit_set.specs.Bits.{is_in}
use Rattle.port_rows.specs.Rows.{RowsView, with_own, with_row, row_of_link}
use Rattle.tick_law.specs.Wires.{own_of, Has}
use Rattle.tick_law.specs.Pass.{gather}
use Rattle.tick_law.specs.SerialLoop.{System, world_at, mid}
use Rattle.tick_law.specs.Course.{part_course, link_course, ticked}
use Rattle.tick_law.specs.Verdict.{link_next}
use Rattle.away_rows.specs.declared.body.Body.{Body}
use Rattle.away_rows.specs.declared.marks.Marks.{Marks}
use Rattle.away_rows.specs.Marks.{claimed}
use Rattle.away_rows.specs.Bodies.{body_at, HasRow, SeatSet, with_own_ports, with_own_row}
use Rattle.away_rows.specs.SidePass.{so_far, stirs_so_far}
use Rattle.away_rows.proofs.SeatLaws.{row_some}
use Rattle.away_rows.proofs.SideLaws.{in_below, waiting_sits, so_far_long, part_left, link_left}
use Rattle.hub_floor.specs.declared.floor.Floor.{Floor}
use Rattle.hub_floor.specs.Passing.{Passing, IsTask}
use Rattle.hub_floor.specs.Floor.{PartsOf, LinksOf}
use Rattle.hub_floor.proofs.FloorGives.{parts_course, links_course, parts_count, links_count, part_side_is, link_side_is, port_count_at, of_same}
use Rattle.hub_floor.proofs.SideOut.{WentOut, goes_out}

module _ {P N : Type 0} where
  -- who waits is one of the parts
  pub part_waits : (r : System P N) (vp : P → Type 0) (vn : N → Type 0) (until i : ℕ) (f : Floor P N) → PartsOf r vp vn until f → is_in f.part_marks.waiting i ≡ true → i < length r.start.world.parts
  part_waits r vp vn until i f was waits =
      let here = in_below f.part_marks.waiting i waits in
      let all : length f.part_marks.waiting ≡ length (world_at r f.at).parts = was.parts.passing.marks_are.waiting_all in
      let count = parts_count r vp vn until f.at f was.of in
      omega (arith, here, all, count)

  pub link_waits : (r : System P N) (vp : P → Type 0) (vn : N → Type 0) (until i : ℕ) (f : Floor P N) → LinksOf r vp vn until f → is_in f.link_marks.waiting i ≡ true → i < length r.start.world.links
  link_waits r vp vn until i f was waits =
      let here = in_below f.link_marks.waiting i waits in
      let all : length f.link_marks.waiting ≡ length (mid r f.at).links = was.links.passing.marks_are.waiting_all in
      let count = links_count r vp vn until f.at f was.of in
      omega (arith, here, all, count)

  -- and sits in its seat, with a row for its ports
  pub part_sits : (r : System P N) (vp : P → Type 0) (vn : N → Type 0) (until i : ℕ) (f : Floor P N) (own : List ℕ) → PartsOf r vp vn until f → is_in f.part_marks.waiting i ≡ true → own ≡ own_of r.part_wires i → HasRow own (body_at f.parts.items i)
  part_sits r vp vn until i f own was waits e =
      let p = was.parts.passing in
      subst (λ l. HasRow l (body_at f.parts.items i)) (sym e) (waiting_sits (part_course r) 0 f.at i true f.part_marks f.parts.items f.rows p.marks_are p.pass waits)

  pub link_sits : (r : System P N) (vp : P → Type 0) (vn : N → Type 0) (until i : ℕ) (f : Floor P N) → LinksOf r vp vn until f → is_in f.link_marks.waiting i ≡ true → HasRow (own_of f.rows.wires i) (body_at f.links.items i)
  link_sits r vp vn until i f was waits =
      let p = was.links.passing in
      subst (λ l. HasRow l (body_at f.links.items i)) (sym (ap (λ w. own_of w i) was.of.rows_are)) (waiting_sits (link_course r) (length r.start.world.parts) f.at i false f.link_marks f.links.items f.rows p.marks_are p.pass waits)

  -- the ports of a part are there
  pub part_ports : (r : System P N) (vp : P → Type 0) (vn : N → Type 0) (until i : ℕ) (f : Floor P N) (own : List ℕ) → PartsOf r vp vn until f → own ≡ own_of r.part_wires i → (q : ℕ) → Has own q → q < length f.rows.ports
  part_ports r vp vn until i f own was e q has =
      let b = was.of.fitted.set_up.part_wired.within i q (subst (λ l. Has l q) e has) in
      let long : length f.rows.ports ≡ length (so_far (part_course r) f.at f.part_marks.back).ports = was.parts.passing.pass.placed.long in
      let all : length (so_far (part_course r) f.at f.part_marks.back).ports ≡ length (world_at r f.at).ports = so_far_long (part_course r) f.at f.part_marks.back in
      let n = port_count_at r f.at in
      omega (arith, b, long, all, n)

  pub record PartWentOut (r : System P N) (vp : P → Type 0) (vn : N → Type 0) (until i : ℕ) (f new : Floor P N) (taken : Body P) : Type 0 where
    pub floor : PartsOf r vp vn until new
    pub task : IsTask (part_course r) f.at i true taken

  pub part_goes_out : (r : System P N) (vp : P → Type 0) (vn : N → Type 0) (until i : ℕ) (f : Floor P N) (own : List ℕ) (seats : Vec (Option (Box (Body P) Global)) Global) (rows : RowsView) (marks : Marks) (taken : Body P) →
      PartsOf r vp vn until f → is_in f.part_marks.waiting i ≡ true → own ≡ own_of r.part_wires i →
      ((b : Body P) → body_at f.parts.items i ≡ Some b → taken ≡ with_own_ports b (gather f.rows.ports own)) → ((b : Body P) → body_at f.parts.items i ≡ Some b → rows ≡ with_own f.rows own b.row.ports) →
      SeatSet f.parts.items seats.items i None → marks ≡ claimed f.part_marks i → PartWentOut r vp vn until i f (record f { parts = seats; rows = rows; part_marks = marks }) taken
  part_goes_out r vp vn until i f own seats rows marks taken was waits e taken_is rows_are seat m = record {
    floor = record {
      stage_is = was.stage_is;
      of = of_same r vp vn until f _ was.of refl refl (ap (λ (x : RowsView). x.wires) (rows_are body.0 body.1)) refl refl;
      parts = record {
        begun = was.parts.begun;
        passing = subst (λ (x : Marks). Passing (part_course r) 0 f.at f.at false true f.part_side f.link_side (length r.start.world.parts) (length r.start.world.links) (link_next r f.at) x seats.items rows f.next) (sym m) done.passing;
        links_home = was.parts.links_home;
        links_unmarked = was.parts.links_unmarked;
        stirred_is = was.parts.stirred_is ∙ sym (ap (λ (x : Marks). stirs_so_far (part_course r) f.at x.back) m);
        end_is = was.parts.end_is;
      };
      asked = was.asked;
      within = was.within;
    };
    task = done.task;
  }
    where
      body : (b : Body P) × (body_at f.parts.items i ≡ Some b)
      body = row_some own (body_at f.parts.items i) (part_sits r vp vn until i f own was waits e)

      small : f.at ≤ LATEST_TICK
      small = let w = was.within in let u = was.of.until_within in omega (arith, w, u)

      done : WentOut (part_course r) 0 f.at f.at i false true f.part_side f.link_side (length r.start.world.parts) (length r.start.world.links) (link_next r f.at) f.part_marks seats.items rows f.next taken
      done =
          goes_out (part_course r) vp 0 f.at f.at i false true f.part_side f.link_side (length r.start.world.parts) (length r.start.world.links) (link_next r f.at) f.part_marks f.parts.items seats.items f.rows rows f.next body.0 taken
          (parts_course r vp vn until f was.of) small (part_side_is r vp vn until f.at f was.of was.parts.begun) was.parts.passing waits body.1 seat
          (part_left (own_of r.part_wires i) f.rows rows body.0 taken (taken_is body.0 body.1 ∙ ap (λ l. with_own_ports body.0 (gather f.rows.ports l)) e) (rows_are body.0 body.1 ∙ ap (λ l. with_own f.rows l body.0.row.ports) e))

  pub record LinkWentOut (r : System P N) (vp : P → Type 0) (vn : N → Type 0) (until i : ℕ) (f new : Floor P N) (taken : Body N) : Type 0 where
    pub floor : LinksOf r vp vn until new
    pub task : IsTask (link_course r) f.at i false taken

  pub link_goes_out : (r : System P N) (vp : P → Type 0) (vn : N → Type 0) (until i : ℕ) (f : Floor P N) (seats : Vec (Option (Box (Body N) Global)) Global) (rows : RowsView) (marks : Marks) (taken : Body N) →
      LinksOf r vp vn until f → is_in f.link_marks.waiting i ≡ true →
      ((b : Body N) → body_at f.links.items i ≡ Some b → taken ≡ with_own_row b (row_of_link f.rows i)) → ((b : Body N) → body_at f.links.items i ≡ Some b → rows ≡ with_row f.rows i b.row) →
      SeatSet f.links.items seats.items i None → marks ≡ claimed f.link_marks i → LinkWentOut r vp vn until i f (record f { links = seats; rows = rows; link_marks = marks }) taken
  link_goes_out r vp vn until i f seats rows marks taken was waits taken_is rows_are seat m = record {
    floor = record {
      stage_is = was.stage_is;
      of = of_same r vp vn until f _ was.of refl refl (ap (λ (x : RowsView). x.wires) (rows_are body.0 body.1)) refl refl;
      links = record {
        begun = was.links.begun;
        passing = subst (λ (x : Marks). Passing (link_course r) (length r.start.world.parts) f.at (f.at + 1) true false f.link_side f.part_side (length r.start.world.links) (length r.start.world.parts) (λ k. ticked (part_course r) k (f.at + 1)) x seats.items rows f.next) (sym m) done.passing;
        parts_home = was.links.parts_home;
        parts_marked = was.links.parts_marked;
        parts_due = was.links.parts_due;
        parts_quiet = was.links.parts_quiet;
        stirred_is = was.links.stirred_is ∙ sym (ap (λ (x : Marks). stirs_so_far (part_course r) f.at f.part_marks.back || stirs_so_far (link_course r) f.at x.back) m);
        end_is = was.links.end_is;
      };
      asked = was.asked;
      within = was.within;
    };
    task = done.task;
  }
    where
      body : (b : Body N) × (body_at f.links.items i ≡ Some b)
      body = row_some (own_of f.rows.wires i) (body_at f.links.items i) (link_sits r vp vn until i f was waits)

      small : f.at ≤ LATEST_TICK
      small = let w = was.within in let u = was.of.until_within in omega (arith, w, u)

      done : WentOut (link_course r) (length r.start.world.parts) f.at (f.at + 1) i true false f.link_side f.part_side (length r.start.world.links) (length r.start.world.parts) (λ k. ticked (part_course r) k (f.at + 1)) f.link_marks seats.items rows f.next taken
      done =
          goes_out (link_course r) vn (length r.start.world.parts) f.at (f.at + 1) i true false f.link_side f.part_side (length r.start.world.links) (length r.start.world.parts) (λ k. ticked (part_course r) k (f.at + 1)) f.link_marks f.links.items seats.items f.rows rows f.next body.0 taken
          (links_course r vp vn until f was.of) small (link_side_is r vp vn until f.at f was.of was.links.begun) was.links.passing waits body.1 seat
          (link_left (own_of r.link_wires i) i f.rows rows body.0 taken (ap (λ w. own_of w i) was.of.rows_are) (taken_is body.0 body.1) (rows_are body.0 body.1))
