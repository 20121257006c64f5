-- The records of a time all of whose actors are back.
use Rattle.std.proofs.Common.{◌≡◌, ℕ, zero, suc, ◌+◌, ◌<◌, ◌≤◌, List, [], ◌∷◌, ◌++◌, length, sym, ◌∙◌, ap, subst, arith, refl, Global}
use Rattle.std.specs.Prelude.{Option, Some, Bool, true, false, slice_get, All, Box}
use Rattle.std.proofs.lemmas.List.Elements.{All-map}
use Rattle.sim_base.specs.declared.time.TheConstants.{LATEST_TICK}
use Rattle.bit_set.specs.Bits.{is_in}
use Rattle.port_msg.specs.RecView.{record_of}
use Rattle.port_msg.specs.declared.records.Record.{Record}
use Rattle.tick_law.specs.Wires.{own_of}
use Rattle.tick_law.specs.SerialLoop.{System, begun, world_at, mid, parts_of, links_of, records_at_time}
use Rattle.tick_law.specs.Outcomes.{records_to, whats_of}
use Rattle.tick_law.specs.Course.{Course, part_course, link_course}
use Rattle.model_laws.proofs.ActorByActor.{length_states}
use Rattle.away_rows.specs.declared.body.Body.{Body}
use Rattle.away_rows.specs.Marks.{IsQuiet}
use Rattle.away_rows.specs.Bodies.{body_at, Sits, Seated}
use Rattle.away_rows.specs.SidePass.{so_far, did_so_far, step_so_far}
use Rattle.away_rows.proofs.SideLaws.{in_below}
use Rattle.hub_laws.proofs.PassIsOver.{records_over}
use Rattle.hub_floor.specs.declared.floor.Floor.{Floor}
use Rattle.hub_floor.specs.Floor.{LinksOf}
use Rattle.hub_floor.proofs.FloorGives.{parts_course, links_course, parts_count, links_count}
use Rattle.run_hub.specs.Lines.{side_records}
use Rattle.run_hub.proofs.SideLines.{records_are}

module _ {P N : Type 0} where
  small : (r : System P N) (vp : P → Type 0) (vn : N → Type 0) (until : ℕ) (f : Floor P N) → LinksOf r vp vn until f → f.at ≤ LATEST_TICK
  small r vp vn until f is = let w = is.within in let u = is.of.until_within in omega (arith, w, u)

  pub part_records : (r : System P N) (vp : P → Type 0) (vn : N → Type 0) (until : ℕ) (f : Floor P N) → LinksOf r vp vn until f →
      side_records f.part_marks.back f.parts.items (length f.part_marks.back) ≡ records_to r.part r.part_wires (begun r.start.at f.at) f.at (parts_of (world_at r f.at)) 0 (length (world_at r f.at).parts)
  part_records r vp vn until f is =
      let c = part_course r in
      let back = f.part_marks.back in
      let all = length_states c.machine c.wires (is_in back) f.at (c.before f.at) in
      let long : length back ≡ length (world_at r f.at).parts = is.links.parts_marked.back_all in
      records_are c 0 f.at back f.part_marks.out f.parts.items (length back) is.links.parts_quiet.none_out (omega (arith, all, long)) is.links.parts_home
      ∙ ap (records_to c.machine c.wires (is_in back) f.at (c.before f.at) 0) long
      ∙ records_over c vp LATEST_TICK f.at 0 (length (world_at r f.at).parts) f.part_marks (parts_course r vp vn until f is.of) (small r vp vn until f is) is.links.begun is.links.parts_due is.links.parts_quiet

  pub link_records : (r : System P N) (vp : P → Type 0) (vn : N → Type 0) (until : ℕ) (f : Floor P N) → LinksOf r vp vn until f → IsQuiet f.link_marks →
      side_records f.link_marks.back f.links.items (length f.link_marks.back) ≡ records_to r.link r.link_wires (begun r.start.at f.at) f.at (links_of (mid r f.at)) (length r.start.world.parts) (length (mid r f.at).links)
  link_records r vp vn until f is quiet =
      let c = link_course r in
      let back = f.link_marks.back in
      let base = length r.start.world.parts in
      let all = length_states c.machine c.wires (is_in back) f.at (c.before f.at) in
      let long : length back ≡ length (mid r f.at).links = is.links.passing.marks_are.back_all in
      records_are c base f.at back f.link_marks.out f.links.items (length back) quiet.none_out (omega (arith, all, long)) is.links.passing.pass.seated
      ∙ ap (records_to c.machine c.wires (is_in back) f.at (c.before f.at) base) long
      ∙ records_over c vn LATEST_TICK f.at base (length (mid r f.at).links) f.link_marks (links_course r vp vn until f is.of) (small r vp vn until f is) is.links.begun is.links.passing.all_due quiet

  -- the records of both sides are those of the time
  pub time_records : (r : System P N) (vp : P → Type 0) (vn : N → Type 0) (until : ℕ) (f : Floor P N) → LinksOf r vp vn until f → IsQuiet f.link_marks →
      records_at_time r f.at ≡ side_records f.part_marks.back f.parts.items (length f.part_marks.back) ++ side_records f.link_marks.back f.links.items (length f.link_marks.back)
  time_records r vp vn until f is quiet =
      sym (ap (λ l. l ++ side_records f.link_marks.back f.links.items (length f.link_marks.back)) (part_records r vp vn until f is)
      ∙ ap (λ l. records_to r.part r.part_wires (begun r.start.at f.at) f.at (parts_of (world_at r f.at)) 0 (length (world_at r f.at).parts) ++ l) (link_records r vp vn until f is quiet))

module _ {S : Type 0} where
  state_there : (xs : List S) (k : ℕ) → k < length xs → (s : S) × (slice_get xs k ≡ Some s)
  state_there [] k b = absurd (omega arith)
  state_there (x ∷ xs) zero b = (x, refl)
  state_there (x ∷ xs) (suc k) b = state_there xs k (omega arith)

  -- each record that an actor has is its own
  pub own_records : (c : Course S) (base t i most : ℕ) (back out : List Bool) (seats : List (Option (Box (Body S) Global))) (b : Body S) → is_in out i ≡ false → i < length (so_far c t back).states → base + i < most → Seated c.wires out (so_far c t back).states (did_so_far c base t back) seats → body_at seats i ≡ Some b →
      All (λ (x : Record). x.actor.0 < most) b.recs.items
  own_records c base t i most back out seats b home here below was at =
      let s = state_there (so_far c t back).states i here in
      let is = subst (λ o. Sits (own_of c.wires i) s.0 (did_so_far c base t back i) o) at (was.sits i s.0 s.1 home) in
      subst (λ l. All (λ (x : Record). x.actor.0 < most) l) (sym is.items)
      (All-map (λ (x : Record). x.actor.0 < most) (record_of t (base + i)) (whats_of (step_so_far c t back i)) (λ k d l. below))

module _ {P N : Type 0} where
  -- each record of a part, and of a link, is its own
  pub part_known : (r : System P N) (vp : P → Type 0) (vn : N → Type 0) (until most : ℕ) (f : Floor P N) → LinksOf r vp vn until f → most ≡ length r.start.world.parts + length r.start.world.links → (i : ℕ) (b : Body P) → is_in f.part_marks.back i ≡ true → body_at f.parts.items i ≡ Some b →
      All (λ (x : Record). x.actor.0 < most) b.recs.items
  part_known r vp vn until most f is e i b back at =
      let here = in_below f.part_marks.back i back in
      let all = length_states r.part r.part_wires (is_in f.part_marks.back) f.at ((part_course r).before f.at) in
      let long : length f.part_marks.back ≡ length (world_at r f.at).parts = is.links.parts_marked.back_all in
      let count = parts_count r vp vn until f.at f is.of in
      own_records (part_course r) 0 f.at i most f.part_marks.back f.part_marks.out f.parts.items b (is.links.parts_quiet.none_out i) (omega (arith, here, all, long)) (omega (arith, here, long, count, e)) is.links.parts_home at

  pub link_known : (r : System P N) (vp : P → Type 0) (vn : N → Type 0) (until most : ℕ) (f : Floor P N) → LinksOf r vp vn until f → IsQuiet f.link_marks → most ≡ length r.start.world.parts + length r.start.world.links → (i : ℕ) (b : Body N) → is_in f.link_marks.back i ≡ true → body_at f.links.items i ≡ Some b →
      All (λ (x : Record). x.actor.0 < most) b.recs.items
  link_known r vp vn until most f is quiet e i b back at =
      let here = in_below f.link_marks.back i back in
      let all = length_states r.link r.link_wires (is_in f.link_marks.back) f.at ((link_course r).before f.at) in
      let long : length f.link_marks.back ≡ length (mid r f.at).links = is.links.passing.marks_are.back_all in
      let count = links_count r vp vn until f.at f is.of in
      own_records (link_course r) (length r.start.world.parts) f.at i most f.link_marks.back f.link_marks.out f.links.items b (quiet.none_out i) (omega (arith, here, all, long)) (omega (arith, here, long, count, e)) is.links.passing.pass.seated at
