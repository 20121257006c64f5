-- A run's first boundary, how it goes on from one time to the next, and what is read from its last boundary.
use Rattle.std.proofs.Common.{◌≡◌, ℕ, ◌+◌, List, length, replicate, sym, ◌∙◌, ap, add-one}
use Rattle.std.specs.Prelude.{Option, Some, Bool, ◌||◌}
use Rattle.port_msg.specs.PortView.{PortView}
use Rattle.sim_io.specs.Sink.{Got}
use Rattle.tick_law.specs.Machine.{Machine}
use Rattle.tick_law.specs.WorldPlaces.{WorldPlaces, somes}
use Rattle.tick_law.specs.SerialLoop.{Start, System, WorldState, whole_world, records_at_time, records_below}
use Rattle.tick_law.specs.Verdict.{exists_to, all_done, verdict_by, verdict_at}
use Rattle.tick_law.specs.PlanView.{PlanView, part_wires, link_wires, start_of, opening, system_from}
use Rattle.model_laws.proofs.PortsPutBack.{somes-alls}
use Rattle.model_laws.specs.NextTable.{next_at_place}
use Rattle.model_laws.specs.Boundary.{IsBoundary}
use Rattle.trace_out.specs.Names.{NamesView}
use Rattle.trace_out.specs.Lines.{lines_of}
use Rattle.run_gear.proofs.Boundaries.{boundary_start as boundary_begun, verdict_is as verdict_of_places}
use Rattle.run_gear.proofs.LineLaws.{lines_grow}

module _ {P N : Type 0} where
  pub state_same : (a b : WorldState P N) → a.parts ≡ b.parts → a.links ≡ b.links → a.ports ≡ b.ports → a ≡ b
  state_same a b e f h =
      ap (λ (l : List P). let x : WorldState P N = record { parts = l; links = a.links; ports = a.ports } in x) e
      ∙ ap (λ (l : List N). let x : WorldState P N = record { parts = b.parts; links = l; ports = a.ports } in x) f
      ∙ ap (λ (l : List PortView). let x : WorldState P N = record { parts = b.parts; links = b.links; ports = l } in x) h

  -- worlds with the same places are the same
  pub state_is : (a b : WorldState P N) → whole_world a ≡ whole_world b → a ≡ b
  state_is a b e = state_same a b
      (sym (somes-alls a.parts) ∙ ap (λ (x : WorldPlaces P N). somes x.parts) e ∙ somes-alls b.parts)
      (sym (somes-alls a.links) ∙ ap (λ (x : WorldPlaces P N). somes x.links) e ∙ somes-alls b.links)
      (sym (somes-alls a.ports) ∙ ap (λ (x : WorldPlaces P N). somes x.ports) e ∙ somes-alls b.ports)

  pub boundary_start : (mp : Machine P) (mn : Machine N) (plan : PlanView P N) (start : Start P N) (world : WorldState P N) (parts links : List (Option ℕ)) → start ≡ opening plan → world ≡ start_of plan → parts ≡ replicate (length plan.parts) (Some 0) → links ≡ replicate (length plan.links) (Some 0) → IsBoundary (system_from mp mn plan start) 0 (whole_world world) parts links
  boundary_start mp mn plan start world parts links s w p l = boundary_begun mp mn plan (part_wires plan) (link_wires plan) start (whole_world world) parts links s (ap whole_world w) p l

  pub verdict_is : (r : System P N) (until : ℕ) (world : WorldState P N) (parts links : List (Option ℕ)) → IsBoundary r (until + 1) (whole_world world) parts links →
      verdict_by (exists_to (next_at_place parts) (length parts) || exists_to (next_at_place links) (length links)) (all_done r.part world.parts) ≡ verdict_at r until
  verdict_is r until world parts links was =
      ap (λ l. verdict_by (exists_to (next_at_place parts) (length parts) || exists_to (next_at_place links) (length links)) (all_done r.part l)) (sym (somes-alls world.parts))
      ∙ verdict_of_places r until (whole_world world) parts links was

  -- the lines of one time more
  pub lines_then : (r : System P N) (names : NamesView) (all : Bool) (t : ℕ) (old mid new : Option (List ℕ)) → Got old mid (lines_of names all (records_below r t)) → Got mid new (lines_of names all (records_at_time r t)) → Got old new (lines_of names all (records_below r (t + 1)))
  lines_then r names all t old mid new p q = lines_grow names all (records_below r t) (records_at_time r t) (records_below r (t + 1)) old mid new (ap (λ n. records_below r n) (add-one t)) p q
