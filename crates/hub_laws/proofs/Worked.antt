-- Worked events: each line of the table of events on a small state, by numbers.
use Rattle.std.proofs.Common.{◌≡◌, ℕ, List, [], ◌∷◌, ◌+◌, ◌^◌, ◌-◌, map, refl}
use Rattle.std.specs.Prelude.{Some, None, Bool, true, false}
use Rattle.port_msg.specs.PortView.{PortView, port_view}
use Rattle.tick_law.specs.Machine.{Machine}
use Rattle.tick_law.specs.SerialLoop.{System, beginning}
use Rattle.away_rows.specs.declared.marks.Marks.{Marks}
use Rattle.away_rows.specs.Marks.{no_marks}
use Rattle.hub_laws.specs.HubState.{HubState}
use Rattle.hub_laws.specs.declared.stage.Stage.TheVariants.{Boundary, Primary, Secondary, Over}
use Rattle.hub_laws.specs.Events.{opened, flipped, part_claimed, link_claimed, part_finished, link_finished, closed, looked, wanted, paused_to, left_now, tick_asked, ended, counted}

-- boundary 5 of two parts and a link: part 0 and the link step next at 10, and part 1 was asked to step at 10
abbrev rests : HubState
rests = record {
  stage = Boundary;
  at = 5;
  part_marks = no_marks 2;
  link_marks = no_marks 1;
  part_next = Some 10 ∷ None ∷ [];
  link_next = Some 10 ∷ [];
  asked = None ∷ Some 10 ∷ [];
  paused = false;
  wants = 0;
  asks = 1;
  extra = 0;
  end = 3;
  stirred = false;
  failed = false;
  left = false;
}

abbrev marks : List Bool → List Bool → List Bool → Marks
marks waiting out back = record { waiting = waiting; out = out; back = back }

-- Open: both parts wait, the asked edge is noted no more, and one step is for an ask alone
abbrev in_parts : HubState
in_parts = record rests { stage = Primary; at = 10; part_marks = marks (true ∷ true ∷ []) (false ∷ false ∷ []) (false ∷ false ∷ []); asked = None ∷ None ∷ []; extra = 1 }

pub opened_for_parts : opened rests 10 ≡ in_parts
opened_for_parts = refl

-- an asked edge that is a next time too is no step more
pub asked_and_due : (opened (record rests { part_next = Some 10 ∷ Some 10 ∷ [] }) 10).extra ≡ 0
asked_and_due = refl

-- where no part has the time, the links wait at once
pub opened_for_links : opened (record rests { part_next = Some 20 ∷ None ∷ []; asked = None ∷ Some 20 ∷ [] }) 10
    ≡ record rests { stage = Secondary; at = 10; part_next = Some 20 ∷ None ∷ []; asked = None ∷ Some 20 ∷ []; link_marks = marks (true ∷ []) (false ∷ []) (false ∷ []) }
opened_for_links = refl

-- Claim
pub claimed_part : (part_claimed in_parts 1).part_marks ≡ marks (true ∷ false ∷ []) (false ∷ true ∷ []) (false ∷ false ∷ [])
claimed_part = refl

-- Flip: the link waits, whose next time it is
pub flipped_to_links : flipped in_parts ≡ record in_parts { stage = Secondary; link_marks = marks (true ∷ []) (false ∷ []) (false ∷ []) }
flipped_to_links = refl

pub flipped_without_links : (flipped (record in_parts { link_next = Some 12 ∷ [] })).link_marks ≡ no_marks 1
flipped_without_links = refl

pub claimed_link : (link_claimed (flipped in_parts) 0).link_marks ≡ marks (false ∷ []) (true ∷ []) (false ∷ [])
claimed_link = refl

-- Close: the boundary is behind the time, and the time is the last of progress where there was some
abbrev at_end : HubState
at_end = record in_parts { stage = Secondary; part_marks = marks (false ∷ false ∷ []) (false ∷ false ∷ []) (true ∷ true ∷ []); link_marks = marks (false ∷ []) (false ∷ []) (true ∷ []) }

pub closed_calmly : closed false at_end ≡ record rests { at = 11; asked = None ∷ None ∷ []; extra = 1 }
closed_calmly = refl

pub closed_with_progress : closed false (record at_end { stirred = true }) ≡ record rests { at = 11; asked = None ∷ None ∷ []; extra = 1; end = 10 }
closed_with_progress = refl

pub closed_with_a_fault : closed true at_end ≡ record rests { at = 11; asked = None ∷ None ∷ []; extra = 1; failed = true }
closed_with_a_fault = refl

-- Want, Look, Pause, Continue, and the word that nobody lingers
pub wanted_once : (wanted rests).wants ≡ 1
wanted_once = refl

pub looked_once : looked (wanted rests) ≡ rests
looked_once = refl

pub paused_and_resumed : paused_to false (paused_to true rests) ≡ rests
paused_and_resumed = refl

pub paused_now : (paused_to true rests).paused ≡ true
paused_now = refl

pub left_at_once : left_now rests ≡ record rests { left = true }
left_at_once = refl

-- AskTick: from a boundary the first edge from there, at it too; in a pass the first edge after it
pub asked_from_a_boundary : tick_asked 100 rests 4 0 ≡ record rests { asks = 2; asked = Some 8 ∷ Some 10 ∷ [] }
asked_from_a_boundary = refl

pub asked_at_an_edge : (tick_asked 100 rests 5 0).asked ≡ Some 5 ∷ Some 10 ∷ []
asked_at_an_edge = refl

pub asked_in_the_parts_pass : tick_asked 100 in_parts 5 0 ≡ record in_parts { asks = 2; asked = Some 15 ∷ None ∷ [] }
asked_in_the_parts_pass = refl

pub asked_in_the_links_pass : (tick_asked 100 at_end 5 0).asked ≡ Some 15 ∷ None ∷ []
asked_in_the_links_pass = refl

-- it is counted and not noted where the edge is above the greatest time, or the run is over
pub asked_too_late : tick_asked 7 rests 4 0 ≡ record rests { asks = 2 }
asked_too_late = refl

pub asked_when_over : tick_asked 100 (record rests { stage = Over }) 4 0 ≡ record rests { stage = Over; asks = 2 }
asked_when_over = refl

-- a part that is asked twice steps once
pub asked_twice : (tick_asked 100 (tick_asked 100 rests 4 0) 4 0).asked ≡ Some 8 ∷ Some 10 ∷ []
asked_twice = refl

-- a count stands still at its greatest number
pub counted_to_the_end : counted (2 ^ 64 - 1) 1 ≡ 2 ^ 64 - 1
counted_to_the_end = refl

-- End: behind the greatest time, or where a write failed
pub ended_behind : ended 100 rests ≡ record rests { stage = Over; at = 101 }
ended_behind = refl

pub ended_by_a_fault : ended 100 (record rests { failed = true }) ≡ record rests { stage = Over; failed = true }
ended_by_a_fault = refl

-- Finish: a run of one part of period 10 and one link of period 7 with a port between them, of which either opens its port at its
-- step, with or without progress, and has a timer two cycles on
abbrev opens_its_port : Bool → ℕ → Bool → Machine ℕ
opens_its_port part period flag = record {
  is_part = part;
  step = λ s ports n. record { state = s; ports = map (λ (p : PortView). port_view [] [] 1) ports; records = []; flag = flag };
  due = λ s n. Some (n + 2);
  period = λ s. period;
  done = λ s. true;
  own = λ s. 1;
}

abbrev run : Bool → Bool → System ℕ ℕ
run part link = record {
  part = opens_its_port true 10 part;
  link = opens_its_port false 7 link;
  part_wires = record { own = (0 ∷ []) ∷ []; owner = 0 ∷ [] };
  link_wires = record { own = (0 ∷ []) ∷ []; owner = 0 ∷ [] };
  start = beginning (record { parts = 0 ∷ []; links = 0 ∷ []; ports = port_view [] [] 0 ∷ [] });
}

-- time 0, of which the part is out
abbrev part_is_out : HubState
part_is_out = record rests { stage = Primary; at = 0; part_marks = marks (false ∷ []) (true ∷ []) (false ∷ []); link_marks = no_marks 1; part_next = Some 0 ∷ []; link_next = None ∷ []; asked = None ∷ [] }

-- without progress its next time is its timer's, and the link steps at its first edge from this time on
pub finished_part : part_finished (run false false) part_is_out 0 ≡ record part_is_out { part_marks = marks (false ∷ []) (false ∷ []) (true ∷ []); part_next = Some 20 ∷ []; link_next = Some 0 ∷ [] }
finished_part = refl

-- with progress it is the next edge
pub finished_part_with_progress : part_finished (run true false) part_is_out 0 ≡ record part_is_out { part_marks = marks (false ∷ []) (false ∷ []) (true ∷ []); part_next = Some 10 ∷ []; link_next = Some 0 ∷ []; stirred = true }
finished_part_with_progress = refl

-- an asked step without progress leaves the timer
pub finished_asked_part : (part_finished (run false false) (record part_is_out { part_next = Some 30 ∷ [] }) 0).part_next ≡ Some 20 ∷ []
finished_asked_part = refl

-- the link finds the port open, and changes nothing that the part sees
abbrev link_is_out : HubState
link_is_out = record part_is_out { stage = Secondary; part_marks = marks (false ∷ []) (false ∷ []) (true ∷ []); link_marks = marks (false ∷ []) (true ∷ []) (false ∷ []); part_next = Some 20 ∷ [] }

pub finished_link : link_finished (run false true) link_is_out 0 ≡ record link_is_out { link_marks = marks (false ∷ []) (false ∷ []) (true ∷ []); link_next = Some 7 ∷ []; stirred = true }
finished_link = refl
