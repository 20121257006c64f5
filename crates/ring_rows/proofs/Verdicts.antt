-- How runs end.
use Rattle.std.specs.Prelude.{◌≡◌, [], ◌∷◌, Some, None, true, false, refl}
use Rattle.port_msg.specs.PortView.{port_view}
use Rattle.tick_law.specs.SerialLoop.{System, beginning, begun, world_at, parts_of, stirs_at}
use Rattle.tick_law.specs.Outcomes.{stirs}
use Rattle.tick_law.specs.Verdict.{verdict_at, end_at, exists_to, part_next, link_next}
use Rattle.tick_law.specs.declared.verdict.Verdict.TheVariants.{Finished, Stuck, Cut}
use Rattle.traffic_parts.specs.Relay.{token}
use Rattle.part_kind.specs.Part.{part}
use Rattle.part_kind.specs.declared.part.Part.{Part}
use Rattle.part_kind.specs.declared.link_kind.LinkKind.{LinkKind}
use Rattle.ring_rows.specs.Lone.{token_of, lone, lone_relay, lone_link}
use Rattle.ring_rows.specs.Pair.{pair}

-- the relay of a ring of one holds nothing
abbrev pub idle : System Part LinkKind
idle = record lone { start = beginning (record { parts = lone_relay None 0 0 ∷ []; links = lone_link 0 0 ∷ []; ports = port_view [] [] 4 ∷ [] }) }

pub idle_finishes : verdict_at idle 0 ≡ Finished
idle_finishes = refl

-- it holds a token, and behind its full port stands a message to a port that the link does not have
abbrev pub jammed : System Part LinkKind
jammed = record lone { start = beginning (record { parts = lone_relay (Some 2) 1 0 ∷ []; links = lone_link 0 0 ∷ []; ports = port_view [] (token_of 0 0 0 9 1 ∷ []) 1 ∷ [] }) }

pub jammed_is_stuck : verdict_at jammed 0 ≡ Stuck
unfolding token
jammed_is_stuck = refl

pub jammed_ends_at_0 : end_at jammed 0 ≡ 0
unfolding token
jammed_ends_at_0 = refl

-- the last step of the first relay, at 24, may be followed by one at 27, and that of the link, at 21, by one at 28
pub pair_is_cut : verdict_at pair 24 ≡ Cut
unfolding token
pair_is_cut = refl

pub pair_finishes : verdict_at pair 28 ≡ Finished
unfolding token
pair_finishes = refl

pub pair_ends_at_24 : end_at pair 28 ≡ 24
unfolding token
pair_ends_at_24 = refl

-- at boundary 28 the link alone has a next time, so a budget of 27 cuts the run
pub parts_are_over : exists_to (part_next pair 28) 2 ≡ false
unfolding token
parts_are_over = refl

pub link_goes_on : link_next pair 28 0 ≡ Some 28
unfolding token
link_goes_on = refl

pub pair_is_cut_at_27 : verdict_at pair 27 ≡ Cut
unfolding token
pair_is_cut_at_27 = refl

-- at 21 the link alone makes progress, and nobody does until 24
pub parts_do_not_stir : stirs part pair.part_wires (begun 0 21) 21 (parts_of (world_at pair 21)) ≡ false
unfolding token
parts_do_not_stir = refl

pub link_stirs : stirs_at pair 21 ≡ true
unfolding token
link_stirs = refl

pub nobody_stirs : stirs_at pair 22 ≡ false
unfolding token
nobody_stirs = refl

pub pair_ends_at_21 : end_at pair 23 ≡ 21
unfolding token
pair_ends_at_21 = refl
