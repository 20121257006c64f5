-- No body has a float.
use Rattle.std.proofs.Common.{◌≡◌, ℕ, List, [], ◌∷◌, ◌++◌, refl}
use Rattle.std.specs.Prelude.{Bool, true, false, ◌||◌, Option, None, Some, option_to_list, slice_get}
use Rattle.std.specs.Ordering.{match_ordering}
use Rattle.std.proofs.Common.{Ordering, Less, Equal, Greater, nat_cmp}
use Rattle.std.specs.Cmp.Lexicographic.{slice_cmp}
use Rattle.port_msg.specs.PortView.{PortView}
use Rattle.part_kind.specs.Part.{part as kinds}
use Rattle.part_kind.specs.declared.part.Part.{Part}
use Rattle.part_kind.specs.declared.part.Part.TheVariants.{Relay, Agent, Memory, Core, Cache}
use Rattle.part_kind.specs.declared.link_kind.LinkKind.{LinkKind}
use Rattle.serde_json.specs.Data.{Data, Members, string, no_members, member, put}
use Rattle.serde_json.specs.View.{items_of}
use Rattle.serde_json.specs.Written.{has_float, items_have_float, members_have_float}
use Rattle.tick_law.specs.SerialLoop.{WorldState}
use Rattle.world_query.specs.Legend.{Legend, PortLabel, fields_of}
use Rattle.world_query.specs.declared.query.Query.{Query}
use Rattle.world_query.specs.declared.query.Query.TheVariants.{Now, Parts, Part as OnePart, Field, Buffers, Progress, Stuck}
use Rattle.part_view.specs.Bodies.{with_fields, field_members, value_of, part_list, port_list, part_body, field_body, body_data}
use Rattle.part_view.specs.Entries.{part_entry, port_entry, unless, where_true, has_full_list, entries}
use Rattle.part_view.specs.Fields.{shown_data, values_of}
use Rattle.part_view.specs.declared.entries.PartList.{PartList}
use Rattle.part_view.specs.declared.entries.PartList.TheVariants.{All, Agents, Cores, Busy}
use Rattle.part_view.specs.declared.entries.PortList.{PortList}
use Rattle.part_view.specs.declared.entries.PortList.TheVariants.{Lengths, Full}
use Rattle.part_view.specs.declared.shown.Shown.{Shown}
use Rattle.part_view.specs.declared.shown.Shown.TheVariants.{Nothing, Number, Cause, CorePhase, CachePhase}

neither : (a b : Bool) → a ≡ false → b ≡ false → (a || b) ≡ false
neither true b e f = cc
neither false b e f = f

-- an entry, where there is one, has no float
abbrev pub IsPlain : Option Data → Type 0
IsPlain None = Unit {0}
IsPlain (Some d) = has_float d ≡ false

with_entry : (e : Option Data) (rest : List Data) → IsPlain e → items_have_float (items_of rest) ≡ false → items_have_float (items_of (option_to_list e ++ rest)) ≡ false
with_entry None rest p h = h
with_entry (Some d) rest p h = neither (has_float d) _ p h

plain_entries : {N S : Type 0} (entry : N → S → Option Data) → ((n : N) (s : S) → IsPlain (entry n s)) → (names : List N) (states : List S) → items_have_float (items_of (entries entry names states)) ≡ false
plain_entries entry plain [] states = refl
plain_entries entry plain (n ∷ ns) [] = refl
plain_entries entry plain (n ∷ ns) (s ∷ ss) = with_entry (entry n s) (entries entry ns ss) (plain n s) (plain_entries entry plain ns ss)

plain_agent : (name : List ℕ) (p : Part) → IsPlain (part_entry Agents name p)
plain_agent name (Relay s) = tt
plain_agent name (Agent s) = refl
plain_agent name (Memory s) = tt
plain_agent name (Core s) = tt
plain_agent name (Cache s) = tt

plain_core : (name : List ℕ) (p : Part) → IsPlain (part_entry Cores name p)
plain_core name (Relay s) = tt
plain_core name (Agent s) = tt
plain_core name (Memory s) = tt
plain_core name (Core s) = refl
plain_core name (Cache s) = tt

plain_busy : (name : List ℕ) (p : Part) → IsPlain (part_entry Busy name p)
plain_busy name p = by_done (kinds.done p)
  where
    by_done : (b : Bool) → IsPlain (unless b (string name))
    by_done true = tt
    by_done false = refl

plain_part : (which : PartList) (name : List ℕ) (p : Part) → IsPlain (part_entry which name p)
plain_part All name p = refl
plain_part Agents name p = plain_agent name p
plain_part Cores name p = plain_core name p
plain_part Busy name p = plain_busy name p

plain_port : (which : PortList) (label : PortLabel) (p : PortView) → IsPlain (port_entry which label p)
plain_port Lengths label p = refl
plain_port Full label p = by_full (has_full_list label p)
  where
    by_full : (b : Bool) → IsPlain (where_true b (string label.name))
    by_full true = refl
    by_full false = tt

plain_parts : (legend : Legend) (world : WorldState Part LinkKind) (which : PartList) → has_float (part_list legend world which) ≡ false
plain_parts legend world which = plain_entries (part_entry which) (plain_part which) legend.part_names world.parts

plain_ports : (legend : Legend) (world : WorldState Part LinkKind) (which : PortList) → has_float (port_list legend world which) ≡ false
plain_ports legend world which = plain_entries (port_entry which) (plain_port which) legend.ports world.ports

plain_shown : (v : Shown) → has_float (shown_data v) ≡ false
plain_shown Nothing = refl
plain_shown (Number n) = refl
plain_shown (Cause cause) = refl
plain_shown (CorePhase phase) = refl
plain_shown (CachePhase phase) = refl

plain_put_at : (o : Ordering) (k l : List ℕ) (d e : Data) (ms : Members) → has_float d ≡ false → has_float e ≡ false → members_have_float ms ≡ false → members_have_float (put k d ms) ≡ false → members_have_float (match_ordering o (member k d (member l e ms)) (member l d ms) (member l e (put k d ms))) ≡ false
plain_put_at Less k l d e ms f g h later = neither (has_float d) _ f (neither (has_float e) _ g h)
plain_put_at Equal k l d e ms f g h later = neither (has_float d) _ f h
plain_put_at Greater k l d e ms f g h later = neither (has_float e) _ g later

left_plain : (a b : Bool) → (a || b) ≡ false → a ≡ false
left_plain true b e = cc
left_plain false b e = refl

right_plain : (a b : Bool) → (a || b) ≡ false → b ≡ false
right_plain true b e = absurd (cc)
right_plain false b e = e

plain_put : (k : List ℕ) (d : Data) (ms : Members) → has_float d ≡ false → members_have_float ms ≡ false → members_have_float (put k d ms) ≡ false
plain_put k d no_members f h = neither (has_float d) false f refl
plain_put k d (member l e ms) f h =
    let rest = right_plain (has_float e) (members_have_float ms) h in
    plain_put_at (slice_cmp nat_cmp k l) k l d e ms f (left_plain (has_float e) (members_have_float ms) h) rest (plain_put k d ms f rest)

plain_fields : (had : Members) (names : List (List ℕ)) (vs : List Shown) → members_have_float had ≡ false → members_have_float (with_fields had names vs) ≡ false
plain_fields had [] vs h = h
plain_fields had (n ∷ ns) [] h = h
plain_fields had (n ∷ ns) (v ∷ vs) h = plain_fields (put n (shown_data v) had) ns vs (plain_put n (shown_data v) had (plain_shown v) h)

plain_part_body : (legend : Legend) (place : ℕ) (part : Option Part) (at : ℕ) → has_float (part_body legend place part at) ≡ false
plain_part_body legend place None at = refl
plain_part_body legend place (Some part) at = neither (members_have_float (field_members (fields_of legend place) (values_of part))) false (plain_fields no_members (fields_of legend place) (values_of part) refl) refl

plain_field_body : (legend : Legend) (place field : ℕ) (part : Option Part) (at : ℕ) → has_float (field_body legend place field part at) ≡ false
plain_field_body legend place field None at = refl
plain_field_body legend place field (Some part) at = neither (has_float (value_of part field)) false (plain_shown _) refl

-- no body has a float
pub plain_body : (legend : Legend) (query : Query) (world : WorldState Part LinkKind) (at : ℕ) → has_float (body_data legend query world at) ≡ false
plain_body legend Now world at = refl
plain_body legend Parts world at = neither _ false (plain_parts legend world All) refl
plain_body legend (OnePart part) world at = plain_part_body legend part.0 (slice_get world.parts part.0) at
plain_body legend (Field part field) world at = plain_field_body legend part.0 field.0 (slice_get world.parts part.0) at
plain_body legend Buffers world at = neither _ false (plain_ports legend world Lengths) refl
plain_body legend Progress world at = neither _ _ (plain_parts legend world Agents) (neither _ false (plain_parts legend world Cores) refl)
plain_body legend Stuck world at = neither _ _ (plain_parts legend world Busy) (neither _ false (plain_ports legend world Full) refl)
