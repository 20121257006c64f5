-- The body that answers a query.
use Rattle.std.specs.Prelude.{ℕ, List, [], ◌∷◌, codes, Option, None, Some, slice_get, slice_index_or}
use Rattle.tick_law.specs.SerialLoop.{WorldState}
use Rattle.part_kind.specs.Part.{part as kinds}
use Rattle.part_kind.specs.declared.part.Part.{Part}
use Rattle.part_kind.specs.declared.link_kind.LinkKind.{LinkKind}
use Rattle.serde_json.specs.Data.{Data, boolean, string, array, object, Members, no_members, member, put}
use Rattle.serde_json.specs.View.{items_of}
use Rattle.serde_json.specs.Written.{compact_text}
use Rattle.world_query.specs.Legend.{Legend, fields_of}
use Rattle.world_query.specs.declared.query.Query.{Query}
use Rattle.world_query.specs.declared.query.Query.TheVariants.{Now, Parts, Part as OnePart, Field, Buffers, Progress, Stuck}
use Rattle.part_view.specs.Entries.{number_of, part_entry, port_entry, entries}
use Rattle.part_view.specs.Fields.{shown_data, kind_word, values_of}
use Rattle.part_view.specs.declared.entries.PartList.{PartList}
use Rattle.part_view.specs.declared.entries.PartList.TheVariants.{All, Agents, Cores, Busy}
use Rattle.part_view.specs.declared.entries.PortList.{PortList}
use Rattle.part_view.specs.declared.entries.PortList.TheVariants.{Lengths, Full}
use Rattle.part_view.specs.declared.shown.Shown.{Shown}
use Rattle.part_view.specs.declared.shown.Shown.TheVariants.{Nothing}

-- members with what these names show beside them, each key at its place in byte order
abbrev pub with_fields : Members → List (List ℕ) → List Shown → Members
with_fields had [] values = had
with_fields had (n ∷ ns) [] = had
with_fields had (n ∷ ns) (v ∷ vs) = with_fields (put n (shown_data v) had) ns vs

abbrev pub field_members : List (List ℕ) → List Shown → Members
field_members = with_fields no_members

-- what a field of a part shows
abbrev pub value_of : Part → ℕ → Data
value_of part field = shown_data (slice_index_or (values_of part) field Nothing)

-- a list of the parts, and of the ports
abbrev pub part_list : Legend → WorldState Part LinkKind → PartList → Data
part_list legend world which = array (items_of (entries (part_entry which) legend.part_names world.parts))

abbrev pub port_list : Legend → WorldState Part LinkKind → PortList → Data
port_list legend world which = array (items_of (entries (port_entry which) legend.ports world.ports))

-- `{"at":D}`
abbrev pub now_data : ℕ → Data
now_data at = object (member (codes "at") (number_of at) no_members)

-- `{"at":D,"parts":[..]}`
abbrev pub parts_data : Data → ℕ → Data
parts_data parts at = object (member (codes "at") (number_of at) (member (codes "parts") parts no_members))

-- `{"at":D,"done":true,"fields":{..},"kind":K,"name":N}`
abbrev pub part_data : List ℕ → List (List ℕ) → Part → ℕ → Data
part_data name fields part at = object (member (codes "at") (number_of at) (member (codes "done") (boolean (kinds.done part)) (member (codes "fields") (object (field_members fields (values_of part)))
    (member (codes "kind") (string (kind_word part)) (member (codes "name") (string name) no_members)))))

-- `{"at":D,"field":F,"name":N,"value":V}`
abbrev pub field_data : List ℕ → List ℕ → Data → ℕ → Data
field_data name field value at = object (member (codes "at") (number_of at) (member (codes "field") (string field) (member (codes "name") (string name) (member (codes "value") value no_members))))

-- `{"at":D,"buffers":[..]}`
abbrev pub buffers_data : Data → ℕ → Data
buffers_data buffers at = object (member (codes "at") (number_of at) (member (codes "buffers") buffers no_members))

-- `{"agents":[..],"at":D,"cores":[..]}`
abbrev pub progress_data : Data → Data → ℕ → Data
progress_data agents cores at = object (member (codes "agents") agents (member (codes "at") (number_of at) (member (codes "cores") cores no_members)))

-- `{"at":D,"busy":[..],"full":[..]}`
abbrev pub stuck_data : Data → Data → ℕ → Data
stuck_data busy full at = object (member (codes "at") (number_of at) (member (codes "busy") busy (member (codes "full") full no_members)))

-- a body about a part that may be missing; a world of the legend's plan has each part that is asked for
abbrev pub part_body : Legend → ℕ → Option Part → ℕ → Data
part_body legend place None at = now_data at
part_body legend place (Some part) at = part_data (slice_index_or legend.part_names place []) (fields_of legend place) part at

abbrev pub field_body : Legend → ℕ → ℕ → Option Part → ℕ → Data
field_body legend place field None at = now_data at
field_body legend place field (Some part) at = field_data (slice_index_or legend.part_names place []) (slice_index_or (fields_of legend place) field []) (value_of part field) at

-- the JSON that answers a query about a world at a boundary
abbrev pub body_data : Legend → Query → WorldState Part LinkKind → ℕ → Data
body_data legend Now world at = now_data at
body_data legend Parts world at = parts_data (part_list legend world All) at
body_data legend (OnePart part) world at = part_body legend part.0 (slice_get world.parts part.0) at
body_data legend (Field part field) world at = field_body legend part.0 field.0 (slice_get world.parts part.0) at
body_data legend Buffers world at = buffers_data (port_list legend world Lengths) at
body_data legend Progress world at = progress_data (part_list legend world Agents) (part_list legend world Cores) at
body_data legend Stuck world at = stuck_data (part_list legend world Busy) (port_list legend world Full) at

-- its text, with no space between
abbrev pub body_of : Legend → Query → WorldState Part LinkKind → ℕ → List ℕ
body_of legend query world at = compact_text (body_data legend query world at)
