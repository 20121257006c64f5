-- Ports by number, of which each stands in the row of its link.
use Rattle.std.specs.Prelude.{◌≡◌, ℕ, ◌<◌, ◌≤◌, ◌||◌, Bool, true, false, List, [], length, map, slice_index, slice_index_or, slice_set}
use Rattle.std.specs.List.{range_with_len}
use Rattle.port_msg.specs.PortView.{PortView, port_view}
use Rattle.port_row.specs.declared.face.Face.{Face}
use Rattle.port_row.specs.Row.{PortsView, no_face, face_at, face_of}
use Rattle.port_rows.specs.declared.side.SideOf.{SideOf}
use Rattle.port_rows.specs.declared.side.SideOf.TheVariants.{Parts, Links}
use Rattle.tick_law.specs.Face.{differ}
use Rattle.tick_law.specs.Machine.{Machine, Outcome}
use Rattle.model_laws.specs.Pass.{scatter}
use Rattle.tick_law.specs.Wires.{Wires, own_of, owner_of, Wired}
use Rattle.tick_law.specs.Pass.{place, port_at, gather}

-- all ports by number, what each showed when it was last settled, and how they are wired to the links
pub record RowsView : Type 0 where
  pub ports : List PortView
  pub seen : List Face
  pub wires : Wires

-- ports of which each has been seen as it is
abbrev pub settled_rows : List PortView → Wires → RowsView
settled_rows ports w = record { ports = ports; seen = map face_of ports; wires = w }

-- the ports are others, and each has been seen as it is
abbrev pub settled_with : RowsView → List PortView → RowsView
settled_with v ports = record v { ports = ports; seen = map face_of ports }

-- one port is another
abbrev pub with_number : RowsView → ℕ → PortView → RowsView
with_number v q p = record v { ports = slice_set v.ports q p }

-- the ports of these numbers are others
abbrev pub with_own : RowsView → List ℕ → List PortView → RowsView
with_own v own ports = record v { ports = scatter v.ports own ports }

-- one port has been seen as it is
abbrev pub settled_at : RowsView → ℕ → RowsView
settled_at v q = record v { seen = slice_set v.seen q (face_of (port_at v.ports q)) }

-- the numbers of a link's ports
abbrev pub link_own : RowsView → ℕ → List ℕ
link_own v j = own_of v.wires j

-- the row of a link is another, with what was seen of it
abbrev pub with_row : RowsView → ℕ → PortsView → RowsView
with_row v j row = record v { ports = scatter v.ports (own_of v.wires j) row.ports; seen = scatter v.seen (own_of v.wires j) row.seen }

-- the row of a link, with what was seen of it
abbrev pub row_of_link : RowsView → ℕ → PortsView
row_of_link v j = record { ports = gather v.ports (own_of v.wires j); seen = map (λ q. face_at v.seen q) (own_of v.wires j) }

-- the step that an actor makes with the ports of these numbers, at a cycle
abbrev pub step_with : {S : Type 0} → Machine S → S → RowsView → List ℕ → ℕ → Outcome S
step_with m s v own n = m.step s (gather v.ports own) n

-- the step that a link makes with its ports, at a cycle
abbrev pub link_step : {S : Type 0} → Machine S → S → RowsView → ℕ → ℕ → Outcome S
link_step m s v j n = step_with m s v (own_of v.wires j) n

-- the ports after the step of an actor with those of these numbers
abbrev pub after_step : {S : Type 0} → Machine S → S → RowsView → List ℕ → ℕ → RowsView
after_step m s v own n = with_own v own (step_with m s v own n).ports

-- the ports after the step of a link
abbrev pub after_link : {S : Type 0} → Machine S → S → RowsView → ℕ → ℕ → RowsView
after_link m s v j n = after_step m s v (own_of v.wires j) n

-- a step leaves as many ports as there are numbers
abbrev pub IsAsLong : {S : Type 0} → List ℕ → Outcome S → Type 0
IsAsLong own outcome = length outcome.ports ≡ length own

module _ {A : Type 0} where
  -- what the rows hold for this number, or else d
  abbrev pub held_at : List (List A) → Wires → A → ℕ → A
  held_at rows w d q = slice_index_or (slice_index_or rows (owner_of w q) []) (place q (own_of w (owner_of w q))) d

  -- what the rows hold, by number
  abbrev pub by_number : List (List A) → Wires → A → List A
  by_number rows w d = map (held_at rows w d) (range_with_len 0 (length w.owner))

-- each row is as long as the list of its owner's numbers
abbrev pub AreRows : {A : Type 0} → List (List A) → Wires → Type 0
AreRows rows w = (length rows ≡ length w.own) × ((j : ℕ) → length (slice_index_or rows j []) ≡ length (own_of w j))

abbrev pub ports_in : List PortsView → List (List PortView)
ports_in rows = map (λ r. r.ports) rows

abbrev pub seen_in : List PortsView → List (List Face)
seen_in rows = map (λ r. r.seen) rows

abbrev pub rows_view : List PortsView → Wires → RowsView
rows_view rows w = record { ports = by_number (ports_in rows) w (port_view [] [] 0); seen = by_number (seen_in rows) w no_face; wires = w }

-- each number has its own place in a row, and the table tells which
pub record IsSeated (rows : List PortsView) (w : Wires) (places : List ℕ) : Type 0 where
  pub ports_are : AreRows (ports_in rows) w
  pub seen_are : AreRows (seen_in rows) w
  pub wired : Wired w (length w.owner)
  pub owners : (q : ℕ) → q < length w.owner → owner_of w q < length w.own
  pub tabled : length places ≡ length w.owner
  pub places_are : (q : ℕ) → q < length w.owner → slice_index places q ≡ place q (own_of w (owner_of w q))

-- a side is that of the parts
abbrev pub are_parts : SideOf → Bool
are_parts Parts = true
are_parts Links = false

-- two faces differ to a part (true) or to a link (false)
abbrev pub other_face : Bool → Face → Face → Bool
other_face true a b = differ a.in_head b.in_head || differ a.out_room b.out_room
other_face false a b = differ a.out_head b.out_head || differ a.in_room b.in_room

-- a port shows a part (true) or a link (false) something else than was seen of it
abbrev pub shows_other : Bool → RowsView → ℕ → Bool
shows_other part v q = other_face part (face_at v.seen q) (face_of (port_at v.ports q))

-- the ports of these numbers from place `from` on and below `below` show what was seen of them
abbrev pub NoChangeAt : RowsView → List ℕ → ℕ → ℕ → Type 0
NoChangeAt v own from below = (k : ℕ) → from ≤ k → k < below → face_at v.seen (slice_index own k) ≡ face_of (port_at v.ports (slice_index own k))

-- all ports of these numbers from place `from` on show what was seen of them
abbrev pub NoChangeFrom : RowsView → List ℕ → ℕ → Type 0
NoChangeFrom v own from = NoChangeAt v own from (length own)

-- those from place `from` on and below this one show what was seen of them
pub record IsNextAt (v : RowsView) (own : List ℕ) (from k : ℕ) : Type 0 where
  pub not_below : from ≤ k
  pub within : k < length own
  pub before : NoChangeAt v own from k
