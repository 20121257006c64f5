-- What contracts see of the names of a machine.
use Rattle.std.specs.Prelude.{ℕ, ◌+◌, ◌-◌, ◌<◌, List, length, Option, slice_get, nat_lt, All, if◌then◌else◌}
use Rattle.trace_out.specs.declared.names.PortName.{PortName}

-- the names of the parts and of the links, and the word of each port with its part, each in the order of the numbers
pub record NamesView : Type 0 where
  pub parts : List (List ℕ)
  pub links : List (List ℕ)
  pub ports : List PortName

abbrev pub names_view : List (List ℕ) → List (List ℕ) → List PortName → NamesView
names_view parts links ports = record { parts = parts; links = links; ports = ports }

-- each port belongs to one of so many parts
abbrev pub HavePart : ℕ → List PortName → Type 0
HavePart parts ports = All (λ p. p.part.0 < parts) ports

-- how many actors there are
abbrev pub actors_of : NamesView → ℕ
actors_of names = length names.parts + length names.links

-- with P parts, the actors below P are the parts, and P + j is link j
abbrev pub actor_name : NamesView → ℕ → Option (List ℕ)
actor_name names actor = if nat_lt actor (length names.parts) then slice_get names.parts actor else slice_get names.links (actor - length names.parts)
