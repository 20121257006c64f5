-- What contracts see of a list of records.
use Rattle.std.specs.Prelude.{ℕ, List, [], ◌∷◌, ◌++◌, map}
use Rattle.port_msg.specs.declared.records.Record.{Record}
use Rattle.port_msg.specs.declared.records.What.{What}

-- the records in order, how many there is room for, and the time and actor of those that follow
pub record RecView : Type 0 where
  pub items : List Record
  pub room : ℕ
  pub at : ℕ
  pub actor : ℕ

abbrev pub rec_view : List Record → ℕ → ℕ → ℕ → RecView
rec_view items room at actor = record { items = items; room = room; at = at; actor = actor }

-- what an actor did at a time
abbrev pub record_of : ℕ → ℕ → What → Record
record_of t actor what = record { at = record { 0 = t }; actor = record { 0 = actor }; what = what }

-- all that an actor did at a time, in order
abbrev pub records_at : ℕ → ℕ → List What → List Record
records_at t actor whats = map (record_of t actor) whats

-- one record more
abbrev pub appended : RecView → What → RecView
appended r what = record r { items = r.items ++ record_of r.at r.actor what ∷ [] }

-- more records of the same time and actor
abbrev pub appended_all : RecView → List What → RecView
appended_all r whats = record r { items = r.items ++ records_at r.at r.actor whats }
