-- What comes from a file of a host.
use Rattle.std.specs.Prelude.{ℕ, List, Option}
use Rattle.std.specs.Io.KnownBytes.{Consumes, IsAtEnd}

-- from what a reader had left first to what it has left last, these bytes were read, and then none is left
abbrev pub IsReadWhole : Option (List ℕ) → Option (List ℕ) → List ℕ → Type 0
IsReadWhole first last bytes = Consumes first last bytes × IsAtEnd last
