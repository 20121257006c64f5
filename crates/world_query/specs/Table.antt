-- What an ordered map of names is seen as.
use Rattle.std.specs.Prelude.{ℕ, List, map, Vec}
use Rattle.std.specs.declared.alloc.Global.{Global}

-- the names with their numbers
abbrev pub entries_of : List (Vec ℕ Global × ℕ) → List (List ℕ × ℕ)
entries_of entries = map (λ e. (e.0.items, e.1)) entries
