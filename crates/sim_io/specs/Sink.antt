-- What a call of an object of the outside leaves: whether its count of faults rose, and what it got.
use Rattle.std.specs.Prelude.{◌≡◌, ℕ, zero, suc, ◌+◌, ◌-◌, ◌^◌, ◌≤◌, min, Bool, true, false, List, ◌++◌, take, Option, option_map}

-- the count rose in a call; a count stands still at its type's greatest number
abbrev pub Rose : ℕ → ℕ → Type 0
Rose before after = min (before + 1) (2 ^ 64 - 1) ≤ after

-- one more, where the greatest number of 64 bits stands still
abbrev pub one_more : ℕ → ℕ
one_more n = min (n + 1) (2 ^ 64 - 1)

-- one more where this holds
abbrev pub more_if : Bool → ℕ → ℕ
more_if true n = one_more n
more_if false n = n

-- a count after so many rises
abbrev pub more_by : ℕ → ℕ → ℕ
more_by n zero = n
more_by n (suc k) = one_more (more_by n k)

-- the object got exactly these bytes more, where it tells its contents
abbrev pub Got : Option (List ℕ) → Option (List ℕ) → List ℕ → Type 0
Got old new bytes = new ≡ option_map (λ held. held ++ bytes) old

-- the object got a prefix of these bytes more, where it tells its contents
abbrev pub GotPrefix : Option (List ℕ) → Option (List ℕ) → List ℕ → Type 0
GotPrefix old new bytes = (k : ℕ) × Got old new (take k bytes)
