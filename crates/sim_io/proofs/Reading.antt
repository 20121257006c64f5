-- What a reader gave so far, and what it has left.
use Rattle.std.proofs.Common.{◌≡◌, ℕ, List, [], ◌++◌, Option, Some, None, append_assoc, refl}
use Rattle.std.specs.Io.KnownBytes.{Consumes}

-- the reader gave these bytes
abbrev pub HasRead : Option (List ℕ) → Option (List ℕ) → List ℕ → Type 0
HasRead old new bytes = Consumes old new bytes

pub nothing_read : (known : Option (List ℕ)) (bytes : List ℕ) → bytes ≡ [] → HasRead known known bytes
nothing_read None bytes e = tt
nothing_read (Some xs) bytes e = rw e refl

pub read_more : (old mid new : Option (List ℕ)) (bytes got all : List ℕ) → HasRead old mid bytes → Consumes mid new got → all ≡ bytes ++ got → HasRead old new all
read_more None mid new bytes got all a b e = tt
read_more (Some xs) None new bytes got all a b e = absurd a
read_more (Some xs) (Some ys) None bytes got all a b e = absurd b
read_more (Some xs) (Some ys) (Some zs) bytes got all a b e = rw (a, b, e, append_assoc)
