-- Heads that come in pieces: what was seen of the bytes so far.
use Rattle.std.specs.Prelude.{◌≡◌, ◌≤◌, ℕ, false, List, [], ◌∷◌, ◌++◌, length, take}
use Rattle.httparse.specs.Grammar.{LineEnd, print_end, HasNoRequest}
use Rattle.httparse.specs.Pieces.{is_newline}

-- the text ends in a line that is not empty
pub record EndsLine (text : List ℕ) : Type 0 where
  pub line : List ℕ
  pub last : ℕ
  pub end : LineEnd
  pub is : text ≡ (line ++ last ∷ []) ++ print_end end
  pub other : is_newline last ≡ false

-- and in an empty one behind that, as a head does
pub record IsHeadEnd (text : List ℕ) : Type 0 where
  pub line : List ℕ
  pub last : ℕ
  pub first_end : LineEnd
  pub second_end : LineEnd
  pub is : text ≡ ((line ++ last ∷ []) ++ print_end first_end) ++ print_end second_end
  pub other : is_newline last ≡ false

-- so many of the bytes were seen, and no head was among them
pub record HasSeen (seen : ℕ) (bytes : List ℕ) : Type 0 where
  pub within : seen ≤ length bytes
  pub none : HasNoRequest (take seen bytes)
