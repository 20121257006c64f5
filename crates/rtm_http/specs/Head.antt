-- Which bytes are a head, what is read from it, and what is told of bytes that are none. The grammar is that of `httparse`.
use Rattle.std.specs.Prelude.{◌≡◌, ℕ, ◌<◌, ◌≤◌, ◌==◌, ◌⊎◌, List, [], ◌++◌, length, take, slice_range}
use Rattle.std.specs.List.{before_first}
use Rattle.httparse.specs.Grammar.{RequestHead, print_request, ReadsRequest, HasNoRequest, NeverHasRequest, MayBecomeRequest, EndsInTarget}
use Rattle.httparse.specs.Spans.{RequestExceeds}
use Rattle.rtm_http.specs.declared.span.Span.{Span}
use Rattle.rtm_http.specs.declared.head.Head.{Head}
use Rattle.rtm_http.specs.declared.head.HeadRead.{HeadRead}
use Rattle.rtm_http.specs.declared.head.HeadRead.TheVariants.{Whole, More, Bad, TooLarge}
use Rattle.rtm_http.specs.Lines.{lines_of, KeepsRules, closes}

-- the most bytes of a head
abbrev pub longest_head : ℕ
longest_head = 16384

-- the most header lines of a head
abbrev pub most_lines : ℕ
most_lines = 64

-- only the first bytes are looked at
abbrev pub front : List ℕ → List ℕ
front bytes = take longest_head bytes

-- the bytes begin with this head, which is not too long and has not too many header lines
pub record BeginsWith (bytes : List ℕ) (h : RequestHead) : Type 0 where
  pub reads : (rest : List ℕ) × ReadsRequest bytes h rest
  pub short : length (print_request h) ≤ longest_head
  pub few : length h.fields ≤ most_lines

-- the head breaks a rule on header lines
abbrev pub BreaksRules : RequestHead → Type 0
BreaksRules h = (size : ℕ) → ¬ (KeepsRules (lines_of h) size)

-- the path is the target up to the first `?`
abbrev pub path_of : List ℕ → List ℕ
path_of target = before_first (λ b. b == 63) target

-- the span lies in the bytes, and covers this text
pub record Covers (bytes : List ℕ) (span : Span) (text : List ℕ) : Type 0 where
  pub ordered : span.begin ≤ span.end
  pub within : span.end ≤ length bytes
  pub text_is : slice_range bytes span.begin span.end ≡ text

-- what is read from the bytes, which begin with this head
pub record IsHeadOf (bytes : List ℕ) (head : Head) (h : RequestHead) : Type 0 where
  pub begins : BeginsWith bytes h
  pub rules : KeepsRules (lines_of h) head.body
  pub len : head.len ≡ length (print_request h)
  pub method : Covers bytes head.method h.method
  pub path : Covers bytes head.path (path_of h.target)
  pub close : head.close ≡ closes h

-- these bytes and some more are this head
abbrev pub CanBecome : List ℕ → RequestHead → Type 0
CanBecome bytes h = (more : List ℕ) × ReadsRequest (bytes ++ more) h []

-- there is no whole head yet, and these bytes may still become one; a target's test for UTF-8 waits for its end
pub record IsUnfinished (bytes : List ℕ) : Type 0 where
  pub none : HasNoRequest bytes
  pub may : MayBecomeRequest bytes

-- the bytes begin with a head that breaks a rule on header lines
pub record IsBroken (bytes : List ℕ) : Type 0 where
  pub head : RequestHead
  pub begins : BeginsWith bytes head
  pub breaks : BreaksRules head

-- the first 16,384 bytes hold no whole head, though they may be the beginning of one
pub record IsTooLong (bytes : List ℕ) : Type 0 where
  pub long : longest_head ≤ length bytes
  pub unfinished : IsUnfinished (front bytes)

-- a request line and more than 64 header lines stand in the first 16,384 bytes
abbrev pub HasTooManyLines : List ℕ → Type 0
HasTooManyLines bytes = RequestExceeds most_lines (front bytes)

-- what an answer tells of the bytes
abbrev pub Tells : List ℕ → HeadRead → Type 0
Tells bytes (Whole head) = (h : RequestHead) × IsHeadOf bytes head h
Tells bytes More = (length bytes < longest_head) × IsUnfinished bytes
Tells bytes Bad = IsBroken bytes ⊎ NeverHasRequest (front bytes)
Tells bytes TooLarge = IsTooLong bytes ⊎ HasTooManyLines bytes

-- bytes that begin with this head are answered by what is read from it, and by Bad exactly where it breaks a rule
abbrev pub IsReadOf : List ℕ → RequestHead → HeadRead → Type 0
IsReadOf bytes h (Whole head) = IsHeadOf bytes head h
IsReadOf bytes h Bad = BreaksRules h
IsReadOf bytes h More = ⊥
IsReadOf bytes h TooLarge = ⊥

-- what is answered of the bytes that were read so far
pub record IsRead (bytes : List ℕ) (read : HeadRead) : Type 0 where
  -- the answer is true
  pub told : Tells bytes read
  -- a head of at most 64 header lines and 16,384 bytes is found
  pub begins : (h : RequestHead) → BeginsWith bytes h → IsReadOf bytes h read
  -- one of more than 64 header lines is too large
  pub crowded : (h : RequestHead) (rest : List ℕ) → ReadsRequest (front bytes) h rest → most_lines < length h.fields → read ≡ TooLarge
  -- more bytes are waited for where they can make a head of at most 64 header lines
  pub waits : length bytes < longest_head → HasNoRequest bytes → (h : RequestHead) → CanBecome bytes h → length h.fields ≤ most_lines → read ≡ More
  -- but for no more than 16,384
  pub long : longest_head ≤ length bytes → HasNoRequest (front bytes) → (h : RequestHead) → CanBecome (front bytes) h → read ≡ TooLarge
  -- bytes that can become no head are bad
  pub hopeless : NeverHasRequest (front bytes) → ¬ (EndsInTarget (front bytes)) → ¬ (HasTooManyLines bytes) → read ≡ Bad
