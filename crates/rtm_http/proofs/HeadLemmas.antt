-- What the parser's answers say of the bytes that were read.
use Rattle.std.proofs.Common.{◌≡◌, ℕ, ◌+◌, ◌-◌, ◌<◌, ◌≤◌, List, [], ◌++◌, length, take, drop, refl, sym, ap, subst, ◌∙◌, arith, inl, inr, append-nil, length-append, length-take}
use Rattle.std.proofs.Math.Seq.{take-append-add}
use Rattle.std.specs.Prelude.{slice_range}
use Rattle.std.proofs.lemmas.List.{take-append-drop, take_all, take-take, drop-take, length-map}
use Rattle.httparse.specs.declared.spans.HeaderSpan.{HeaderSpan}
use Rattle.httparse.specs.declared.spans.RequestSpans.{RequestSpans}
use Rattle.httparse.specs.Grammar.{RequestHead, print_request, ReadsRequest, HasNoRequest, NeverHasRequest, MayBecomeRequest, EndsInTarget}
use Rattle.httparse.specs.Spans.{RequestOverflows, RequestExceeds, IsRequestAt, header_bytes, name_and_value}
use Rattle.httparse.proofs.GrammarLemmas.{request_unique, ReadsRequest-append}
use Rattle.rtm_http.specs.declared.span.Span.{Span}
use Rattle.rtm_http.specs.declared.head.Head.{Head}
use Rattle.rtm_http.specs.declared.head.HeadRead.{HeadRead}
use Rattle.rtm_http.specs.declared.head.HeadRead.TheVariants.{Whole, More, Bad, TooLarge}
use Rattle.rtm_http.specs.Head.{path_of, front, longest_head, most_lines, BeginsWith, BreaksRules, IsHeadOf, IsReadOf, Covers, IsRead}

-- a front of a text that goes on for at least so long
pub take_behind : (n : ℕ) (xs ys : List ℕ) → length xs ≤ n → take n (xs ++ ys) ≡ xs ++ take (n - length xs) ys
take_behind n xs ys fits =
    let count : n ≡ length xs + (n - length xs) = omega arith in
    ap (λ m. take m (xs ++ ys)) count ∙ take-append-add xs ys (n - length xs)

-- the first bytes hold the head that the bytes begin with
pub front_reads : (bytes : List ℕ) (h : RequestHead) → BeginsWith bytes h → (rest : List ℕ) × ReadsRequest (front bytes) h rest
front_reads bytes h begins =
    let text = begins.reads.1.1 in (
      take (longest_head - length (print_request h)) begins.reads.0,
      (begins.reads.1.0, ap (take longest_head) text ∙ take_behind longest_head (print_request h) begins.reads.0 begins.short),
    )

-- and a head that the first bytes hold stands in the bytes
pub reads_front : (bytes : List ℕ) (h : RequestHead) (rest : List ℕ) → ReadsRequest (front bytes) h rest → length h.fields ≤ most_lines → BeginsWith bytes h
reads_front bytes h rest reads few =
    let whole = ReadsRequest-append (front bytes) h rest (drop longest_head bytes) reads in
    let len : length (front bytes) ≤ longest_head = omega (arith, length-take longest_head bytes) in
    record {
      reads = (rest ++ drop longest_head bytes, subst (λ (text : List ℕ). ReadsRequest text h (rest ++ drop longest_head bytes)) (take-append-drop longest_head bytes) whole);
      short = omega (arith, ap length reads.1, length-append (print_request h) rest);
      few = few;
    }

-- few bytes are all looked at
pub front_all : (bytes : List ℕ) → length bytes < longest_head → front bytes ≡ bytes
front_all bytes short = take_all longest_head bytes (omega arith)

never_now : (bytes : List ℕ) (h : RequestHead) (rest : List ℕ) → NeverHasRequest bytes → ReadsRequest bytes h rest → ⊥
never_now bytes h rest never reads = never [] h rest (subst (λ (text : List ℕ). ReadsRequest text h rest) (sym (append-nil bytes)) reads)

-- a part of the first bytes is that part of the bytes
range_front : (n a b : ℕ) (bytes : List ℕ) → a ≤ b → b ≤ n → slice_range (take n bytes) a b ≡ slice_range bytes a b
range_front n a b bytes ordered within =
    let count : n ≡ a + (n - a) = omega arith in
    ap (λ m. take (b - a) (drop a (take m bytes))) count
    ∙ ap (take (b - a)) (drop-take a (n - a) bytes)
    ∙ take-take (b - a) (n - a) (drop a bytes) (omega arith)

covers_front : (bytes text : List ℕ) (span : Span) → Covers (front bytes) span text → Covers bytes span text
covers_front bytes text span covers =
    let len : length (front bytes) ≤ longest_head = omega (arith, length-take longest_head bytes) in
    let all : length (front bytes) ≤ length bytes = omega (arith, length-take longest_head bytes) in
    record {
      ordered = covers.ordered;
      within = omega (arith, covers.within);
      text_is = sym (range_front longest_head span.begin span.end bytes covers.ordered (omega (arith, covers.within))) ∙ covers.text_is;
    }

-- what is read from the first bytes is read from the bytes
head_of_front : (bytes : List ℕ) (head : Head) (h : RequestHead) → IsHeadOf (front bytes) head h → IsHeadOf bytes head h
head_of_front bytes head h is =
    let reads = front_reads (front bytes) h is.begins in
    record {
      begins = reads_front bytes h is.begins.reads.0 is.begins.reads.1 is.begins.few;
      rules = is.rules;
      len = is.len;
      method = covers_front bytes h.method head.method is.method;
      path = covers_front bytes (path_of h.target) head.path is.path;
      close = is.close;
    }

-- the bytes are no head, and may become one
pub waits_for_more : (bytes : List ℕ) → length bytes < longest_head → HasNoRequest (front bytes) → MayBecomeRequest (front bytes) → IsRead bytes More
waits_for_more bytes short none may =
    let all = front_all bytes short in record {
      told = (short, record { none = subst HasNoRequest all none; may = subst MayBecomeRequest all may });
      begins = λ h begins. let r = front_reads bytes h begins in absurd (none h r.0 r.1);
      crowded = λ h rest reads many. absurd (none h rest reads);
      waits = λ s n h can few. refl;
      long = λ long n h can. absurd (omega arith);
      hopeless = λ never target lines. absurd (hopeless_not bytes never target may);
    }
  where
    hopeless_not : (bytes : List ℕ) → NeverHasRequest (front bytes) → (EndsInTarget (front bytes) → ⊥) → MayBecomeRequest (front bytes) → ⊥
    hopeless_not bytes never target may = elim may [ inl can ↦ never can.0 can.1 [] can.2 | inr ends ↦ target ends ]

-- 16,384 bytes are no head, though they may become one
pub is_too_long : (bytes : List ℕ) → longest_head ≤ length bytes → HasNoRequest (front bytes) → MayBecomeRequest (front bytes) → IsRead bytes TooLarge
is_too_long bytes long none may = record {
  told = inl (record { long = long; unfinished = record { none = none; may = may } });
  begins = λ h begins. let r = front_reads bytes h begins in absurd (none h r.0 r.1);
  crowded = λ h rest reads many. refl;
  waits = λ short n h can few. absurd (omega arith);
  long = λ l n h can. refl;
  hopeless = λ never target lines. absurd (elim may [ inl can ↦ never can.0 can.1 [] can.2 | inr ends ↦ target ends ]);
}

-- more than 64 header lines stand in the bytes
pub has_too_many : (bytes : List ℕ) → RequestOverflows most_lines (front bytes) → RequestExceeds most_lines (front bytes) → IsRead bytes TooLarge
has_too_many bytes over exceeds = record {
  told = inr exceeds;
  begins = λ h begins.
      let r = front_reads bytes h begins in
      let many = over [] h r.0 (subst (λ (text : List ℕ). ReadsRequest text h r.0) (sym (append-nil (front bytes))) r.1) in
      absurd (omega (arith, begins.few));
  crowded = λ h rest reads many. refl;
  waits = λ short n h can few.
      let many = over can.0 h [] (subst (λ (text : List ℕ). ReadsRequest (text ++ can.0) h []) (sym (front_all bytes short)) can.1) in
      absurd (omega arith);
  long = λ l n h can. refl;
  hopeless = λ never target lines. absurd (lines exceeds);
}

-- the bytes can become no head
pub is_hopeless : (bytes : List ℕ) → NeverHasRequest (front bytes) → IsRead bytes Bad
is_hopeless bytes never = record {
  told = inr never;
  begins = λ h begins. let r = front_reads bytes h begins in absurd (never_now (front bytes) h r.0 never r.1);
  crowded = λ h rest reads many. absurd (never_now (front bytes) h rest never reads);
  waits = λ short n h can few. absurd (never can.0 h [] (subst (λ (text : List ℕ). ReadsRequest (text ++ can.0) h []) (sym (front_all bytes short)) can.1));
  long = λ l n h can. absurd (never can.0 h [] can.1);
  hopeless = λ n target lines. refl;
}

-- the bytes begin with this head, and it is answered
pub is_whole : (bytes : List ℕ) (h : RequestHead) (rest : List ℕ) (read : HeadRead) → ReadsRequest (front bytes) h rest → length h.fields ≤ most_lines → IsReadOf (front bytes) h read → IsRead bytes read
is_whole bytes h rest (Whole head) reads few is =
    let found = head_of_front bytes head h is in
    let same = λ (k : RequestHead) (r : List ℕ) (q : ReadsRequest (front bytes) k r). (request_unique (front bytes) h k rest r reads q).0 in
    record {
      told = (h, found);
      begins = λ k begins. let r = front_reads bytes k begins in subst (λ (x : RequestHead). IsHeadOf bytes head x) (same k r.0 r.1) found;
      crowded = λ k r reads_k many. let fields = ap (λ (x : RequestHead). length x.fields) (same k r reads_k) in absurd (omega arith);
      waits = λ short none k can few_k. absurd (none h rest (subst (λ (text : List ℕ). ReadsRequest text h rest) (front_all bytes short) reads));
      long = λ l none k can. absurd (none h rest reads);
      hopeless = λ never target lines. absurd (never_now (front bytes) h rest never reads);
    }
is_whole bytes h rest Bad reads few is =
    let same = λ (k : RequestHead) (r : List ℕ) (q : ReadsRequest (front bytes) k r). (request_unique (front bytes) h k rest r reads q).0 in
    record {
      told = inl (record { head = h; begins = reads_front bytes h rest reads few; breaks = is });
      begins = λ k begins. let r = front_reads bytes k begins in subst BreaksRules (same k r.0 r.1) is;
      crowded = λ k r reads_k many. let fields = ap (λ (x : RequestHead). length x.fields) (same k r reads_k) in absurd (omega arith);
      waits = λ short none k can few_k. absurd (none h rest (subst (λ (text : List ℕ). ReadsRequest text h rest) (front_all bytes short) reads));
      long = λ l none k can. absurd (none h rest reads);
      hopeless = λ never target lines. refl;
    }
is_whole bytes h rest More reads few is = absurd is
is_whole bytes h rest TooLarge reads few is = absurd is

-- a head that the parser found has no more header lines than there was room for
pub few_lines : (bytes : List ℕ) (lines : List HeaderSpan) (places : RequestSpans) (h : RequestHead) → IsRequestAt bytes lines places h → length lines ≤ most_lines → length h.fields ≤ most_lines
few_lines bytes lines places h at room =
    omega (arith, ap length at.fields, length-map (take places.headers lines) (header_bytes bytes), length-map h.fields name_and_value, length-take places.headers lines)
