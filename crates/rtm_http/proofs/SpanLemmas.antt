-- Places in the bytes of a head.
use Rattle.std.proofs.Common.{◌≡◌, ℕ, ◌+◌, ◌-◌, ◌≤◌, ◌==◌, List, length, take, drop, sym, ap, ◌∙◌, arith, length-take, length-drop}
use Rattle.std.specs.List.{position_or_len}
use Rattle.std.proofs.lemmas.List.{take-take}
use Rattle.std.proofs.lemmas.List.Sums.{prefix_len-le-length}
use Rattle.httparse.specs.declared.spans.Span.{Span as Place}
use Rattle.httparse.specs.declared.spans.HeaderSpan.{HeaderSpan}
use Rattle.httparse.specs.Spans.{span_bytes, IsWithin, IsHeaderWithin}
use Rattle.rtm_http.specs.Head.{path_of, Covers}

-- how many bytes of a target are its path
pub path_bytes : List ℕ → ℕ
path_bytes target = position_or_len (λ (b : ℕ). b == 63) target

-- the path of a target that stands in the bytes ends there too
pub path_inside : (bytes : List ℕ) (place : Place) → IsWithin (length bytes) place → place.start + position_or_len (λ (b : ℕ). b == 63) (span_bytes bytes place) ≤ place.end
path_inside bytes place within =
    let n : ℕ = position_or_len (λ (b : ℕ). b == 63) (span_bytes bytes place) in
    let short : n ≤ length (span_bytes bytes place) = prefix_len-le-length _ (span_bytes bytes place) in
    omega (arith, length-take (place.end - place.start) (drop place.start bytes), length-drop place.start bytes, within.0, within.1)

pub path_covers : (bytes : List ℕ) (place : Place) → IsWithin (length bytes) place → Covers bytes (record { begin = place.start; end = place.start + position_or_len (λ (b : ℕ). b == 63) (span_bytes bytes place) }) (path_of (span_bytes bytes place))
path_covers bytes place within =
    let n : ℕ = position_or_len (λ (b : ℕ). b == 63) (span_bytes bytes place) in
    let inside : place.start + n ≤ place.end = path_inside bytes place within in
    let count : place.start + n - place.start ≡ n = omega arith in
    record {
      ordered = omega arith;
      within = omega (arith, within.1);
      text_is = ap (λ k. take k (drop place.start bytes)) count ∙ sym (take-take n (place.end - place.start) (drop place.start bytes) (omega arith));
    }

-- what lies in the head lies in the bytes
pub header_in_bytes : (len n : ℕ) → len ≤ n → (h : HeaderSpan) → IsHeaderWithin len h → IsHeaderWithin n h
header_in_bytes len n fits h within = ((within.0.0, omega (arith, within.0.1)), (within.1.0, omega (arith, within.1.1)))
