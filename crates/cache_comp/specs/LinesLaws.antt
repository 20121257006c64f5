-- Laws of the lines of a cache.
use Rattle.std.specs.Prelude.{◌≡◌, ℕ, ◌+◌, ◌*◌, ◌%◌, ◌<◌, ◌≤◌, ◌&&◌, ◌++◌, List, length, take, drop, replicate, position, Option, Some, None, Bool, true, nat_lt, nat_le, refl}
use Rattle.std.proofs.Common.{ap, subst, arith, ◌∙◌}
use Rattle.std.proofs.lemmas.Bool.{and_parts, leb-true}
use Rattle.std.proofs.lemmas.Nat.{row_fits, mul-le}
use Rattle.std.proofs.lemmas.List.{drop-replicate, length-take}
use Rattle.std.proofs.lemmas.List.Quantifiers.{position-Some}
use Rattle.port_msg.specs.Kinds.{is_request}
use Rattle.port_msg.specs.declared.message.Msg.{Msg}
use Rattle.cache_comp.specs.declared.line_tag.LineTag.{LineTag}
use Rattle.cache_comp.specs.Lines.{LinesState, places, unused, first_place, set_of, ways_of, place_of, is_vacant, is_least, least_use, else_way, victim_way, victim_place, filled, accepts, LiesInLine}

-- 64 bytes that begin with others
pub filled_from : (others : List ℕ) (len : ℕ) → length others ≡ len → others ++ drop {A = ℕ} len (replicate 64 0) ≡ filled others
filled_from others len e = rw e (ap (λ l. others ++ l) (drop-replicate len 64 0))

-- the bytes of a message that is accepted lie in one line
pub lies_in_line : (line : ℕ) (m : Msg) → accepts line m ≡ true → LiesInLine line m
lies_in_line line m h =
    let within = nat_le (m.addr % line + m.len) line in
    let few = nat_lt 0 m.len && nat_le m.len 64 in
    leb-true (m.addr % line + m.len) line (and_parts few within (and_parts (is_request m.kind) (few && within) h).1).1

-- a line ends within the lines
pub line_end : (place n line : ℕ) → place < n → place * line + line ≤ n * line
line_end place n line h = row_fits place line n line h (omega arith)

-- a cache has at most 16,384 lines, of at most 64 bytes
pub places_most : (set way : ℕ) → set ≤ 1024 → way ≤ 16 → set * way ≤ 16384
places_most set way s w = mul-le set way 1024 16 s w

pub bytes_most : (place line : ℕ) → place ≤ 16384 → line ≤ 64 → place * line ≤ 1048576
bytes_most place line p l = mul-le place line 16384 64 p l

-- a way of one of the sets is one of the places
way_within : (set sets way ways : ℕ) → set < sets → way < ways → set * ways + way < sets * ways
way_within set sets way ways s w = omega (arith, line_end set sets ways s)

found_within : (p : LineTag → Bool) (n : ℕ) (tags : List LineTag) (k : ℕ) → position p (take n tags) ≡ Some k → k < n
found_within p n tags k e = let f = position-Some p (take n tags) k unused e in omega (arith, f.0, length-take n tags)

victim_way_within : (n : ℕ) (tags : List LineTag) (k : ℕ) → victim_way (take n tags) ≡ Some k → k < n
victim_way_within n tags k e = by_vacant (position is_vacant (take n tags)) refl e
  where
    by_vacant : (o : Option ℕ) → position is_vacant (take n tags) ≡ o → else_way o (position (is_least (least_use (take n tags))) (take n tags)) ≡ Some k → k < n
    by_vacant (Some way) f g = found_within is_vacant n tags k (f ∙ g)
    by_vacant None f g = found_within (is_least (least_use (take n tags))) n tags k g

-- a victim is one of the lines
pub victim_within : (l : LinesState) (addr place : ℕ) → 0 < l.sets → victim_place l addr ≡ Some place → place < places l
victim_within l addr place s e = by_way (victim_way (ways_of l addr)) refl e
  where
    by_way : (o : Option ℕ) → victim_way (ways_of l addr) ≡ o → place_of l addr o ≡ Some place → place < places l
    by_way None f g = absurd (cc)
    by_way (Some k) f g =
        let way : k < l.ways = victim_way_within l.ways (drop (first_place l addr) l.tags) k f in
        let set : set_of l addr < l.sets = omega arith in
        let same : first_place l addr + k ≡ place = cc in
        subst (λ n. n < places l) same (way_within (set_of l addr) l.sets k l.ways set way)
