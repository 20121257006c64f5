-- The segments of headers that keep their rules are sound.
use Rattle.std.proofs.Common.{◌≡◌, ℕ, zero, suc, ◌+◌, ◌*◌, ◌<◌, ◌≤◌, List, [], ◌∷◌, ◌++◌, refl, sym, subst, arith, map, cond, Bool, true, false, ◌&&◌, ◌||◌, ◌^◌}
use Rattle.std.specs.Prelude.{Option, Some, None, ◌==◌, nat_le, nat_lt}
use Rattle.std.specs.List.{flat_map, filter, All, AllByRecursion}
use Rattle.std.proofs.lemmas.Bool.Decides.{nat_tests}
use Rattle.std.proofs.lemmas.List.Elements.{All-from_recursion}
use Rattle.elf_load.specs.declared.rule.ElfRule.{ElfRule}
use Rattle.elf_load.specs.declared.rule.ElfRule.TheVariants.{SegmentOutside, FileOverMemory, AddressWraps}
use Rattle.elf_load.specs.declared.program_header.ProgramHeader.{ProgramHeader}
use Rattle.elf_load.specs.Fields.{headers_from, program_header}
use Rattle.elf_load.specs.Image.{is_load, loads, segment_of, IsSound}
use Rattle.elf_load.specs.Rules.{Breach, first_of, segment_rules, kept}

-- where nothing is told, the first rule is kept and the others tell nothing
kept_first : (rule : ElfRule) (test : Bool) (at : ℕ) (later : List (Option Breach)) → first_of (kept rule test at ∷ later) ≡ None → (test ≡ true) × (first_of later ≡ None)
kept_first rule true at later none = (refl, none)
kept_first rule false at later none = cc

none_left : (xs ys : List (Option Breach)) → first_of (xs ++ ys) ≡ None → first_of xs ≡ None
none_left [] ys none = refl
none_left (None ∷ xs) ys none = none_left xs ys none
none_left (Some f ∷ xs) ys none = none

none_right : (xs ys : List (Option Breach)) → first_of (xs ++ ys) ≡ None → first_of ys ≡ None
none_right [] ys none = none
none_right (None ∷ xs) ys none = none_right xs ys none
none_right (Some f ∷ xs) ys none = cc

-- what the tests of a header's rules say
in_file_from : (size from count : ℕ) → (count == 0 || nat_le (from + count) size) ≡ true → 0 < count → from + count ≤ size
in_file_from size from count test some = grind (arith, nat_tests)

not_empty_from : (kind size : ℕ) → (kind == 1 && nat_lt 0 size) ≡ true → 0 < size
not_empty_from kind size test = grind (arith, nat_tests)

at_most_from : (a b : ℕ) → nat_le a b ≡ true → a ≤ b
at_most_from a b test = grind (arith, nat_tests)

-- the segment of a load that keeps its rules is sound
sound_load : (size : ℕ) (h : ProgramHeader) → is_load h ≡ true → h.at + 32 ≤ size → first_of (segment_rules size h) ≡ None → IsSound size (segment_of h)
sound_load size h load inside none =
    let first = kept_first SegmentOutside (h.p_filesz == 0 || nat_le (h.p_offset + h.p_filesz) size) (h.at + 4) _ (rw load at none) in
    let second = kept_first FileOverMemory (nat_le h.p_filesz h.p_memsz) (h.at + 16) _ first.1 in
    let third = kept_first AddressWraps (nat_le (h.p_vaddr + h.p_memsz) (2 ^ 32)) (h.at + 8) _ second.1 in
    record {
      not_empty = not_empty_from h.p_type h.p_memsz load;
      in_file = in_file_from size h.p_offset h.p_filesz first.0;
      in_memory = at_most_from h.p_filesz h.p_memsz second.0;
      in_addresses = at_most_from (h.p_vaddr + h.p_memsz) (2 ^ 32) third.0;
      header_in_file = inside;
    }

-- what holds of the segment of a load and of the segments behind it holds of all
sound_more : (size : ℕ) (h : ProgramHeader) (later : List ProgramHeader) (load : Bool) → is_load h ≡ load → h.at + 32 ≤ size → first_of (segment_rules size h) ≡ None → AllByRecursion (IsSound size) (loads later) → AllByRecursion (IsSound size) (loads (h ∷ later))
sound_more size h later true load inside none sound =
    subst (λ b. AllByRecursion (IsSound size) (map segment_of (cond b (h ∷ filter is_load later) (filter is_load later)))) (sym load) (sound_load size h load inside none, sound)
sound_more size h later false load inside none sound =
    subst (λ b. AllByRecursion (IsSound size) (map segment_of (cond b (h ∷ filter is_load later) (filter is_load later)))) (sym load) sound

-- the segments of a table that lies in the file are sound, where its headers keep their rules
sound_loads : (size : ℕ) (file : List ℕ) (at n : ℕ) → (0 < n → at + 32 * n ≤ size) → first_of (flat_map (segment_rules size) (headers_from file at n)) ≡ None → AllByRecursion (IsSound size) (loads (headers_from file at n))
sound_loads size file at zero inside none = tt
sound_loads size file at (suc n) inside none =
    let h : ProgramHeader = program_header file at in
    let later : List ProgramHeader = headers_from file (at + 32) n in
    let fits : at + 32 * suc n ≤ size = inside (omega arith) in
    sound_more size h later (is_load h) refl (omega arith)
    (none_left (segment_rules size h) (flat_map (segment_rules size) later) none)
    (sound_loads size file (at + 32) n (λ some. omega arith) (none_right (segment_rules size h) (flat_map (segment_rules size) later) none))

pub All-loads : (size : ℕ) (file : List ℕ) (at n : ℕ) → (0 < n → at + 32 * n ≤ size) → first_of (flat_map (segment_rules size) (headers_from file at n)) ≡ None → All (IsSound size) (loads (headers_from file at n))
All-loads size file at n inside none = All-from_recursion (IsSound size) (loads (headers_from file at n)) (sound_loads size file at n inside none)
