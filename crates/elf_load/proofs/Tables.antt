-- One step through a program header table, and through a list of rules.
use Rattle.std.proofs.Common.{◌≡◌, ℕ, ◌+◌, ◌-◌, ◌*◌, ◌<◌, suc, List, [], ◌∷◌, ◌++◌, refl, ap, sym, arith, ◌∙◌, map, cond, true, false, append_assoc}
use Rattle.std.specs.Prelude.{Option, Some, None}
use Rattle.std.specs.List.{flat_map, filter}
use Rattle.elf_load.specs.declared.fault.ElfFault.{ElfFault}
use Rattle.elf_load.specs.declared.program_header.ProgramHeader.{ProgramHeader}
use Rattle.elf_load.specs.declared.segment.Segment.{Segment}
use Rattle.elf_load.specs.Fields.{headers_from, program_header}
use Rattle.elf_load.specs.Image.{is_load, loads, segment_of}
use Rattle.elf_load.specs.Rules.{Breach, first_of, segment_rules, told}

-- the headers from the i-th on are the i-th and those behind it
headers_from-next : (file : List ℕ) (at n i : ℕ) → i < n → headers_from file (at + 32 * i) (n - i) ≡ program_header file (at + 32 * i) ∷ headers_from file (at + 32 * (i + 1)) (n - (i + 1))
headers_from-next file at n i below =
    let count : n - i ≡ suc (n - (i + 1)) = omega arith in
    let place : at + 32 * i + 32 ≡ at + 32 * (i + 1) = omega arith in
    ap (λ m. headers_from file (at + 32 * i) m) count
    ∙ ap (λ p. program_header file (at + 32 * i) ∷ headers_from file p (n - (i + 1))) place

-- rules of which none is told are kept
told_none : (broken : Option Breach) → told broken ≡ None → broken ≡ None
told_none None none = refl
told_none (Some broken) none = cc

-- behind rules that are kept the later ones tell
first_of-kept : (xs ys : List (Option Breach)) → told (first_of xs) ≡ None → first_of (xs ++ ys) ≡ first_of ys
first_of-kept [] ys kept = refl
first_of-kept (None ∷ xs) ys kept = first_of-kept xs ys kept
first_of-kept (Some broken ∷ xs) ys kept = cc

-- the first broken rule is told, whatever rules follow
pub first_of-broken : (xs ys : List (Option Breach)) (fault : ElfFault) → told (first_of xs) ≡ Some fault → told (first_of (xs ++ ys)) ≡ Some fault
first_of-broken [] ys fault broken = cc
first_of-broken (None ∷ xs) ys fault broken = first_of-broken xs ys fault broken
first_of-broken (Some first ∷ xs) ys fault broken = broken

-- where the i-th header keeps its rules, the headers behind it tell
pub headers-kept : (size : ℕ) (file : List ℕ) (at n i : ℕ) → i < n → told (first_of (segment_rules size (program_header file (at + 32 * i)))) ≡ None → first_of (flat_map (segment_rules size) (headers_from file (at + 32 * i) (n - i))) ≡ first_of (flat_map (segment_rules size) (headers_from file (at + 32 * (i + 1)) (n - (i + 1))))
headers-kept size file at n i below kept =
    ap (λ hs. first_of (flat_map (segment_rules size) hs)) (headers_from-next file at n i below)
    ∙ first_of-kept (segment_rules size (program_header file (at + 32 * i))) (flat_map (segment_rules size) (headers_from file (at + 32 * (i + 1)) (n - (i + 1)))) kept

-- where the i-th header breaks a rule, that is told
pub headers-broken : (size : ℕ) (file : List ℕ) (at n i : ℕ) (fault : ElfFault) → i < n → told (first_of (segment_rules size (program_header file (at + 32 * i)))) ≡ Some fault → told (first_of (flat_map (segment_rules size) (headers_from file (at + 32 * i) (n - i)))) ≡ Some fault
headers-broken size file at n i fault below broken =
    ap (λ hs. told (first_of (flat_map (segment_rules size) hs))) (headers_from-next file at n i below)
    ∙ first_of-broken (segment_rules size (program_header file (at + 32 * i))) (flat_map (segment_rules size) (headers_from file (at + 32 * (i + 1)) (n - (i + 1)))) fault broken

-- the segments of the headers from the i-th on, where that is a load
pub loads-load : (segments : List Segment) (file : List ℕ) (at n i : ℕ) → i < n → is_load (program_header file (at + 32 * i)) ≡ true → (segments ++ segment_of (program_header file (at + 32 * i)) ∷ []) ++ loads (headers_from file (at + 32 * (i + 1)) (n - (i + 1))) ≡ segments ++ loads (headers_from file (at + 32 * i) (n - i))
loads-load segments file at n i below load =
    let h : ProgramHeader = program_header file (at + 32 * i) in
    let later : List ProgramHeader = headers_from file (at + 32 * (i + 1)) (n - (i + 1)) in
    append_assoc segments (segment_of h ∷ []) (loads later)
    ∙ ap (λ b. segments ++ map segment_of (cond b (h ∷ filter is_load later) (filter is_load later))) (sym load)
    ∙ ap (λ hs. segments ++ loads hs) (sym (headers_from-next file at n i below))

-- the same where that is no load
pub loads-other : (segments : List Segment) (file : List ℕ) (at n i : ℕ) → i < n → is_load (program_header file (at + 32 * i)) ≡ false → segments ++ loads (headers_from file (at + 32 * (i + 1)) (n - (i + 1))) ≡ segments ++ loads (headers_from file (at + 32 * i) (n - i))
loads-other segments file at n i below other =
    let h : ProgramHeader = program_header file (at + 32 * i) in
    let later : List ProgramHeader = headers_from file (at + 32 * (i + 1)) (n - (i + 1)) in
    ap (λ b. segments ++ map segment_of (cond b (h ∷ filter is_load later) (filter is_load later))) (sym other)
    ∙ ap (λ hs. segments ++ loads hs) (sym (headers_from-next file at n i below))
