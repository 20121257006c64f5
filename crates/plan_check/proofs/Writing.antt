-- Bytes that are written over, piece by piece.
use Rattle.std.proofs.Common.{◌≡◌, ℕ, ◌+◌, ◌-◌, ◌<◌, ◌≤◌, zero, suc, Bool, true, false, List, [], ◌∷◌, ◌++◌, take, length, refl, ap, arith, ◌∙◌, sym, add-one, inl, inr}
use Rattle.std.specs.Prelude.{Option, Some, None, ◌==◌, ◌&&◌, nat_lt, nat_le, slice_get, slice_set, unwrap_or, if◌then◌else◌, ◌⊎◌}
use Rattle.std.specs.Option.{option_or}
use Rattle.std.proofs.lemmas.Bool.Decides.{nat_tests}
use Rattle.std.proofs.lemmas.List.{map-append}
use Rattle.sim_base.specs.declared.numbers.PortNo.{PortNo}
use Rattle.addr_map.specs.declared.range.Range.{Range}
use Rattle.elf_load.specs.declared.image.Image.{Image}
use Rattle.elf_load.specs.declared.segment.Segment.{Segment}
use Rattle.plan_check.specs.Caches.{Way, end_of, is_at}
use Rattle.plan_check.specs.declared.caches.CacheMap.{CacheMap}
use Rattle.plan_check.specs.Programs.{Load, program_loads, loads_of, has_address, segment_byte, byte_for, last_byte, written_over}

-- a byte at one address alone
abbrev pub only : ℕ → Option ℕ → ℕ → Option ℕ
only addr byte a = if a == addr then byte else None

-- the bytes below an address alone
abbrev pub below : ℕ → (ℕ → Option ℕ) → ℕ → Option ℕ
below addr new a = if nat_lt a addr then new a else None

-- what is the same at the addresses of the bytes
pub same_written : (addr : ℕ) (f g : ℕ → Option ℕ) (bytes : List ℕ) → ((a : ℕ) → addr ≤ a → a < addr + length bytes → f a ≡ g a) → written_over addr f bytes ≡ written_over addr g bytes
same_written addr f g [] same = refl
same_written addr f g (b ∷ bs) same =
    ap (λ o. unwrap_or o b ∷ written_over (addr + 1) f bs) (same addr (omega arith) (omega arith))
    ∙ ap (λ l. unwrap_or (g addr) b ∷ l) (same_written (addr + 1) f g bs (λ a from below. same a (omega arith) (omega arith)))

none_written : (addr : ℕ) (bytes : List ℕ) → written_over addr (λ a. None) bytes ≡ bytes
none_written addr [] = refl
none_written addr (b ∷ bs) = ap (λ l. b ∷ l) (none_written (addr + 1) bs)

-- nothing is new
pub un_written : (addr : ℕ) (f : ℕ → Option ℕ) (bytes : List ℕ) → ((a : ℕ) → addr ≤ a → a < addr + length bytes → f a ≡ None) → written_over addr f bytes ≡ bytes
un_written addr f bytes none = same_written addr f (λ a. None) bytes none ∙ none_written addr bytes

pub length-written : (addr : ℕ) (f : ℕ → Option ℕ) (bytes : List ℕ) → length (written_over addr f bytes) ≡ length bytes
length-written addr f [] = refl
length-written addr f (b ∷ bs) = ap suc (length-written (addr + 1) f bs)

or_none : (o : Option ℕ) → option_or o None ≡ o
or_none None = refl
or_none (Some x) = refl

or_both : (p q : Option ℕ) (b : ℕ) → unwrap_or p (unwrap_or q b) ≡ unwrap_or (option_or p q) b
or_both None q b = refl
or_both (Some x) q b = refl

-- what is written over what was written over
pub twice_written : (addr : ℕ) (f g : ℕ → Option ℕ) (bytes : List ℕ) → written_over addr g (written_over addr f bytes) ≡ written_over addr (λ a. option_or (g a) (f a)) bytes
twice_written addr f g [] = refl
twice_written addr f g (b ∷ bs) =
    ap (λ x. x ∷ written_over (addr + 1) g (written_over (addr + 1) f bs)) (or_both (g addr) (f addr) b)
    ∙ ap (λ l. unwrap_or (option_or (g addr) (f addr)) b ∷ l) (twice_written (addr + 1) f g bs)

same_test : (a : ℕ) → (a == a) ≡ true
same_test a = grind (arith, nat_tests)

other_test : (a b : ℕ) → (a < b) ⊎ (b < a) → (a == b) ≡ false
other_test a b (inl l) = grind (arith, nat_tests)
other_test a b (inr l) = grind (arith, nat_tests)

only_here : (addr : ℕ) (o : Option ℕ) → only addr o addr ≡ o
only_here addr o = ap (λ b. if b then o else None) (same_test addr)

only_there : (addr a : ℕ) (o : Option ℕ) → (a < addr) ⊎ (addr < a) → only addr o a ≡ None
only_there addr a o apart = ap (λ b. if b then o else None) (other_test a addr apart)

-- one byte that is set
pub set_written : (addr k byte : ℕ) (bytes : List ℕ) → k < length bytes → slice_set bytes k byte ≡ written_over addr (only (addr + k) (Some byte)) bytes
set_written addr k byte [] within = absurd (omega arith)
set_written addr zero byte (b ∷ bs) within =
    let at : addr + 0 ≡ addr = omega arith in
    sym (ap (λ j. written_over addr (only j (Some byte)) (b ∷ bs)) at
    ∙ ap (λ o. unwrap_or o b ∷ written_over (addr + 1) (only addr (Some byte)) bs) (only_here addr (Some byte))
    ∙ ap (λ l. byte ∷ l) (un_written (addr + 1) (only addr (Some byte)) bs (λ a from to. only_there addr a (Some byte) (inr (omega arith)))))
set_written addr (suc k) byte (b ∷ bs) within =
    let at : addr + 1 + k ≡ addr + suc k = omega arith in
    ap (λ l. b ∷ l) (set_written (addr + 1) k byte bs (omega arith))
    ∙ ap (λ j. b ∷ written_over (addr + 1) (only j (Some byte)) bs) at
    ∙ sym (ap (λ o. unwrap_or o b ∷ written_over (addr + 1) (only (addr + suc k) (Some byte)) bs) (only_there (addr + suc k) addr (Some byte) (inl (omega arith))))

-- a byte, if there is one, and then those below its address
pub one_more : (base addr : ℕ) (f : ℕ → Option ℕ) (old before after : List ℕ) → before ≡ written_over base (below addr f) old → after ≡ written_over base (only addr (f addr)) before → after ≡ written_over base (below (addr + 1) f) old
one_more base addr f old before after so_far now =
    now ∙ ap (written_over base (only addr (f addr))) so_far ∙ twice_written base (below addr f) (only addr (f addr)) old
    ∙ same_written base _ (below (addr + 1) f) old (λ a from to. at a (a == addr) (nat_lt a addr) (nat_lt a (addr + 1)) refl refl refl)
  where
    at : (a : ℕ) (here less more : Bool) → (a == addr) ≡ here → nat_lt a addr ≡ less → nat_lt a (addr + 1) ≡ more → option_or (if here then f addr else None) (if less then f a else None) ≡ (if more then f a else None)
    at a true true more e l m = absurd (grind (arith, nat_tests))
    at a true false true e l m = (let same : addr ≡ a = grind (arith, nat_tests) in or_none (f addr) ∙ ap f same)
    at a true false false e l m = absurd (grind (arith, nat_tests))
    at a false true true e l m = refl
    at a false true false e l m = absurd (grind (arith, nat_tests))
    at a false false true e l m = absurd (grind (arith, nat_tests))
    at a false false false e l m = refl

-- a byte, if there is one, is put at its address
pub put_written : (base addr byte : ℕ) (o : Option ℕ) (bytes : List ℕ) → base ≤ addr → addr < base + length bytes → o ≡ Some byte → slice_set bytes (addr - base) byte ≡ written_over base (only addr o) bytes
put_written base addr byte o bytes from to there =
    let at : base + (addr - base) ≡ addr = omega arith in
    set_written base (addr - base) byte bytes (omega arith) ∙ ap (λ j. written_over base (only j (Some byte)) bytes) at ∙ ap (λ x. written_over base (only addr x) bytes) (sym there)

pub none_put : (base addr : ℕ) (o : Option ℕ) (bytes : List ℕ) → o ≡ None → bytes ≡ written_over base (only addr o) bytes
none_put base addr o bytes none = sym (un_written base (only addr o) bytes (λ a from to. either (a == addr) o none))
  where
    either : (b : Bool) (p : Option ℕ) → p ≡ None → (if b then p else None) ≡ None
    either true p e = e
    either false p e = refl

le_false : (m n : ℕ) → n < m → nat_le m n ≡ false
le_false m n l = grind (arith, nat_tests)

lt_false : (m n : ℕ) → n ≤ m → nat_lt m n ≡ false
lt_false m n l = grind (arith, nat_tests)

and_none : (b : Bool) → (b && false) ≡ false
and_none true = refl
and_none false = refl

no_address : (port : PortNo) (load : Load) (a : ℕ) → has_address load.segment a ≡ false → byte_for port load a ≡ None
no_address port load a none = ap (λ b. if b && is_at port (end_of load.way a) then Some (segment_byte load.file load.segment a) else None) none

in_front : (port : PortNo) (load : Load) (a : ℕ) → a < load.segment.vaddr → byte_for port load a ≡ None
in_front port load a l = no_address port load a (ap (λ b. b && nat_lt a (load.segment.vaddr + load.segment.mem_size)) (le_false load.segment.vaddr a l))

behind : (port : PortNo) (load : Load) (a : ℕ) → load.segment.vaddr + load.segment.mem_size ≤ a → byte_for port load a ≡ None
behind port load a l = no_address port load a (ap (λ b. nat_le load.segment.vaddr a && b) (lt_false a (load.segment.vaddr + load.segment.mem_size) l) ∙ and_none (nat_le load.segment.vaddr a))

-- no byte of a segment stands at an address in front of this one
pub start_placed : (base addr : ℕ) (port : PortNo) (load : Load) (old : List ℕ) → ((a : ℕ) → a < addr → base ≤ a → a < load.segment.vaddr) → old ≡ written_over base (below addr (byte_for port load)) old
start_placed base addr port load old front = sym (un_written base (below addr (byte_for port load)) old (λ a from to. at a from (nat_lt a addr) refl))
  where
    at : (a : ℕ) → base ≤ a → (b : Bool) → nat_lt a addr ≡ b → (if b then byte_for port load a else None) ≡ None
    at a from true e = in_front port load a (front a (grind (arith, nat_tests)) from)
    at a from false e = refl

-- no byte of a segment stands at an address from this one on
pub end_placed : (base addr : ℕ) (port : PortNo) (load : Load) (old : List ℕ) → ((a : ℕ) → addr ≤ a → a < base + length old → load.segment.vaddr + load.segment.mem_size ≤ a) → written_over base (below addr (byte_for port load)) old ≡ written_over base (byte_for port load) old
end_placed base addr port load old past = same_written base (below addr (byte_for port load)) (byte_for port load) old (λ a from to. at a to (nat_lt a addr) refl)
  where
    at : (a : ℕ) → a < base + length old → (b : Bool) → nat_lt a addr ≡ b → (if b then byte_for port load a else None) ≡ byte_for port load a
    at a to true e = refl
    at a to false e = sym (behind port load a (past a (grind (arith, nat_tests)) to))

or_assoc : (p q r : Option ℕ) → option_or (option_or p q) r ≡ option_or p (option_or q r)
or_assoc None q r = refl
or_assoc (Some x) q r = refl

-- the last byte of segments and of those behind them
pub last_behind : (port : PortNo) (xs ys : List Load) (a : ℕ) → last_byte port (xs ++ ys) a ≡ option_or (last_byte port ys a) (last_byte port xs a)
last_behind port [] ys a = sym (or_none (last_byte port ys a))
last_behind port (x ∷ xs) ys a = ap (λ o. option_or o (byte_for port x a)) (last_behind port xs ys a) ∙ or_assoc (last_byte port ys a) (last_byte port xs a) (byte_for port x a)

pub nothing_placed : (base : ℕ) (port : PortNo) (bytes : List ℕ) → bytes ≡ written_over base (last_byte port []) bytes
nothing_placed base port bytes = sym (un_written base (last_byte port []) bytes (λ a from to. refl))

-- segments are placed behind others
pub placed_behind : (base : ℕ) (port : PortNo) (xs ys all : List Load) (old before after : List ℕ) → all ≡ xs ++ ys → before ≡ written_over base (last_byte port xs) old → after ≡ written_over base (last_byte port ys) before → after ≡ written_over base (last_byte port all) old
placed_behind base port xs ys all old before after join so_far now =
    now ∙ ap (written_over base (last_byte port ys)) so_far ∙ twice_written base (last_byte port xs) (last_byte port ys) old
    ∙ same_written base _ (last_byte port all) old (λ a from to. sym (ap (λ l. last_byte port l a) join ∙ last_behind port xs ys a))

take_more : {A : Type 0} (xs : List A) (n : ℕ) (x : A) → slice_get xs n ≡ Some x → take (n + 1) xs ≡ take n xs ++ x ∷ []
take_more xs n x there = ap (λ k. take k xs) (add-one n) ∙ at xs n there
  where
    at : {A : Type 0} {x : A} (xs : List A) (n : ℕ) → slice_get xs n ≡ Some x → take (suc n) xs ≡ take n xs ++ x ∷ []
    at [] n e = absurd (cc)
    at {A} {x} (y ∷ ys) zero e = ap (λ z. z ∷ []) (let same : y ≡ x = cc in same)
    at (y ∷ ys) (suc n) e = ap (λ l. y ∷ l) (at ys n e)

-- one segment further in a program
pub segments_more : (way : Way) (file : List ℕ) (segments : List Segment) (n : ℕ) (s : Segment) → slice_get segments n ≡ Some s → program_loads way file (take (n + 1) segments) ≡ program_loads way file (take n segments) ++ record { way = way; file = file; segment = s } ∷ []
segments_more way file segments n s there = ap (program_loads way file) (take_more segments n s there) ∙ map-append _ (take n segments) (s ∷ [])

append_none : {A : Type 0} (xs : List A) → xs ++ [] ≡ xs
append_none [] = refl
append_none (x ∷ xs) = ap (λ l. x ∷ l) (append_none xs)

append_through : {A : Type 0} (xs ys zs : List A) → (xs ++ ys) ++ zs ≡ xs ++ (ys ++ zs)
append_through [] ys zs = refl
append_through (x ∷ xs) ys zs = ap (λ l. x ∷ l) (append_through xs ys zs)

-- one program further
pub programs_more : (caches : List CacheMap) (maps : List (List Range)) (images : List Image) (n : ℕ) (to : List Range) (image : Image) → slice_get maps n ≡ Some to → slice_get images n ≡ Some image → loads_of caches (take (n + 1) maps) (take (n + 1) images) ≡ loads_of caches (take n maps) (take n images) ++ program_loads (record { map = to; caches = caches }) image.file image.segments
programs_more caches maps images n to image here there = ap (λ k. loads_of caches (take k maps) (take k images)) (add-one n) ∙ at maps images n here there
  where
    loads : List Range → Image → List Load
    loads m i = program_loads (record { map = m; caches = caches }) i.file i.segments

    at : (maps : List (List Range)) (images : List Image) (n : ℕ) → slice_get maps n ≡ Some to → slice_get images n ≡ Some image → loads_of caches (take (suc n) maps) (take (suc n) images) ≡ loads_of caches (take n maps) (take n images) ++ loads to image
    at [] images n e f = absurd (cc)
    at (m ∷ ms) [] n e f = absurd (cc)
    at (m ∷ ms) (i ∷ is) zero e f =
        (let map_is : m ≡ to = cc in
        let image_is : i ≡ image = cc in
        append_none (loads m i) ∙ ap (λ x. loads x i) map_is ∙ ap (loads to) image_is)
    at (m ∷ ms) (i ∷ is) (suc n) e f =
        ap (λ l. loads m i ++ l) (at ms is n e f)
        ∙ sym (append_through (loads m i) (loads_of caches (take n ms) (take n is)) (loads to image))
