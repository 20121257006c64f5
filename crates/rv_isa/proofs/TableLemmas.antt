-- The table's rows, tried one by one by computing, and what follows for each row.
use Rattle.std.proofs.Common.{◌≡◌, ◌<◌, ◌^◌, ℕ, zero, suc, Bool, true, not, ◌&&◌, ◌||◌, ◌==◌, List, [], ◌∷◌, Some, slice_get, refl, sym, ◌∙◌, ap, arith}
use Rattle.std.proofs.lemmas.Bool.Decides.{nat_tests}
use Rattle.std.specs.List.{list_all}
use Rattle.rv_isa.specs.declared.op.Op.{Op}
use Rattle.rv_isa.specs.declared.op.Op.TheVariants.{Lui, Auipc, Jal, Jalr, Beq, Bne, Blt, Bge, Bltu, Bgeu, Lb, Lh, Lw, Lbu, Lhu, Sb, Sh, Sw, Addi, Slti, Sltiu, Xori, Ori, Andi, Slli, Srli, Srai, Add, Sub, Sll, Slt, Sltu, Xor, Srl, Sra, Or, And, Fence, Ecall, Ebreak}
use Rattle.rv_isa.specs.declared.format.Format.TheVariants.{Fence as FenceFormat, System}
use Rattle.rv_isa.specs.declared.row.Row.{Row}
use Rattle.rv_isa.specs.Table.{row_of, has_funct3, has_funct7, has_funct12, IsOfRow, ops}

-- where each instruction stands among them
pub placed : (op : Op) → (k : ℕ) × (slice_get ops k ≡ Some op)
placed Lui = (0, refl)
placed Auipc = (1, refl)
placed Jal = (2, refl)
placed Jalr = (3, refl)
placed Beq = (4, refl)
placed Bne = (5, refl)
placed Blt = (6, refl)
placed Bge = (7, refl)
placed Bltu = (8, refl)
placed Bgeu = (9, refl)
placed Lb = (10, refl)
placed Lh = (11, refl)
placed Lw = (12, refl)
placed Lbu = (13, refl)
placed Lhu = (14, refl)
placed Sb = (15, refl)
placed Sh = (16, refl)
placed Sw = (17, refl)
placed Addi = (18, refl)
placed Slti = (19, refl)
placed Sltiu = (20, refl)
placed Xori = (21, refl)
placed Ori = (22, refl)
placed Andi = (23, refl)
placed Slli = (24, refl)
placed Srli = (25, refl)
placed Srai = (26, refl)
placed Add = (27, refl)
placed Sub = (28, refl)
placed Sll = (29, refl)
placed Slt = (30, refl)
placed Sltu = (31, refl)
placed Xor = (32, refl)
placed Srl = (33, refl)
placed Sra = (34, refl)
placed Or = (35, refl)
placed And = (36, refl)
placed Fence = (37, refl)
placed Ecall = (38, refl)
placed Ebreak = (39, refl)

-- what passes at each element of a list passes at one of them
all_at : (p : Op → Bool) (xs : List Op) (k : ℕ) (op : Op) → slice_get xs k ≡ Some op → list_all p xs ≡ true → p op ≡ true
all_at p [] k op at h = cc
all_at p (x ∷ xs) zero op at h = grind (arith, nat_tests)
all_at p (x ∷ xs) (suc k) op at h = all_at p xs k op at (grind (arith, nat_tests))

-- what passes at each instruction of the list passes at each instruction
pub every : (p : Op → Bool) → list_all p ops ≡ true → (op : Op) → p op ≡ true
every p h op = all_at p ops (placed op).0 op (placed op).1 h

-- whether the words of two rows are apart: both rows fix some field, and to other bits
abbrev pub are_apart : Row → Row → Bool
are_apart r s =
    not (r.opcode == s.opcode)
    || (has_funct3 r.format && has_funct3 s.format && not (r.funct3 == s.funct3))
    || (has_funct7 r.format && has_funct7 s.format && not (r.funct7 == s.funct7))
    || (has_funct12 r.format && has_funct12 s.format && not (r.funct12 == s.funct12))

-- the table, tried: two rows are apart, or they are one
all_apart : list_all (λ a. list_all (λ b. are_apart (row_of a) (row_of b) || (placed a).0 == (placed b).0) ops) ops ≡ true
unfolding row_of placed
all_apart = refl

not_apart : (word : ℕ) (r s : Row) → IsOfRow word r → IsOfRow word s → are_apart r s ≡ true → ⊥
not_apart word r s a b h = grind (arith, nat_tests, a.opcode, b.opcode, a.funct3, b.funct3, a.funct7, b.funct7, a.funct12, b.funct12)

one_of : (b : Bool) (m n : ℕ) → (b || m == n) ≡ true → (b ≡ true → ⊥) → m ≡ n
one_of b m n h never = grind (arith, nat_tests)

-- a word is of one row at most
pub IsOfRow-one : (word : ℕ) (a b : Op) → IsOfRow word (row_of a) → IsOfRow word (row_of b) → a ≡ b
IsOfRow-one word a b p q =
    let tried = every (λ y. are_apart (row_of a) (row_of y) || (placed a).0 == (placed y).0) (every (λ x. list_all (λ y. are_apart (row_of x) (row_of y) || (placed x).0 == (placed y).0) ops) all_apart a) b in
    let e : (placed a).0 ≡ (placed b).0 = one_of (are_apart (row_of a) (row_of b)) (placed a).0 (placed b).0 tried (not_apart word (row_of a) (row_of b) p q) in
    let same : Some a ≡ Some b = sym (placed a).1 ∙ ap (slice_get ops) e ∙ (placed b).1 in
    cc

-- each row's fields fit
pub row_bounds : (op : Op) → ((row_of op).opcode < 2 ^ 7) × ((row_of op).funct3 < 2 ^ 3) × ((row_of op).funct7 < 2 ^ 7) × ((row_of op).funct12 < 2 ^ 5)
unfolding row_of
row_bounds op = grind arith

-- ECALL and EBREAK have no `funct7`
pub system_funct7 : (op : Op) → (row_of op).format ≡ System → (row_of op).funct7 ≡ 0
unfolding row_of
system_funct7 op e = grind arith

-- the row of FENCE
pub fence_row : (op : Op) → op ≡ Fence → ((row_of op).format ≡ FenceFormat) × ((row_of op).opcode ≡ 15) × ((row_of op).funct3 ≡ 0) × ((row_of op).funct7 ≡ 0)
unfolding row_of
fence_row op e = grind arith

-- no other instruction has the format of FENCE
pub only_fence : (op : Op) → (op ≡ Fence → ⊥) → (row_of op).format ≡ FenceFormat → ⊥
unfolding row_of
only_fence op other e = grind arith
