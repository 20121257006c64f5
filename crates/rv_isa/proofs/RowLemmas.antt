-- When a word is of a row, by the row's opcode.
use Rattle.std.proofs.Common.{◌≡◌, ◌≢◌, ℕ, Bool, true, false, IsTrue, IfNone, Option, Some, None, ◌⊎◌, sym, ◌∙◌, ap, subst, arith}
use Rattle.rv_isa.specs.declared.op.Op.{Op}
use Rattle.rv_isa.specs.declared.format.Format.TheVariants.{R, I, Shift, S, B}
use Rattle.rv_isa.specs.declared.row.Row.{Row}
use Rattle.rv_isa.specs.Bits.{field}
use Rattle.rv_isa.specs.Table.{row, row_of, has_funct3, has_funct7, has_funct12, IsOfRow}

untrue : {P : Type 0} (b : Bool) → b ≡ false → IsTrue b → P
untrue b e h = absurd (grind arith)

-- a word with the opcode of a row that fixes no more
pub IsOfRow-opcode : (word : ℕ) (r : Row) → has_funct3 r.format ≡ false → has_funct7 r.format ≡ false → has_funct12 r.format ≡ false → field 0 7 word ≡ r.opcode → IsOfRow word r
IsOfRow-opcode word r three seven twelve o = record {
  opcode = o;
  funct3 = λ h. untrue (has_funct3 r.format) three h;
  funct7 = λ h. untrue (has_funct7 r.format) seven h;
  funct12 = λ h. untrue (has_funct12 r.format) twelve h;
  no_rd = λ h. untrue (has_funct12 r.format) twelve h;
  no_rs1 = λ h. untrue (has_funct12 r.format) twelve h;
}

-- a word with the opcode and the `funct3` of a row that fixes no more
pub IsOfRow-funct3 : (word : ℕ) (r : Row) → has_funct7 r.format ≡ false → has_funct12 r.format ≡ false → field 0 7 word ≡ r.opcode → field 12 3 word ≡ r.funct3 → IsOfRow word r
IsOfRow-funct3 word r seven twelve o three = record {
  opcode = o;
  funct3 = λ _. three;
  funct7 = λ h. untrue (has_funct7 r.format) seven h;
  funct12 = λ h. untrue (has_funct12 r.format) twelve h;
  no_rd = λ h. untrue (has_funct12 r.format) twelve h;
  no_rs1 = λ h. untrue (has_funct12 r.format) twelve h;
}

-- what follows from a fact about an absent value
pub IfNone-map : (r : Option Op) (P Q : Type 0) → (P → Q) → IfNone r P → IfNone r Q
IfNone-map None P Q f p = f p
IfNone-map (Some _) P Q f p = p

-- the rows of opcode 99
branch_row : (op : Op) → (row_of op).opcode ≡ 99 → row_of op ≡ row B 99 (row_of op).funct3 0 0
unfolding row_of
branch_row op o = grind arith

pub branch_word : (word three : ℕ) (op : Op) → field 0 7 word ≡ 99 → three ≡ field 12 3 word → IsOfRow word (row_of op) → row_of op ≡ row B 99 three 0 0
branch_word word three op o t is =
    let e = branch_row op (sym is.opcode ∙ o) in
    e ∙ ap (λ f. row B 99 f 0 0) (sym (t ∙ is.funct3 (ap (λ r. has_funct3 r.format) e)))

-- the rows of opcode 3
load_row : (op : Op) → (row_of op).opcode ≡ 3 → row_of op ≡ row I 3 (row_of op).funct3 0 0
unfolding row_of
load_row op o = grind arith

pub load_word : (word three : ℕ) (op : Op) → field 0 7 word ≡ 3 → three ≡ field 12 3 word → IsOfRow word (row_of op) → row_of op ≡ row I 3 three 0 0
load_word word three op o t is =
    let e = load_row op (sym is.opcode ∙ o) in
    e ∙ ap (λ f. row I 3 f 0 0) (sym (t ∙ is.funct3 (ap (λ r. has_funct3 r.format) e)))

-- the rows of opcode 35
store_row : (op : Op) → (row_of op).opcode ≡ 35 → row_of op ≡ row S 35 (row_of op).funct3 0 0
unfolding row_of
store_row op o = grind arith

pub store_word : (word three : ℕ) (op : Op) → field 0 7 word ≡ 35 → three ≡ field 12 3 word → IsOfRow word (row_of op) → row_of op ≡ row S 35 three 0 0
store_word word three op o t is =
    let e = store_row op (sym is.opcode ∙ o) in
    e ∙ ap (λ f. row S 35 f 0 0) (sym (t ∙ is.funct3 (ap (λ r. has_funct3 r.format) e)))

-- the rows of opcode 51
register_row : (op : Op) → (row_of op).opcode ≡ 51 → row_of op ≡ row R 51 (row_of op).funct3 (row_of op).funct7 0
unfolding row_of
register_row op o = grind arith

pub register_word : (word three seven : ℕ) (op : Op) → field 0 7 word ≡ 51 → three ≡ field 12 3 word → seven ≡ field 25 7 word → IsOfRow word (row_of op) → row_of op ≡ row R 51 three seven 0
register_word word three seven op o t v is =
    let e = register_row op (sym is.opcode ∙ o) in
    e ∙ ap (λ f. row R 51 f (row_of op).funct7 0) (sym (t ∙ is.funct3 (ap (λ r. has_funct3 r.format) e)))
    ∙ ap (λ f. row R 51 three f 0) (sym (v ∙ is.funct7 (ap (λ r. has_funct7 r.format) e)))

-- the rows of opcode 19: shifts at 1 and 5
with_immediate_funct3 : (op : Op) → (row_of op).opcode ≡ 19 → has_funct3 (row_of op).format ≡ true
unfolding row_of
with_immediate_funct3 op o = grind arith

shift_row : (op : Op) → (row_of op).opcode ≡ 19 → ((row_of op).funct3 ≡ 1) ⊎ ((row_of op).funct3 ≡ 5) → row_of op ≡ row Shift 19 (row_of op).funct3 (row_of op).funct7 0
unfolding row_of
shift_row op o t = grind arith

immediate_row : (op : Op) → (row_of op).opcode ≡ 19 → (row_of op).funct3 ≢ 1 → (row_of op).funct3 ≢ 5 → row_of op ≡ row I 19 (row_of op).funct3 0 0
unfolding row_of
immediate_row op o n m = grind arith

pub shift_word : (word three seven : ℕ) (op : Op) → field 0 7 word ≡ 19 → three ≡ field 12 3 word → seven ≡ field 25 7 word → (three ≡ 1) ⊎ (three ≡ 5) → IsOfRow word (row_of op) → row_of op ≡ row Shift 19 three seven 0
shift_word word three seven op o t v either is =
    let code = sym is.opcode ∙ o in
    let same : three ≡ (row_of op).funct3 = t ∙ is.funct3 (with_immediate_funct3 op code) in
    let P : ℕ → Type 0 = λ n. (n ≡ 1) ⊎ (n ≡ 5) in
    let e = shift_row op code (subst P same either) in
    e ∙ ap (λ f. row Shift 19 f (row_of op).funct7 0) (sym same)
    ∙ ap (λ f. row Shift 19 three f 0) (sym (v ∙ is.funct7 (ap (λ r. has_funct7 r.format) e)))

pub immediate_word : (word three : ℕ) (op : Op) → field 0 7 word ≡ 19 → three ≡ field 12 3 word → three ≢ 1 → three ≢ 5 → IsOfRow word (row_of op) → row_of op ≡ row I 19 three 0 0
immediate_word word three op o t one five is =
    let code = sym is.opcode ∙ o in
    let same : three ≡ (row_of op).funct3 = t ∙ is.funct3 (with_immediate_funct3 op code) in
    immediate_row op code (λ h. one (same ∙ h)) (λ h. five (same ∙ h)) ∙ ap (λ f. row I 19 f 0 0) (sym same)

-- JALR and FENCE have one `funct3`
one_funct3 : (op : Op) → ((row_of op).opcode ≡ 103) ⊎ ((row_of op).opcode ≡ 15) → (has_funct3 (row_of op).format ≡ true) × ((row_of op).funct3 ≡ 0)
unfolding row_of
one_funct3 op o = grind arith

pub funct3_word : (word : ℕ) (op : Op) → (field 0 7 word ≡ 103) ⊎ (field 0 7 word ≡ 15) → IsOfRow word (row_of op) → field 12 3 word ≡ 0
funct3_word word op o is =
    let P : ℕ → Type 0 = λ n. (n ≡ 103) ⊎ (n ≡ 15) in
    let h = one_funct3 op (subst P is.opcode o) in
    is.funct3 h.0 ∙ h.1

-- no row has another opcode
pub IsOfRow-other : (word : ℕ) (op : Op) → field 0 7 word ≢ 55 → field 0 7 word ≢ 23 → field 0 7 word ≢ 111 → field 0 7 word ≢ 103 → field 0 7 word ≢ 99 → field 0 7 word ≢ 3 → field 0 7 word ≢ 35 → field 0 7 word ≢ 19 → field 0 7 word ≢ 51 → field 0 7 word ≢ 15 → field 0 7 word ≢ 115 → ¬ IsOfRow word (row_of op)
unfolding row_of
IsOfRow-other word op a b c d e f g h i j k is = other (field 0 7 word) op is.opcode a b c d e f g h i j k
  where
    other : (n : ℕ) (op : Op) → n ≡ (row_of op).opcode → n ≢ 55 → n ≢ 23 → n ≢ 111 → n ≢ 103 → n ≢ 99 → n ≢ 3 → n ≢ 35 → n ≢ 19 → n ≢ 51 → n ≢ 15 → n ≢ 115 → ⊥
    other n op o a b c d e f g h i j k = grind arith
