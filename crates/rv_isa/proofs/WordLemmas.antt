-- The instruction that is found for a word, and its effect.
use Rattle.std.proofs.Common.{◌≡◌, ℕ, zero, suc, Bool, true, false, cond, ◌==◌, ◌&&◌, IsTrue, List, [], ◌∷◌, Some, None, slice_get, refl, sym, ◌∙◌, ap, subst, arith}
use Rattle.std.proofs.lemmas.Bool.Decides.{nat_tests}
use Rattle.rv_isa.specs.declared.op.Op.{Op}
use Rattle.rv_isa.specs.declared.inst.Inst.{Inst}
use Rattle.rv_isa.specs.declared.row.Row.{Row}
use Rattle.rv_isa.specs.Effect.{effect, effect_of, effect_by, effect_if, word_effect}
use Rattle.rv_isa.specs.Format.{rd_of, rs1_of, rs2_of, immediate_of}
use Rattle.rv_isa.specs.Inst.{Spells}
use Rattle.rv_isa.specs.Regs.{register}
use Rattle.rv_isa.specs.Table.{row_of, format_of, IsOfRow, ops, fits_where, fits, first_of, op_of}
use Rattle.rv_isa.proofs.TableLemmas.{IsOfRow-one, placed}

where_true : (b c : Bool) → (IsTrue b → c ≡ true) → fits_where b c ≡ true
where_true true c h = h refl
where_true false c h = refl

true_where : (b c : Bool) → fits_where b c ≡ true → IsTrue b → c ≡ true
true_where true c e h = e
true_where false c e h = absurd (cc)

both : (a b : Bool) → a ≡ true → b ≡ true → (a && b) ≡ true
both true b e f = f
both false b e f = absurd (cc)

left : (a b : Bool) → (a && b) ≡ true → a ≡ true
left true b e = refl
left false b e = absurd (cc)

right : (a b : Bool) → (a && b) ≡ true → b ≡ true
right true b e = e
right false b e = absurd (cc)

same : (m n : ℕ) → m ≡ n → (m == n) ≡ true
same m n e = grind (arith, nat_tests)

equal : (m n : ℕ) → (m == n) ≡ true → m ≡ n
equal m n e = grind (arith, nat_tests)

true_false : true ≡ false → ⊥
true_false e = cc

-- the test passes where the word is of the row
fits_true : (word : ℕ) (r : Row) → IsOfRow word r → fits word r ≡ true
fits_true word r is =
    both _ _ (same _ _ is.opcode)
    (both _ _ (where_true _ _ (λ h. same _ _ (is.funct3 h)))
    (both _ _ (where_true _ _ (λ h. same _ _ (is.funct7 h)))
    (where_true _ _ (λ h. both _ _ (same _ _ (is.funct12 h)) (both _ _ (same _ _ (is.no_rd h)) (same _ _ (is.no_rs1 h)))))))

-- and only there
true_fits : (word : ℕ) (r : Row) → fits word r ≡ true → IsOfRow word r
true_fits word r e =
    let more = right _ _ e in
    let most = right _ _ more in
    let last = true_where _ _ (right _ _ most) in
    record {
      opcode = equal _ _ (left _ _ e);
      funct3 = λ h. equal _ _ (true_where _ _ (left _ _ more) h);
      funct7 = λ h. equal _ _ (true_where _ _ (left _ _ most) h);
      funct12 = λ h. equal _ _ (left _ _ (last h));
      no_rd = λ h. equal _ _ (left _ _ (right _ _ (last h)));
      no_rs1 = λ h. equal _ _ (right _ _ (right _ _ (last h)));
    }

-- the first instruction is the one whose row the word is of, as there is no other
first_of-some : (word : ℕ) (op : Op) → IsOfRow word (row_of op) → (xs : List Op) (k : ℕ) → slice_get xs k ≡ Some op → first_of xs word ≡ Some op
first_of-some word op is [] k at = absurd (cc)
first_of-some word op is (x ∷ xs) k at = by_test (first_of-some word op is xs) (fits word (row_of x)) refl
  where
    Later : Type 0
    Later = (j : ℕ) → slice_get xs j ≡ Some op → first_of xs word ≡ Some op

    rest : Later → (k : ℕ) → slice_get (x ∷ xs) k ≡ Some op → fits word (row_of x) ≡ false → first_of xs word ≡ Some op
    rest later zero at e =
        let same : x ≡ op = cc in
        absurd (true_false (sym (fits_true word (row_of x) (subst (λ o. IsOfRow word (row_of o)) (sym same) is)) ∙ e))
    rest later (suc k) at e = later k at

    by_test : Later → (b : Bool) → fits word (row_of x) ≡ b → cond b (Some x) (first_of xs word) ≡ Some op
    by_test later true e = ap Some (IsOfRow-one word x op (true_fits word (row_of x) e) is)
    by_test later false e = rest later k at e

first_of-none : (word : ℕ) → ((op : Op) → ¬ IsOfRow word (row_of op)) → (xs : List Op) → first_of xs word ≡ None
first_of-none word no_row [] = refl
first_of-none word no_row (x ∷ xs) = by_test (first_of-none word no_row xs) (fits word (row_of x)) refl
  where
    by_test : first_of xs word ≡ None → (b : Bool) → fits word (row_of x) ≡ b → cond b (Some x) (first_of xs word) ≡ None
    by_test later true e = absurd (no_row x (true_fits word (row_of x) e))
    by_test later false e = later

op_of-some : (word : ℕ) (op : Op) → IsOfRow word (row_of op) → op_of word ≡ Some op
unfolding op_of
op_of-some word op is = first_of-some word op is ops (placed op).0 (placed op).1

op_of-none : (word : ℕ) → ((op : Op) → ¬ IsOfRow word (row_of op)) → op_of word ≡ None
unfolding op_of
op_of-none word no_row = first_of-none word no_row ops

-- an instruction has the effect of the word that spells it
pub word_effect_some : (regs : List ℕ) (pc word : ℕ) (inst : Inst) → Spells word inst → word_effect regs pc word ≡ Some (effect_of regs pc inst)
word_effect_some regs pc word inst is =
    ap (effect_if regs pc word) (op_of-some word inst.op is.row)
    ∙ sym (ap Some (same_effect inst.rd inst.rs1 inst.rs2 inst.imm is.rd is.rs1 is.rs2 is.imm))
  where
    same_effect : (rd rs1 rs2 imm : ℕ) → rd ≡ rd_of (format_of inst.op) word → rs1 ≡ rs1_of (format_of inst.op) word → rs2 ≡ rs2_of (format_of inst.op) word → imm ≡ immediate_of (format_of inst.op) word → effect inst.op pc rd (register regs rs1) (register regs rs2) imm ≡ effect_by regs pc word inst.op
    same_effect rd rs1 rs2 imm a b c d = rw (a, b, c, d) refl

-- a word that is of no row has none
pub word_effect_none : (regs : List ℕ) (pc word : ℕ) → ((op : Op) → ¬ IsOfRow word (row_of op)) → word_effect regs pc word ≡ None
word_effect_none regs pc word no_row = ap (effect_if regs pc word) (op_of-none word no_row)
