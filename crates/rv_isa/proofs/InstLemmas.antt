-- Instructions with the same fields are one instruction, and a word spells one at most.
use Rattle.std.proofs.Common.{◌≡◌, ℕ, ◌<◌, false, IsTrue, sym, ◌∙◌, ap, subst}
use Rattle.std.proofs.Props.{props}
use Rattle.rv_isa.specs.declared.op.Op.{Op}
use Rattle.rv_isa.specs.declared.inst.Inst.{Inst}
use Rattle.rv_isa.specs.Format.{has_rd, has_rs1, has_rs2, is_immediate, rd_of, rs1_of, rs2_of, immediate_of}
use Rattle.rv_isa.specs.Table.{format_of}
use Rattle.rv_isa.specs.Inst.{Spells}
use Rattle.rv_isa.proofs.TableLemmas.{IsOfRow-one}

-- an instruction's fields
abbrev Fields : Type 0
Fields = Op × ℕ × ℕ × ℕ × ℕ

-- what an instruction keeps of them
abbrev Kept : Fields → Type 0
Kept f =
    (f.1 < 32) × (f.2 < 32) × (f.3 < 32)
    × (has_rd (format_of f.0) ≡ false → f.1 ≡ 0) × (has_rs1 (format_of f.0) ≡ false → f.2 ≡ 0) × (has_rs2 (format_of f.0) ≡ false → f.3 ≡ 0)
    × IsTrue (is_immediate (format_of f.0) f.4)

abbrev made : (f : Fields) → Kept f → Inst
made f k = record { op = f.0; rd = f.1; rs1 = f.2; rs2 = f.3; imm = f.4; small_rd = k.0; small_rs1 = k.1; small_rs2 = k.2; without_rd = k.3; without_rs1 = k.4; without_rs2 = k.5; spelled = k.6 }

Kept-prop : (f : Fields) → IsProp (Kept f)
Kept-prop f = hlevel props

made_same : (f g : Fields) (e : f ≡ g) (k : Kept f) (h : Kept g) → made f k ≡ made g h
made_same f g e k = let P : Fields → Type 0 = λ g. (h : Kept g) → made f k ≡ made g h in subst P e (λ h. ap (made f) (Kept-prop f k h))

-- instructions with the same fields are one
pub same_inst : (i j : Inst) → i.op ≡ j.op → i.rd ≡ j.rd → i.rs1 ≡ j.rs1 → i.rs2 ≡ j.rs2 → i.imm ≡ j.imm → i ≡ j
same_inst i j a b c d e = made_same
    (i.op, i.rd, i.rs1, i.rs2, i.imm) (j.op, j.rd, j.rs1, j.rs2, j.imm) (cc)
    (i.small_rd, i.small_rs1, i.small_rs2, i.without_rd, i.without_rs1, i.without_rs2, i.spelled)
    (j.small_rd, j.small_rs1, j.small_rs2, j.without_rd, j.without_rs1, j.without_rs2, j.spelled)

-- a word spells one instruction at most
pub Spells-one : (word : ℕ) (i j : Inst) → Spells word i → Spells word j → i ≡ j
Spells-one word i j p q =
    let op : i.op ≡ j.op = IsOfRow-one word i.op j.op p.row q.row in
    same_inst i j op
    (p.rd ∙ ap (λ o. rd_of (format_of o) word) op ∙ sym q.rd)
    (p.rs1 ∙ ap (λ o. rs1_of (format_of o) word) op ∙ sym q.rs1)
    (p.rs2 ∙ ap (λ o. rs2_of (format_of o) word) op ∙ sym q.rs2)
    (p.imm ∙ ap (λ o. immediate_of (format_of o) word) op ∙ sym q.imm)
