-- An object of fields with one field more, and one register more.
use Rattle.std.proofs.Common.{◌≡◌, ℕ, ◌+◌, List, [], ◌∷◌, ◌++◌, length, take, zero, suc, refl, sym, ◌∙◌, ap, append_assoc, append-nil, add-one, arith}
use Rattle.std.specs.Prelude.{Some, min, slice_get}
use Rattle.rv_isa.specs.Regs.{register}
use Rattle.serde_json.specs.Data.{Data, Members, no_members, put}
use Rattle.part_view.specs.Bodies.{with_fields, field_members}
use Rattle.part_view.specs.Fields.{shown_data, Field, register_fields, values}
use Rattle.part_view.specs.declared.shown.Shown.{Shown}
use Rattle.part_view.specs.declared.shown.Shown.TheVariants.{Number}

some_is : {A : Type 0} (x y : A) → Some x ≡ Some y → x ≡ y
some_is x y e = cc

fields_more : (had : Members) (names : List (List ℕ)) (vs : List Shown) (k : ℕ) (name : List ℕ) (v : Shown) → slice_get names k ≡ Some name → slice_get vs k ≡ Some v → with_fields had (take (suc k) names) (take (suc k) vs) ≡ put name (shown_data v) (with_fields had (take k names) (take k vs))
fields_more had [] vs k name v e f = absurd (cc)
fields_more had (n ∷ ns) [] k name v e f = absurd (cc)
fields_more had (n ∷ ns) (w ∷ vs) zero name v e f = ap (λ x. put x (shown_data w) had) (some_is n name e) ∙ ap (λ x. put name (shown_data x) had) (some_is w v f)
fields_more had (n ∷ ns) (w ∷ vs) (suc k) name v e f = fields_more (put n (shown_data w) had) ns vs k name v e f

-- the members of the first k fields, and the field of number k put among them
pub one_field_more : (names : List (List ℕ)) (vs : List Shown) (k : ℕ) (name : List ℕ) (v : Shown) (value : Data) (before after : Members) → slice_get names k ≡ Some name → slice_get vs k ≡ Some v → value ≡ shown_data v → before ≡ field_members (take k names) (take k vs) → after ≡ put name value before → after ≡ field_members (take (k + 1) names) (take (k + 1) vs)
one_field_more names vs k name v value before after n s e g h =
    h ∙ ap (λ d. put name d before) e ∙ ap (λ m. put name (shown_data v) m) g
    ∙ sym (fields_more _ names vs k name v n s)
    ∙ ap (λ j. field_members (take j names) (take j vs)) (sym (add-one k))

fields_all : (had : Members) (names : List (List ℕ)) (vs : List Shown) (k : ℕ) → k ≡ min (length names) (length vs) → with_fields had (take k names) (take k vs) ≡ with_fields had names vs
fields_all had [] vs zero e = refl
fields_all had [] vs (suc k) e = absurd (omega (arith, e))
fields_all had (n ∷ ns) [] zero e = refl
fields_all had (n ∷ ns) [] (suc k) e = absurd (omega (arith, e))
fields_all had (n ∷ ns) (v ∷ vs) zero e = absurd (omega (arith, e))
fields_all had (n ∷ ns) (v ∷ vs) (suc k) e = fields_all (put n (shown_data v) had) ns vs k (omega (arith, e))

-- as many fields as there are names and values are all fields
pub all_fields : (names : List (List ℕ)) (vs : List Shown) (k : ℕ) (had : Members) → k ≡ min (length names) (length vs) → had ≡ field_members (take k names) (take k vs) → had ≡ field_members names vs
all_fields names vs k had e g = g ∙ fields_all no_members names vs k e

values_append : (fs gs : List Field) → values (fs ++ gs) ≡ values fs ++ values gs
values_append [] gs = refl
values_append (f ∷ fs) gs = ap (λ l. f.1 ∷ l) (values_append fs gs)

pub no_registers : (regs : List ℕ) (start : List Shown) → start ≡ start ++ values (register_fields regs 0)
unfolding register_fields
no_registers regs start = sym (append-nil start)

registers_more : (regs : List ℕ) (k : ℕ) → values (register_fields regs (suc k)) ≡ values (register_fields regs k) ++ Number (register regs k) ∷ []
unfolding register_fields
registers_more regs k = values_append (register_fields regs k) _

-- the first k registers, and the register of number k behind them
pub one_register_more : (regs : List ℕ) (k : ℕ) (start before after : List Shown) → before ≡ start ++ values (register_fields regs k) → after ≡ before ++ Number (register regs k) ∷ [] → after ≡ start ++ values (register_fields regs (k + 1))
one_register_more regs k start before after g h =
    h ∙ ap (λ l. l ++ Number (register regs k) ∷ []) g
    ∙ append_assoc start (values (register_fields regs k)) (Number (register regs k) ∷ [])
    ∙ ap (λ l. start ++ l) (sym (registers_more regs k))
    ∙ ap (λ j. start ++ values (register_fields regs j)) (sym (add-one k))
