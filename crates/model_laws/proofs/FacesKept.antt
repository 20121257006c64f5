-- Faces over steps of the other owner.
use Rattle.std.specs.Prelude.{◌≡◌, ◌||◌, List, [], ◌∷◌, length, Bool, true, false, slice_get, nat_lt, refl}
use Rattle.std.proofs.Common.{sym, ◌∙◌, ap, arith}
use Rattle.std.proofs.lemmas.Bool.Decides.{nat_tests}
use Rattle.port_msg.specs.PortView.{PortView}
use Rattle.port_msg.specs.declared.message.Msg.{Msg}
use Rattle.tick_law.specs.Frame.{IsExtension, PortFrame}
use Rattle.tick_law.specs.Face.{SameFace, SameFaces, differ, face_differs}
use Rattle.model_laws.proofs.SideCourse.{other}

pub or_left : (a b : Bool) → (a || b) ≡ false → a ≡ false
or_left true b e = e
or_left false b e = refl

pub or_right : (a b : Bool) → (a || b) ≡ false → b ≡ false
or_right true b e = absurd (cc)
or_right false b e = e

same_of : (a b : Bool) → differ a b ≡ false → a ≡ b
same_of true true e = refl
same_of true false e = absurd (cc)
same_of false true e = absurd (cc)
same_of false false e = refl

differ_same : (a b : Bool) → a ≡ b → differ a b ≡ false
differ_same true true e = refl
differ_same true false e = absurd (cc)
differ_same false true e = absurd (cc)
differ_same false false e = refl

some_front : (x : Msg) (xs : List Msg) → nat_lt 0 (length (x ∷ xs)) ≡ true
some_front x xs = grind (arith, nat_tests)

-- a list that was appended to has the same head, unless it was empty and is not
head_kept : (a b : List Msg) → IsExtension a b → nat_lt 0 (length a) ≡ nat_lt 0 (length b) → slice_get a 0 ≡ slice_get b 0
head_kept [] [] x e = refl
head_kept [] (m ∷ ms) x e = let f : nat_lt 0 (length (m ∷ ms)) ≡ true = some_front m ms in absurd (let g : true ≡ false = sym f ∙ sym e in cc)
head_kept (m ∷ ms) b (more, x) e = ap (λ l. slice_get l 0) (sym x)

pub face_kept : (side : Bool) (a b : PortView) → PortFrame (other side) a b → face_differs side a b ≡ false → SameFace side a b
face_kept true a b f e =
    (head_kept a.incoming b.incoming f.1 (same_of _ _ (or_left _ _ e)), same_of _ _ (or_right _ _ e))
face_kept false a b f e =
    (head_kept a.outgoing b.outgoing f.1 (same_of _ _ (or_left _ _ e)), same_of _ _ (or_right _ _ e))

head_shown : (a b : List Msg) → slice_get a 0 ≡ slice_get b 0 → nat_lt 0 (length a) ≡ nat_lt 0 (length b)
head_shown [] [] e = refl
head_shown [] (y ∷ ys) e = absurd (cc)
head_shown (x ∷ xs) [] e = absurd (cc)
head_shown (x ∷ xs) (y ∷ ys) e = some_front x xs ∙ sym (some_front y ys)

or_none : (a b : Bool) → a ≡ false → b ≡ false → (a || b) ≡ false
or_none a b e f = rw (e, f) refl

-- the test of a changed face says no more than that
pub face_same : (side : Bool) (a b : PortView) → SameFace side a b → face_differs side a b ≡ false
face_same true a b f = or_none _ _ (differ_same _ _ (head_shown a.incoming b.incoming f.0)) (differ_same _ _ f.1)
face_same false a b f = or_none _ _ (differ_same _ _ (head_shown a.outgoing b.outgoing f.0)) (differ_same _ _ f.1)

face_trans : (side : Bool) (a b c : PortView) → SameFace side a b → SameFace side b c → SameFace side a c
face_trans true a b c x y = (x.0 ∙ y.0, x.1 ∙ y.1)
face_trans false a b c x y = (x.0 ∙ y.0, x.1 ∙ y.1)

pub face_refl : (side : Bool) (a : PortView) → SameFace side a a
face_refl true a = (refl, refl)
face_refl false a = (refl, refl)

pub faces_refl : (side : Bool) (as_ : List PortView) → SameFaces side as_ as_
faces_refl side [] = tt
faces_refl side (a ∷ as_) = (face_refl side a, faces_refl side as_)

pub faces_trans : (side : Bool) (xs ys zs : List PortView) → SameFaces side xs ys → SameFaces side ys zs → SameFaces side xs zs
faces_trans side [] [] zs a b = b
faces_trans side [] (y ∷ ys) zs a b = absurd a
faces_trans side (x ∷ xs) [] zs a b = absurd a
faces_trans side (x ∷ xs) (y ∷ ys) [] a b = absurd b
faces_trans side (x ∷ xs) (y ∷ ys) (z ∷ zs) a b = (face_trans side x y z a.0 b.0, faces_trans side xs ys zs a.1 b.1)
