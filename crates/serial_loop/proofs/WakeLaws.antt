-- One port more is looked at, and what it shows is noted.
use Rattle.std.proofs.Common.{◌≡◌, ◌≢◌, ℕ, ◌<◌, ◌≤◌, ◌⊎◌, inl, inr, List, length, map, suc, sym, ◌∙◌, ap, subst, arith, refl}
use Rattle.std.specs.Prelude.{Option, Bool, true, false, slice_set}
use Rattle.std.proofs.lemmas.Bool.{cases_lt}
use Rattle.std.proofs.lemmas.List.{ext_get_or, length-map, length-set, get_or-set_same, get_or-set_other}
use Rattle.port_msg.specs.PortView.{PortView}
use Rattle.port_row.specs.declared.face.Face.{Face}
use Rattle.port_row.specs.Row.{face_at, face_of, no_face}
use Rattle.port_row.proofs.RowLaws.{face-map}
use Rattle.tick_law.specs.Wires.{Wires, owner_of, Wired}
use Rattle.tick_law.specs.Pass.{port_at}
use Rattle.model_laws.proofs.WokenByPorts.{Waked, waked_skip, waked_more}
use Rattle.serial_loop.specs.Woken.{set_where}

pub woke_more : (w : Wires) (ports : ℕ) (test : ℕ → Bool) (edge : ℕ → ℕ) (start now new : List (Option ℕ)) (n : ℕ) (changed : Bool) → Wired w ports → n < ports → owner_of w n < length start → changed ≡ test n → new ≡ set_where changed (owner_of w n) (edge (owner_of w n)) now → Waked w test edge start now n → Waked w test edge start new (suc n)
woke_more w ports test edge start now new n true wired b owned is set was = waked_more w ports test edge start now new n wired b owned (sym is) set was
woke_more w ports test edge start now new n false wired b owned is set was = waked_skip w test edge start new n (sym is) (subst (λ x. Waked w test edge start x n) (sym set) was)

-- what was seen of the ports below n is what they show, and of the others what it was
pub record HaveSeen (ports : List PortView) (old now : List Face) (n : ℕ) : Type 0 where
  pub long : length now ≡ length old
  pub done : (q : ℕ) → q < n → face_at now q ≡ face_of (port_at ports q)
  pub left : (q : ℕ) → n ≤ q → face_at now q ≡ face_at old q

pub seen_none : (ports : List PortView) (old : List Face) → HaveSeen ports old old 0
seen_none ports old = record { long = refl; done = λ q l. absurd (omega arith); left = λ q l. refl }

pub seen_more : (ports : List PortView) (old now new : List Face) (n : ℕ) → n < length old → new ≡ slice_set now n (face_of (port_at ports n)) → HaveSeen ports old now n → HaveSeen ports old new (suc n)
seen_more ports old now new n b set_is was = record {
  long = ap length set_is ∙ length-set now n (face_of (port_at ports n)) ∙ was.long;
  done = λ q l. at q (cases_lt q n) l;
  left = λ q l. ap (λ xs. face_at xs q) set_is ∙ get_or-set_other now n q (face_of (port_at ports n)) no_face (let ne : q ≢ n = omega arith in ne) ∙ was.left q (omega arith);
}
  where
    at : (q : ℕ) → (q < n) ⊎ (n ≤ q) → q < suc n → face_at new q ≡ face_of (port_at ports q)
    at q (inl lt) l = ap (λ xs. face_at xs q) set_is ∙ get_or-set_other now n q (face_of (port_at ports n)) no_face (let ne : q ≢ n = omega arith in ne) ∙ was.done q lt
    at q (inr ge) l =
        let e : q ≡ n = omega (arith, l, ge) in
        subst (λ k. face_at new k ≡ face_of (port_at ports k)) (sym e) (ap (λ xs. face_at xs n) set_is ∙ get_or-set_same now n (face_of (port_at ports n)) no_face (omega (arith, b, was.long)))

pub seen_all : (ports : List PortView) (old now : List Face) (n : ℕ) → length old ≡ length ports → length ports ≤ n → HaveSeen ports old now n → now ≡ map face_of ports
seen_all ports old now n same b was =
    ext_get_or no_face now (map face_of ports) (was.long ∙ same ∙ sym (length-map ports face_of))
    (λ q l. let k : q < length ports = omega (arith, l, was.long, same, length-map ports face_of) in was.done q (omega (arith, k, b)) ∙ sym (face-map ports q k))
