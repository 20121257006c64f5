-- Edges next to one that is known, and the next time at an edge.
use Rattle.std.proofs.Common.{◌≡◌, ◌≢◌, ℕ, ◌+◌, ◌-◌, ◌*◌, ◌%◌, ◌<◌, ◌≤◌, ◌⊎◌, inl, inr, suc, sym, ◌∙◌, ap, arith}
use Rattle.std.specs.Prelude.{Option, Bool, true, ◌==◌}
use Rattle.std.proofs.Math.Nat.{mul-mod_left}
use Rattle.std.proofs.lemmas.Nat.{mod-mul-add}
use Rattle.std.proofs.lemmas.Bool.{cases_lt, eq-eqb}
use Rattle.sim_base.specs.Edge.{edge_from}
use Rattle.tick_law.specs.Machine.{Machine}
use Rattle.tick_law.specs.Pass.{has_edge}
use Rattle.model_laws.specs.NextTable.{next_by}
use Rattle.model_laws.proofs.NextTimesGoOn.{edge_at}
use Rattle.model_laws.proofs.NextEdge.{edge_here}
use Rattle.actor_turn.specs.Next.{left_by}

pub at_edge : (p n t : ℕ) → t ≡ n * p → t ≡ edge_from p t
at_edge p n t is = sym (edge_at t p (ap (λ x. x % p) is ∙ mul-mod_left n p))

pub behind_edge : (p n t : ℕ) → n * p < t → t ≤ n * p + p → n * p + p ≡ edge_from p t
behind_edge p n t a b = here (cases_lt t (n * p + p))
  where
    here : (t < n * p + p) ⊎ (n * p + p ≤ t) → n * p + p ≡ edge_from p t
    here (inl l) =
        let rest : t ≡ n * p + (t - n * p) = omega (arith, a) in
        let low : t - n * p < p = omega (arith, a, l) in
        let m : t % p ≡ t - n * p = ap (λ x. x % p) rest ∙ mod-mul-add n p (t - n * p) low in
        let past : t % p ≢ 0 = λ e. absurd (omega (arith, a, m, e)) in
        let z : t + (p - t % p) ≡ n * p + p = omega (arith, m, a, l) in
        sym (edge_here t p past ∙ z)
    here (inr g) =
        let e : t ≡ suc n * p = omega (arith, b, g) in
        let z : t ≡ n * p + p = omega (arith, b, g) in
        sym z ∙ at_edge p (suc n) t e

module _ {S : Type 0} where
  -- at an edge a step leaves the next time that the actor's flag and timer tell
  pub left_there : (m : Machine S) (t p : ℕ) (flag : Bool) (old : Option ℕ) (s : S) → p ≡ m.period s → t % p ≡ 0 → next_by true m t flag old s ≡ left_by m t flag old s
  left_there m t p flag old s per zero = sym (ap (λ b. next_by b m t flag old s) (let e : has_edge m t s ≡ true = ap (λ x. t % x == 0) (sym per) ∙ eq-eqb (t % p) 0 zero in e))
