-- Two ports, each on the link of the other's number: the wiring of a test.
use Rattle.std.specs.Prelude.{◌≡◌, ℕ, ◌<◌, ◌^◌, List, [], ◌∷◌, length, refl}
use Rattle.std.proofs.Common.{zero, suc, subst, arith}
use Rattle.tick_law.specs.Wires.{Wires, Wired, Has, AllApart, own_of, owner_of}
use Rattle.port_rows.specs.Opening.{IsSide}

abbrev pub crossed : Wires
crossed = record { own = (1 ∷ []) ∷ (0 ∷ []) ∷ []; owner = 1 ∷ 0 ∷ [] }

has_none : (q : ℕ) → Has [] q → ⊥
has_none q (k, b, e) = omega (arith, b)

has_one : (x q : ℕ) → Has (x ∷ []) q → x ≡ q
has_one x q (zero, b, e) = e
has_one x q (suc k, b, e) = absurd (omega (arith, b))

listed : (i q : ℕ) → Has (own_of crossed i) q → owner_of crossed q ≡ i
listed zero q h = subst (λ x. owner_of crossed x ≡ 0) (has_one 1 q h) refl
listed (suc zero) q h = subst (λ x. owner_of crossed x ≡ 1) (has_one 0 q h) refl
listed (suc (suc i)) q h = absurd (has_none q h)

within : (i q : ℕ) → Has (own_of crossed i) q → q < 2
within zero q h = (let e = has_one 1 q h in omega (arith, e))
within (suc zero) q h = (let e = has_one 0 q h in omega (arith, e))
within (suc (suc i)) q h = absurd (has_none q h)

found : (q : ℕ) → q < 2 → Has (own_of crossed (owner_of crossed q)) q
found zero b = (0, omega arith, refl)
found (suc zero) b = (0, omega arith, refl)
found (suc (suc q)) b = absurd (omega (arith, b))

apart : (i : ℕ) → AllApart (own_of crossed i)
apart zero = (λ h. has_none 1 h, tt)
apart (suc zero) = (λ h. has_none 0 h, tt)
apart (suc (suc i)) = tt

owned : (q : ℕ) → q < 2 → owner_of crossed q < length crossed.own
owned zero b = omega arith
owned (suc zero) b = omega arith
owned (suc (suc q)) b = absurd (omega (arith, b))

short : (j : ℕ) → length (own_of crossed j) < 2 ^ 32
short zero = omega arith
short (suc zero) = omega arith
short (suc (suc j)) = omega arith

pub crossed_side : IsSide crossed 2
crossed_side = record { wired = record { listed = listed; within = within; found = found; apart = apart }; owner = refl; owned = owned; few = omega arith; short = short }
