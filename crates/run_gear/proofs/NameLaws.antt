-- Names of the ports of a plan.
use Rattle.std.proofs.Common.{◌≡◌, ℕ, ◌<◌, List, [], ◌∷◌, length, map, get_or, zero, suc, subst, sym, arith, refl}
use Rattle.tick_law.specs.declared.port_plan.PortPlan.{PortPlan}
use Rattle.trace_out.specs.declared.names.PortName.{PortName}
use Rattle.run_gear.specs.PlanNames.{port_name}

part_at : (ports : List PortPlan) (k : ℕ) (d : PortName) → k < length (map port_name ports) → (k < length ports) × ((get_or (map port_name ports) k d).part.0 ≡ get_or (map (λ (p : PortPlan). p.part.0) ports) k 0)
part_at [] k d b = absurd (omega arith)
part_at (p ∷ ps) zero d b = (omega arith, refl)
part_at (p ∷ ps) (suc k) d b = let r = part_at ps k d (omega arith) in (omega (arith, r.0), r.1)

-- each port belongs to one of so many parts
pub have_part : (ports : List PortPlan) (names : List PortName) (n m : ℕ) → names ≡ map port_name ports → m ≡ n → ((q : ℕ) → q < length ports → get_or (map (λ (p : PortPlan). p.part.0) ports) q 0 < n) → (k : ℕ) (d : PortName) → k < length names → (get_or names k d).part.0 < m
have_part ports names n m e f owned k d b =
    let r = part_at ports k d (subst (λ (l : List PortName). k < length l) e b) in
    let o = owned k r.0 in
    subst (λ (l : List PortName). (get_or l k d).part.0 < m) (sym e) (omega (arith, o, r.1, f))
