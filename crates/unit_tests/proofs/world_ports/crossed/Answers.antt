use Rattle.std.proofs.Common.{◌≡◌, ℕ, List, [], ◌∷◌, map, sym, ◌∙◌, ap, subst}
use Rattle.tick_law.specs.Wires.{Wires}
use Rattle.port_rows.specs.Opening.{IsSide}
use Rattle.port_rows.proofs.Crossed.{crossed, crossed_side}
use Rattle.unit_tests.proofs.world_ports.crossed.Goals as goal

pub returns : goal.returns
returns c =
    let first : c.in_ok-first.first.items ≡ 1 ∷ [] = c.in_ok-first.ensures in
    let second : c.in_ok-second.second.items ≡ 0 ∷ [] = c.in_ok-second.ensures in
    let own : c.of.result.own ≡ crossed.own = c.of.ensures.own ∙ ap (λ l. map (λ v. v.items) l) c.in_ok-own.ensures ∙ ap (λ x. x ∷ c.in_ok-second.second.items ∷ []) first ∙ ap (λ x. (1 ∷ []) ∷ x ∷ []) second in
    let owner : c.of.result.owner ≡ crossed.owner = c.of.ensures.owner ∙ c.in_ok-owner.ensures in
    subst (λ (o : List (List ℕ)). let x : Wires = record { own = o; owner = c.of.result.owner } in IsSide x 2) (sym own)
    (subst (λ (o : List ℕ). let x : Wires = record { own = crossed.own; owner = o } in IsSide x 2) (sym owner) crossed_side)
