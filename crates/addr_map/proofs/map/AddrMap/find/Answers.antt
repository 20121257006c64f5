-- The target is that of the one range that holds the address.
use Rattle.std.proofs.Common.{sym, ◌∙◌}
use Rattle.addr_map.proofs.RangeLemmas.{target_at-none, target_at-held, target_at-among}
use Rattle.addr_map.proofs.map.AddrMap.find.Goals as goal

pub returns-in_err-range-clause-value : goal.returns-in_err-range-clause-value
returns-in_err-range-clause-value c =
    c.from_residual.ensures ∙ sym (target_at-none _ _ c.in_err-range.ensures.none)

pub returns-clause-value : goal.returns-clause-value
returns-clause-value c =
    let there = c.in_ok-range.ensures in
    sym c.target.ensures ∙ sym (target_at-among _ _ _ there.is_map.apart there.among there.held)

pub returns-clause-target : goal.returns-clause-target
returns-clause-target c =
    let there = c.in_ok-range.ensures in
    λ k d within held.
    sym c.target.ensures ∙ sym (target_at-among _ _ _ there.is_map.apart there.among there.held) ∙ target_at-held c.args.self.now c.args.addr k d there.is_map.apart within held
