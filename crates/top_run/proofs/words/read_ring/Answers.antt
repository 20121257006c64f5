use Rattle.std.proofs.Common.{rules, arith}
use Rattle.top_run.specs.Words.{spelled, IsRing, IsRefusedFrom, IsUsage}
use Rattle.top_run.proofs.WordRefusals.{length-spelled, usage_map}
use Rattle.top_run.proofs.CommandRefusals.{refused_end, no_relays, no_time, behind_relays, behind_time}
use Rattle.top_run.proofs.words.read_ring.Goals as goal

pub returns-in_err-relays-clause-refused : goal.returns-in_err-relays-clause-refused
returns-in_err-relays-clause-refused c =
    let words = spelled c.args.words.now in
    let told : IsUsage (IsRefusedFrom IsRing words 1) c.in_err-relays.field-0.0 = usage_map _ (IsRefusedFrom IsRing words 1) _ (λ k none. no_relays words k none.0 none.1) c.in_err-relays.ensures.none in
    search rules

pub returns-in_err-until-clause-refused : goal.returns-in_err-until-clause-refused
returns-in_err-until-clause-refused c =
    let words = spelled c.args.words.now in
    let told : IsUsage (IsRefusedFrom IsRing words 1) c.in_err-until.field-0.0 = usage_map _ (IsRefusedFrom IsRing words 1) _ (λ k none. behind_relays words c.in_ok-relays.relays k c.in_ok-relays.ensures.some (no_time words 2 k none.0 none.1)) c.in_err-until.ensures.none in
    search rules

pub returns-in_err-need_end-clause-refused : goal.returns-in_err-need_end-clause-refused
returns-in_err-need_end-clause-refused c =
    let words = spelled c.args.words.now in
    let count = length-spelled c.args.words.now in
    let told : IsUsage (IsRefusedFrom IsRing words 1) c.in_err-need_end.field-0.0 = usage_map _ (IsRefusedFrom IsRing words 1) _ (λ k more. behind_relays words c.in_ok-relays.relays k c.in_ok-relays.ensures.some (behind_time words 2 c.in_ok-until.until k c.in_ok-until.ensures.some (refused_end words 3 k more.0 (omega (arith, count, more.1))))) c.in_err-need_end.ensures.more in
    search rules
