-- The maps of a text that breaks no rule.
use Rattle.std.proofs.Common.{◌≡◌, ℕ, ◌<◌, false, map, take, length, get_or, ap, ◌∙◌, sym}
use Rattle.std.specs.Prelude.{AllPairs}
use Rattle.std.specs.List.{list_any}
use Rattle.sim_config.specs.Tables.{PlanTables}
use Rattle.addr_map.specs.Range.{Apart}
use Rattle.plan_rules.specs.declared.rule.PlanRule.TheVariants.{MapOverlap}
use Rattle.plan_rules.specs.Rules.{breaks, map_overlap, overlaps}
use Rattle.plan_rules.specs.Text.{passes, ranges_at}
use Rattle.plan_rules.proofs.Few.{no_range}
use Rattle.plan_check.specs.Maps.{range_of}
use Rattle.plan_check.proofs.Places.{some_at}
use Rattle.plan_check.proofs.Ranges.{blank_range, ranges_apart}
use Rattle.plan_check.proofs.PlanLemmas.{IsKept}

pub map_apart : (text : PlanTables) → IsKept text → (m : ℕ) → m < length text.maps → AllPairs Apart (map (range_of text) (ranges_at text m))
unfolding breaks map_overlap
map_apart text is m below = ranges_apart text (ranges_at text m) free
  where
    free : (r : ℕ) → r < length (ranges_at text m) → list_any (overlaps (get_or (ranges_at text m) r blank_range)) (take r (ranges_at text m)) ≡ false
    free r inside =
        (let none = no_range text (breaks text MapOverlap) is.overlap m r below inside in
        ap (λ o. passes o (λ range. list_any (overlaps range) (take r (ranges_at text m)))) (sym (some_at (ranges_at text m) r blank_range inside)) ∙ none)
