-- The words by which messages tell of the rules.
use Rattle.std.specs.Prelude.{ℕ, List, codes}
use Rattle.plan_rules.specs.declared.rule.PlanRule.{PlanRule}
use Rattle.plan_rules.specs.declared.rule.PlanRule.TheVariants.{TooMany, DuplicateName, NoSuchName, WrongTarget, PortTwice, PortUnplugged, NotOnLink, MapOverlap, MapOutside, LineTooLong, MemoryOver}

abbrev pub rule_words : PlanRule → List ℕ
rule_words TooMany = codes "too-many"
rule_words DuplicateName = codes "duplicate-name"
rule_words NoSuchName = codes "no-such-name"
rule_words WrongTarget = codes "wrong-target"
rule_words PortTwice = codes "port-twice"
rule_words PortUnplugged = codes "port-unplugged"
rule_words NotOnLink = codes "not-on-link"
rule_words MapOverlap = codes "map-overlap"
rule_words MapOutside = codes "map-outside"
rule_words LineTooLong = codes "line-too-long"
rule_words MemoryOver = codes "memory-over"
