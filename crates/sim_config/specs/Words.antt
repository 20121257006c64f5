-- The words of a fault.
use Rattle.std.specs.Prelude.{ℕ, List, ◌++◌, Some, None, codes, decimal}
use Rattle.sim_config.specs.declared.fault.ConfigFault.{ConfigFault}
use Rattle.sim_config.specs.declared.fault.ConfigFault.TheVariants.{Broken, OutOfMemory}
use Rattle.sim_config.specs.declared.fault.ConfigRule.{ConfigRule}
use Rattle.sim_config.specs.declared.fault.ConfigRule.TheVariants.{UnknownKey, Missing, WrongType, OutOfRange, NameShape, TooLong, NotToml}
use Rattle.sim_config.specs.declared.fault.TableNo.{TableNo}
use Rattle.sim_config.specs.declared.fault.TableNo.TheVariants.{Top, Map, Range, Part, Link, Program}

abbrev pub rule_words : ConfigRule → List ℕ
rule_words TooLong = codes "too-long"
rule_words NotToml = codes "not-toml"
rule_words UnknownKey = codes "unknown-key"
rule_words Missing = codes "missing"
rule_words WrongType = codes "wrong-type"
rule_words OutOfRange = codes "out-of-range"
rule_words NameShape = codes "name-shape"

abbrev pub table_words : TableNo → List ℕ
table_words Top = codes "top"
table_words (Map i) = codes "map " ++ decimal i
table_words (Range i j) = codes "range " ++ decimal i ++ codes " " ++ decimal j
table_words (Part i) = codes "part " ++ decimal i
table_words (Link i) = codes "link " ++ decimal i
table_words (Program i) = codes "program " ++ decimal i

-- the rule, the table, and the key where there is one, with spaces between them
abbrev pub fault_words : ConfigFault → List ℕ
fault_words (Broken rule table None) = rule_words rule ++ codes " " ++ table_words table
fault_words (Broken rule table (Some key)) = rule_words rule ++ codes " " ++ table_words table ++ codes " " ++ key.0
fault_words OutOfMemory = codes "no memory"
