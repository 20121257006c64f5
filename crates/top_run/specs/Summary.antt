-- The summary of a storm.
use Rattle.std.specs.Prelude.{ℕ, ◌%◌, ◌^◌, List, ◌++◌, codes, sum_by}
use Rattle.std.specs.Fmt.{decimal}
use Rattle.part_kind.specs.declared.part.Part.{Part}
use Rattle.part_kind.specs.declared.part.Part.TheVariants.{Relay, Agent, Memory, Core, Cache}
use Rattle.part_kind.specs.declared.link_kind.LinkKind.{LinkKind}
use Rattle.part_kind.specs.declared.link_kind.LinkKind.TheVariants.{Direct}
use Rattle.state_view.specs.Report.{verdict_word}
use Rattle.state_view.specs.declared.run_end.RunEnd.{RunEnd}

-- how many requests of a part were answered, if it is an agent
abbrev pub answered_by : Part → ℕ
answered_by (Relay s) = 0
answered_by (Agent s) = s.answered
answered_by (Memory s) = 0
answered_by (Core s) = 0
answered_by (Cache s) = 0

-- the sum of the words that a part has read, modulo 2^32, if it is an agent
abbrev pub read_by : Part → ℕ
read_by (Relay s) = 0
read_by (Agent s) = s.total
read_by (Memory s) = 0
read_by (Core s) = 0
read_by (Cache s) = 0

-- how many messages a link has moved
abbrev pub moved_by : LinkKind → ℕ
moved_by (Direct s) = s.moved

-- `storm N`, `verdict V`, `end T`, `answered A`, `moved M` and `sum S`: how many agents there are, how the run ended and at which
-- time in picoseconds, how many requests of all agents were answered, how many messages the links moved, and the sum of the words
-- that all agents have read, modulo 2^32
abbrev pub summary_of : ℕ → RunEnd → List Part → List LinkKind → List ℕ
summary_of agents run parts links = codes "storm " ++ decimal agents ++ codes "\nverdict " ++ verdict_word run.verdict ++ codes "\nend " ++ decimal run.end.0 ++ codes "\nanswered " ++ decimal (sum_by answered_by parts) ++ codes "\nmoved " ++ decimal (sum_by moved_by links) ++ codes "\nsum " ++ decimal (sum_by read_by parts % 2 ^ 32) ++ codes "\n"
