use Rattle.std.proofs.Common.{rules, ◌≡◌, ◌+◌, ◌++◌, length, ap, ◌∙◌, arith}
use Rattle.storm_gen.specs.Storm.{each, agent_port, memory_port}
use Rattle.storm_gen.proofs.EachLaws.{length-both}
use Rattle.storm_gen.proofs.storm.storm_link.Goals as goal

pub invariant_of-result : goal.invariant_of-result
invariant_of-result c =
    let n = c.args.agents in
    let all : c.of.result ≡ each agent_port n ++ each memory_port 4 = search rules in
    let count : length c.of.result ≡ n + 4 = ap length all ∙ length-both agent_port memory_port n 4 in
    let few = c.requires in
    record {
      period = record { least = omega arith; greatest = omega arith; shape = tt };
      ports = record { least = omega (arith, count); greatest = omega (arith, count, few); shape = tt };
    }
