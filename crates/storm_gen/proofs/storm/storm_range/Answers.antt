use Rattle.std.proofs.Common.{rules, ◌≡◌, length, ap, ◌∙◌, refl, sym, subst, arith, IsTrue}
use Rattle.std.specs.Int.{is_power_of_two}
use Rattle.storm_gen.specs.Storm.{each, memory_name}
use Rattle.storm_gen.proofs.EachLaws.{length-each}
use Rattle.storm_gen.proofs.storm.storm_range.Goals as goal

pub invariant_of-result : goal.invariant_of-result
unfolding lib.Count.ones
invariant_of-result c =
    let all : c.of.result ≡ each memory_name 4 = search rules in
    let count : length c.of.result ≡ 4 = ap length all ∙ length-each memory_name 4 in
    record {
      base = record { least = omega arith; greatest = omega arith; shape = refl };
      size = record { least = omega arith; greatest = omega arith; shape = refl };
      end = omega arith;
      to = record { least = omega (arith, count); greatest = omega (arith, count); shape = subst (λ n. IsTrue (is_power_of_two n)) (sym count) refl };
      granule = record { least = omega arith; greatest = omega arith; shape = refl };
    }
