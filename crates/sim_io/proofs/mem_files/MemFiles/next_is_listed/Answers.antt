use Rattle.std.proofs.Common.{rules, ◌≡◌}
use Rattle.sim_io.specs.MemFiles.{call_after}
use Rattle.sim_io.proofs.Counting.{listed_alike}
use Rattle.sim_io.proofs.mem_files.MemFiles.next_is_listed.Goals as goal

pub returns-clause-value : goal.returns-clause-value
returns-clause-value c =
    let fails : c.deref.result.now ≡ c.args.self.now.fails = search rules in
    let call : c.saturating_add-self-inside.result ≡ call_after c.args.self.now.calls = search rules in
    listed_alike c.is_listed.result c.deref.result.now c.args.self.now.fails c.saturating_add-self-inside.result (call_after c.args.self.now.calls) fails call c.is_listed.ensures
