-- The lines of cores, each from a state that is written down.
use Rattle.std.specs.Prelude.{◌≡◌, ℕ, List, [], ◌∷◌, ◌++◌, replicate, codes}
use Rattle.port_msg.specs.declared.records.Cause.TheVariants.{Exit, MisalignedLoad}
use Rattle.rv_core.specs.declared.stage.Stage.{Stage}
use Rattle.rv_core.specs.declared.stage.Stage.TheVariants.{WaitInst, Halted}
use Rattle.rv_core.specs.Core.{CoreState}
use Rattle.state_view.specs.Report.{core_line}
use Rattle.state_view.specs.RegsLine.{regs_line}
use Rattle.model_rows.specs.Messages.{port}

-- a core at an address that has retired so many instructions, with these registers
abbrev pub core_of : Stage → ℕ → ℕ → List ℕ → CoreState
core_of stage pc retired regs = record { part = record { 0 = 0 }; inst_port = port 0; data_port = port 1; period = 1000; inst_map = []; data_map = []; caches = []; regs = regs; pc = pc; retired = retired; requests = 0; stage = stage }

-- x5, x6 and x7 behind five zeros, and zeros behind them
abbrev pub three_registers : List ℕ
three_registers = replicate 5 0 ++ 4294967288 ∷ 4294967292 ∷ 1 ∷ replicate 24 0

pub record PrintedCores : Type 0 where
  -- a program that ended with the code 9, and one whose load was not aligned
  pub ended : core_line (codes "c") (core_of (Halted (Exit 9)) 65548 4 (replicate 32 0)) ≡ codes "part c core done exit 9 pc 0001000c retired 4\n"
  pub broken : core_line (codes "c") (core_of (Halted MisalignedLoad) 4 1 (replicate 32 0)) ≡ codes "part c core done misaligned-load pc 00000004 retired 1\n"
  -- a core that waits for its first instruction
  pub waits : core_line (codes "c1") (core_of WaitInst 2863311530 0 (replicate 32 0)) ≡ codes "part c1 core busy running pc aaaaaaaa retired 0\n"
  -- 32 words, of which those of x5, x6 and x7 are not zero
  pub registers : regs_line (codes "c") (core_of WaitInst 0 0 three_registers) ≡ codes "regs c 00000000 00000000 00000000 00000000 00000000 fffffff8 fffffffc 00000001 00000000 00000000 00000000 00000000 00000000 00000000 00000000 00000000 00000000 00000000 00000000 00000000 00000000 00000000 00000000 00000000 00000000 00000000 00000000 00000000 00000000 00000000 00000000 00000000\n"
