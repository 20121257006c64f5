-- What contracts see of a sink in memory.
use Rattle.std.specs.Prelude.{ℕ, List}

-- the bytes that it holds, the numbers of the calls that are to fail, and how many calls were made and failed
pub record SinkView : Type 0 where
  pub bytes : List ℕ
  pub fails : List ℕ
  pub calls : ℕ
  pub faults : ℕ

abbrev pub sink_view : List ℕ → List ℕ → ℕ → ℕ → SinkView
sink_view bytes fails calls faults = record { bytes = bytes; fails = fails; calls = calls; faults = faults }
