-- The lines of caches, each from a state that is written down.
use Rattle.std.specs.Prelude.{◌≡◌, ℕ, List, [], ◌∷◌, codes}
use Rattle.port_msg.specs.declared.message.Msg.{Msg}
use Rattle.port_msg.specs.declared.message.MsgKind.TheVariants.{ReadRsp}
use Rattle.cache_comp.specs.Cache.{CacheState}
use Rattle.cache_comp.specs.Lines.{unused_lines}
use Rattle.cache_comp.specs.declared.stage.Stage.{Stage}
use Rattle.cache_comp.specs.declared.stage.Stage.TheVariants.{Idle, Reply, Run}
use Rattle.state_view.specs.Report.{cache_line}
use Rattle.model_rows.specs.Messages.{port, id, message}

-- a cache of one line, with room for so many misses, of so many hits and misses, and with these answers that are ready
abbrev pub cache_of : Stage → ℕ → ℕ → ℕ → List Msg → CacheState
cache_of stage miss_room hits misses ready = record { part = record { 0 = 3 }; top = port 4; bottom = port 5; period = 1000; below = []; caches = []; miss_room = miss_room; lines = unused_lines 64 1 1; hits = hits; misses = misses; requests = misses; stage = stage; table = []; ready = ready }

-- an answer of 4 bytes
abbrev pub answer : Msg
answer = message ReadRsp (id 0 0) 4 0 64 4 (1 ∷ 2 ∷ 3 ∷ 4 ∷ [])

pub record PrintedCaches : Type 0 where
  -- one of one miss that waits for a request, and one that answers
  pub idle : cache_line (codes "d") (cache_of Idle 1 0 2 []) ≡ codes "part d cache done hits 0 misses 2\n"
  pub answers : cache_line (codes "l1") (cache_of (Reply answer) 1 12 3 []) ≡ codes "part l1 cache busy hits 12 misses 3\n"
  -- one of several misses with nothing under way, and one with an answer that is ready
  pub runs : cache_line (codes "d") (cache_of Run 2 7 5 []) ≡ codes "part d cache done hits 7 misses 5\n"
  pub ready : cache_line (codes "d") (cache_of Run 2 8 5 (answer ∷ [])) ≡ codes "part d cache busy hits 8 misses 5\n"
