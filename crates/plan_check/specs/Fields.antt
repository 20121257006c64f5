-- The fields that are shown of each kind of part.
use Rattle.std.specs.Prelude.{ℕ, List, [], ◌∷◌, codes}
use Rattle.sim_config.specs.declared.part_text.PartKeys.{PartKeys}
use Rattle.sim_config.specs.declared.part_text.PartKeys.TheVariants.{Relay, Agent, Memory, Cache, Core}

-- the names of the fields of a part in their order
abbrev pub field_names : PartKeys → List (List ℕ)
field_names (Relay to start) = codes "ended" ∷ codes "holds" ∷ codes "sent" ∷ []
field_names (Agent map base span count window gap start mode draw) = codes "answered" ∷ codes "issued" ∷ codes "next" ∷ codes "sum" ∷ []
field_names (Memory base size latency depth words) = codes "queue" ∷ codes "served" ∷ []
field_names (Cache map line sets ways misses) = codes "hits" ∷ codes "misses" ∷ codes "pending" ∷ codes "phase" ∷ []
field_names (Core inst_map data_map pc) =
    codes "cause" ∷ codes "pc" ∷ codes "phase" ∷ codes "retired"
    ∷ codes "x0" ∷ codes "x1" ∷ codes "x2" ∷ codes "x3" ∷ codes "x4" ∷ codes "x5" ∷ codes "x6" ∷ codes "x7"
    ∷ codes "x8" ∷ codes "x9" ∷ codes "x10" ∷ codes "x11" ∷ codes "x12" ∷ codes "x13" ∷ codes "x14" ∷ codes "x15"
    ∷ codes "x16" ∷ codes "x17" ∷ codes "x18" ∷ codes "x19" ∷ codes "x20" ∷ codes "x21" ∷ codes "x22" ∷ codes "x23"
    ∷ codes "x24" ∷ codes "x25" ∷ codes "x26" ∷ codes "x27" ∷ codes "x28" ∷ codes "x29" ∷ codes "x30" ∷ codes "x31"
    ∷ []
