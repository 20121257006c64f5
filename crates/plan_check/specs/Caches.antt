-- The caches of a plan: the map of each, where an address ends up through them, and those to which a map leads.
use Rattle.std.specs.Prelude.{ℕ, ◌==◌, Bool, false, if◌then◌else◌, List, [], ◌∷◌, ◌++◌, filter, flat_map, length, Option, Some, None, option_to_list}
use Rattle.std.specs.List.{list_any}
use Rattle.std.proofs.Common.{zero, suc}
use Rattle.sim_base.specs.declared.numbers.PortNo.{PortNo}
use Rattle.sim_config.specs.Tables.{PlanTables}
use Rattle.sim_config.specs.declared.part_text.PartKeys.{PartKeys}
use Rattle.sim_config.specs.declared.part_text.PartKeys.TheVariants.{Cache}
use Rattle.addr_map.specs.declared.range.Range.{Range}
use Rattle.addr_map.specs.Range.{target_at}
use Rattle.plan_rules.specs.Text.{◌>>=◌, keys_at}
use Rattle.plan_check.specs.Maps.{port_to, map_of}
use Rattle.plan_check.specs.declared.caches.CacheMap.{CacheMap}

-- the part of a number as a cache, with the port at which it is asked and its map, none for a part of another kind
abbrev pub cache_with : PlanTables → ℕ → PartKeys → Option CacheMap
cache_with text i (Cache m line sets ways misses) = Some (record { top = port_to text (Some i); map = map_of text m })
cache_with text i _ = None

abbrev pub cache_at : PlanTables → ℕ → Option CacheMap
cache_at text i = keys_at text i >>= cache_with text i

-- the caches among the first so many parts
abbrev pub caches_to : PlanTables → ℕ → List CacheMap
caches_to text zero = []
caches_to text (suc n) = caches_to text n ++ option_to_list (cache_at text n)

-- all caches, in the order of the file
abbrev pub all_caches : PlanTables → List CacheMap
all_caches text = caches_to text (length text.parts)

-- it is this port
abbrev pub is_at : PortNo → Option PortNo → Bool
is_at port None = false
is_at port (Some target) = target.0 == port.0

-- where an address goes on that has come to a port: by the map of the cache that is asked there, and else it stays
abbrev pub passed_on : CacheMap → ℕ → Option PortNo → Option PortNo
passed_on cache addr port = if is_at cache.top port then target_at cache.map addr else port

-- where an address ends up that has come to a port, through caches in the order of the file: each leads only to caches behind it
abbrev pub end_from : List CacheMap → ℕ → Option PortNo → Option PortNo
end_from [] addr port = port
end_from (cache ∷ caches) addr port = end_from caches addr (passed_on cache addr port)

-- how addresses come to memories: by a map, and from there through caches
pub record Way : Type 0 where
  pub map : List Range
  pub caches : List CacheMap

-- the port at which an address ends up by a way, which is that of a memory, or none
abbrev pub end_of : Way → ℕ → Option PortNo
end_of way addr = end_from way.caches addr (target_at way.map addr)

abbrev pub is_port : PortNo → PortNo → Bool
is_port a b = a.0 == b.0

-- a cache is asked at this port
abbrev pub is_top : List CacheMap → PortNo → Bool
is_top caches port = list_any (λ c. is_port c.top port) caches

-- the ports that are not among these, each once, in the order in which they first come
abbrev pub unseen : List PortNo → List PortNo → List PortNo
unseen seen [] = []
unseen seen (port ∷ ports) = if list_any (is_port port) seen then unseen seen ports else port ∷ unseen (seen ++ port ∷ []) ports

-- the ports of the caches among the targets of a map, each once, in the order in which they first come
unfoldable pub tops_of : List CacheMap → List Range → List PortNo
tops_of caches ranges = unseen [] (filter (is_top caches) (flat_map (λ (r : Range). r.to) ranges))
