-- What the tables of a configuration say, and the ranges and shapes that this keeps.
use Rattle.std.specs.Prelude.{ℕ, ◌+◌, ◌*◌, ◌<◌, ◌≤◌, List, length, IfSome, IsUtf8}
use Rattle.sim_base.specs.declared.time.Time.{Time}
use Rattle.sim_config.specs.declared.part_text.PartKeys.{PartKeys}
use Rattle.sim_config.specs.declared.part_text.PartKeys.TheVariants.{Relay, Agent, Memory, Cache, Core}
use Rattle.sim_config.specs.declared.link_text.PortRef.{PortRef}
use Rattle.sim_config.specs.declared.link_text.LinkKeys.{LinkKeys}
use Rattle.sim_config.specs.Keys

pub record RangeTable : Type 0 where
  pub base : ℕ
  pub size : ℕ
  pub to : List (List ℕ)
  pub granule : ℕ

pub record MapTable : Type 0 where
  pub name : List ℕ
  pub ranges : List RangeTable

pub record PartTable : Type 0 where
  pub name : List ℕ
  pub period : ℕ
  pub buffer : ℕ
  pub kind : PartKeys

pub record LinkTable : Type 0 where
  pub name : List ℕ
  pub period : ℕ
  pub ports : List PortRef
  pub kind : LinkKeys

pub record ProgramTable : Type 0 where
  pub core : List ℕ
  pub file : List ℕ

pub record PlanTables : Type 0 where
  pub until : Time
  pub maps : List MapTable
  pub parts : List PartTable
  pub links : List LinkTable
  pub programs : List ProgramTable

pub record IsRange (r : RangeTable) : Type 0 where
  pub base : Keys.IsAllowed Keys.base.allowed r.base
  pub size : Keys.IsAllowed Keys.size.allowed r.size
  pub end : r.base + r.size ≤ Keys.address_limit
  pub to : Keys.IsAllowed Keys.to.lengths (length r.to)
  pub granule : Keys.IsAllowed Keys.granule.allowed r.granule

abbrev pub IsMap : MapTable → Type 0
IsMap m = Keys.IsAllowed Keys.ranges.lengths (length m.ranges)

pub record IsAgent (b s c w g t d : ℕ) : Type 0 where
  pub base : Keys.IsAllowed Keys.agent_base.allowed b
  pub span : Keys.IsAllowed Keys.span.allowed s
  pub end : b + s ≤ Keys.address_limit
  pub count : Keys.IsAllowed Keys.count.allowed c
  pub window : Keys.IsAllowed Keys.window.allowed w
  pub gap : Keys.IsAllowed Keys.gap.allowed g
  pub start : Keys.IsAllowed Keys.start.allowed t
  pub draw : Keys.IsAllowed Keys.draw.allowed d

pub record IsMemory (b s l d : ℕ) (w : List ℕ) : Type 0 where
  pub base : Keys.IsAllowed Keys.base.allowed b
  pub size : Keys.IsAllowed Keys.memory_size.allowed s
  pub end : b + s ≤ Keys.address_limit
  pub latency : Keys.IsAllowed Keys.latency.allowed l
  pub depth : Keys.IsAllowed Keys.depth.allowed d
  pub words : 4 * length w ≤ s

pub record IsCache (l s w m : ℕ) : Type 0 where
  pub line : Keys.IsAllowed Keys.line.allowed l
  pub sets : Keys.IsAllowed Keys.sets.allowed s
  pub ways : Keys.IsAllowed Keys.ways.allowed w
  pub misses : Keys.IsAllowed Keys.misses.allowed m

abbrev pub AreKeys : PartKeys → Type 0
AreKeys (Relay to start) = IfSome start (Keys.IsAllowed Keys.token.allowed)
AreKeys (Agent map base span count window gap start mode draw) = IsAgent base span count window gap start draw
AreKeys (Memory base size latency depth words) = IsMemory base size latency depth words
AreKeys (Cache map line sets ways misses) = IsCache line sets ways misses
AreKeys (Core inst data_map pc) = Keys.IsAllowed Keys.pc.allowed pc

pub record IsPart (p : PartTable) : Type 0 where
  pub period : Keys.IsAllowed Keys.period.allowed p.period
  pub buffer : Keys.IsAllowed Keys.buffer.allowed p.buffer
  pub kind : AreKeys p.kind

pub record IsLink (l : LinkTable) : Type 0 where
  pub period : Keys.IsAllowed Keys.period.allowed l.period
  pub ports : Keys.IsAllowed Keys.ports.lengths (length l.ports)

pub record IsProgram (p : ProgramTable) : Type 0 where
  pub file : 0 < length p.file
  pub text : IsUtf8 p.file

abbrev pub IsPlan : PlanTables → Type 0
IsPlan p = Keys.IsAllowed Keys.until.allowed p.until.0
