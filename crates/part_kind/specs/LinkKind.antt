-- A link of any kind: its step is that of its kind.
use Rattle.std.specs.Prelude.{◌≡◌, ℕ, ◌*◌, ◌^◌, ◌<◌, ◌≤◌, List, length, Option, Some, Bool, false}
use Rattle.std.proofs.Common.{ap}
use Rattle.sim_base.specs.declared.time.TheConstants.{LATEST_TICK, LONGEST_PERIOD}
use Rattle.port_msg.specs.PortView.{PortView}
use Rattle.tick_law.specs.Machine.{Machine, Outcome}
use Rattle.tick_law.specs.Frame.{AllPorts, Framed}
use Rattle.tick_law.specs.Quiet.{Quiet}
use Rattle.direct_link.specs.Direct.{IsDirect, direct}
use Rattle.direct_link.specs.DirectLaws.{direct_framed, direct_stays, direct_quiet}
use Rattle.part_kind.specs.declared.link_kind.LinkKind.{LinkKind}
use Rattle.part_kind.specs.declared.link_kind.LinkKind.TheVariants.{Direct}

-- a step of one kind, read as a step of a link
abbrev pub as_link : {S : Type 0} → (S → LinkKind) → Outcome S → Outcome LinkKind
as_link make o = record { state = make o.state; ports = o.ports; records = o.records; flag = o.flag }

abbrev pub link_step : LinkKind → List PortView → ℕ → Outcome LinkKind
link_step (Direct s) ports n = as_link (λ r. Direct r) (direct.step s ports n)

abbrev pub link_due : LinkKind → ℕ → Option ℕ
link_due (Direct s) n = direct.due s n

abbrev pub link_period : LinkKind → ℕ
link_period (Direct s) = direct.period s

abbrev pub link_done : LinkKind → Bool
link_done (Direct s) = direct.done s

abbrev pub link_own : LinkKind → ℕ
link_own (Direct s) = direct.own s

abbrev pub link : Machine LinkKind
link = record { is_part = false; step = link_step; due = link_due; period = link_period; done = link_done; own = link_own }

abbrev pub IsValid : LinkKind → Type 0
IsValid (Direct s) = IsDirect s

pub link_framed : (s : LinkKind) (ports : List PortView) (n : ℕ) → IsValid s → AllPorts ports → length ports ≡ link_own s → Framed LinkKind link s ports n
link_framed (Direct s) ports n v o e = let f = direct_framed s ports n v o e in record { period = f.period; own = f.own; ports = f.ports; records = f.records }

pub link_stays : (s : LinkKind) (ports : List PortView) (n : ℕ) → IsValid s → AllPorts ports → length ports ≡ link_own s → n * link_period s ≤ LATEST_TICK → IsValid (link_step s ports n).state × AllPorts (link_step s ports n).ports
link_stays (Direct s) ports n v o e b = direct_stays s ports n v o e b

pub link_quiet : (s : LinkKind) (ports : List PortView) (n : ℕ) → IsValid s → length ports ≡ link_own s → (link_step s ports n).flag ≡ false → Quiet LinkKind link s ports n
link_quiet (Direct s) ports n v e f = let q = direct_quiet s ports n v e f in record { state = ap (λ r. Direct r) q.state; ports = q.ports; records = q.records; later = q.later }

pub link_due_later : (s : LinkKind) (n t : ℕ) → IsValid s → link_due s n ≡ Some t → (n < t) × (t * link_period s < 2 ^ 50)
link_due_later (Direct s) n t v e = cc

pub link_due_steady : (s : LinkKind) (n k : ℕ) → IsValid s → n ≤ k → ((t : ℕ) → link_due s n ≡ Some t → k < t) → link_due s k ≡ link_due s n
link_due_steady (Direct s) n k v l h = cc

pub link_period_within : (s : LinkKind) → IsValid s → (0 < link_period s) × (link_period s ≤ LONGEST_PERIOD)
link_period_within (Direct s) v = (v.0, v.1)
