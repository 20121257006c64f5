-- A cache: what its state is, and what it does in a step.
use Rattle.std.specs.Prelude.{◌≡◌, ℕ, ◌+◌, ◌<◌, ◌≤◌, ◌&&◌, ◌||◌, ◌==◌, ◌++◌, List, [], ◌∷◌, length, drop, cond, not, Option, Some, None, Bool, true, false, nat_lt, slice_get, slice_set, remove, replicate, position, All}
use Rattle.std.specs.List.{list_any}
use Rattle.port_msg.specs.Kinds.{is_write}
use Rattle.port_msg.specs.PortView.{PortView}
use Rattle.port_msg.specs.declared.message.Msg.{Msg}
use Rattle.port_msg.specs.declared.message.MsgId.{MsgId}
use Rattle.port_msg.specs.declared.message.MsgKind.{MsgKind}
use Rattle.port_msg.specs.declared.message.MsgKind.TheVariants.{Token, Read, Write, ReadRsp, WriteRsp, Flush as FlushKind, FlushRsp}
use Rattle.port_msg.specs.declared.records.What.TheVariants.{Send, Take}
use Rattle.sim_base.specs.declared.numbers.PartNo.{PartNo}
use Rattle.sim_base.specs.declared.numbers.PortNo.{PortNo}
use Rattle.sim_base.specs.declared.time.TheConstants.{LONGEST_PERIOD}
use Rattle.addr_map.specs.declared.range.Range.{Range}
use Rattle.addr_map.specs.Range.{target_at}
use Rattle.tick_law.specs.Machine.{Machine, Outcome}
use Rattle.tick_law.specs.OnePort.{Act, nothing, act_where, then_rule, head_of, has_room}
use Rattle.cache_comp.specs.TwoPorts.{at_place, then_at}
use Rattle.cache_comp.specs.Counts.{rose}
use Rattle.cache_comp.specs.Lines.{LinesState, places, unused_lines, line_address, hit_place, victim_place, first_dirty, tag_at, is_dirty, line_bytes, filled, accepts, LiesInLine, read, access, invalidate, invalidate_all, reserve, clean, put_line}
use Rattle.cache_comp.specs.declared.cache.CacheText.{CacheText}
use Rattle.cache_comp.specs.declared.miss.Miss.{Miss}
use Rattle.cache_comp.specs.declared.miss.MissPhase.{MissPhase}
use Rattle.cache_comp.specs.declared.miss.MissPhase.TheVariants.{Evict as EvictMiss, WaitEvict as WaitEvictMiss, Fill as FillMiss, WaitFill as WaitFillMiss}
use Rattle.cache_comp.specs.declared.phase.CachePhase.{CachePhase}
use Rattle.cache_comp.specs.declared.phase.CachePhase.TheVariants.{Idle as InIdle, Evict as InEvict, WaitEvict as InWaitEvict, Fill as InFill, WaitFill as InWaitFill, Reply as InReply, Flush as InFlush, WaitFlush as InWaitFlush, Down as InDown, WaitDown as InWaitDown, Run as InRun}
use Rattle.cache_comp.specs.declared.stage.Stage.{Stage}
use Rattle.cache_comp.specs.declared.stage.Stage.TheVariants.{Idle, Evict, WaitEvict, Fill, WaitFill, Reply, Flush, WaitFlush, Down, WaitDown, Run}

pub record CacheState : Type 0 where
  pub part : PartNo
  pub top : PortNo
  pub bottom : PortNo
  pub period : ℕ
  -- where it finds lines
  pub below : List Range
  -- the caches among the targets of its map, in order of first appearance
  pub caches : List PortNo
  -- how many misses can be under way at once
  pub miss_room : ℕ
  pub lines : LinesState
  pub hits : ℕ
  pub misses : ℕ
  -- how many requests it has sent
  pub requests : ℕ
  pub stage : Stage
  -- the misses that are under way in a cache of several, in order of arrival
  pub table : List Miss
  -- the answers that such a cache has not sent yet, in order
  pub ready : List Msg

-- what a cache does when nothing is in hand: one of one miss is idle, one of several runs
abbrev pub rest_of : Bool → Stage
rest_of true = Idle
rest_of false = Run

abbrev pub rest : ℕ → Stage
rest miss_room = rest_of (miss_room == 1)

-- the state that a cache starts in
abbrev pub opening : CacheText → CacheState
opening text = record { part = record { 0 = text.actor.0 }; top = text.top; bottom = text.bottom; period = text.period; below = text.map; caches = text.caches; miss_room = text.misses; lines = unused_lines text.line text.sets text.ways; hits = 0; misses = 0; requests = 0; stage = rest text.misses; table = []; ready = [] }

-- a request that is in hand, with the place of its line
pub record IsAccess (line places : ℕ) (m : Msg) (place : ℕ) : Type 0 where
  pub lies : LiesInLine line m
  pub within : place < places

-- a phase that a cache can be in, with lines of so many bytes at so many places, and so many caches below
abbrev pub IsStage : ℕ → ℕ → ℕ → Stage → Type 0
IsStage line places caches Idle = Unit {0}
IsStage line places caches (Evict request place) = IsAccess line places request place
IsStage line places caches (WaitEvict request place) = IsAccess line places request place
IsStage line places caches (Fill request place) = IsAccess line places request place
IsStage line places caches (WaitFill request place) = IsAccess line places request place
IsStage line places caches (Reply answer) = Unit {0}
IsStage line places caches (Flush request) = Unit {0}
IsStage line places caches (WaitFlush request) = Unit {0}
IsStage line places caches (Down request cache) = cache ≤ caches
IsStage line places caches (WaitDown request cache) = cache < caches
IsStage line places caches Run = Unit {0}

-- a miss that can be under way
abbrev pub IsMiss : ℕ → ℕ → Miss → Type 0
IsMiss line places e = IsAccess line places e.request e.place

-- a state that a cache can be in
pub record IsCache (s : CacheState) : Type 0 where
  pub period_some : 0 < s.period
  pub period_short : s.period ≤ LONGEST_PERIOD
  pub sets_some : 0 < s.lines.sets
  pub stage : IsStage s.lines.line (places s.lines) (length s.caches) s.stage
  pub table : All (IsMiss s.lines.line (places s.lines)) s.table
  pub most : s.miss_room ≤ 8
  pub few : length s.table + length s.ready ≤ s.miss_room

-- a state that a cache can be in, whose table and answers have the room that they need
pub record IsHeld (s : CacheState) (entries answers : ℕ) : Type 0 where
  pub state : IsCache s
  pub table_room : s.miss_room ≤ entries
  pub ready_room : answers ≡ s.miss_room

-- the phase without what it is about
abbrev pub phase_of : Stage → CachePhase
phase_of Idle = InIdle
phase_of (Evict request place) = InEvict
phase_of (WaitEvict request place) = InWaitEvict
phase_of (Fill request place) = InFill
phase_of (WaitFill request place) = InWaitFill
phase_of (Reply answer) = InReply
phase_of (Flush request) = InFlush
phase_of (WaitFlush request) = InWaitFlush
phase_of (Down request cache) = InDown
phase_of (WaitDown request cache) = InWaitDown
phase_of Run = InRun

-- how many misses are under way: one where a request in hand waits for its line, else those of the table
abbrev pub pending_in : Stage → ℕ → ℕ
pending_in Idle entries = entries
pending_in (Evict request place) entries = 1
pending_in (WaitEvict request place) entries = 1
pending_in (Fill request place) entries = 1
pending_in (WaitFill request place) entries = 1
pending_in (Reply answer) entries = entries
pending_in (Flush request) entries = entries
pending_in (WaitFlush request) entries = entries
pending_in (Down request cache) entries = entries
pending_in (WaitDown request cache) entries = entries
pending_in Run entries = entries

abbrev pub pending : CacheState → ℕ
pending s = pending_in s.stage (length s.table)

-- nothing is left to do: one of one miss is idle, and one of several runs with nothing under way
abbrev pub is_done : Stage → Bool → Bool
is_done Idle empty = true
is_done (Evict request place) empty = false
is_done (WaitEvict request place) empty = false
is_done (Fill request place) empty = false
is_done (WaitFill request place) empty = false
is_done (Reply answer) empty = false
is_done (Flush request) empty = false
is_done (WaitFlush request) empty = false
is_done (Down request cache) empty = false
is_done (WaitDown request cache) empty = false
is_done Run empty = empty

-- neither a miss nor an answer is under way
abbrev pub is_empty : CacheState → Bool
is_empty s = length s.table == 0 && length s.ready == 0

-- the answer to a read of so many bytes
abbrev pub is_read_answer : ℕ → MsgKind → ℕ → Bool
is_read_answer bytes ReadRsp len = len == bytes
is_read_answer bytes Read len = false
is_read_answer bytes Write len = false
is_read_answer bytes WriteRsp len = false
is_read_answer bytes FlushKind len = false
is_read_answer bytes FlushRsp len = false
is_read_answer bytes Token len = false

-- the answer to a write
abbrev pub is_write_answer : MsgKind → ℕ → Bool
is_write_answer WriteRsp len = len == 0
is_write_answer Read len = false
is_write_answer Write len = false
is_write_answer ReadRsp len = false
is_write_answer FlushKind len = false
is_write_answer FlushRsp len = false
is_write_answer Token len = false

-- the answer to a flush
abbrev pub is_flush_answer : MsgKind → ℕ → Bool
is_flush_answer FlushRsp len = len == 0
is_flush_answer Read len = false
is_flush_answer Write len = false
is_flush_answer ReadRsp len = false
is_flush_answer WriteRsp len = false
is_flush_answer FlushKind len = false
is_flush_answer Token len = false

abbrev pub is_flush : MsgKind → Bool
is_flush FlushKind = true
is_flush Read = false
is_flush Write = false
is_flush ReadRsp = false
is_flush WriteRsp = false
is_flush FlushRsp = false
is_flush Token = false

-- the id of its next request: its number is how many it has sent before
abbrev pub next_id : CacheState → MsgId
next_id s = record { part = s.part; seq = s.requests }

-- a request to write a line down
unfoldable pub write_request : CacheState → ℕ → List ℕ → PortNo → Msg
write_request s addr bytes dst = record { id = next_id s; src = s.bottom; dst = dst; kind = Write; addr = addr; len = s.lines.line; bytes = bytes }

-- a request to read a line
unfoldable pub read_request : CacheState → ℕ → PortNo → Msg
read_request s addr dst = record { id = next_id s; src = s.bottom; dst = dst; kind = Read; addr = addr; len = s.lines.line; bytes = replicate 64 0 }

-- a request to a cache below to write its lines down
unfoldable pub flush_request : CacheState → PortNo → Msg
flush_request s dst = record { id = next_id s; src = s.bottom; dst = dst; kind = FlushKind; addr = 0; len = 0; bytes = replicate 64 0 }

-- the answer to a read has the bytes of the line at a place
unfoldable pub read_answer : PortNo → LinesState → ℕ → Msg → Msg
read_answer top l place m = record { id = m.id; src = top; dst = m.src; kind = ReadRsp; addr = m.addr; len = m.len; bytes = filled (read l place m) }

-- the answer to a write has none
unfoldable pub write_answer : PortNo → Msg → Msg
write_answer top m = record { id = m.id; src = top; dst = m.src; kind = WriteRsp; addr = m.addr; len = 0; bytes = replicate 64 0 }

-- the answer to a flush
unfoldable pub flush_answer : PortNo → Msg → Msg
flush_answer top m = record { id = m.id; src = top; dst = m.src; kind = FlushRsp; addr = 0; len = 0; bytes = replicate 64 0 }

-- the answer to an access of the line at a place: it has the request's id and address, and goes to where the request came from
abbrev pub answer : PortNo → LinesState → ℕ → Msg → Msg
answer top l place m = cond (is_write m.kind) (write_answer top m) (read_answer top l place m)

-- a state, where a test passes
abbrev pub some_where : Bool → CacheState → Option CacheState
some_where true t = Some t
some_where false t = None

-- what is at the head was taken, and this is the state then
abbrev pub took : Msg → CacheState → PortView → Act CacheState
took m t p = record { state = t; port = record p { incoming = drop 1 p.incoming }; records = Take m ∷ []; flag = true }

abbrev pub take_to : Msg → Option CacheState → CacheState → PortView → Act CacheState
take_to m None s p = nothing s p
take_to m (Some t) s p = took m t p

abbrev pub take_of : (Msg → Option CacheState) → Option Msg → CacheState → PortView → Act CacheState
take_of change None s p = nothing s p
take_of change (Some m) s p = take_to m (change m) s p

-- what is at the head is taken where it changes the state
abbrev pub taking : (Msg → Option CacheState) → CacheState → PortView → Act CacheState
taking change s p = take_of change (head_of p) s p

-- a message was sent, and this is the state then
abbrev pub sent : Msg → CacheState → PortView → Act CacheState
sent m t p = record { state = t; port = record p { outgoing = p.outgoing ++ m ∷ [] }; records = Send m ∷ []; flag = true }

-- with room, a message is sent
abbrev pub send : Msg → CacheState → CacheState → PortView → Act CacheState
send m t s p = act_where (has_room p) (sent m t p) s p

-- with room, a message is sent to a port, where there is one
abbrev pub send_to : Option PortNo → (PortNo → Msg) → CacheState → CacheState → PortView → Act CacheState
send_to None message t s p = nothing s p
send_to (Some to) message t s p = send (message to) t s p

-- a change without a message
abbrev pub acted : CacheState → PortView → Act CacheState
acted t p = record { state = t; port = p; records = []; flag = true }

-- a request counts, and its answer is waited for in this phase
abbrev pub requested : Stage → CacheState → CacheState
requested stage s = record s { requests = rose s.requests; stage = stage }

-- with room, and where its map has a port for the line's address, the line at a place is written down
abbrev pub write_down : ℕ → CacheState → CacheState → PortView → Act CacheState
write_down place t s p = send_to (target_at s.below (tag_at s.lines place).tag) (write_request s (tag_at s.lines place).tag (filled (line_bytes s.lines place))) t s p

-- the phases of a cache of one miss

-- an access of the line at a place, whose answer is to be sent
abbrev pub perform : ℕ → Msg → CacheState → CacheState
perform place m s = record s { lines = access place m s.lines; stage = Reply (answer s.top s.lines place m) }

-- a hit counts, and the access is done
abbrev pub hit : ℕ → Msg → CacheState → CacheState
hit place m s = perform place m (record s { hits = rose s.hits })

abbrev pub evict_where : Bool → Msg → ℕ → Stage
evict_where true m place = Evict m place
evict_where false m place = Fill m place

-- a miss counts; the victim is to be written down where it is valid and dirty, else the line is to be read
abbrev pub miss : ℕ → Msg → CacheState → CacheState
miss place m s = record s { misses = rose s.misses; stage = evict_where (is_dirty (tag_at s.lines place)) m place }

abbrev pub miss_at : Option ℕ → Msg → CacheState → Option CacheState
miss_at None m s = None
miss_at (Some place) m s = Some (miss place m s)

abbrev pub access_at : Option ℕ → Msg → CacheState → Option CacheState
access_at None m s = miss_at (victim_place s.lines m.addr) m s
access_at (Some place) m s = Some (hit place m s)

abbrev pub access_where : Bool → Msg → CacheState → Option CacheState
access_where true m s = access_at (hit_place s.lines m.addr) m s
access_where false m s = None

abbrev pub begin_where : Bool → Msg → CacheState → Option CacheState
begin_where true m s = Some (record s { stage = Flush m })
begin_where false m s = access_where (accepts s.lines.line m) m s

-- what a request begins: a flush, or a read or a write that is a hit or a miss
abbrev pub begin : CacheState → Msg → Option CacheState
begin s m = begin_where (is_flush m.kind) m s

-- with a request at the top's head, it takes it
abbrev pub idle : CacheState → PortView → Act CacheState
idle s p = taking (begin s) s p

-- with room below, it sends a write of the victim
abbrev pub evict : Msg → ℕ → CacheState → PortView → Act CacheState
evict request place s p = write_down place (requested (WaitEvict request place) s) s p

abbrev pub evicted : Msg → ℕ → CacheState → Msg → Option CacheState
evicted request place s m = some_where (is_write_answer m.kind m.len) (record s { lines = invalidate place s.lines; stage = Fill request place })

-- with the answer to that write at the head, it takes it, and the victim is invalid
abbrev pub wait_evict : Msg → ℕ → CacheState → PortView → Act CacheState
wait_evict request place s p = taking (evicted request place s) s p

-- the address of the line of a request
abbrev pub line_of : CacheState → Msg → ℕ
line_of s request = line_address s.lines.line request.addr

-- with room below, it sends a read of the line
abbrev pub fill : Msg → ℕ → CacheState → PortView → Act CacheState
fill request place s p = send_to (target_at s.below (line_of s request)) (read_request s (line_of s request)) (requested (WaitFill request place) s) s p

abbrev pub filled_by : Msg → ℕ → CacheState → Msg → Option CacheState
filled_by request place s m = some_where (is_read_answer s.lines.line m.kind m.len) (perform place request (record s { lines = put_line place (line_of s request) m.bytes s.lines }))

-- with the line at the head, it takes it, puts it in place, and does the access without counting
abbrev pub wait_fill : Msg → ℕ → CacheState → PortView → Act CacheState
wait_fill request place s p = taking (filled_by request place s) s p

-- with room above, it sends the answer
abbrev pub reply : Msg → CacheState → PortView → Act CacheState
reply message s p = send message (record s { stage = rest s.miss_room }) s p

abbrev pub flush_at : Option ℕ → Msg → CacheState → PortView → Act CacheState
flush_at None request s p = acted (record s { lines = invalidate_all s.lines; stage = Down request 0 }) p
flush_at (Some place) request s p = write_down place (requested (WaitFlush request) (record s { lines = clean place s.lines })) s p

-- the first line that is valid and dirty is written down, with room below, and becomes clean; where there is none, all lines become invalid
abbrev pub flush : Msg → CacheState → PortView → Act CacheState
flush request s p = flush_at (first_dirty s.lines) request s p

abbrev pub flushed : Msg → CacheState → Msg → Option CacheState
flushed request s m = some_where (is_write_answer m.kind m.len) (record s { stage = Flush request })

-- with the answer to that write at the head, it takes it and looks for the next line
abbrev pub wait_flush : Msg → CacheState → PortView → Act CacheState
wait_flush request s p = taking (flushed request s) s p

abbrev pub down_to : Option PortNo → Msg → ℕ → CacheState → PortView → Act CacheState
down_to None request cache s p = acted (record s { stage = Reply (flush_answer s.top request) }) p
down_to (Some to) request cache s p = send (flush_request s to) (requested (WaitDown request cache) s) s p

-- with room below, it sends a flush to the cache at a place of its list; where there is none, the flush is to be answered
abbrev pub down : Msg → ℕ → CacheState → PortView → Act CacheState
down request cache s p = down_to (slice_get s.caches cache) request cache s p

abbrev pub downed : Msg → ℕ → CacheState → Msg → Option CacheState
downed request cache s m = some_where (is_flush_answer m.kind m.len) (record s { stage = Down request (cache + 1) })

-- with the answer to that flush at the head, it takes it and goes on to the next cache
abbrev pub wait_down : Msg → ℕ → CacheState → PortView → Act CacheState
wait_down request cache s p = taking (downed request cache s) s p

-- the rules of a cache of several misses

abbrev pub send_ready_of : Option Msg → CacheState → PortView → Act CacheState
send_ready_of None s p = nothing s p
send_ready_of (Some message) s p = send message (record s { ready = drop 1 s.ready }) s p

-- with room above, the first answer is sent
abbrev pub send_ready : CacheState → PortView → Act CacheState
send_ready s p = send_ready_of (slice_get s.ready 0) s p

abbrev pub same_id : MsgId → MsgId → Bool
same_id a b = a.part.0 == b.part.0 && a.seq == b.seq

-- a miss waits for the answer of this id to the write of its victim
abbrev pub waits_evict_in : MsgId → MissPhase → Bool
waits_evict_in id (WaitEvictMiss addr asked) = same_id asked id
waits_evict_in id (EvictMiss addr bytes) = false
waits_evict_in id FillMiss = false
waits_evict_in id (WaitFillMiss asked) = false

abbrev pub waits_evict : MsgId → Miss → Bool
waits_evict id e = waits_evict_in id e.phase

-- a miss waits for its line in the answer of this id
abbrev pub waits_fill_in : MsgId → MissPhase → Bool
waits_fill_in id (WaitFillMiss asked) = same_id asked id
waits_fill_in id (EvictMiss addr bytes) = false
waits_fill_in id (WaitEvictMiss addr asked) = false
waits_fill_in id FillMiss = false

abbrev pub waits_fill : MsgId → Miss → Bool
waits_fill id e = waits_fill_in id e.phase

abbrev pub with_phase : Miss → MissPhase → Miss
with_phase e phase = record e { phase = phase }

-- an access of the line at a place, whose answer is ready
abbrev pub perform_ready : ℕ → Msg → CacheState → CacheState
perform_ready place m s = record s { lines = access place m s.lines; ready = s.ready ++ answer s.top s.lines place m ∷ [] }

-- the line of a miss came: it is put in place, the access is done, and the miss leaves the table
abbrev pub complete : ℕ → Miss → List ℕ → CacheState → CacheState
complete k e bytes s = perform_ready e.place e.request (record s { lines = put_line e.place (line_of s e.request) bytes s.lines; table = remove s.table k })

abbrev pub evict_answered_at : ℕ → Option Miss → CacheState → Option CacheState
evict_answered_at k None s = None
evict_answered_at k (Some e) s = Some (record s { table = slice_set s.table k (with_phase e FillMiss) })

abbrev pub evict_answered : Option ℕ → CacheState → Option CacheState
evict_answered None s = None
evict_answered (Some k) s = evict_answered_at k (slice_get s.table k) s

abbrev pub fill_answered_at : ℕ → Option Miss → Msg → CacheState → Option CacheState
fill_answered_at k None m s = None
fill_answered_at k (Some e) m s = Some (complete k e m.bytes s)

abbrev pub fill_answered : Option ℕ → Msg → CacheState → Option CacheState
fill_answered None m s = None
fill_answered (Some k) m s = fill_answered_at k (slice_get s.table k) m s

abbrev pub fill_answered_where : Bool → Msg → CacheState → Option CacheState
fill_answered_where true m s = fill_answered (position (waits_fill m.id) s.table) m s
fill_answered_where false m s = None

abbrev pub answered_where : Bool → Msg → CacheState → Option CacheState
answered_where true m s = evict_answered (position (waits_evict m.id) s.table) s
answered_where false m s = fill_answered_where (is_read_answer s.lines.line m.kind m.len) m s

-- what an answer that a miss waits for does: the first such miss is to be filled, or its line came
abbrev pub answered : CacheState → Msg → Option CacheState
answered s m = answered_where (is_write_answer m.kind m.len) m s

-- with an answer that a miss waits for at the head, it takes it
abbrev pub take_answer : CacheState → PortView → Act CacheState
take_answer s p = taking (answered s) s p

-- it is to be sent: the write of its victim, or the read of its line
abbrev pub is_to_send_in : MissPhase → Bool
is_to_send_in (EvictMiss addr bytes) = true
is_to_send_in (WaitEvictMiss addr asked) = false
is_to_send_in FillMiss = true
is_to_send_in (WaitFillMiss asked) = false

abbrev pub is_to_send : Miss → Bool
is_to_send e = is_to_send_in e.phase

-- a request of a miss counts, and its entry is this one then
abbrev pub asked : ℕ → Miss → CacheState → CacheState
asked k e s = record s { requests = rose s.requests; table = slice_set s.table k e }

abbrev pub send_phase : ℕ → Miss → MissPhase → CacheState → PortView → Act CacheState
send_phase k e (EvictMiss addr bytes) s p = send_to (target_at s.below addr) (write_request s addr bytes) (asked k (with_phase e (WaitEvictMiss addr (next_id s))) s) s p
send_phase k e FillMiss s p = send_to (target_at s.below (line_of s e.request)) (read_request s (line_of s e.request)) (asked k (with_phase e (WaitFillMiss (next_id s))) s) s p
send_phase k e (WaitEvictMiss addr id) s p = nothing s p
send_phase k e (WaitFillMiss id) s p = nothing s p

abbrev pub send_miss_at : ℕ → Option Miss → CacheState → PortView → Act CacheState
send_miss_at k None s p = nothing s p
send_miss_at k (Some e) s p = send_phase k e e.phase s p

abbrev pub send_miss_of : Option ℕ → CacheState → PortView → Act CacheState
send_miss_of None s p = nothing s p
send_miss_of (Some k) s p = send_miss_at k (slice_get s.table k) s p

-- with room below, the first miss that is to be sent sends the write of its victim or the read of its line
abbrev pub send_miss : CacheState → PortView → Act CacheState
send_miss s p = send_miss_of (position is_to_send s.table) s p

-- a miss has this line as a victim that is not written yet
abbrev pub has_victim_in : ℕ → MissPhase → Bool
has_victim_in line (EvictMiss addr bytes) = addr == line
has_victim_in line (WaitEvictMiss addr asked) = addr == line
has_victim_in line FillMiss = false
has_victim_in line (WaitFillMiss asked) = false

-- a miss has this line as its own or as a victim that is not written yet
abbrev pub concerns_line : ℕ → ℕ → Miss → Bool
concerns_line size line e = line_address size e.request.addr == line || has_victim_in line e.phase

abbrev pub concerns : CacheState → ℕ → Miss → Bool
concerns s line e = concerns_line s.lines.line line e

-- the line at a place is the victim of a new miss
abbrev pub first_phase_where : Bool → CacheState → ℕ → MissPhase
first_phase_where true s place = EvictMiss (tag_at s.lines place).tag (filled (line_bytes s.lines place))
first_phase_where false s place = FillMiss

-- the victim is to be written down where it is valid and dirty, else the line is to be read
abbrev pub first_phase : CacheState → ℕ → MissPhase
first_phase s place = first_phase_where (is_dirty (tag_at s.lines place)) s place

-- a miss counts and joins the table, and its way becomes invalid and is reserved
abbrev pub join : ℕ → Msg → CacheState → CacheState
join place m s = record s { misses = rose s.misses; lines = reserve place s.lines; table = s.table ++ (record { request = m; place = place; phase = first_phase s place }) ∷ [] }

abbrev pub join_at : Option ℕ → Msg → CacheState → Option CacheState
join_at None m s = None
join_at (Some place) m s = some_where (not (list_any (concerns s (line_of s m)) s.table)) (join place m s)

abbrev pub request_at : Option ℕ → Msg → CacheState → Option CacheState
request_at None m s = join_at (victim_place s.lines m.addr) m s
request_at (Some place) m s = Some (perform_ready place m (record s { hits = rose s.hits }))

abbrev pub request_where : Bool → Msg → CacheState → Option CacheState
request_where true m s = request_at (hit_place s.lines m.addr) m s
request_where false m s = None

-- fewer misses and answers are under way than there is room for
abbrev pub has_place : CacheState → Bool
has_place s = nat_lt (length s.table + length s.ready) s.miss_room

-- what a read or a write begins: a hit is done, and a miss joins the table where no other concerns its line and its set has a free way
abbrev pub enter : CacheState → Msg → Option CacheState
enter s m = request_where (accepts s.lines.line m && has_place s) m s

-- with a read or a write at the top's head and a place for it, it takes it
abbrev pub take_request : CacheState → PortView → Act CacheState
take_request s p = taking (enter s) s p

abbrev pub begin_flush : CacheState → Msg → Option CacheState
begin_flush s m = some_where (is_flush m.kind && is_empty s) (record s { stage = Flush m })

-- with a flush at the top's head and nothing under way, it takes it
abbrev pub take_flush : CacheState → PortView → Act CacheState
take_flush s p = taking (begin_flush s) s p

-- the rules at the bottom
unfoldable pub serve_bottom : CacheState → PortView → Act CacheState
serve_bottom s p = then_rule send_miss (take_answer s p)

-- the rules at the top but for the first
unfoldable pub serve_top : CacheState → PortView → Act CacheState
serve_top s p = then_rule take_flush (take_request s p)

-- the step of a cache of several misses that runs: an answer is sent, then the rules at the bottom, then those at the top
abbrev pub run : CacheState → List PortView → Outcome CacheState
run s ports = then_at 0 serve_top (then_at 1 serve_bottom (at_place 0 send_ready s ports))

-- one phase acts in a step: at the port `top`, which is the first, or at the port `bottom`; a cache of several misses that runs acts at both
abbrev pub step_in : Stage → CacheState → List PortView → Outcome CacheState
step_in Idle s ports = at_place 0 idle s ports
step_in (Evict request place) s ports = at_place 1 (evict request place) s ports
step_in (WaitEvict request place) s ports = at_place 1 (wait_evict request place) s ports
step_in (Fill request place) s ports = at_place 1 (fill request place) s ports
step_in (WaitFill request place) s ports = at_place 1 (wait_fill request place) s ports
step_in (Reply message) s ports = at_place 0 (reply message) s ports
step_in (Flush request) s ports = at_place 1 (flush request) s ports
step_in (WaitFlush request) s ports = at_place 1 (wait_flush request) s ports
step_in (Down request cache) s ports = at_place 1 (down request cache) s ports
step_in (WaitDown request cache) s ports = at_place 1 (wait_down request cache) s ports
step_in Run s ports = run s ports

-- it has no timers, and is done where nothing is left to do
abbrev pub cache : Machine CacheState
cache = record {
  is_part = true;
  step = λ s ports n. step_in s.stage s ports;
  due = λ s n. None;
  period = λ s. s.period;
  done = λ s. is_done s.stage (is_empty s);
  own = λ s. 2;
}
