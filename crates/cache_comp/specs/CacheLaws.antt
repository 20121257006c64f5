-- What each step of a cache keeps, and the quiet law.
use Rattle.std.specs.Prelude.{◌≡◌, ℕ, ◌+◌, ◌*◌, ◌<◌, ◌≤◌, ◌==◌, ◌&&◌, ◌||◌, ◌++◌, List, [], ◌∷◌, length, take, drop, suc, not, Option, Some, None, Bool, true, false, slice_get, slice_set, remove, position, All, refl}
use Rattle.std.specs.List.{list_any}
use Rattle.std.proofs.Common.{sym, ◌∙◌, ap, subst, arith, length-append}
use Rattle.std.proofs.lemmas.Grind.{common_steps}
use Rattle.std.proofs.lemmas.Bool.{and_parts, ltb-true}
use Rattle.std.proofs.lemmas.Option.{slice_get_within, get_or_from_slice_get}
use Rattle.std.proofs.lemmas.List.{length-set, length_push}
use Rattle.std.proofs.lemmas.List.Edits.{length-remove}
use Rattle.std.proofs.lemmas.List.Elements.{All-set, All-push, All-append, All-take, All-drop}
use Rattle.port_msg.specs.PortView.{PortView}
use Rattle.port_msg.specs.declared.message.Msg.{Msg}
use Rattle.sim_base.specs.declared.numbers.PortNo.{PortNo}
use Rattle.sim_base.specs.declared.time.TheConstants.{LONGEST_PERIOD}
use Rattle.addr_map.specs.Range.{target_at}
use Rattle.tick_law.specs.Machine.{Outcome}
use Rattle.tick_law.specs.Frame.{AllPorts, Framed}
use Rattle.tick_law.specs.Face.{SameFaces}
use Rattle.tick_law.specs.Quiet.{Quiet, IsBelow}
use Rattle.tick_law.specs.FrameLaws.{port_same, port_trans}
use Rattle.tick_law.specs.OnePort.{Act, nothing, head_of, has_room}
use Rattle.tick_law.specs.OnePortLaws.{Kept, kept_nothing, kept_where, kept_then, where_failed, where_false, or_left, or_right, taken_framed, taken_ok, sent_framed, sent_ok}
use Rattle.cache_comp.specs.TwoPorts.{then_at}
use Rattle.cache_comp.specs.TwoPortsLaws.{Whole, whole_first, whole_second, Waits, waits_then, Rests, still, rests_first, rests_second}
use Rattle.cache_comp.specs.Lines.{LinesState, SameSizes, places, hit_place, victim_place, first_dirty, tag_at, is_dirty, line_bytes, filled, accepts, put_line, invalidate, invalidate_all, clean}
use Rattle.cache_comp.specs.declared.miss.Miss.{Miss}
use Rattle.cache_comp.specs.declared.miss.MissPhase.{MissPhase}
use Rattle.cache_comp.specs.declared.miss.MissPhase.TheVariants.{Evict as EvictMiss, WaitEvict as WaitEvictMiss, Fill as FillMiss, WaitFill as WaitFillMiss}
use Rattle.cache_comp.specs.Counts.{rose}
use Rattle.cache_comp.specs.declared.stage.Stage.{Stage}
use Rattle.cache_comp.specs.declared.stage.Stage.TheVariants.{Idle, Evict, WaitEvict, Fill, WaitFill, Reply, Flush, WaitFlush, Down, WaitDown, Run}
use Rattle.cache_comp.specs.LinesLaws.{victim_within, lies_in_line}
use Rattle.cache_comp.specs.Cache.{CacheState, rest_of, rest, IsAccess, IsStage, IsMiss, IsCache, IsHeld, write_request, read_request, flush_request, flush_answer, requested, write_down, hit, is_read_answer, is_write_answer, is_flush_answer, is_flush, some_where, took, take_to, take_of, taking, sent, send, send_to, acted, line_of, perform, evict_where, miss, miss_at, access_at, access_where, begin_where, begin, idle, evict, wait_evict, fill, wait_fill, reply, flush_at, wait_flush, down_to, down, wait_down, flush, evicted, filled_by, flushed, downed, send_ready_of, send_ready, answer, next_id, waits_evict, waits_fill, with_phase, perform_ready, complete, evict_answered_at, evict_answered, fill_answered_at, fill_answered, fill_answered_where, answered_where, answered, take_answer, is_to_send, asked, send_phase, send_miss_at, send_miss_of, send_miss, concerns, first_phase, join, join_at, request_at, request_where, has_place, enter, take_request, is_empty, begin_flush, take_flush, serve_bottom, serve_top, run, step_in, cache}

-- the period stays, and a state that a cache can be in leads to one
record Stays (s t : CacheState) : Type 0 where
  period : t.period ≡ s.period
  valid : IsCache s → IsCache t

stays_same : (s : CacheState) → Stays s s
stays_same s = record { period = refl; valid = λ v. v }

stays_trans : (x y z : CacheState) → Stays x y → Stays y z → Stays x z
stays_trans x y z a b = record { period = b.period ∙ a.period; valid = λ v. b.valid (a.valid v) }

-- what a rule keeps at its port
abbrev Keeps : CacheState → PortView → Act CacheState → Type 0
Keeps s p a = Kept Stays 1 s p a

keeps_took : (m : Msg) (t s : CacheState) (p : PortView) → Stays s t → Keeps s p (took m t p)
keeps_took m t s p k = record { framed = taken_framed p; port_ok = taken_ok p; few = omega arith; state = k }

keeps_to : (m : Msg) (o : Option CacheState) (s : CacheState) (p : PortView) → ((t : CacheState) → o ≡ Some t → Stays s t) → Keeps s p (take_to m o s p)
keeps_to m None s p k = kept_nothing Stays 1 s p (stays_same s)
keeps_to m (Some t) s p k = keeps_took m t s p (k t refl)

keeps_of : (change : Msg → Option CacheState) (o : Option Msg) (s : CacheState) (p : PortView) → ((m : Msg) (t : CacheState) → change m ≡ Some t → Stays s t) → Keeps s p (take_of change o s p)
keeps_of change None s p k = kept_nothing Stays 1 s p (stays_same s)
keeps_of change (Some m) s p k = keeps_to m (change m) s p (k m)

keeps_taking : (change : Msg → Option CacheState) (s : CacheState) (p : PortView) → ((m : Msg) (t : CacheState) → change m ≡ Some t → Stays s t) → Keeps s p (taking change s p)
keeps_taking change s p k = keeps_of change (head_of p) s p k

keeps_send : (m : Msg) (t s : CacheState) (p : PortView) → Stays s t → Keeps s p (send m t s p)
keeps_send m t s p k = kept_where Stays 1 s p (sent m t p) (has_room p) (stays_same s) (λ r. record { framed = sent_framed p m; port_ok = sent_ok p m r; few = omega arith; state = k })

keeps_send_to : (o : Option PortNo) (message : PortNo → Msg) (t s : CacheState) (p : PortView) → Stays s t → Keeps s p (send_to o message t s p)
keeps_send_to None message t s p k = kept_nothing Stays 1 s p (stays_same s)
keeps_send_to (Some to) message t s p k = keeps_send (message to) t s p k

waits_to : (m : Msg) (o : Option CacheState) (s : CacheState) (p q : PortView) → (take_to m o s p).flag ≡ false → take_to m o s q ≡ nothing s q
waits_to m None s p q f = refl
waits_to m (Some t) s p q f = absurd (cc)

waits_of : (change : Msg → Option CacheState) (o : Option Msg) (s : CacheState) (p q : PortView) → (take_of change o s p).flag ≡ false → take_of change o s q ≡ nothing s q
waits_of change None s p q f = refl
waits_of change (Some m) s p q f = waits_to m (change m) s p q f

-- what is not taken is there still
waits_taking : (change : Msg → Option CacheState) (s : CacheState) (p : PortView) → (taking change s p).flag ≡ false → Waits s p (taking change s)
waits_taking change s p f = λ q h r. ap (λ o. take_of change o s q) (sym h) ∙ waits_of change (head_of p) s p q f

-- what is not sent finds no room still
waits_send : (m : Msg) (t s : CacheState) (p : PortView) → (send m t s p).flag ≡ false → Waits s p (send m t s)
waits_send m t s p f = λ q h r. where_false s q (sent m t q) (has_room q) (sym r ∙ where_failed s p (sent m t p) (has_room p) refl f)

waits_send_to : (o : Option PortNo) (message : PortNo → Msg) (t s : CacheState) (p : PortView) → (send_to o message t s p).flag ≡ false → Waits s p (send_to o message t s)
waits_send_to None message t s p f = λ q h r. refl
waits_send_to (Some to) message t s p f = waits_send (message to) t s p f

keeps_write_down : (place : ℕ) (t s : CacheState) (p : PortView) → Stays s t → Keeps s p (write_down place t s p)
keeps_write_down place t s p k = keeps_send_to (target_at s.below (tag_at s.lines place).tag) (write_request s (tag_at s.lines place).tag (filled (line_bytes s.lines place))) t s p k

waits_write_down : (place : ℕ) (t s : CacheState) (p : PortView) → (write_down place t s p).flag ≡ false → Waits s p (write_down place t s)
waits_write_down place t s p f = waits_send_to (target_at s.below (tag_at s.lines place).tag) (write_request s (tag_at s.lines place).tag (filled (line_bytes s.lines place))) t s p f

-- a test passed, and this is the state then
some_is : (b : Bool) (t u : CacheState) → some_where b t ≡ Some u → (b ≡ true) × (t ≡ u)
some_is true t u e = (refl, cc)
some_is false t u e = absurd (cc)

same_some : (t u : CacheState) → Some t ≡ Some u → t ≡ u
same_some t u e = cc

no_some : {A : Type 0} (u : CacheState) → None ≡ Some u → A
no_some u e = absurd (cc)

-- what is taken where a test passes
keeps_where : (test : Msg → Bool) (next : Msg → CacheState) (s : CacheState) (p : PortView) → ((m : Msg) → test m ≡ true → Stays s (next m)) → Keeps s p (taking (λ m. some_where (test m) (next m)) s p)
keeps_where test next s p k = keeps_taking (λ m. some_where (test m) (next m)) s p (λ m t e. let w = some_is (test m) (next m) t e in subst (Stays s) w.1 (k m w.0))

-- what the state of a cache rests on beside its phase
record Frame : Type 0 where
  period : ℕ
  line : ℕ
  sets : ℕ
  ways : ℕ
  table : List Miss
  ready : List Msg
  room : ℕ

abbrev frame_of : CacheState → Frame
frame_of s = record { period = s.period; line = s.lines.line; sets = s.lines.sets; ways = s.lines.ways; table = s.table; ready = s.ready; room = s.miss_room }

record IsFrame (f : Frame) : Type 0 where
  period_some : 0 < f.period
  period_short : f.period ≤ LONGEST_PERIOD
  sets_some : 0 < f.sets
  table_ok : All (IsMiss f.line (f.sets * f.ways)) f.table
  most : f.room ≤ 8
  few : length f.table + length f.ready ≤ f.room

-- another phase
in_stage : (s t : CacheState) → frame_of t ≡ frame_of s → (IsCache s → IsStage t.lines.line (places t.lines) (length t.caches) t.stage) → Stays s t
in_stage s t e f = record { period = ap (λ (x : Frame). x.period) e; valid = valid }
  where
    valid : IsCache s → IsCache t
    valid v =
        let at_s : IsFrame (frame_of s) = record { period_some = v.period_some; period_short = v.period_short; sets_some = v.sets_some; table_ok = v.table; most = v.most; few = v.few } in
        let at_t : IsFrame (frame_of t) = subst IsFrame (sym e) at_s in
        record { period_some = at_t.period_some; period_short = at_t.period_short; sets_some = at_t.sets_some; stage = f v; table = at_t.table_ok; most = at_t.most; few = at_t.few }

-- other lines of the same sizes
pub held_with_lines : (s : CacheState) (lines : LinesState) (entries answers : ℕ) → IsHeld s entries answers → SameSizes s.lines lines → IsHeld (record s { lines = lines }) entries answers
held_with_lines s lines entries answers h e = record {
  state = record {
    period_some = h.state.period_some;
    period_short = h.state.period_short;
    sets_some = rw e.sets h.state.sets_some;
    stage = rw (e.line, e.sets, e.ways) h.state.stage;
    table = rw (e.line, e.sets, e.ways) h.state.table;
    most = h.state.most;
    few = h.state.few;
  };
  table_room = h.table_room;
  ready_room = h.ready_room;
}

length_dropped : (xs : List Msg) → length (drop 1 xs) ≤ length xs
length_dropped xs = grind (arith, common_steps)

-- other misses and answers, with the same room
held_with_table : (s : CacheState) (table : List Miss) (ready : List Msg) (entries answers entries' answers' : ℕ) → IsHeld s entries answers → entries ≤ entries' → answers' ≡ answers → All (IsMiss s.lines.line (places s.lines)) table → length table + length ready ≤ s.miss_room → IsHeld (record s { table = table; ready = ready }) entries' answers'
held_with_table s table ready entries answers entries' answers' h e f a g = record {
  state = record {
    period_some = h.state.period_some;
    period_short = h.state.period_short;
    sets_some = h.state.sets_some;
    stage = h.state.stage;
    table = a;
    most = h.state.most;
    few = g;
  };
  table_room = omega (arith, h.table_room, e);
  ready_room = f ∙ h.ready_room;
}

-- what is left of a table
removed_all : (P : Miss → Type 0) (table : List Miss) (k : ℕ) → All P table → All P (remove table k)
removed_all P table k a = All-append P (take k table) (drop (suc k) table) (All-take P k table a) (All-drop P (suc k) table a)

-- one has left the table
pub left_table : (s : CacheState) (table : List Miss) (k entries answers entries' : ℕ) → IsHeld s entries answers → entries ≤ entries' → k < length s.table → table ≡ remove s.table k → IsHeld (record s { table = table }) entries' answers
left_table s table k entries answers entries' h e w t =
    let few : length table + length s.ready ≤ s.miss_room = omega (arith, h.state.few, ap (λ (x : List Miss). length x) t, length-remove s.table k w) in
    held_with_table s table s.ready entries answers entries' answers h e refl (rw t (removed_all (IsMiss s.lines.line (places s.lines)) s.table k h.state.table)) few

-- one of the table was changed
pub set_table : (s : CacheState) (table : List Miss) (k : ℕ) (miss : Miss) (entries answers entries' : ℕ) → IsHeld s entries answers → entries ≤ entries' → IsMiss s.lines.line (places s.lines) miss → table ≡ slice_set s.table k miss → IsHeld (record s { table = table }) entries' answers
set_table s table k miss entries answers entries' h e i t =
    let few : length table + length s.ready ≤ s.miss_room = omega (arith, h.state.few, ap (λ (x : List Miss). length x) t, length-set s.table k miss) in
    held_with_table s table s.ready entries answers entries' answers h e refl (rw t (All-set (IsMiss s.lines.line (places s.lines)) s.table k miss i h.state.table)) few

-- one has joined the table
pub joined_table : (s : CacheState) (table : List Miss) (miss : Miss) (entries answers entries' : ℕ) → IsHeld s entries answers → entries ≤ entries' → length s.table + length s.ready < s.miss_room → IsMiss s.lines.line (places s.lines) miss → table ≡ s.table ++ miss ∷ [] → IsHeld (record s { table = table }) entries' answers
joined_table s table miss entries answers entries' h e r i t =
    let few : length table + length s.ready ≤ s.miss_room = omega (arith, r, ap (λ (x : List Miss). length x) t, length_push s.table miss) in
    held_with_table s table s.ready entries answers entries' answers h e refl (rw t (All-push (IsMiss s.lines.line (places s.lines)) s.table miss h.state.table i)) few

-- one more answer is ready
pub pushed_ready : (s : CacheState) (ready : List Msg) (message : Msg) (entries answers answers' : ℕ) → IsHeld s entries answers → answers' ≡ answers → length s.table + length s.ready < s.miss_room → ready ≡ s.ready ++ message ∷ [] → IsHeld (record s { ready = ready }) entries answers'
pushed_ready s ready message entries answers answers' h e r t =
    let few : length s.table + length ready ≤ s.miss_room = omega (arith, r, ap (λ (x : List Msg). length x) t, length_push s.ready message) in
    held_with_table s s.table ready entries answers entries answers' h (omega arith) e h.state.table few

-- the first answer is gone
pub popped_ready : (s : CacheState) (ready : List Msg) (entries answers answers' : ℕ) → IsHeld s entries answers → answers' ≡ answers → ready ≡ drop 1 s.ready → IsHeld (record s { ready = ready }) entries answers'
popped_ready s ready entries answers answers' h e t =
    let few : length s.table + length ready ≤ s.miss_room = omega (arith, h.state.few, ap (λ (x : List Msg). length x) t, length_dropped s.ready) in
    held_with_table s s.table ready entries answers entries answers' h (omega arith) e h.state.table few

-- the phases of a cache of one miss

victim_stays : (o : Option ℕ) (m : Msg) (s t : CacheState) → victim_place s.lines m.addr ≡ o → accepts s.lines.line m ≡ true → miss_at o m s ≡ Some t → Stays s t
victim_stays None m s t e a f = no_some t f
victim_stays (Some place) m s t e a f = subst (Stays s) (same_some (miss place m s) t f) (by_dirty (is_dirty (tag_at s.lines place)) refl)
  where
    access_of : IsCache s → IsAccess s.lines.line (places s.lines) m place
    access_of v = record { lies = lies_in_line s.lines.line m a; within = victim_within s.lines m.addr place v.sets_some e }

    by_dirty : (b : Bool) → is_dirty (tag_at s.lines place) ≡ b → Stays s (miss place m s)
    by_dirty true d = in_stage s (miss place m s) refl (λ v. subst (λ b. IsStage s.lines.line (places s.lines) (length s.caches) (evict_where b m place)) (sym d) (access_of v))
    by_dirty false d = in_stage s (miss place m s) refl (λ v. subst (λ b. IsStage s.lines.line (places s.lines) (length s.caches) (evict_where b m place)) (sym d) (access_of v))

access_stays : (o : Option ℕ) (m : Msg) (s t : CacheState) → accepts s.lines.line m ≡ true → access_at o m s ≡ Some t → Stays s t
access_stays None m s t a f = victim_stays (victim_place s.lines m.addr) m s t refl a f
access_stays (Some place) m s t a f = subst (Stays s) (same_some (hit place m s) t f) (in_stage s (hit place m s) refl (λ v. tt))

accept_stays : (b : Bool) (m : Msg) (s t : CacheState) → accepts s.lines.line m ≡ b → access_where b m s ≡ Some t → Stays s t
accept_stays true m s t a f = access_stays (hit_place s.lines m.addr) m s t a f
accept_stays false m s t a f = no_some t f

begin_stays : (b : Bool) (m : Msg) (s t : CacheState) → begin_where b m s ≡ Some t → Stays s t
begin_stays true m s t f = subst (Stays s) (same_some (record s { stage = Flush m }) t f) (in_stage s (record s { stage = Flush m }) refl (λ v. tt))
begin_stays false m s t f = accept_stays (accepts s.lines.line m) m s t refl f

keeps_idle : (s : CacheState) (p : PortView) → Keeps s p (idle s p)
keeps_idle s p = keeps_taking (begin s) s p (λ m t e. begin_stays (is_flush m.kind) m s t e)

-- the phase is this one
abbrev Holds : CacheState → Stage → Type 0
Holds s stage = IsStage s.lines.line (places s.lines) (length s.caches) stage

keeps_evict : (request : Msg) (place : ℕ) (s : CacheState) (p : PortView) → s.stage ≡ Evict request place → Keeps s p (evict request place s p)
keeps_evict request place s p e = keeps_write_down place (requested (WaitEvict request place) s) s p (in_stage s (requested (WaitEvict request place) s) refl (λ v. subst (Holds s) e v.stage))

keeps_wait_evict : (request : Msg) (place : ℕ) (s : CacheState) (p : PortView) → s.stage ≡ WaitEvict request place → Keeps s p (wait_evict request place s p)
keeps_wait_evict request place s p e = keeps_where (λ m. is_write_answer m.kind m.len) (λ m. record s { lines = invalidate place s.lines; stage = Fill request place }) s p (λ m h. in_stage s (record s { lines = invalidate place s.lines; stage = Fill request place }) refl (λ v. subst (Holds s) e v.stage))

keeps_fill : (request : Msg) (place : ℕ) (s : CacheState) (p : PortView) → s.stage ≡ Fill request place → Keeps s p (fill request place s p)
keeps_fill request place s p e = keeps_send_to (target_at s.below (line_of s request)) (read_request s (line_of s request)) (requested (WaitFill request place) s) s p (in_stage s (requested (WaitFill request place) s) refl (λ v. subst (Holds s) e v.stage))

keeps_wait_fill : (request : Msg) (place : ℕ) (s : CacheState) (p : PortView) → Keeps s p (wait_fill request place s p)
keeps_wait_fill request place s p = keeps_where (λ m. is_read_answer s.lines.line m.kind m.len) (λ m. perform place request (record s { lines = put_line place (line_of s request) m.bytes s.lines })) s p (λ m h. in_stage s (perform place request (record s { lines = put_line place (line_of s request) m.bytes s.lines })) refl (λ v. tt))

rest_holds : (line n caches : ℕ) (b : Bool) → IsStage line n caches (rest_of b)
rest_holds line n caches true = tt
rest_holds line n caches false = tt

keeps_reply : (message : Msg) (s : CacheState) (p : PortView) → Keeps s p (reply message s p)
keeps_reply message s p = keeps_send message (record s { stage = rest s.miss_room }) s p (in_stage s (record s { stage = rest s.miss_room }) refl (λ v. rest_holds s.lines.line (places s.lines) (length s.caches) (s.miss_room == 1)))

keeps_acted : (t s : CacheState) (p : PortView) → Stays s t → Keeps s p (acted t p)
keeps_acted t s p k = record { framed = port_same true p; port_ok = λ o. o; few = omega arith; state = k }

keeps_flush_at : (o : Option ℕ) (request : Msg) (s : CacheState) (p : PortView) → Keeps s p (flush_at o request s p)
keeps_flush_at None request s p =
    let t : CacheState = record s { lines = invalidate_all s.lines; stage = Down request 0 } in
    keeps_acted t s p (in_stage s t refl (λ v. omega arith))
keeps_flush_at (Some place) request s p =
    let t : CacheState = requested (WaitFlush request) (record s { lines = clean place s.lines }) in
    keeps_write_down place t s p (in_stage s t refl (λ v. tt))

keeps_wait_flush : (request : Msg) (s : CacheState) (p : PortView) → Keeps s p (wait_flush request s p)
keeps_wait_flush request s p = keeps_where (λ m. is_write_answer m.kind m.len) (λ m. record s { stage = Flush request }) s p (λ m h. in_stage s (record s { stage = Flush request }) refl (λ v. tt))

keeps_down_to : (o : Option PortNo) (request : Msg) (k : ℕ) (s : CacheState) (p : PortView) → slice_get s.caches k ≡ o → Keeps s p (down_to o request k s p)
keeps_down_to None request k s p e =
    let t : CacheState = record s { stage = Reply (flush_answer s.top request) } in
    keeps_acted t s p (in_stage s t refl (λ v. tt))
keeps_down_to (Some to) request k s p e =
    let t : CacheState = requested (WaitDown request k) s in
    keeps_send (flush_request s to) t s p (in_stage s t refl (λ v. slice_get_within s.caches k to e))

keeps_wait_down : (request : Msg) (k : ℕ) (s : CacheState) (p : PortView) → s.stage ≡ WaitDown request k → Keeps s p (wait_down request k s p)
keeps_wait_down request k s p e = keeps_where (λ m. is_flush_answer m.kind m.len) (λ m. record s { stage = Down request (k + 1) }) s p (λ m h. in_stage s (record s { stage = Down request (k + 1) }) refl (λ v. let below : k < length s.caches = subst (Holds s) e v.stage in omega arith))

-- the rules of a cache of several misses

-- an entry of the table is one that can be under way
pub entry_is : (s : CacheState) (k : ℕ) (e : Miss) → IsCache s → slice_get s.table k ≡ Some e → IsMiss s.lines.line (places s.lines) e
entry_is s k e v h = subst (IsMiss s.lines.line (places s.lines)) (get_or_from_slice_get s.table k e e h) (v.table k e (slice_get_within s.table k e h))

-- another state with the same frame but for its table and answers
with_table : (s t : CacheState) → t.period ≡ s.period → t.miss_room ≡ s.miss_room → (IsCache s → 0 < t.lines.sets) → (IsCache s → IsStage t.lines.line (places t.lines) (length t.caches) t.stage) → (IsCache s → All (IsMiss t.lines.line (places t.lines)) t.table) → (IsCache s → length t.table + length t.ready ≤ s.miss_room) → Stays s t
with_table s t e r a b c d = record { period = e; valid = λ v. record { period_some = rw e v.period_some; period_short = rw e v.period_short; sets_some = a v; stage = b v; table = c v; most = rw r v.most; few = rw r (d v) } }

keeps_ready_of : (o : Option Msg) (s : CacheState) (p : PortView) → Keeps s p (send_ready_of o s p)
keeps_ready_of None s p = kept_nothing Stays 1 s p (stays_same s)
keeps_ready_of (Some message) s p = keeps_send message (record s { ready = drop 1 s.ready }) s p (with_table s (record s { ready = drop 1 s.ready }) refl refl (λ v. v.sets_some) (λ v. v.stage) (λ v. v.table) (λ v. omega (arith, v.few, length_dropped s.ready)))

-- an entry of the table is in another phase
phase_stays : (k : ℕ) (e : Miss) (phase : MissPhase) (requests : ℕ) (s : CacheState) → slice_get s.table k ≡ Some e → Stays s (record s { requests = requests; table = slice_set s.table k (with_phase e phase) })
phase_stays k e phase requests s h = with_table s (record s { requests = requests; table = slice_set s.table k (with_phase e phase) }) refl refl (λ v. v.sets_some) (λ v. v.stage) (λ v. All-set (IsMiss s.lines.line (places s.lines)) s.table k (with_phase e phase) (entry_is s k e v h) v.table) (λ v. omega (arith, v.few, length-set s.table k (with_phase e phase)))

evict_entry_stays : (k : ℕ) (o : Option Miss) (s t : CacheState) → slice_get s.table k ≡ o → evict_answered_at k o s ≡ Some t → Stays s t
evict_entry_stays k None s t h f = no_some t f
evict_entry_stays k (Some e) s t h f = subst (Stays s) (same_some (record s { table = slice_set s.table k (with_phase e FillMiss) }) t f) (phase_stays k e FillMiss s.requests s h)

evict_answered_stays : (o : Option ℕ) (s t : CacheState) → evict_answered o s ≡ Some t → Stays s t
evict_answered_stays None s t f = no_some t f
evict_answered_stays (Some k) s t f = evict_entry_stays k (slice_get s.table k) s t refl f

complete_stays : (k : ℕ) (e : Miss) (bytes : List ℕ) (s : CacheState) → slice_get s.table k ≡ Some e → Stays s (complete k e bytes s)
complete_stays k e bytes s h = with_table s (complete k e bytes s) refl refl (λ v. v.sets_some) (λ v. v.stage) (λ v. removed_all (IsMiss s.lines.line (places s.lines)) s.table k v.table) (λ v. omega (arith, v.few, length-remove s.table k (slice_get_within s.table k e h), length_push s.ready (answer s.top (put_line e.place (line_of s e.request) bytes s.lines) e.place e.request)))

fill_entry_stays : (k : ℕ) (o : Option Miss) (m : Msg) (s t : CacheState) → slice_get s.table k ≡ o → fill_answered_at k o m s ≡ Some t → Stays s t
fill_entry_stays k None m s t h f = no_some t f
fill_entry_stays k (Some e) m s t h f = subst (Stays s) (same_some (complete k e m.bytes s) t f) (complete_stays k e m.bytes s h)

fill_answered_stays : (o : Option ℕ) (m : Msg) (s t : CacheState) → fill_answered o m s ≡ Some t → Stays s t
fill_answered_stays None m s t f = no_some t f
fill_answered_stays (Some k) m s t f = fill_entry_stays k (slice_get s.table k) m s t refl f

fill_where_stays : (b : Bool) (m : Msg) (s t : CacheState) → fill_answered_where b m s ≡ Some t → Stays s t
fill_where_stays true m s t f = fill_answered_stays (position (waits_fill m.id) s.table) m s t f
fill_where_stays false m s t f = no_some t f

answered_stays : (b : Bool) (m : Msg) (s t : CacheState) → answered_where b m s ≡ Some t → Stays s t
answered_stays true m s t f = evict_answered_stays (position (waits_evict m.id) s.table) s t f
answered_stays false m s t f = fill_where_stays (is_read_answer s.lines.line m.kind m.len) m s t f

keeps_take_answer : (s : CacheState) (p : PortView) → Keeps s p (take_answer s p)
keeps_take_answer s p = keeps_taking (answered s) s p (λ m t e. answered_stays (is_write_answer m.kind m.len) m s t e)

keeps_send_phase : (k : ℕ) (e : Miss) (phase : MissPhase) (s : CacheState) (p : PortView) → slice_get s.table k ≡ Some e → Keeps s p (send_phase k e phase s p)
keeps_send_phase k e (EvictMiss addr bytes) s p h = keeps_send_to (target_at s.below addr) (write_request s addr bytes) (asked k (with_phase e (WaitEvictMiss addr (next_id s))) s) s p (phase_stays k e (WaitEvictMiss addr (next_id s)) (rose s.requests) s h)
keeps_send_phase k e (WaitEvictMiss addr id) s p h = kept_nothing Stays 1 s p (stays_same s)
keeps_send_phase k e FillMiss s p h = keeps_send_to (target_at s.below (line_of s e.request)) (read_request s (line_of s e.request)) (asked k (with_phase e (WaitFillMiss (next_id s))) s) s p (phase_stays k e (WaitFillMiss (next_id s)) (rose s.requests) s h)
keeps_send_phase k e (WaitFillMiss id) s p h = kept_nothing Stays 1 s p (stays_same s)

keeps_send_at : (k : ℕ) (o : Option Miss) (s : CacheState) (p : PortView) → slice_get s.table k ≡ o → Keeps s p (send_miss_at k o s p)
keeps_send_at k None s p h = kept_nothing Stays 1 s p (stays_same s)
keeps_send_at k (Some e) s p h = keeps_send_phase k e e.phase s p h

keeps_send_of : (o : Option ℕ) (s : CacheState) (p : PortView) → Keeps s p (send_miss_of o s p)
keeps_send_of None s p = kept_nothing Stays 1 s p (stays_same s)
keeps_send_of (Some k) s p = keeps_send_at k (slice_get s.table k) s p refl

room_for_one : (s : CacheState) → has_place s ≡ true → length s.table + length s.ready < s.miss_room
room_for_one s h = ltb-true (length s.table + length s.ready) s.miss_room h

join_stays : (place : ℕ) (m : Msg) (s : CacheState) → victim_place s.lines m.addr ≡ Some place → accepts s.lines.line m ≡ true → has_place s ≡ true → Stays s (join place m s)
join_stays place m s e a h =
    let entry : Miss = record { request = m; place = place; phase = first_phase s place } in
    with_table s (join place m s) refl refl (λ v. v.sets_some) (λ v. v.stage) (λ v. All-push (IsMiss s.lines.line (places s.lines)) s.table entry v.table (record { lies = lies_in_line s.lines.line m a; within = victim_within s.lines m.addr place v.sets_some e })) (λ v. omega (arith, room_for_one s h, length_push s.table entry))

join_at_stays : (o : Option ℕ) (m : Msg) (s t : CacheState) → victim_place s.lines m.addr ≡ o → accepts s.lines.line m ≡ true → has_place s ≡ true → join_at o m s ≡ Some t → Stays s t
join_at_stays None m s t e a h f = no_some t f
join_at_stays (Some place) m s t e a h f = subst (Stays s) (some_is (not (list_any (concerns s (line_of s m)) s.table)) (join place m s) t f).1 (join_stays place m s e a h)

request_stays : (o : Option ℕ) (m : Msg) (s t : CacheState) → accepts s.lines.line m ≡ true → has_place s ≡ true → request_at o m s ≡ Some t → Stays s t
request_stays None m s t a h f = join_at_stays (victim_place s.lines m.addr) m s t refl a h f
request_stays (Some place) m s t a h f =
    let u : CacheState = perform_ready place m (record s { hits = rose s.hits }) in
    subst (Stays s) (same_some u t f) (with_table s u refl refl (λ v. v.sets_some) (λ v. v.stage) (λ v. v.table) (λ v. omega (arith, room_for_one s h, length_push s.ready (answer s.top s.lines place m))))

enter_stays : (b : Bool) (m : Msg) (s t : CacheState) → (accepts s.lines.line m && has_place s) ≡ b → request_where b m s ≡ Some t → Stays s t
enter_stays true m s t e f = let both = and_parts (accepts s.lines.line m) (has_place s) e in request_stays (hit_place s.lines m.addr) m s t both.0 both.1 f
enter_stays false m s t e f = no_some t f

keeps_request : (s : CacheState) (p : PortView) → Keeps s p (take_request s p)
keeps_request s p = keeps_taking (enter s) s p (λ m t e. enter_stays (accepts s.lines.line m && has_place s) m s t refl e)

keeps_take_flush : (s : CacheState) (p : PortView) → Keeps s p (take_flush s p)
keeps_take_flush s p = keeps_where (λ m. is_flush m.kind && is_empty s) (λ m. record s { stage = Flush m }) s p (λ m h. in_stage s (record s { stage = Flush m }) refl (λ v. tt))

-- what the two rules at a port keep
abbrev KeepsTwo : CacheState → PortView → Act CacheState → Type 0
KeepsTwo s p a = Kept Stays 2 s p a

keeps_bottom : (s : CacheState) (p : PortView) → KeepsTwo s p (serve_bottom s p)
unfolding serve_bottom
keeps_bottom s p =
    let a = take_answer s p in
    kept_then Stays send_miss 1 1 s p a stays_trans (keeps_take_answer s p) (keeps_send_of (position is_to_send a.state.table) a.state a.port)

keeps_top : (s : CacheState) (p : PortView) → KeepsTwo s p (serve_top s p)
unfolding serve_top
keeps_top s p =
    let a = take_request s p in
    kept_then Stays take_flush 1 1 s p a stays_trans (keeps_request s p) (keeps_take_flush a.state a.port)

-- how much the first rules of a running cache record
pub ready_few : (s : CacheState) (p : PortView) → length (send_ready s p).records ≤ 1
ready_few s p = (keeps_ready_of (slice_get s.ready 0) s p).few

pub bottom_few : (s : CacheState) (p : PortView) → length (serve_bottom s p).records ≤ 2
bottom_few s p = (keeps_bottom s p).few

whole_run : (s : CacheState) (p q : PortView) → Whole Stays s (p ∷ q ∷ []) (run s (p ∷ q ∷ []))
whole_run s p q =
    let first = send_ready s p in
    let second = serve_bottom first.state q in
    let third = serve_top second.state first.port in
    let a = keeps_ready_of (slice_get s.ready 0) s p in
    let b = keeps_bottom first.state q in
    let c = keeps_top second.state first.port in
    record {
      framed = (port_trans true p first.port third.port a.framed c.framed, (b.framed, tt));
      ports_ok = λ o. (c.port_ok (a.port_ok o.0), (b.port_ok o.1.0, tt));
      few = omega (arith, a.few, b.few, c.few, length-append first.records second.records, length-append (first.records ++ second.records) third.records);
      state = stays_trans s second.state third.state (stays_trans s first.state second.state a.state b.state) c.state;
    }

whole_step : (stage : Stage) (s : CacheState) (p q : PortView) → s.stage ≡ stage → Whole Stays s (p ∷ q ∷ []) (step_in stage s (p ∷ q ∷ []))
whole_step Idle s p q e = whole_first Stays s p q idle (keeps_idle s p)
whole_step (Evict request place) s p q e = whole_second Stays s p q (evict request place) (keeps_evict request place s q e)
whole_step (WaitEvict request place) s p q e = whole_second Stays s p q (wait_evict request place) (keeps_wait_evict request place s q e)
whole_step (Fill request place) s p q e = whole_second Stays s p q (fill request place) (keeps_fill request place s q e)
whole_step (WaitFill request place) s p q e = whole_second Stays s p q (wait_fill request place) (keeps_wait_fill request place s q)
whole_step (Reply message) s p q e = whole_first Stays s p q (reply message) (keeps_reply message s p)
whole_step (Flush request) s p q e = whole_second Stays s p q (flush request) (keeps_flush_at (first_dirty s.lines) request s q)
whole_step (WaitFlush request) s p q e = whole_second Stays s p q (wait_flush request) (keeps_wait_flush request s q)
whole_step (Down request k) s p q e = whole_second Stays s p q (down request k) (keeps_down_to (slice_get s.caches k) request k s q refl)
whole_step (WaitDown request k) s p q e = whole_second Stays s p q (wait_down request k) (keeps_wait_down request k s q e)
whole_step Run s p q e = whole_run s p q

whole : (s : CacheState) (ports : List PortView) → length ports ≡ 2 → Whole Stays s ports (step_in s.stage s ports)
whole s [] e = absurd (omega arith)
whole s (p ∷ []) e = absurd (omega arith)
whole s (p ∷ q ∷ []) e = whole_step s.stage s p q refl
whole s (p ∷ q ∷ r ∷ more) e = absurd (omega arith)

pub cache_framed : (s : CacheState) (ports : List PortView) (n : ℕ) → IsCache s → AllPorts ports → length ports ≡ 2 → Framed CacheState cache s ports n
cache_framed s ports n v o e =
    let w = whole s ports e in
    record { period = w.state.period; own = refl; ports = w.framed; records = omega (arith, w.few) }

pub cache_stays : (s : CacheState) (ports : List PortView) (n : ℕ) → IsCache s → AllPorts ports → length ports ≡ 2 → n * s.period ≤ 501000000000 → IsCache (cache.step s ports n).state × AllPorts (cache.step s ports n).ports
cache_stays s ports n v o e b = let w = whole s ports e in (w.state.valid v, w.ports_ok o)

waits_flush : (o : Option ℕ) (request : Msg) (s : CacheState) (p : PortView) → (flush_at o request s p).flag ≡ false → Waits s p (flush_at o request s)
waits_flush None request s p f = absurd (cc)
waits_flush (Some place) request s p f = waits_write_down place (requested (WaitFlush request) (record s { lines = clean place s.lines })) s p f

waits_down : (o : Option PortNo) (request : Msg) (k : ℕ) (s : CacheState) (p : PortView) → (down_to o request k s p).flag ≡ false → Waits s p (down_to o request k s)
waits_down None request k s p f = absurd (cc)
waits_down (Some to) request k s p f = waits_send (flush_request s to) (requested (WaitDown request k) s) s p f

waits_ready : (o : Option Msg) (s : CacheState) (p : PortView) → (send_ready_of o s p).flag ≡ false → Waits s p (send_ready_of o s)
waits_ready None s p f = λ q h r. refl
waits_ready (Some message) s p f = waits_send message (record s { ready = drop 1 s.ready }) s p f

waits_phase : (k : ℕ) (e : Miss) (phase : MissPhase) (s : CacheState) (p : PortView) → (send_phase k e phase s p).flag ≡ false → Waits s p (send_phase k e phase s)
waits_phase k e (EvictMiss addr bytes) s p f = waits_send_to (target_at s.below addr) (write_request s addr bytes) (asked k (with_phase e (WaitEvictMiss addr (next_id s))) s) s p f
waits_phase k e (WaitEvictMiss addr id) s p f = λ q h r. refl
waits_phase k e FillMiss s p f = waits_send_to (target_at s.below (line_of s e.request)) (read_request s (line_of s e.request)) (asked k (with_phase e (WaitFillMiss (next_id s))) s) s p f
waits_phase k e (WaitFillMiss id) s p f = λ q h r. refl

waits_miss_at : (k : ℕ) (o : Option Miss) (s : CacheState) (p : PortView) → (send_miss_at k o s p).flag ≡ false → Waits s p (send_miss_at k o s)
waits_miss_at k None s p f = λ q h r. refl
waits_miss_at k (Some e) s p f = waits_phase k e e.phase s p f

waits_miss : (o : Option ℕ) (s : CacheState) (p : PortView) → (send_miss_of o s p).flag ≡ false → Waits s p (send_miss_of o s)
waits_miss None s p f = λ q h r. refl
waits_miss (Some k) s p f = waits_miss_at k (slice_get s.table k) s p f

waits_bottom : (s : CacheState) (p : PortView) → (serve_bottom s p).flag ≡ false → Waits s p (serve_bottom s)
unfolding serve_bottom
waits_bottom s p f = waits_then take_answer send_miss s p (waits_taking (answered s) s p) (waits_miss (position is_to_send s.table) s p) f

waits_top : (s : CacheState) (p : PortView) → (serve_top s p).flag ≡ false → Waits s p (serve_top s)
unfolding serve_top
waits_top s p f = waits_then take_request take_flush s p (waits_taking (enter s) s p) (waits_taking (begin_flush s) s p) f

-- three rules of which none does anything
run_still : (s : CacheState) (a b : PortView) → send_ready s a ≡ nothing s a → serve_bottom s b ≡ nothing s b → serve_top s a ≡ nothing s a → run s (a ∷ b ∷ []) ≡ still s (a ∷ b ∷ [])
run_still s a b x y z =
    let first : run s (a ∷ b ∷ []) ≡ then_at 0 serve_top (then_at 1 serve_bottom (still s (a ∷ b ∷ []))) = ap (λ (c : Act CacheState). let o : Outcome CacheState = record { state = c.state; ports = c.port ∷ b ∷ []; records = c.records; flag = c.flag } in then_at 0 serve_top (then_at 1 serve_bottom o)) x in
    let second : then_at 1 serve_bottom (still s (a ∷ b ∷ [])) ≡ still s (a ∷ b ∷ []) = ap (λ (c : Act CacheState). let o : Outcome CacheState = record { state = c.state; ports = a ∷ c.port ∷ []; records = [] ++ c.records; flag = false || c.flag } in o) y in
    let third : then_at 0 serve_top (still s (a ∷ b ∷ [])) ≡ still s (a ∷ b ∷ []) = ap (λ (c : Act CacheState). let o : Outcome CacheState = record { state = c.state; ports = c.port ∷ b ∷ []; records = [] ++ c.records; flag = false || c.flag } in o) z in
    first ∙ ap (then_at 0 serve_top) second ∙ third

rests_run : (s : CacheState) (p q : PortView) → (run s (p ∷ q ∷ [])).flag ≡ false → Rests s p q (run s)
rests_run s p q f =
    let first = send_ready s p in
    let second = serve_bottom first.state q in
    let two : (first.flag || second.flag) ≡ false = or_left (first.flag || second.flag) (serve_top second.state first.port).flag f in
    let one : first.flag ≡ false = or_left first.flag second.flag two in
    let x = waits_ready (slice_get s.ready 0) s p one in
    let at_p : first ≡ nothing s p = x p refl refl in
    let below : (serve_bottom s q).flag ≡ false = ap (λ (c : Act CacheState). (serve_bottom c.state q).flag) (sym at_p) ∙ or_right first.flag second.flag two in
    let y = waits_bottom s q below in
    let at_q : serve_bottom s q ≡ nothing s q = y q refl refl in
    let then_q : second ≡ nothing s q = ap (λ (c : Act CacheState). serve_bottom c.state q) at_p ∙ at_q in
    let above : (serve_top second.state first.port).flag ≡ false = or_right (first.flag || second.flag) (serve_top second.state first.port).flag f in
    let above_p : (serve_top second.state p).flag ≡ false = ap (λ (c : Act CacheState). (serve_top second.state c.port).flag) (sym at_p) ∙ above in
    let at_top : (serve_top s p).flag ≡ false = ap (λ (c : Act CacheState). (serve_top c.state p).flag) (sym then_q) ∙ above_p in
    let z = waits_top s p at_top in
    λ a b h r i t. run_still s a b (x a h r) (y b i t) (z a h r)

rests_step : (stage : Stage) (s : CacheState) (p q : PortView) → (step_in stage s (p ∷ q ∷ [])).flag ≡ false → Rests s p q (step_in stage s)
rests_step Idle s p q f = rests_first idle s p q (waits_taking (begin s) s p f)
rests_step (Evict request place) s p q f = rests_second (evict request place) s p q (waits_write_down place (requested (WaitEvict request place) s) s q f)
rests_step (WaitEvict request place) s p q f = rests_second (wait_evict request place) s p q (waits_taking (evicted request place s) s q f)
rests_step (Fill request place) s p q f = rests_second (fill request place) s p q (waits_send_to (target_at s.below (line_of s request)) (read_request s (line_of s request)) (requested (WaitFill request place) s) s q f)
rests_step (WaitFill request place) s p q f = rests_second (wait_fill request place) s p q (waits_taking (filled_by request place s) s q f)
rests_step (Reply message) s p q f = rests_first (reply message) s p q (waits_send message (record s { stage = rest s.miss_room }) s p f)
rests_step (Flush request) s p q f = rests_second (flush request) s p q (waits_flush (first_dirty s.lines) request s q f)
rests_step (WaitFlush request) s p q f = rests_second (wait_flush request) s p q (waits_taking (flushed request s) s q f)
rests_step (Down request k) s p q f = rests_second (down request k) s p q (waits_down (slice_get s.caches k) request k s q f)
rests_step (WaitDown request k) s p q f = rests_second (wait_down request k) s p q (waits_taking (downed request k s) s q f)
rests_step Run s p q f = rests_run s p q f

pub cache_quiet : (s : CacheState) (ports : List PortView) (n : ℕ) → IsCache s → length ports ≡ 2 → (cache.step s ports n).flag ≡ false → Quiet CacheState cache s ports n
cache_quiet s [] n v e f = absurd (omega arith)
cache_quiet s (p ∷ []) n v e f = absurd (omega arith)
cache_quiet s (p ∷ q ∷ r ∷ more) n v e f = absurd (omega arith)
cache_quiet s (p ∷ q ∷ []) n v e f =
    let w = rests_step s.stage s p q f in
    let here : step_in s.stage s (p ∷ q ∷ []) ≡ still s (p ∷ q ∷ []) = w p q refl refl refl refl in
    record { state = ap (λ (o : Outcome CacheState). o.state) here; ports = ap (λ (o : Outcome CacheState). o.ports) here; records = ap (λ (o : Outcome CacheState). o.records) here; later = later w }
  where
    later : Rests s p q (step_in s.stage s) → (others : List PortView) (k : ℕ) → SameFaces true (p ∷ q ∷ []) others → n < k → IsBelow k None → (cache.step s others k).flag ≡ false
    later w [] k h l b = absurd h
    later w (a ∷ []) k h l b = absurd h.1
    later w (a ∷ c ∷ d ∷ more) k h l b = absurd h.1.1
    later w (a ∷ c ∷ []) k h l b = ap (λ (o : Outcome CacheState). o.flag) (w a c h.0.0 h.0.1 h.1.0.0 h.1.0.1)
