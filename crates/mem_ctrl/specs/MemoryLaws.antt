-- What each step of a memory keeps, and the quiet law.
use Rattle.std.specs.Prelude.{◌≡◌, ℕ, ◌+◌, ◌-◌, ◌*◌, ◌^◌, ◌<◌, ◌≤◌, ◌&&◌, ◌++◌, List, [], ◌∷◌, length, take, drop, Option, Some, None, Bool, true, false, IsTrue, nat_le, cond, slice_get, replicate, All, refl}
use Rattle.std.proofs.Common.{sym, ◌∙◌, ap, subst, arith}
use Rattle.std.proofs.lemmas.Grind.{common_steps}
use Rattle.std.proofs.lemmas.List.{drop-replicate}
use Rattle.std.proofs.lemmas.List.Elements.{All-drop, All-push, All-head}
use Rattle.std.proofs.lemmas.Bool.{and_parts, and_left}
use Rattle.std.proofs.lemmas.Bool.Decides.{nat_tests}
use Rattle.sim_base.specs.declared.time.TheConstants.{LATEST_TICK, LONGEST_PERIOD}
use Rattle.port_msg.specs.Kinds.{is_write}
use Rattle.port_msg.specs.PortView.{PortView}
use Rattle.port_msg.specs.declared.message.Msg.{Msg}
use Rattle.tick_law.specs.Frame.{AllPorts, Framed}
use Rattle.tick_law.specs.Face.{SameFaces}
use Rattle.tick_law.specs.Quiet.{Quiet, IsBelow}
use Rattle.tick_law.specs.FrameLaws.{frames_same}
use Rattle.tick_law.specs.OnePort.{Act, nothing, then_rule, head_of, has_room}
use Rattle.tick_law.specs.OnePortLaws.{Stays, stays_same, stays_trans, Kept, kept_nothing, kept_where, kept_then, where_failed, where_false, then_nothing, then_flag, or_left, taken_framed, taken_ok, sent_framed, sent_ok}
use Rattle.tick_law.specs.TimerLaws.{above_later, above_steady, not_yet, set_early, time_early}
use Rattle.mem_ctrl.specs.declared.waiting.Waiting.{Waiting}
use Rattle.mem_ctrl.specs.Memory.{MemoryState, IsWaiting, IsMemory, filled, accepts, place_of, put_over, answer, stored, served, serve_of, serve, waiting_from, taken, has_place, take_of, take_request, deadline_of, memory}

-- what stays the same in a step at a cycle, and that a state that a memory can be in leads to one
abbrev Keeps : ℕ → MemoryState → MemoryState → Type 0
Keeps n = Stays (λ (s : MemoryState). s.period) IsMemory n

length_put_over : (bytes others : List ℕ) (at : ℕ) → at + length others ≤ length bytes → length (put_over bytes at others) ≡ length bytes
length_put_over bytes others at h = grind (arith, common_steps)

-- 64 bytes that begin with others
pub filled_from : (others : List ℕ) (len : ℕ) → length others ≡ len → others ++ drop {A = ℕ} len (replicate 64 0) ≡ filled others
filled_from others len e = rw e (ap (λ l. others ++ l) (drop-replicate len 64 0))

-- a request that is accepted lies among the memory's bytes
place_end : (base size : ℕ) (m : Msg) → IsTrue (accepts base size m) → (m.addr - base) + m.len ≤ size
place_end base size m h = grind (arith, nat_tests, common_steps)

length_taken : (k : ℕ) (xs : List ℕ) → length (take k xs) ≤ k
length_taken k xs = grind (arith, common_steps)

length_stored : (s : MemoryState) (m : Msg) → IsTrue (accepts s.base (length s.bytes) m) → length (stored s m) ≡ length s.bytes
length_stored s m h = by_kind (is_write m.kind)
  where
    by_kind : (b : Bool) → length (cond b (put_over s.bytes (place_of s m) (take m.len m.bytes)) s.bytes) ≡ length s.bytes
    by_kind true = length_put_over s.bytes (take m.len m.bytes) (place_of s m) (omega (arith, place_end s.base (length s.bytes) m h, length_taken m.len m.bytes))
    by_kind false = refl

first_waits : (P : Waiting → Type 0) (ws : List Waiting) (w : Waiting) → slice_get ws 0 ≡ Some w → All P ws → P w
first_waits P [] w e a = absurd (cc)
first_waits P (x ∷ ws) w e a = let same : x ≡ w = cc in subst P same (All-head P x ws a)

served_valid : (s : MemoryState) (p : PortView) (w : Waiting) → slice_get s.queue 0 ≡ Some w → IsMemory s → IsMemory (served s p w.request).state
served_valid s p w e v =
    let same : length (stored s w.request) ≡ length s.bytes = length_stored s w.request (first_waits (IsWaiting s.base (length s.bytes) s.period) s.queue w e v.waiting).accepted in
    record {
      period_some = v.period_some;
      period_short = v.period_short;
      latency_short = v.latency_short;
      depth_most = v.depth_most;
      size_most = rw same v.size_most;
      within_addresses = rw same v.within_addresses;
      waiting = rw same (All-drop (IsWaiting s.base (length s.bytes) s.period) 1 s.queue v.waiting);
    }

kept_serve_of : (n : ℕ) (s : MemoryState) (p : PortView) (o : Option Waiting) → slice_get s.queue 0 ≡ o → Kept (Keeps n) 1 s p (serve_of s p n o)
kept_serve_of n s p None e = kept_nothing (Keeps n) 1 s p (stays_same n s)
kept_serve_of n s p (Some w) e =
    let test = nat_le w.deadline n && has_room p in
    kept_where (Keeps n) 1 s p (served s p w.request) test (stays_same n s) (λ h. record {
      framed = sent_framed p (answer s w.request);
      port_ok = sent_ok p (answer s w.request) (and_parts (nat_le w.deadline n) (has_room p) h).1;
      few = omega arith;
      state = record { period_is = refl; valid_is = λ v b. served_valid s p w e v };
    })

-- one has left the queue
pub left_queue : (s : MemoryState) (queue : List Waiting) (depth count : ℕ) → IsMemory s → queue ≡ drop 1 s.queue → depth ≡ s.depth → IsMemory (record s { queue = queue; depth = depth; served = count })
left_queue s queue depth count v e f = record {
  period_some = v.period_some;
  period_short = v.period_short;
  latency_short = v.latency_short;
  depth_most = rw f v.depth_most;
  size_most = v.size_most;
  within_addresses = v.within_addresses;
  waiting = rw e (All-drop (IsWaiting s.base (length s.bytes) s.period) 1 s.queue v.waiting);
}

-- one has joined it
pub joined_queue : (s : MemoryState) (queue : List Waiting) (depth n : ℕ) (m : Msg) → IsMemory s → accepts s.base (length s.bytes) m ≡ true → n * s.period ≤ LATEST_TICK → queue ≡ s.queue ++ waiting_from s m n ∷ [] → depth ≡ s.depth → IsMemory (record s { queue = queue; depth = depth })
joined_queue s queue depth n m v a b e f = record {
  period_some = v.period_some;
  period_short = v.period_short;
  latency_short = v.latency_short;
  depth_most = rw f v.depth_most;
  size_most = v.size_most;
  within_addresses = v.within_addresses;
  waiting = rw e (All-push (IsWaiting s.base (length s.bytes) s.period) s.queue (waiting_from s m n) v.waiting (record { accepted = a; early = set_early n s.latency s.period b v.latency_short }));
}

taken_valid : (n : ℕ) (s : MemoryState) (p : PortView) (m : Msg) → accepts s.base (length s.bytes) m ≡ true → IsMemory s → n * s.period ≤ LATEST_TICK → IsMemory (taken s p m n).state
taken_valid n s p m e v b = joined_queue s (s.queue ++ waiting_from s m n ∷ []) s.depth n m v e b refl refl

kept_take_of : (n : ℕ) (s : MemoryState) (p : PortView) (o : Option Msg) → Kept (Keeps n) 1 s p (take_of s p n o)
kept_take_of n s p None = kept_nothing (Keeps n) 1 s p (stays_same n s)
kept_take_of n s p (Some m) =
    let test = accepts s.base (length s.bytes) m && has_place s in
    kept_where (Keeps n) 1 s p (taken s p m n) test (stays_same n s) (λ h. record {
      framed = taken_framed p;
      port_ok = taken_ok p;
      few = omega arith;
      state = record { period_is = refl; valid_is = λ v b. taken_valid n s p m (and_parts (accepts s.base (length s.bytes) m) (has_place s) h).0 v b };
    })

-- what both rules keep
kept_both : (n : ℕ) (s : MemoryState) (p : PortView) → Kept (Keeps n) 2 s p (then_rule (take_request n) (serve s p n))
kept_both n s p =
    let a = serve s p n in
    kept_then (Keeps n) (take_request n) 1 1 s p a (stays_trans n) (kept_serve_of n s p (slice_get s.queue 0) refl) (kept_take_of n a.state a.port (head_of a.port))

pub memory_framed : (s : MemoryState) (ports : List PortView) (n : ℕ) → IsMemory s → AllPorts ports → length ports ≡ 1 → Framed MemoryState memory s ports n
memory_framed s [] n v o e = absurd (omega arith)
memory_framed s (p ∷ ps) n v o e =
    let k = kept_both n s p in
    record { period = k.state.period_is; own = refl; ports = (k.framed, frames_same true ps); records = omega (arith, k.few) }

pub memory_stays : (s : MemoryState) (ports : List PortView) (n : ℕ) → IsMemory s → AllPorts ports → length ports ≡ 1 → n * s.period ≤ LATEST_TICK → IsMemory (memory.step s ports n).state × AllPorts (memory.step s ports n).ports
memory_stays s [] n v o e b = (v, tt)
memory_stays s (p ∷ ps) n v o e b = let k = kept_both n s p in (k.state.valid_is v b, (k.port_ok o.0, o.1))

serve_quiet : (s : MemoryState) (p : PortView) (n : ℕ) (o : Option Waiting) → (serve_of s p n o).flag ≡ false → serve_of s p n o ≡ nothing s p
serve_quiet s p n None f = refl
serve_quiet s p n (Some w) f =
    let test = nat_le w.deadline n && has_room p in
    where_false s p (served s p w.request) test (where_failed s p (served s p w.request) test refl f)

take_quiet : (s : MemoryState) (p : PortView) (n : ℕ) (o : Option Msg) → (take_of s p n o).flag ≡ false → take_of s p n o ≡ nothing s p
take_quiet s p n None f = refl
take_quiet s p n (Some m) f =
    let test = accepts s.base (length s.bytes) m && has_place s in
    where_false s p (taken s p m n) test (where_failed s p (taken s p m n) test refl f)

-- what is not served stays so while the room stays, below the timer
serve_later : (s : MemoryState) (p q : PortView) (n k : ℕ) (o : Option Waiting) → has_room p ≡ has_room q → IsBelow k (deadline_of o n) → (serve_of s p n o).flag ≡ false → (serve_of s q k o).flag ≡ false
serve_later s p q n k None r b f = refl
serve_later s p q n k (Some w) r b f =
    let failed = where_failed s p (served s p w.request) (nat_le w.deadline n && has_room p) refl f in
    ap (λ (a : Act MemoryState). a.flag) (where_false s q (served s q w.request) (nat_le w.deadline k && has_room q) (by_test (nat_le w.deadline n) refl failed))
  where
    by_test : (a : Bool) → nat_le w.deadline n ≡ a → (a && has_room p) ≡ false → (nat_le w.deadline k && has_room q) ≡ false
    by_test false e g = and_left (nat_le w.deadline k) (has_room q) (not_yet w.deadline n k e b)
    by_test true e g = no_room (nat_le w.deadline k) (has_room q) (sym r ∙ g)
      where
        no_room : (x y : Bool) → y ≡ false → (x && y) ≡ false
        no_room true y h = h
        no_room false y h = refl

-- what is not taken stays so while the head stays
take_later : (s : MemoryState) (p q : PortView) (n k : ℕ) (o : Option Msg) → (take_of s p n o).flag ≡ false → (take_of s q k o).flag ≡ false
take_later s p q n k None f = refl
take_later s p q n k (Some m) f =
    let test = accepts s.base (length s.bytes) m && has_place s in
    ap (λ (a : Act MemoryState). a.flag) (where_false s q (taken s q m k) test (where_failed s p (taken s p m n) test refl f))

both_quiet : (s : MemoryState) (p : PortView) (n : ℕ) → (then_rule (take_request n) (serve s p n)).flag ≡ false → then_rule (take_request n) (serve s p n) ≡ nothing s p
both_quiet s p n f =
    let e = serve_quiet s p n (slice_get s.queue 0) (or_left (serve s p n).flag _ f) in
    let g : (take_request n s p).flag ≡ false = sym (then_flag (take_request n) s p (serve s p n) e) ∙ f in
    then_nothing (take_request n) s p (serve s p n) e (take_quiet s p n (head_of p) g)

both_later : (s : MemoryState) (p q : PortView) (n k : ℕ) → has_room p ≡ has_room q → head_of p ≡ head_of q → IsBelow k (deadline_of (slice_get s.queue 0) n) → (then_rule (take_request n) (serve s p n)).flag ≡ false → (then_rule (take_request k) (serve s q k)).flag ≡ false
both_later s p q n k r h b f =
    let left = or_left (serve s p n).flag _ f in
    let at_p = serve_quiet s p n (slice_get s.queue 0) left in
    let at_q = serve_quiet s q k (slice_get s.queue 0) (serve_later s p q n k (slice_get s.queue 0) r b left) in
    let right : (take_request n s p).flag ≡ false = sym (then_flag (take_request n) s p (serve s p n) at_p) ∙ f in
    then_flag (take_request k) s q (serve s q k) at_q ∙ ap (λ o. (take_of s q k o).flag) (sym h) ∙ take_later s p q n k (head_of p) right

pub memory_quiet : (s : MemoryState) (ports : List PortView) (n : ℕ) → IsMemory s → length ports ≡ 1 → (memory.step s ports n).flag ≡ false → Quiet MemoryState memory s ports n
memory_quiet s [] n v e f = absurd (omega arith)
memory_quiet s (p ∷ ps) n v e f =
    let b = both_quiet s p n f in
    record { state = ap (λ (a : Act MemoryState). a.state) b; ports = ap (λ (a : Act MemoryState). a.port ∷ ps) b; records = ap (λ (a : Act MemoryState). a.records) b; later = later }
  where
    later : (others : List PortView) (k : ℕ) → SameFaces true (p ∷ ps) others → n < k → IsBelow k (deadline_of (slice_get s.queue 0) n) → (memory.step s others k).flag ≡ false
    later [] k h l b = absurd h
    later (q ∷ qs) k h l b = both_later s p q n k h.0.1 h.0.0 b f

pub memory_due_later : (s : MemoryState) (n t : ℕ) → IsMemory s → memory.due s n ≡ Some t → (n < t) × (t * s.period < 2 ^ 50)
memory_due_later s n t v e = by_head (slice_get s.queue 0) refl e
  where
    by_head : (o : Option Waiting) → slice_get s.queue 0 ≡ o → deadline_of o n ≡ Some t → (n < t) × (t * s.period < 2 ^ 50)
    by_head None h f = absurd (cc)
    by_head (Some w) h f =
        let timer = above_later w.deadline n t f in
        let first = first_waits (IsWaiting s.base (length s.bytes) s.period) s.queue w h v.waiting in
        (timer.0, subst (λ u. u * s.period < 2 ^ 50) (sym timer.1) (time_early w.deadline s.period first.early v.period_short))

pub memory_due_steady : (s : MemoryState) (n k : ℕ) → IsMemory s → n ≤ k → ((t : ℕ) → memory.due s n ≡ Some t → k < t) → memory.due s k ≡ memory.due s n
memory_due_steady s n k v l h = by_head (slice_get s.queue 0) h
  where
    by_head : (o : Option Waiting) → ((t : ℕ) → deadline_of o n ≡ Some t → k < t) → deadline_of o k ≡ deadline_of o n
    by_head None g = refl
    by_head (Some w) g = above_steady w.deadline n k l g

pub memory_period_within : (s : MemoryState) → IsMemory s → (0 < s.period) × (s.period ≤ LONGEST_PERIOD)
memory_period_within s v = (v.period_some, v.period_short)
