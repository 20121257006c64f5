-- What each step of a core keeps, and the quiet law.
use Rattle.std.specs.Prelude.{◌≡◌, ℕ, ◌+◌, ◌*◌, ◌%◌, ◌==◌, ◌<◌, ◌≤◌, List, [], ◌∷◌, length, Option, Some, None, Bool, true, false, nat_lt, slice_get, refl}
use Rattle.std.specs.Int.{w32, from_le_bytes}
use Rattle.std.proofs.Common.{sym, ◌∙◌, ap, subst, arith}
use Rattle.std.proofs.lemmas.Bool.Decides.{nat_tests}
use Rattle.port_msg.specs.PortView.{PortView}
use Rattle.port_msg.specs.declared.message.Msg.{Msg}
use Rattle.port_msg.specs.declared.records.Cause.{Cause}
use Rattle.sim_base.specs.declared.numbers.PortNo.{PortNo}
use Rattle.addr_map.specs.Range.{target_at}
use Rattle.rv_isa.specs.declared.effect.Effect.{Effect}
use Rattle.rv_isa.specs.declared.effect.Effect.TheVariants.{Go, Load as LoadEffect, Store as StoreEffect, Fence, Call, Break, BadTarget}
use Rattle.rv_isa.specs.Effect.{word_effect}
use Rattle.rv_isa.specs.EffectLaws.{IsEffect, word_effect_is}
use Rattle.rv_isa.specs.Regs.{register}
use Rattle.tick_law.specs.Machine.{Outcome}
use Rattle.tick_law.specs.Frame.{AllPorts, Frames, Framed}
use Rattle.tick_law.specs.Face.{SameFaces}
use Rattle.tick_law.specs.Quiet.{Quiet, IsBelow}
use Rattle.tick_law.specs.FrameLaws.{port_same}
use Rattle.tick_law.specs.OnePort.{Act, nothing, head_of, has_room}
use Rattle.tick_law.specs.OnePortLaws.{Kept, kept_nothing, kept_where, where_failed, where_false, taken_framed, taken_ok, sent_framed, sent_ok}
use Rattle.rv_core.specs.declared.access.Access.{Access}
use Rattle.rv_core.specs.declared.access.Deed.{Deed}
use Rattle.rv_core.specs.declared.access.Deed.TheVariants.{Load, Store}
use Rattle.rv_core.specs.declared.stage.Stage.{Stage}
use Rattle.rv_core.specs.declared.stage.Stage.TheVariants.{Fetch, WaitInst, Mem, WaitData, Flush, WaitFlush, Halted}
use Rattle.rv_core.specs.Core.{CoreState, Change, IsCore, IsStage, IsAccess, became, halt, acted, took, sent, send, fetch_to, fetch_where, fetch, access_to, access_where, flush_where, flush_from, other_call, call_where, obey, obey_if, run, is_read_answer, is_flush_answer, is_answer, read_request, access_request, flush_request, taking, take_inst, send_access, end_access, take_answer, flush_to, send_flush, take_flushed, at_place, step_in, core}

-- the period stays, and a state that a core can be in leads to one
record Stays (s t : CoreState) : Type 0 where
  period : t.period ≡ s.period
  valid : IsCore s → IsCore t

stays_same : (s : CoreState) → Stays s s
stays_same s = record { period = refl; valid = λ v. v }

-- another state with the same period and caches, in a phase that it can be in
at_stage : (s t : CoreState) → t.period ≡ s.period → (IsCore s → IsStage t.caches t.stage) → Stays s t
at_stage s t e f = record { period = e; valid = λ v. record { period_some = rw e v.period_some; period_short = rw e v.period_short; stage = f v } }

-- a change keeps the state possible, and records at most one thing
record Proper (s : CoreState) (c : Change) : Type 0 where
  state : Stays s c.state
  few : length c.records ≤ 1

halted : (cause : Cause) (s : CoreState) → Proper s (halt cause s)
halted cause s = record { state = at_stage s _ refl (λ v. tt); few = omega arith }

proper_to : (access : Access) (o : Option PortNo) (s : CoreState) → IsAccess access → Proper s (access_to access o s)
proper_to access None s a = halted _ s
proper_to access (Some to) s a = record { state = at_stage s _ refl (λ v. a); few = omega arith }

proper_where : (access : Access) (b : Bool) (s : CoreState) → IsAccess access → Proper s (access_where access b s)
proper_where access false s a = halted _ s
proper_where access true s a = proper_to access (target_at s.data_map access.addr) s a

stays_flush : (cache : ℕ) (b : Bool) (s : CoreState) → nat_lt cache (length s.caches) ≡ b → Stays s (flush_where cache b s)
stays_flush cache true s e = at_stage s _ refl (λ v. grind (arith, nat_tests))
stays_flush cache false s e = at_stage s _ refl (λ v. tt)

proper_other : (b : Bool) (s : CoreState) → Proper s (other_call b s)
proper_other true s = record { state = at_stage s _ refl (λ v. tt); few = omega arith }
proper_other false s = halted _ s

proper_call : (b : Bool) (s : CoreState) → Proper s (call_where b s)
proper_call true s = record { state = at_stage s _ refl (λ v. tt); few = omega arith }
proper_call false s = proper_other (register s.regs 17 == 1) s

proper_obey : (e : Effect) (s : CoreState) → IsEffect e → Proper s (obey e s)
proper_obey (Go rd value next) s i = record { state = at_stage s _ refl (λ v. tt); few = omega arith }
proper_obey (LoadEffect rd bytes signed addr) s i =
    let access : Access = record { addr = addr; bytes = bytes; deed = Load rd signed } in
    proper_where access (addr % bytes == 0) s (record { width = i.width; deed = i.register })
proper_obey (StoreEffect bytes addr value) s i =
    let access : Access = record { addr = addr; bytes = bytes; deed = Store value } in
    proper_where access (addr % bytes == 0) s (record { width = i.width; deed = tt })
proper_obey Fence s i = record { state = stays_flush 0 _ s refl; few = omega arith }
proper_obey Call s i = proper_call (register s.regs 17 == 93) s
proper_obey Break s i = halted _ s
proper_obey BadTarget s i = halted _ s

proper_run : (word : ℕ) (s : CoreState) → Proper s (run word s)
proper_run word s = by_effect (word_effect s.regs s.pc word) refl
  where
    by_effect : (o : Option Effect) → word_effect s.regs s.pc word ≡ o → Proper s (obey_if o s)
    by_effect None e = halted _ s
    by_effect (Some effect) e = proper_obey effect s (word_effect_is s.regs s.pc word effect e)

-- what a rule keeps at its port
abbrev Keeps : CoreState → PortView → Act CoreState → Type 0
Keeps s p a = Kept Stays 2 s p a

keeps_acted : (s : CoreState) (p : PortView) (c : Change) → Proper s c → Keeps s p (acted c p)
keeps_acted s p c k = record { framed = port_same true p; port_ok = λ o. o; few = omega (arith, k.few); state = k.state }

keeps_took : (s : CoreState) (p : PortView) (m : Msg) (c : Change) → Proper s c → Keeps s p (took m c p)
keeps_took s p m c k = record { framed = taken_framed p; port_ok = taken_ok p; few = omega (arith, k.few); state = k.state }

keeps_send : (m : Msg) (stage : Stage) (s : CoreState) (p : PortView) → (IsCore s → IsStage s.caches stage) → Keeps s p (send m stage s p)
keeps_send m stage s p f = kept_where Stays 2 s p (sent m stage s p) (has_room p) (stays_same s) (λ r. record { framed = sent_framed p m; port_ok = sent_ok p m r; few = omega arith; state = at_stage s _ refl f })

keeps_taking : (test : Msg → Bool) (change : Msg → Change) (o : Option Msg) (s : CoreState) (p : PortView) → ((m : Msg) → Proper s (change m)) → Keeps s p (taking test change o s p)
keeps_taking test change None s p k = kept_nothing Stays 2 s p (stays_same s)
keeps_taking test change (Some m) s p k = kept_where Stays 2 s p (took m (change m) p) (test m) (stays_same s) (λ _. keeps_took s p m (change m) (k m))

keeps_fetch_to : (o : Option PortNo) (s : CoreState) (p : PortView) → Keeps s p (fetch_to o s p)
keeps_fetch_to None s p = keeps_acted s p _ (halted _ s)
keeps_fetch_to (Some to) s p = keeps_send (read_request s s.inst_port to s.pc 4) WaitInst s p (λ v. tt)

keeps_fetch : (b : Bool) (s : CoreState) (p : PortView) → Keeps s p (fetch_where b s p)
keeps_fetch false s p = keeps_acted s p _ (halted _ s)
keeps_fetch true s p = keeps_fetch_to (target_at s.inst_map s.pc) s p

keeps_inst : (s : CoreState) (p : PortView) → Keeps s p (take_inst s p)
keeps_inst s p = keeps_taking (λ m. is_read_answer 4 m.kind m.len) (λ m. run (from_le_bytes w32 m.bytes) s) (head_of p) s p (λ m. proper_run (from_le_bytes w32 m.bytes) s)

stays_end : (bytes : ℕ) (deed : Deed) (word : ℕ) (s : CoreState) → Stays s (end_access bytes deed word s)
stays_end bytes (Load rd signed) word s = at_stage s _ refl (λ v. tt)
stays_end bytes (Store value) word s = at_stage s _ refl (λ v. tt)

keeps_answer : (access : Access) (s : CoreState) (p : PortView) → Keeps s p (take_answer access s p)
keeps_answer access s p = keeps_taking (λ m. is_answer access.deed access.bytes m.kind m.len) (λ m. became (end_access access.bytes access.deed (from_le_bytes w32 m.bytes) s)) (head_of p) s p (λ m. record { state = stays_end access.bytes access.deed (from_le_bytes w32 m.bytes) s; few = omega arith })

keeps_flush : (cache : ℕ) (o : Option PortNo) (s : CoreState) (p : PortView) → (IsCore s → cache < length s.caches) → Keeps s p (flush_to cache o s p)
keeps_flush cache None s p f = kept_nothing Stays 2 s p (stays_same s)
keeps_flush cache (Some to) s p f = keeps_send (flush_request s to) (WaitFlush cache) s p f

keeps_flushed : (cache : ℕ) (s : CoreState) (p : PortView) → Keeps s p (take_flushed cache s p)
keeps_flushed cache s p = keeps_taking (λ m. is_flush_answer m.kind m.len) (λ m. became (flush_from (cache + 1) s)) (head_of p) s p (λ m. record { state = stays_flush (cache + 1) _ s refl; few = omega arith })

-- what a step keeps
record Whole (s : CoreState) (ports : List PortView) (o : Outcome CoreState) : Type 0 where
  framed : Frames true ports o.ports
  ports_ok : AllPorts ports → AllPorts o.ports
  few : length o.records ≤ 2
  state : Stays s o.state

whole_first : (s : CoreState) (p q : PortView) (rule : CoreState → PortView → Act CoreState) → Keeps s p (rule s p) → Whole s (p ∷ q ∷ []) (at_place 0 rule s (p ∷ q ∷ []))
whole_first s p q rule k = record { framed = (k.framed, (port_same true q, tt)); ports_ok = λ o. (k.port_ok o.0, o.1); few = k.few; state = k.state }

whole_second : (s : CoreState) (p q : PortView) (rule : CoreState → PortView → Act CoreState) → Keeps s q (rule s q) → Whole s (p ∷ q ∷ []) (at_place 1 rule s (p ∷ q ∷ []))
whole_second s p q rule k = record { framed = (port_same true p, (k.framed, tt)); ports_ok = λ o. (o.0, (k.port_ok o.1.0, tt)); few = k.few; state = k.state }

whole_step : (stage : Stage) (s : CoreState) (p q : PortView) → s.stage ≡ stage → Whole s (p ∷ q ∷ []) (step_in stage s (p ∷ q ∷ []))
whole_step Fetch s p q e = whole_first s p q fetch (keeps_fetch (s.pc % 4 == 0) s p)
whole_step WaitInst s p q e = whole_first s p q take_inst (keeps_inst s p)
whole_step (Mem to access) s p q e = whole_second s p q (send_access to access) (keeps_send (access_request s to access) (WaitData access) s q (λ v. subst (IsStage s.caches) e v.stage))
whole_step (WaitData access) s p q e = whole_second s p q (take_answer access) (keeps_answer access s q)
whole_step (Flush cache) s p q e = whole_second s p q (send_flush cache) (keeps_flush cache (slice_get s.caches cache) s q (λ v. subst (IsStage s.caches) e v.stage))
whole_step (WaitFlush cache) s p q e = whole_second s p q (take_flushed cache) (keeps_flushed cache s q)
whole_step (Halted cause) s p q e = record { framed = (port_same true p, (port_same true q, tt)); ports_ok = λ o. o; few = omega arith; state = stays_same s }

whole : (s : CoreState) (ports : List PortView) → length ports ≡ 2 → Whole s ports (step_in s.stage s ports)
whole s [] e = absurd (omega arith)
whole s (p ∷ []) e = absurd (omega arith)
whole s (p ∷ q ∷ []) e = whole_step s.stage s p q refl
whole s (p ∷ q ∷ r ∷ more) e = absurd (omega arith)

pub core_framed : (s : CoreState) (ports : List PortView) (n : ℕ) → IsCore s → AllPorts ports → length ports ≡ 2 → Framed CoreState core s ports n
core_framed s ports n v o e =
    let w = whole s ports e in
    record { period = w.state.period; own = refl; ports = w.framed; records = omega (arith, w.few) }

pub core_stays : (s : CoreState) (ports : List PortView) (n : ℕ) → IsCore s → AllPorts ports → length ports ≡ 2 → n * s.period ≤ 501000000000 → IsCore (core.step s ports n).state × AllPorts (core.step s ports n).ports
core_stays s ports n v o e b = let w = whole s ports e in (w.state.valid v, w.ports_ok o)

-- a rule without the flag did nothing, and has none at a port with the same face
record Waits (s : CoreState) (p : PortView) (rule : PortView → Act CoreState) : Type 0 where
  still : rule p ≡ nothing s p
  later : (q : PortView) → head_of p ≡ head_of q → has_room p ≡ has_room q → (rule q).flag ≡ false

quiet_send : (m : Msg) (stage : Stage) (s : CoreState) (p : PortView) → (send m stage s p).flag ≡ false → Waits s p (send m stage s)
quiet_send m stage s p f =
    let full = where_failed s p (sent m stage s p) (has_room p) refl f in
    record {
      still = where_false s p (sent m stage s p) (has_room p) full;
      later = λ q h r. ap (λ (a : Act CoreState). a.flag) (where_false s q (sent m stage s q) (has_room q) (sym r ∙ full));
    }

quiet_fetch_to : (o : Option PortNo) (s : CoreState) (p : PortView) → (fetch_to o s p).flag ≡ false → Waits s p (fetch_to o s)
quiet_fetch_to None s p f = absurd (cc)
quiet_fetch_to (Some to) s p f = quiet_send (read_request s s.inst_port to s.pc 4) WaitInst s p f

quiet_fetch : (b : Bool) (s : CoreState) (p : PortView) → (fetch_where b s p).flag ≡ false → Waits s p (fetch_where b s)
quiet_fetch false s p f = absurd (cc)
quiet_fetch true s p f = quiet_fetch_to (target_at s.inst_map s.pc) s p f

quiet_flush : (cache : ℕ) (o : Option PortNo) (s : CoreState) (p : PortView) → (flush_to cache o s p).flag ≡ false → Waits s p (flush_to cache o s)
quiet_flush cache None s p f = record { still = refl; later = λ q h r. refl }
quiet_flush cache (Some to) s p f = quiet_send (flush_request s to) (WaitFlush cache) s p f

quiet_at : (test : Msg → Bool) (change : Msg → Change) (o : Option Msg) (s : CoreState) (p : PortView) → (taking test change o s p).flag ≡ false → Waits s p (taking test change o s)
quiet_at test change None s p f = record { still = refl; later = λ q h r. refl }
quiet_at test change (Some m) s p f =
    let failed = where_failed s p (took m (change m) p) (test m) refl f in
    record {
      still = where_false s p (took m (change m) p) (test m) failed;
      later = λ q h r. ap (λ (a : Act CoreState). a.flag) (where_false s q (took m (change m) q) (test m) failed);
    }

-- what was at the head is there still
quiet_taking : (test : Msg → Bool) (change : Msg → Change) (s : CoreState) (p : PortView) → (taking test change (head_of p) s p).flag ≡ false → Waits s p (λ q. taking test change (head_of q) s q)
quiet_taking test change s p f =
    let w = quiet_at test change (head_of p) s p f in
    record {
      still = w.still;
      later = λ q h r. ap (λ o. (taking test change o s q).flag) (sym h) ∙ w.later q h r;
    }

-- a step without the flag, and what it says of later ones
record Rests (stage : Stage) (s : CoreState) (p q : PortView) : Type 0 where
  state : (step_in stage s (p ∷ q ∷ [])).state ≡ s
  ports : (step_in stage s (p ∷ q ∷ [])).ports ≡ p ∷ q ∷ []
  records : (step_in stage s (p ∷ q ∷ [])).records ≡ []
  later : (a b : PortView) → head_of p ≡ head_of a → has_room p ≡ has_room a → head_of q ≡ head_of b → has_room q ≡ has_room b → (step_in stage s (a ∷ b ∷ [])).flag ≡ false

rests_step : (stage : Stage) (s : CoreState) (p q : PortView) → (step_in stage s (p ∷ q ∷ [])).flag ≡ false → Rests stage s p q
rests_step Fetch s p q f =
    let w = quiet_fetch (s.pc % 4 == 0) s p f in
    record { state = ap (λ (a : Act CoreState). a.state) w.still; ports = ap (λ (a : Act CoreState). a.port ∷ q ∷ []) w.still; records = ap (λ (a : Act CoreState). a.records) w.still; later = λ a b h r i t. w.later a h r }
rests_step WaitInst s p q f =
    let w = quiet_taking (λ m. is_read_answer 4 m.kind m.len) (λ m. run (from_le_bytes w32 m.bytes) s) s p f in
    record { state = ap (λ (a : Act CoreState). a.state) w.still; ports = ap (λ (a : Act CoreState). a.port ∷ q ∷ []) w.still; records = ap (λ (a : Act CoreState). a.records) w.still; later = λ a b h r i t. w.later a h r }
rests_step (Mem to access) s p q f =
    let w = quiet_send (access_request s to access) (WaitData access) s q f in
    record { state = ap (λ (a : Act CoreState). a.state) w.still; ports = ap (λ (a : Act CoreState). p ∷ a.port ∷ []) w.still; records = ap (λ (a : Act CoreState). a.records) w.still; later = λ a b h r i t. w.later b i t }
rests_step (WaitData access) s p q f =
    let w = quiet_taking (λ m. is_answer access.deed access.bytes m.kind m.len) (λ m. became (end_access access.bytes access.deed (from_le_bytes w32 m.bytes) s)) s q f in
    record { state = ap (λ (a : Act CoreState). a.state) w.still; ports = ap (λ (a : Act CoreState). p ∷ a.port ∷ []) w.still; records = ap (λ (a : Act CoreState). a.records) w.still; later = λ a b h r i t. w.later b i t }
rests_step (Flush cache) s p q f =
    let w = quiet_flush cache (slice_get s.caches cache) s q f in
    record { state = ap (λ (a : Act CoreState). a.state) w.still; ports = ap (λ (a : Act CoreState). p ∷ a.port ∷ []) w.still; records = ap (λ (a : Act CoreState). a.records) w.still; later = λ a b h r i t. w.later b i t }
rests_step (WaitFlush cache) s p q f =
    let w = quiet_taking (λ m. is_flush_answer m.kind m.len) (λ m. became (flush_from (cache + 1) s)) s q f in
    record { state = ap (λ (a : Act CoreState). a.state) w.still; ports = ap (λ (a : Act CoreState). p ∷ a.port ∷ []) w.still; records = ap (λ (a : Act CoreState). a.records) w.still; later = λ a b h r i t. w.later b i t }
rests_step (Halted cause) s p q f = record { state = refl; ports = refl; records = refl; later = λ a b h r i t. refl }

pub core_quiet : (s : CoreState) (ports : List PortView) (n : ℕ) → IsCore s → length ports ≡ 2 → (core.step s ports n).flag ≡ false → Quiet CoreState core s ports n
core_quiet s [] n v e f = absurd (omega arith)
core_quiet s (p ∷ []) n v e f = absurd (omega arith)
core_quiet s (p ∷ q ∷ r ∷ more) n v e f = absurd (omega arith)
core_quiet s (p ∷ q ∷ []) n v e f =
    let w = rests_step s.stage s p q f in
    record { state = w.state; ports = w.ports; records = w.records; later = later w }
  where
    later : Rests s.stage s p q → (others : List PortView) (k : ℕ) → SameFaces true (p ∷ q ∷ []) others → n < k → IsBelow k None → (core.step s others k).flag ≡ false
    later w [] k h l b = absurd h
    later w (a ∷ []) k h l b = absurd h.1
    later w (a ∷ c ∷ d ∷ more) k h l b = absurd h.1.1
    later w (a ∷ c ∷ []) k h l b = w.later a c h.0.0 h.0.1 h.1.0.0 h.1.0.1
