-- What each step of an agent keeps, and the quiet law.
use Rattle.std.specs.Prelude.{◌≡◌, ℕ, ◌+◌, ◌-◌, ◌*◌, ◌^◌, ◌<◌, ◌≤◌, ◌&&◌, List, [], ◌∷◌, length, Option, Some, None, Bool, true, false, nat_lt, nat_le, refl}
use Rattle.std.proofs.Common.{sym, ◌∙◌, ap, subst, arith}
use Rattle.std.proofs.lemmas.Bool.{and_parts, ltb-true}
use Rattle.std.proofs.lemmas.Bool.Decides.{nat_tests}
use Rattle.sim_base.specs.declared.time.TheConstants.{LATEST_TICK, LONGEST_PERIOD}
use Rattle.port_msg.specs.PortView.{PortView}
use Rattle.port_msg.specs.declared.message.Msg.{Msg}
use Rattle.sim_base.specs.declared.numbers.PortNo.{PortNo}
use Rattle.tick_law.specs.Frame.{AllPorts, Framed}
use Rattle.tick_law.specs.Face.{SameFaces}
use Rattle.tick_law.specs.Quiet.{Quiet, IsBelow}
use Rattle.tick_law.specs.FrameLaws.{frames_same}
use Rattle.tick_law.specs.OnePort.{Act, nothing, then_rule, head_of, has_room}
use Rattle.tick_law.specs.OnePortLaws.{Stays, stays_same, stays_trans, Kept, kept_nothing, kept_where, kept_then, where_failed, where_false, then_nothing, then_flag, or_left, taken_framed, taken_ok, sent_framed, sent_ok}
use Rattle.tick_law.specs.TimerLaws.{above_later, above_steady, not_yet, set_early, time_early}
use Rattle.traffic_parts.specs.Agent.{AgentState, IsAgent, is_answer, answer_taken, answer_of, take_answer, request, is_open, is_ready, drawn, target, request_sent, request_where, send_request, next_of, agent}

-- the period stays, and a state that an agent can be in leads to one
abbrev Keeps : ℕ → AgentState → AgentState → Type 0
Keeps n = Stays (λ (s : AgentState). s.period) IsAgent n

-- one more is answered
pub one_answered : (s : AgentState) (total : ℕ) → IsAgent s → s.answered < s.issued → IsAgent (record s { answered = s.answered + 1; total = total })
one_answered s total v l = record { period_some = v.period_some; period_short = v.period_short; span_some = v.span_some; within_addresses = v.within_addresses; count_most = v.count_most; gap_short = v.gap_short; answered_issued = omega (arith, l); issued_few = v.issued_few; early = v.early }

-- one more is issued
pub one_issued : (s : AgentState) (n value : ℕ) → IsAgent s → n * s.period ≤ LATEST_TICK → s.issued < s.count → IsAgent (record s { issued = s.issued + 1; next = n + s.gap; value = value })
one_issued s n value v b l = record { period_some = v.period_some; period_short = v.period_short; span_some = v.span_some; within_addresses = v.within_addresses; count_most = v.count_most; gap_short = v.gap_short; answered_issued = omega (arith, v.answered_issued); issued_few = omega (arith, l); early = set_early n s.gap s.period b v.gap_short }

kept_answer_of : (n : ℕ) (s : AgentState) (p : PortView) (o : Option Msg) → Kept (Keeps n) 1 s p (answer_of s p o)
kept_answer_of n s p None = kept_nothing (Keeps n) 1 s p (stays_same n s)
kept_answer_of n s p (Some m) =
    let test = nat_lt s.answered s.issued && is_answer m.kind m.len in
    kept_where (Keeps n) 1 s p (answer_taken s p m) test (stays_same n s) (λ h. record {
      framed = taken_framed p;
      port_ok = taken_ok p;
      few = omega arith;
      state = record { period_is = refl; valid_is = λ v b. one_answered s _ v (ltb-true s.answered s.issued (and_parts (nat_lt s.answered s.issued) (is_answer m.kind m.len) h).0) };
    })

-- who is ready has requests left
pub ready_issued : (s : AgentState) (n : ℕ) → is_ready s n ≡ true → s.issued < s.count
ready_issued s n e = ltb-true s.issued s.count (and_parts (nat_lt s.issued s.count) (nat_lt (s.issued - s.answered) s.window) (and_parts (is_open s) (nat_le s.next n) e).0).0

kept_request_where : (n : ℕ) (s : AgentState) (p : PortView) (b : Bool) (o : Option PortNo) → is_ready s n ≡ b → Kept (Keeps n) 1 s p (request_where s p n b o)
kept_request_where n s p false o e = kept_nothing (Keeps n) 1 s p (stays_same n s)
kept_request_where n s p true None e = kept_nothing (Keeps n) 1 s p (stays_same n s)
kept_request_where n s p true (Some dst) e =
    kept_where (Keeps n) 1 s p (request_sent s p n dst) (has_room p) (stays_same n s) (λ h. record {
      framed = sent_framed p (request s (drawn s) dst);
      port_ok = sent_ok p (request s (drawn s) dst) h;
      few = omega arith;
      state = record { period_is = refl; valid_is = λ v b. one_issued s n (drawn s) v b (ready_issued s n e) };
    })

-- what both rules keep
kept_both : (n : ℕ) (s : AgentState) (p : PortView) → Kept (Keeps n) 2 s p (then_rule (send_request n) (take_answer s p))
kept_both n s p =
    let a = take_answer s p in
    let t = a.state in
    kept_then (Keeps n) (send_request n) 1 1 s p a (stays_trans n) (kept_answer_of n s p (head_of p)) (kept_request_where n t a.port (is_ready t n) (target t) refl)

pub agent_framed : (s : AgentState) (ports : List PortView) (n : ℕ) → IsAgent s → AllPorts ports → length ports ≡ 1 → Framed AgentState agent s ports n
agent_framed s [] n v o e = absurd (omega arith)
agent_framed s (p ∷ ps) n v o e =
    let k = kept_both n s p in
    record { period = k.state.period_is; own = refl; ports = (k.framed, frames_same true ps); records = omega (arith, k.few) }

pub agent_stays : (s : AgentState) (ports : List PortView) (n : ℕ) → IsAgent s → AllPorts ports → length ports ≡ 1 → n * s.period ≤ LATEST_TICK → IsAgent (agent.step s ports n).state × AllPorts (agent.step s ports n).ports
agent_stays s [] n v o e b = (v, tt)
agent_stays s (p ∷ ps) n v o e b = let k = kept_both n s p in (k.state.valid_is v b, (k.port_ok o.0, o.1))

answer_quiet : (s : AgentState) (p : PortView) (o : Option Msg) → (answer_of s p o).flag ≡ false → answer_of s p o ≡ nothing s p
answer_quiet s p None f = refl
answer_quiet s p (Some m) f =
    let test = nat_lt s.answered s.issued && is_answer m.kind m.len in
    where_false s p (answer_taken s p m) test (where_failed s p (answer_taken s p m) test refl f)

request_quiet : (s : AgentState) (p : PortView) (n : ℕ) (b : Bool) (o : Option PortNo) → (request_where s p n b o).flag ≡ false → request_where s p n b o ≡ nothing s p
request_quiet s p n false o f = refl
request_quiet s p n true None f = refl
request_quiet s p n true (Some dst) f = where_false s p (request_sent s p n dst) (has_room p) (where_failed s p (request_sent s p n dst) (has_room p) refl f)

-- what is not taken stays so while the head stays
answer_later : (s : AgentState) (p q : PortView) (o : Option Msg) → (answer_of s p o).flag ≡ false → (answer_of s q o).flag ≡ false
answer_later s p q None f = refl
answer_later s p q (Some m) f =
    let test = nat_lt s.answered s.issued && is_answer m.kind m.len in
    ap (λ (a : Act AgentState). a.flag) (where_false s q (answer_taken s q m) test (where_failed s p (answer_taken s p m) test refl f))

-- who is not ready stays so below the timer
ready_later : (s : AgentState) (n k : ℕ) (b : Bool) → is_open s ≡ b → IsBelow k (next_of s n b) → (b && nat_le s.next n) ≡ false → (b && nat_le s.next k) ≡ false
ready_later s n k false e h f = refl
ready_later s n k true e h f = not_yet s.next n k f h

-- what is not sent stays so while the room stays, below the timer
request_later : (s : AgentState) (p q : PortView) (n k : ℕ) (o : Option PortNo) → has_room p ≡ has_room q → IsBelow k (next_of s n (is_open s)) → (request_where s p n (is_ready s n) o).flag ≡ false → (request_where s q k (is_ready s k) o).flag ≡ false
request_later s p q n k o r h f = by_test (is_ready s n) refl f
  where
    no_target : (c : Bool) → (request_where s q k c None).flag ≡ false
    no_target false = refl
    no_target true = refl

    no_room : (c : Bool) (dst : PortNo) → has_room q ≡ false → (request_where s q k c (Some dst)).flag ≡ false
    no_room false dst e = refl
    no_room true dst e = ap (λ (a : Act AgentState). a.flag) (where_false s q (request_sent s q k dst) (has_room q) e)

    full : (o : Option PortNo) → (request_where s p n true o).flag ≡ false → (request_where s q k (is_ready s k) o).flag ≡ false
    full None g = no_target (is_ready s k)
    full (Some dst) g = no_room (is_ready s k) dst (sym r ∙ where_failed s p (request_sent s p n dst) (has_room p) refl g)

    by_test : (b : Bool) → is_ready s n ≡ b → (request_where s p n b o).flag ≡ false → (request_where s q k (is_ready s k) o).flag ≡ false
    by_test false e g = ap (λ c. (request_where s q k c o).flag) (ready_later s n k (is_open s) refl h e)
    by_test true e g = full o g

both_quiet : (s : AgentState) (p : PortView) (n : ℕ) → (then_rule (send_request n) (take_answer s p)).flag ≡ false → then_rule (send_request n) (take_answer s p) ≡ nothing s p
both_quiet s p n f =
    let e = answer_quiet s p (head_of p) (or_left (take_answer s p).flag _ f) in
    let g : (send_request n s p).flag ≡ false = sym (then_flag (send_request n) s p (take_answer s p) e) ∙ f in
    then_nothing (send_request n) s p (take_answer s p) e (request_quiet s p n (is_ready s n) (target s) g)

both_later : (s : AgentState) (p q : PortView) (n k : ℕ) → has_room p ≡ has_room q → head_of p ≡ head_of q → IsBelow k (next_of s n (is_open s)) → (then_rule (send_request n) (take_answer s p)).flag ≡ false → (then_rule (send_request k) (take_answer s q)).flag ≡ false
both_later s p q n k r h b f =
    let left = or_left (take_answer s p).flag _ f in
    let at_p = answer_quiet s p (head_of p) left in
    let left_q : (take_answer s q).flag ≡ false = ap (λ o. (answer_of s q o).flag) (sym h) ∙ answer_later s p q (head_of p) left in
    let at_q = answer_quiet s q (head_of q) left_q in
    let right : (send_request n s p).flag ≡ false = sym (then_flag (send_request n) s p (take_answer s p) at_p) ∙ f in
    then_flag (send_request k) s q (take_answer s q) at_q ∙ request_later s p q n k (target s) r b right

pub agent_quiet : (s : AgentState) (ports : List PortView) (n : ℕ) → IsAgent s → length ports ≡ 1 → (agent.step s ports n).flag ≡ false → Quiet AgentState agent s ports n
agent_quiet s [] n v e f = absurd (omega arith)
agent_quiet s (p ∷ ps) n v e f =
    let b = both_quiet s p n f in
    record { state = ap (λ (a : Act AgentState). a.state) b; ports = ap (λ (a : Act AgentState). a.port ∷ ps) b; records = ap (λ (a : Act AgentState). a.records) b; later = later }
  where
    later : (others : List PortView) (k : ℕ) → SameFaces true (p ∷ ps) others → n < k → IsBelow k (next_of s n (is_open s)) → (agent.step s others k).flag ≡ false
    later [] k h l b = absurd h
    later (q ∷ qs) k h l b = both_later s p q n k h.0.1 h.0.0 b f

pub agent_due_later : (s : AgentState) (n t : ℕ) → IsAgent s → agent.due s n ≡ Some t → (n < t) × (t * s.period < 2 ^ 50)
agent_due_later s n t v e = by_test (is_open s) e
  where
    by_test : (b : Bool) → next_of s n b ≡ Some t → (n < t) × (t * s.period < 2 ^ 50)
    by_test false f = absurd (cc)
    by_test true f =
        let timer = above_later s.next n t f in
        (timer.0, subst (λ u. u * s.period < 2 ^ 50) (sym timer.1) (time_early s.next s.period v.early v.period_short))

pub agent_due_steady : (s : AgentState) (n k : ℕ) → IsAgent s → n ≤ k → ((t : ℕ) → agent.due s n ≡ Some t → k < t) → agent.due s k ≡ agent.due s n
agent_due_steady s n k v l h = by_test (is_open s) h
  where
    by_test : (b : Bool) → ((t : ℕ) → next_of s n b ≡ Some t → k < t) → next_of s k b ≡ next_of s n b
    by_test false g = refl
    by_test true g = above_steady s.next n k l g

pub agent_period_within : (s : AgentState) → IsAgent s → (0 < s.period) × (s.period ≤ LONGEST_PERIOD)
agent_period_within s v = (v.period_some, v.period_short)
