-- Swaps: which steps are taken back, how many wait, and who goes out.
use Rattle.std.proofs.Common.{◌≡◌, ℕ, zero, suc, ◌+◌, ◌-◌, ◌*◌, ◌<◌, ◌≤◌, ◌⊎◌, inl, inr, List, [], ◌∷◌, ◌++◌, length, sym, ◌∙◌, ap, subst, arith}
use Rattle.std.specs.Prelude.{Option, Some, Bool, true, false, drop, min, slice_get, slice_set}
use Rattle.std.specs.Int.{div_ceil}
use Rattle.std.proofs.Math.Nat.{mul-le-mul_right, le-mul_of_pos_right}
use Rattle.std.proofs.lemmas.Bool.{cases_lt}
use Rattle.std.proofs.lemmas.Grind.{div_ceil_times}
use Rattle.std.proofs.lemmas.List.{length-append, length-set, get_or-set_same, get_or-set_other}
use Rattle.bit_set.specs.Bits.{is_in}
use Rattle.tick_law.specs.SerialLoop.{System, pick}
use Rattle.away_rows.proofs.SideLaws.{in_below}
use Rattle.hub_laws.specs.HubState.{HubState}
use Rattle.hub_laws.specs.declared.stage.Stage.{Stage}
use Rattle.hub_laws.specs.Events.{count_to, part_claimed, link_claimed, opened}
use Rattle.hub_floor.specs.declared.floor.Floor.{Floor}
use Rattle.hub_floor.specs.Floor.{hub_state}
use Rattle.hub_floor.proofs.AskedInTurn.{count_same}
use Rattle.run_hub.specs.declared.batch.TheConstants.{BATCH_ROOM}
use Rattle.run_hub.specs.declared.task.TaskName.{TaskName}
use Rattle.run_hub.specs.declared.claim.Claim.{Claim}
use Rattle.run_hub.specs.declared.claim.Claim.TheVariants.{Got, Wait, Over as IsOver}
use Rattle.run_hub.specs.declared.claim.Why.{Why}
use Rattle.run_hub.specs.declared.claim.Why.TheVariants.{Running, Paused, Held}
use Rattle.run_hub.specs.declared.swap.Swap.TheVariants.{Got as GotShare}
use Rattle.run_hub.specs.GoesOn.{TraceView}
use Rattle.run_hub.specs.Stands.{IsPass, StandsAt, Stands}
use Rattle.run_hub.specs.Finishes.{is_out}
use Rattle.run_hub.specs.Batch.{BatchView}
use Rattle.run_hub.specs.Claims.{count_in, Goes, OpensFor, Runs, ClaimsInPass, Claims}
use Rattle.run_hub.specs.Swaps.{OneFinish, AllFinish, AllGo, waiting_at, waiting, share_of, TakesMore, ShareGoes, OpensForShare, ShareClaims}
use Rattle.run_hub.proofs.ClaimLaws.{count_to_over}

some_is : {X : Type 0} (x y : X) → ◌≡◌ {A = Option X} (Some x) (Some y) → x ≡ y
some_is x y e = cc

-- a list by its first element
pub some_first : {X : Type 0} (xs : List X) (x : X) → slice_get xs 0 ≡ Some x → xs ≡ x ∷ drop 1 xs
some_first [] x e = absurd (cc)
some_first (y ∷ ys) x e = ap (λ z. z ∷ ys) (some_is y x e)

module _ {P N : Type 0} where
  -- the first step came back, and then the others
  pub finish_more : (r : System P N) (parts : ℕ) (old mid new : HubState) (trace between trace' : TraceView) (dones left : List TaskName) (done : TaskName) (strange rest : ℕ) → slice_get dones 0 ≡ Some done → left ≡ drop 1 dones →
      OneFinish r parts old mid trace between done → strange ≡ pick (is_out parts old done) 0 1 → AllFinish r parts mid new between trace' left rest → AllFinish r parts old new trace trace' dones (strange + rest)
  finish_more r parts old mid new trace between trace' dones left done strange rest first same one is all =
      subst (λ l. AllFinish r parts old new trace trace' l (strange + rest)) (sym (some_first dones done first))
      (mid, between, rest, one, subst (λ l. AllFinish r parts mid new between trace' l rest) same all, ap (λ n. n + rest) is)

-- more are counted up to a greater number
pub count_grows : (test : ℕ → Bool) (n k : ℕ) → count_to test n ≤ count_to test (n + k)
count_grows test n zero = (let z : count_to test (n + 0) ≡ count_to test n = ap (count_to test) (let y : n + 0 ≡ n = omega arith in y) in omega (arith, z))
count_grows test n (suc k) =
    let rest = count_grows test n k in
    let z : count_to test (n + suc k) ≡ count_to test (suc (n + k)) = ap (count_to test) (let y : n + suc k ≡ suc (n + k) = omega arith in y) in
    omega (arith, rest, z)

pub count_up : (test : ℕ → Bool) (n m : ℕ) → n ≤ m → count_to test n ≤ count_to test m
count_up test n m l =
    let grows = count_grows test n (m - n) in
    let z : count_to test (n + (m - n)) ≡ count_to test m = ap (count_to test) (let y : n + (m - n) ≡ m = omega (arith, l) in y) in
    omega (arith, grows, z)

-- one that is put out of a set counts no more
without_at : (xs : List Bool) (i n : ℕ) → i < length xs → is_in xs i ≡ true → i < suc n → (i < n → count_to (λ k. is_in xs k) n ≡ suc (count_to (λ k. is_in (slice_set xs i false) k) n)) → count_to (λ k. is_in xs k) (suc n) ≡ suc (count_to (λ k. is_in (slice_set xs i false) k) (suc n))
without_at xs i n l e b below = by (cases_lt i n)
  where
    by : (i < n) ⊎ (n ≤ i) → count_to (λ k. is_in xs k) (suc n) ≡ suc (count_to (λ k. is_in (slice_set xs i false) k) (suc n))
    by (inl m) =
        let rest = below m in
        let here : ◌≡◌ {A = ℕ} (pick (is_in (slice_set xs i false) n) 1 0) (pick (is_in xs n) 1 0) = ap (λ x. pick x 1 0) (get_or-set_other xs i n false false (omega (arith, m))) in
        omega (arith, rest, here)
    by (inr m) =
        let same : n ≡ i = omega (arith, m, b) in
        let rest : count_to (λ k. is_in xs k) n ≡ count_to (λ k. is_in (slice_set xs i false) k) n = count_same (λ k. is_in xs k) (λ k. is_in (slice_set xs i false) k) n (λ k z. sym (get_or-set_other xs i k false false (omega (arith, z, same)))) in
        let was : ◌≡◌ {A = ℕ} (pick (is_in xs n) 1 0) 1 = ap (λ x. pick x 1 0) (ap (is_in xs) same ∙ e) in
        let now : ◌≡◌ {A = ℕ} (pick (is_in (slice_set xs i false) n) 1 0) 0 = ap (λ x. pick x 1 0) (ap (is_in (slice_set xs i false)) same ∙ get_or-set_same xs i false false l) in
        omega (arith, rest, was, now)

count_without : (xs : List Bool) (i n : ℕ) → i < length xs → is_in xs i ≡ true → i < n → count_to (λ k. is_in xs k) n ≡ suc (count_to (λ k. is_in (slice_set xs i false) k) n)
count_without xs i zero l e b = absurd (omega (arith, b))
count_without xs i (suc n) l e b = without_at xs i n l e b (λ m. count_without xs i n l e m)

one_fewer : (xs : List Bool) (i : ℕ) → is_in xs i ≡ true → count_in xs ≡ suc (count_in (slice_set xs i false))
one_fewer xs i e =
    let l = in_below xs i e in
    count_without xs i (length xs) l e l ∙ ap (λ n. suc (count_to (λ k. is_in (slice_set xs i false) k) n)) (sym (length-set xs i false))

-- one that goes out waits no more
pub goes_waiting : (parts : ℕ) (old new : HubState) (name : TaskName) → Goes parts old name new → waiting old ≡ suc (waiting new)
goes_waiting parts old new name (inl goes) =
    let was : waiting old ≡ count_in old.part_marks.waiting = ap (λ (s : Stage). waiting_at s old) goes.stage in
    let now : waiting new ≡ count_in (slice_set old.part_marks.waiting name.actor.0 false) = ap waiting goes.event ∙ ap (λ (s : Stage). waiting_at s (part_claimed old name.actor.0)) goes.stage in
    was ∙ one_fewer old.part_marks.waiting name.actor.0 goes.first.waits ∙ ap suc (sym now)
goes_waiting parts old new name (inr goes) =
    let was : waiting old ≡ count_in old.link_marks.waiting = ap (λ (s : Stage). waiting_at s old) goes.stage in
    let now : waiting new ≡ count_in (slice_set old.link_marks.waiting goes.number false) = ap waiting goes.event ∙ ap (λ (s : Stage). waiting_at s (link_claimed old goes.number)) goes.stage in
    was ∙ one_fewer old.link_marks.waiting goes.number goes.first.waits ∙ ap suc (sym now)

-- of those who all run nobody waits
none_count : (flags : List Bool) → ((i : ℕ) → is_in flags i ≡ false) → count_in flags ≡ 0
none_count flags none = count_to_over flags 0 (length flags) (omega arith) (λ i a b. none i)

runs_none : (s : HubState) (n : ℕ) → Runs s n → 0 < waiting s → ⊥
runs_none s n (inl (stage, run)) l =
    (let z : waiting s ≡ 0 = ap (λ (x : Stage). waiting_at x s) stage ∙ none_count s.part_marks.waiting run.none_waits in omega (arith, l, z))
runs_none s n (inr (stage, run)) l =
    (let z : waiting s ≡ 0 = ap (λ (x : Stage). waiting_at x s) stage ∙ none_count s.link_marks.waiting run.none_waits in omega (arith, l, z))

module _ {P N C : Type 0} where
  -- where somebody waits, a claim in the pass that is open does not wait
  pub no_wait : (parts : ℕ) (old new : HubState) (answer : Claim P N C) (why : Why) → ClaimsInPass parts old new answer → answer ≡ Wait why → 0 < waiting old → ⊥
  no_wait parts old new (Got name) why goes is l = (let g : ◌≡◌ {A = Claim P N C} (Got name) (Wait why) = is in cc)
  no_wait parts old new (Wait (Running n)) why (runs, same) is l = runs_none old n runs l
  no_wait parts old new (Wait Paused) why goes is l = goes
  no_wait parts old new (Wait (Held w)) why goes is l = goes
  no_wait parts old new IsOver why goes is l = goes

  pub got_claims : (parts until : ℕ) (old new : HubState) (answer : Claim P N C) (name : TaskName) → Claims parts until old new answer → answer ≡ Got name → Goes parts old name new ⊎ OpensFor parts until old name new
  got_claims parts until old new answer name claims is = subst (Claims parts until old new) is claims

  pub got_goes : (parts : ℕ) (old new : HubState) (answer : Claim P N C) (name : TaskName) → ClaimsInPass parts old new answer → answer ≡ Got name → Goes parts old name new
  got_goes parts old new answer name claims is = subst (ClaimsInPass parts old new) is claims

module _ {P N : Type 0} where
  -- the pass is open still where one of it has gone out
  pub pass_goes : (r : System P N) (vp : P → Type 0) (vn : N → Type 0) (until parts : ℕ) (old : HubState) (new : Floor P N) (name : TaskName) → Goes parts old name (hub_state new) → Stands r vp vn until new → IsPass r vp vn until new
  pass_goes r vp vn until parts old new name (inl goes) stands = inl (subst (λ (s : Stage). StandsAt s r vp vn until new) (ap (λ (s : HubState). s.stage) goes.event ∙ goes.stage) stands)
  pass_goes r vp vn until parts old new name (inr goes) stands = inr (subst (λ (s : Stage). StandsAt s r vp vn until new) (ap (λ (s : HubState). s.stage) goes.event ∙ goes.stage) stands)

-- a task more is in the batch
pub put_long : (batch one : BatchView) (name : TaskName) → one ≡ record batch { tasks = batch.tasks ++ name ∷ [] } → length one.tasks + length one.dones ≡ suc (length batch.tasks + length batch.dones)
put_long batch one name put =
    let tasks : length one.tasks ≡ length (batch.tasks ++ name ∷ []) = ap (λ (b : BatchView). length b.tasks) put in
    let dones : length one.dones ≡ length batch.dones = ap (λ (b : BatchView). length b.dones) put in
    let more = length-append batch.tasks (name ∷ []) in
    omega (arith, tasks, dones, more)

-- a share is rounded up
share_full : (w k : ℕ) → 0 < k → BATCH_ROOM * k ≤ w → share_of w k ≡ BATCH_ROOM
share_full w k some l = by (cases_lt (div_ceil w k) BATCH_ROOM)
  where
    by : (div_ceil w k < BATCH_ROOM) ⊎ (BATCH_ROOM ≤ div_ceil w k) → share_of w k ≡ BATCH_ROOM
    by (inl less) =
        let times = (div_ceil_times w k some).0 in
        let fewer : (div_ceil w k + 1) * k ≤ BATCH_ROOM * k = mul-le-mul_right k (omega (arith, less)) in
        let apart : (div_ceil w k + 1) * k ≡ div_ceil w k * k + k = grind arith in
        absurd (omega (arith, times, fewer, apart, some, l))
    by (inr more) = omega (arith, more)

-- the share of one who goes out already, of whom no more are counted than make a full batch for each
pub record ShareIs (w k share : ℕ) : Type 0 where
  pub whole : share ≡ share_of (w + 1) k
  pub some : 0 < share
  pub room : share ≤ BATCH_ROOM
  pub enough : share ≤ w + 1

ceil_some : (w k : ℕ) → 0 < k → 0 < w → 0 < div_ceil w k
ceil_some w k some l = by (cases_lt 0 (div_ceil w k))
  where
    by : (0 < div_ceil w k) ⊎ (div_ceil w k ≤ 0) → 0 < div_ceil w k
    by (inl is) = is
    by (inr none) =
        let times = (div_ceil_times w k some).0 in
        let less : div_ceil w k * k ≤ 0 * k = mul-le-mul_right k none in
        let z : 0 * k ≡ 0 = grind arith in
        absurd (omega (arith, times, less, z, l))

ceil_few : (w k : ℕ) → 0 < k → div_ceil w k ≤ w
ceil_few w k some = by (cases_lt w (div_ceil w k))
  where
    by : (w < div_ceil w k) ⊎ (div_ceil w k ≤ w) → div_ceil w k ≤ w
    by (inr is) = is
    by (inl more) =
        let times = (div_ceil_times w k some).1 in
        let grown : (w + 1) * k ≤ div_ceil w k * k = mul-le-mul_right k (omega (arith, more)) in
        let apart : (w + 1) * k ≡ w * k + k = grind arith in
        let base : w ≤ w * k = le-mul_of_pos_right w some in
        absurd (omega (arith, times, grown, apart, base))

pub share_is : (w k count share : ℕ) → 0 < k → count ≡ min (BATCH_ROOM * k - 1) w → share ≡ share_of (count + 1) k → ShareIs w k share
share_is w k count share some counted is =
    let all : share ≡ share_of (w + 1) k = is ∙ whole (cases_lt w (BATCH_ROOM * k)) in
    let a = ceil_some (w + 1) k some (omega arith) in
    let b = ceil_few (w + 1) k some in
    record { whole = all; some = omega (arith, all, a); room = omega (arith, all); enough = omega (arith, all, b) }
  where
    whole : (w < BATCH_ROOM * k) ⊎ (BATCH_ROOM * k ≤ w) → share_of (count + 1) k ≡ share_of (w + 1) k
    whole (inl less) = ap (λ n. share_of (n + 1) k) (let z : count ≡ w = omega (arith, counted, less) in z)
    whole (inr more) =
        let base : BATCH_ROOM ≤ BATCH_ROOM * k = le-mul_of_pos_right BATCH_ROOM some in
        share_full (count + 1) k some (omega (arith, counted, more, base)) ∙ sym (share_full (w + 1) k some (omega (arith, more)))

-- a share goes out
pub share_goes : (parts until workers : ℕ) (old mid new : HubState) (name : TaskName) (batch one batch' : BatchView) (share : ℕ) → batch.tasks ≡ [] → one ≡ record batch { tasks = batch.tasks ++ name ∷ [] } → Goes parts old name mid ⊎ OpensFor parts until old name mid → TakesMore parts mid new one batch' (share - 1) → 0 < share →
    share ≡ share_of (waiting mid + 1) workers → ShareClaims parts until workers old new batch'.tasks (GotShare share)
share_goes parts until workers old mid new name batch one batch' share empty put claims takes some is = (sym long, by claims)
  where
    names : batch'.tasks ≡ name ∷ takes.names
    names = takes.tasks ∙ ap (λ (b : BatchView). b.tasks ++ takes.names) put ∙ ap (λ l. (l ++ name ∷ []) ++ takes.names) empty

    long : length batch'.tasks ≡ share
    long = ap length names ∙ (let c = takes.count in omega (arith, c, some))

    in_pass : (pass : HubState) → Goes parts pass name mid → ShareGoes parts workers pass new batch'.tasks
    in_pass pass goes = record {
      go = subst (AllGo parts pass new) (sym names) (mid, goes, takes.go);
      some = omega (arith, long, some);
      share = long ∙ is ∙ ap (λ n. share_of n workers) (let g = goes_waiting parts pass mid name goes in omega (arith, g));
    }

    by : Goes parts old name mid ⊎ OpensFor parts until old name mid → ShareGoes parts workers old new batch'.tasks ⊎ OpensForShare parts until workers old new batch'.tasks
    by (inl goes) = inl (in_pass old goes)
    by (inr opens) = inr (record { time = opens.time; may = opens.may; goes = in_pass (opened old opens.time) opens.goes })
