-- Who sleeps changes nothing.
use Rattle.std.specs.Prelude.{◌≡◌, ℕ, ◌+◌, ◌*◌, ◌/◌, ◌<◌, ◌≤◌, ◌==◌, ◌&&◌, List, [], ◌∷◌, length, Option, Some, None, Bool, true, false, slice_get, refl}
use Rattle.std.proofs.Common.{zero, suc, sym, ◌∙◌, ap, subst, arith, get_or}
use Rattle.sim_base.specs.declared.time.TheConstants.{LATEST_TICK}
use Rattle.port_msg.specs.PortView.{PortView, port_view}
use Rattle.tick_law.specs.Machine.{Machine}
use Rattle.tick_law.specs.Frame.{AllPorts, IsPort}
use Rattle.tick_law.specs.Wires.{Wires, own_of, owner_of, Has, Wired}
use Rattle.tick_law.specs.Pass.{Side, port_at, gather, place, next_place, map_index, has_edge, step_of, state_if, port_if, state_after, port_from, port_after, pass, everyone}
use Rattle.model_laws.proofs.OneMoreActor.{is_same, is_other, has_rest}
use Rattle.tick_law.specs.Laws.{Lawful}
use Rattle.model_laws.specs.WellFormed.{IsSound}

map_index_agree : {A B : Type 0} (f g : ℕ → A → B) (i : ℕ) (xs : List A) → ((k : ℕ) (x : A) → slice_get xs k ≡ Some x → f (i + k) x ≡ g (i + k) x) → map_index f i xs ≡ map_index g i xs
map_index_agree f g i [] h = refl
map_index_agree f g i (x ∷ xs) h =
    let z : i + 0 ≡ i = omega arith in
    let here : f i x ≡ g i x = subst (λ j. f j x ≡ g j x) z (h 0 x refl) in
    let rest : map_index f (suc i) xs ≡ map_index g (suc i) xs = map_index_agree f g (suc i) xs (λ k y e. subst (λ j. f j y ≡ g j y) (let w : i + suc k ≡ suc i + k = omega arith in w) (h (suc k) y e)) in
    cc

-- what was gathered at the place of q is the port q
pub gather_place : (ports : List PortView) (qs : List ℕ) (q : ℕ) (d : PortView) → Has qs q → get_or (gather ports qs) (place q qs) d ≡ port_at ports q
gather_place ports [] q d h = absurd (omega (arith, h.1))
gather_place ports (x ∷ xs) q d h = at_first (x == q) refl (λ r. gather_place ports xs q d r)
  where
    at_first : (b : Bool) → (x == q) ≡ b → (Has xs q → get_or (gather ports xs) (place q xs) d ≡ port_at ports q) → get_or (port_at ports x ∷ gather ports xs) (next_place (x == q) (place q xs)) d ≡ port_at ports q
    at_first true e rest = rw e (ap (λ j. port_at ports j) (is_same x q e))
    at_first false e rest = rw e (rest (has_rest x xs q h (is_other x q e)))

pub get_any : (xs : List PortView) (k : ℕ) (x d : PortView) → slice_get xs k ≡ Some x → get_or xs k d ≡ x
get_any [] k x d e = absurd (cc)
get_any (y ∷ ys) zero x d e = cc
get_any (y ∷ ys) (suc k) x d e = get_any ys k x d e

pub below_some : (xs : List PortView) (k : ℕ) (x : PortView) → slice_get xs k ≡ Some x → k < length xs
below_some [] k x e = absurd (cc)
below_some (y ∷ ys) zero x e = omega arith
below_some (y ∷ ys) (suc k) x e = let b = below_some ys k x e in omega (arith, b)

pub map_index_back : {A B : Type 0} (f : ℕ → A → B) (i : ℕ) (xs : List A) (k : ℕ) (y : B) → slice_get (map_index f i xs) k ≡ Some y → (x : A) × (slice_get xs k ≡ Some x) × (y ≡ f (i + k) x)
map_index_back f i [] k y e = absurd (cc)
map_index_back f i (x ∷ xs) zero y e = (x, refl, (let same : y ≡ f i x = cc in same) ∙ ap (λ j. f j x) (let z : i ≡ i + 0 = omega arith in z))
map_index_back f i (x ∷ xs) (suc k) y e = let r = map_index_back f (suc i) xs k y e in (r.0, r.1, r.2 ∙ ap (λ j. f j r.0) (let z : suc i + k ≡ i + suc k = omega arith in z))

pub get_below : (xs : List PortView) (k : ℕ) (d : PortView) → k < length xs → slice_get xs k ≡ Some (get_or xs k d)
get_below [] k d h = absurd (omega arith)
get_below (y ∷ ys) zero d h = refl
get_below (y ∷ ys) (suc k) d h = get_below ys k d (omega arith)

pub sound_gather : (ports : List PortView) (qs : List ℕ) → ((q : ℕ) (p : PortView) → slice_get ports q ≡ Some p → IsPort p) → ((q : ℕ) → Has qs q → q < length ports) → AllPorts (gather ports qs)
sound_gather ports [] h w = tt
sound_gather ports (q ∷ qs) h w = (h q (port_at ports q) (get_below ports q (port_view [] [] 0) (w q (0, omega arith, refl))), sound_gather ports qs h (λ k (j, l, e). w k (suc j, omega arith, e)))

pub length-gather : (ports : List PortView) (qs : List ℕ) → length (gather ports qs) ≡ length qs
length-gather ports [] = refl
length-gather ports (q ∷ qs) = ap suc (length-gather ports qs)

one_of_ports : (ps : List PortView) (k : ℕ) (d : PortView) → AllPorts ps → IsPort d → IsPort (get_or ps k d)
one_of_ports [] k d a b = b
one_of_ports (p ∷ ps) zero d a b = a.0
one_of_ports (p ∷ ps) (suc k) d a b = one_of_ports ps k d a.1 b

pub time : (t p : ℕ) → t ≤ LATEST_TICK → t / p * p ≤ LATEST_TICK
time t p h = grind arith

module _ {S : Type 0} where
  -- a step that changes nothing
  pub record Still (m : Machine S) (w : Wires) (t : ℕ) (before : List PortView) (i : ℕ) (s : S) : Type 0 where
    pub state : (step_of m w t before i s).state ≡ s
    pub ports : (step_of m w t before i s).ports ≡ gather before (own_of w i)

  sleeping_state : (m : Machine S) (w : Wires) (stepped : ℕ → Bool) (t : ℕ) (ports : List PortView) (k : ℕ) (x : S) → (a b : Bool) → stepped k ≡ a → has_edge m t x ≡ b → (a ≡ false → b ≡ true → Still m w t ports k x) → state_after m w stepped t ports k x ≡ state_after m w everyone t ports k x
  sleeping_state m w stepped t ports k x true b e f h = rw e refl
  sleeping_state m w stepped t ports k x false true e f h = rw (e, f) (sym (h refl refl).state)
  sleeping_state m w stepped t ports k x false false e f h = rw (e, f) refl

  sleeping_port : (m : Machine S) (w : Wires) (stepped : ℕ → Bool) (t : ℕ) (ports : List PortView) (q : ℕ) (p : PortView) (s : S) → Has (own_of w (owner_of w q)) q → port_at ports q ≡ p → (a b : Bool) → stepped (owner_of w q) ≡ a → has_edge m t s ≡ b → (a ≡ false → b ≡ true → Still m w t ports (owner_of w q) s) → port_from m w stepped t ports q p (Some s) ≡ port_from m w everyone t ports q p (Some s)
  sleeping_port m w stepped t ports q p s has at true b e f h = rw e refl
  sleeping_port m w stepped t ports q p s has at false true e f h = rw (e, f) (sym (ap (λ l. get_or l (place q (own_of w (owner_of w q))) p) (h refl refl).ports ∙ gather_place ports (own_of w (owner_of w q)) q p has ∙ at))
  sleeping_port m w stepped t ports q p s has at false false e f h = rw (e, f) refl

  pub sleeping_port_of : (m : Machine S) (w : Wires) (stepped : ℕ → Bool) (t : ℕ) (ports : List PortView) (q : ℕ) (p : PortView) (o : Option S) → Has (own_of w (owner_of w q)) q → port_at ports q ≡ p → ((s : S) → o ≡ Some s → stepped (owner_of w q) ≡ false → has_edge m t s ≡ true → Still m w t ports (owner_of w q) s) → port_from m w stepped t ports q p o ≡ port_from m w everyone t ports q p o
  sleeping_port_of m w stepped t ports q p None has at h = refl
  sleeping_port_of m w stepped t ports q p (Some s) has at h = sleeping_port m w stepped t ports q p s has at (stepped (owner_of w q)) (has_edge m t s) refl refl (λ a b. h s refl a b)

  -- where each step of those who are left out changes nothing, the pass is whole
  pub pass_sleeping : (m : Machine S) (w : Wires) (stepped : ℕ → Bool) (t : ℕ) (h : Side S) → Wired w (length h.ports) → ((i : ℕ) (s : S) → slice_get h.states i ≡ Some s → stepped i ≡ false → has_edge m t s ≡ true → Still m w t h.ports i s) → pass m w stepped t h ≡ pass m w everyone t h
  pass_sleeping m w stepped t h wired still =
      side_is _ _ _ _
      (map_index_agree (state_after m w stepped t h.ports) (state_after m w everyone t h.ports) 0 h.states (λ k x e. let z : k ≡ 0 + k = omega arith in subst (λ j. state_after m w stepped t h.ports j x ≡ state_after m w everyone t h.ports j x) z (sleeping_state m w stepped t h.ports k x (stepped k) (has_edge m t x) refl refl (λ a b. still k x e a b))))
      (map_index_agree (port_after m w stepped t h) (port_after m w everyone t h) 0 h.ports (λ q p e. let z : q ≡ 0 + q = omega arith in subst (λ j. port_after m w stepped t h j p ≡ port_after m w everyone t h j p) z (sleeping_port_of m w stepped t h.ports q p (slice_get h.states (owner_of w q)) (wired.found q (below_some h.ports q p e)) (get_any h.ports q p (port_view [] [] 0) e) (λ s at a b. still (owner_of w q) s at a b))))
    where
      side_is : (a b : List S) (p q : List PortView) → a ≡ b → p ≡ q → let x : Side S = record { states = a; ports = p } in let y : Side S = record { states = b; ports = q } in x ≡ y
      side_is a b p q e f = cc

  sound_state : (m : Machine S) (valid : S → Type 0) (w : Wires) (stepped : ℕ → Bool) (t : ℕ) (h : Side S) → Lawful m valid → Wired w (length h.ports) → t ≤ LATEST_TICK → IsSound m valid w h → (i : ℕ) (s : S) → slice_get h.states i ≡ Some s → (b : Bool) → valid (state_if b (step_of m w t h.ports i s).state s) × (length (own_of w i) ≡ m.own (state_if b (step_of m w t h.ports i s).state s))
  sound_state m valid w stepped t h law wired small sound i s at true =
      let had = sound.states i s at in
      let ports = sound_gather h.ports (own_of w i) sound.ports (λ q has. wired.within i q has) in
      let count = length-gather h.ports (own_of w i) ∙ had.1 in
      ((law.stays s (gather h.ports (own_of w i)) (t / m.period s) had.0 ports count (time t (m.period s) small)).0, had.1 ∙ sym (law.framed s (gather h.ports (own_of w i)) (t / m.period s) had.0 ports count).own)
  sound_state m valid w stepped t h law wired small sound i s at false = sound.states i s at

  sound_port : (m : Machine S) (valid : S → Type 0) (w : Wires) (stepped : ℕ → Bool) (t : ℕ) (h : Side S) → Lawful m valid → Wired w (length h.ports) → t ≤ LATEST_TICK → IsSound m valid w h → (q : ℕ) (p : PortView) → slice_get h.ports q ≡ Some p → (o : Option S) → slice_get h.states (owner_of w q) ≡ o → IsPort (port_from m w stepped t h.ports q p o)
  sound_port m valid w stepped t h law wired small sound q p at None e = sound.ports q p at
  sound_port m valid w stepped t h law wired small sound q p at (Some s) e = by_flag (stepped (owner_of w q) && has_edge m t s)
    where
      by_flag : (b : Bool) → IsPort (port_if b (get_or (step_of m w t h.ports (owner_of w q) s).ports (place q (own_of w (owner_of w q))) p) p)
      by_flag true =
          let i = owner_of w q in
          let had = sound.states i s e in
          let ports = sound_gather h.ports (own_of w i) sound.ports (λ r has. wired.within i r has) in
          let count = length-gather h.ports (own_of w i) ∙ had.1 in
          one_of_ports (step_of m w t h.ports i s).ports (place q (own_of w i)) p (law.stays s (gather h.ports (own_of w i)) (t / m.period s) had.0 ports count (time t (m.period s) small)).1 (sound.ports q p at)
      by_flag false = sound.ports q p at

  pub pass_sound : (m : Machine S) (valid : S → Type 0) (w : Wires) (stepped : ℕ → Bool) (t : ℕ) (h : Side S) → Lawful m valid → Wired w (length h.ports) → t ≤ LATEST_TICK → IsSound m valid w h → IsSound m valid w (pass m w stepped t h)
  pass_sound m valid w stepped t h law wired small sound = record {
    states = λ i s e.
        let b = map_index_back (state_after m w stepped t h.ports) 0 h.states i s e in
        let z : 0 + i ≡ i = omega arith in
        subst (λ (x : S). valid x × (length (own_of w i) ≡ m.own x)) (sym (b.2 ∙ ap (λ j. state_after m w stepped t h.ports j b.0) z)) (sound_state m valid w stepped t h law wired small sound i b.0 b.1 (stepped i && has_edge m t b.0));
    ports = λ q p e.
        let b = map_index_back (port_after m w stepped t h) 0 h.ports q p e in
        let z : 0 + q ≡ q = omega arith in
        subst IsPort (sym (b.2 ∙ ap (λ j. port_after m w stepped t h j b.0) z)) (sound_port m valid w stepped t h law wired small sound q b.0 b.1 (slice_get h.states (owner_of w q)) refl);
  }
