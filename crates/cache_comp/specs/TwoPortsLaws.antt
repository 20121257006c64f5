-- Laws of steps of parts with two ports.
use Rattle.std.specs.Prelude.{◌≡◌, ◌≤◌, List, [], ◌∷◌, length, true, false, refl}
use Rattle.std.proofs.Common.{sym, ◌∙◌, ap, arith}
use Rattle.port_msg.specs.PortView.{PortView}
use Rattle.tick_law.specs.Machine.{Outcome}
use Rattle.tick_law.specs.Frame.{AllPorts, Frames}
use Rattle.tick_law.specs.FrameLaws.{port_same}
use Rattle.tick_law.specs.OnePort.{Act, nothing, then_rule, head_of, has_room}
use Rattle.tick_law.specs.OnePortLaws.{Kept, then_nothing, then_flag, or_left}
use Rattle.cache_comp.specs.TwoPorts.{at_place}

module _ {S : Type 0} where
  -- what a step keeps
  pub record Whole (R : S → S → Type 0) (s : S) (ports : List PortView) (o : Outcome S) : Type 0 where
    pub framed : Frames true ports o.ports
    pub ports_ok : AllPorts ports → AllPorts o.ports
    pub few : length o.records ≤ 128
    pub state : R s o.state

  pub whole_first : (R : S → S → Type 0) (s : S) (p q : PortView) (rule : S → PortView → Act S) → Kept R 1 s p (rule s p) → Whole R s (p ∷ q ∷ []) (at_place 0 rule s (p ∷ q ∷ []))
  whole_first R s p q rule k = record { framed = (k.framed, (port_same true q, tt)); ports_ok = λ o. (k.port_ok o.0, o.1); few = omega (arith, k.few); state = k.state }

  pub whole_second : (R : S → S → Type 0) (s : S) (p q : PortView) (rule : S → PortView → Act S) → Kept R 1 s q (rule s q) → Whole R s (p ∷ q ∷ []) (at_place 1 rule s (p ∷ q ∷ []))
  whole_second R s p q rule k = record { framed = (port_same true p, (k.framed, tt)); ports_ok = λ o. (o.0, (k.port_ok o.1.0, tt)); few = omega (arith, k.few); state = k.state }

  -- a rule does nothing at any port that shows what this one shows
  abbrev pub Waits : S → PortView → (PortView → Act S) → Type 0
  Waits s p rule = (q : PortView) → head_of p ≡ head_of q → has_room p ≡ has_room q → rule q ≡ nothing s q

  -- two rules of which neither does anything
  pub waits_then : (first second : S → PortView → Act S) (s : S) (p : PortView) → ((first s p).flag ≡ false → Waits s p (first s)) → ((second s p).flag ≡ false → Waits s p (second s)) → (then_rule second (first s p)).flag ≡ false → Waits s p (λ q. then_rule second (first s q))
  waits_then first second s p x y f =
      let w = x (or_left (first s p).flag _ f) in
      let at_p : first s p ≡ nothing s p = w p refl refl in
      let right : (second s p).flag ≡ false = sym (then_flag second s p (first s p) at_p) ∙ f in
      λ q h r. then_nothing second s q (first s q) (w q h r) (y right q h r)

  -- a step that does nothing
  abbrev pub still : S → List PortView → Outcome S
  still s ports = record { state = s; ports = ports; records = []; flag = false }

  -- a step does nothing at any two ports that show what these show
  abbrev pub Rests : S → PortView → PortView → (List PortView → Outcome S) → Type 0
  Rests s p q step = (a b : PortView) → head_of p ≡ head_of a → has_room p ≡ has_room a → head_of q ≡ head_of b → has_room q ≡ has_room b → step (a ∷ b ∷ []) ≡ still s (a ∷ b ∷ [])

  pub rests_first : (rule : S → PortView → Act S) (s : S) (p q : PortView) → Waits s p (rule s) → Rests s p q (at_place 0 rule s)
  rests_first rule s p q w a b h r i t = ap (λ (x : Act S). let o : Outcome S = record { state = x.state; ports = x.port ∷ b ∷ []; records = x.records; flag = x.flag } in o) (w a h r)

  pub rests_second : (rule : S → PortView → Act S) (s : S) (p q : PortView) → Waits s q (rule s) → Rests s p q (at_place 1 rule s)
  rests_second rule s p q w a b h r i t = ap (λ (x : Act S). let o : Outcome S = record { state = x.state; ports = a ∷ x.port ∷ []; records = x.records; flag = x.flag } in o) (w b i t)
