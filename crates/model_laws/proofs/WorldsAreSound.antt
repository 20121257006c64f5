-- Each world of the run is well formed.
use Rattle.std.proofs.Common.{◌≡◌, ℕ, ◌≤◌, List, length, zero, suc, subst, sym, ◌∙◌, arith}
use Rattle.sim_base.specs.declared.time.TheConstants.{LATEST_TICK}
use Rattle.port_msg.specs.PortView.{PortView}
use Rattle.tick_law.specs.Machine.{Machine}
use Rattle.tick_law.specs.WorldPlaces.{alls, somes, IsWhole}
use Rattle.tick_law.specs.Wires.{Wires, Wired}
use Rattle.tick_law.specs.Pass.{Side}
use Rattle.tick_law.specs.SerialLoop.{WorldState, System, begun, prim, sec, world_at, mid, whole_world, world_of, parts_of, links_of}
use Rattle.model_laws.specs.WellFormed.{HasRoom, IsWellFormed, IsSound}
use Rattle.model_laws.proofs.SleepersChangeNothing.{pass_sound}
use Rattle.tick_law.specs.Laws.{Lawful}
use Rattle.model_laws.proofs.PortsPutBack.{somes-alls, alls_full}
use Rattle.model_laws.proofs.ActorByActor.{length_states, length_ports}

pub room_after : {S : Type 0} (m : Machine S) (valid : S → Type 0) (w : Wires) (h k : Side S) (hand recs : ℕ) → HasRoom S m w h hand recs → length k.states ≡ length h.states → length k.ports ≡ length h.ports → IsSound m valid w k → HasRoom S m w k hand recs
room_after m valid w h k hand recs f a b s = record {
  same = f.same ∙ sym a;
  few = omega (arith, f.few);
  wired = subst (Wired w) (sym b) f.wired;
  owned = λ q l. let o = f.owned q (omega arith) in omega (arith, o);
  count = λ i x e. (s.states i x e).1;
  held = f.held;
  room = f.room;
}

module _ {P N : Type 0} where
  good_prim : (r : System P N) (vp : P → Type 0) (vn : N → Type 0) (t : ℕ) (w : WorldState P N) → Lawful r.part vp → Wired r.part_wires (length r.start.world.ports) → t ≤ LATEST_TICK → IsWellFormed r vp vn w → IsWellFormed r vp vn (prim r.part r.part_wires r.start.at w t)
  good_prim r vp vn t w law wired small g =
      let s = pass_sound r.part vp r.part_wires (begun r.start.at t) t (parts_of w) law (subst (Wired r.part_wires) (sym g.port_count) wired) small g.parts in
      record {
        part_count = length_states r.part r.part_wires (begun r.start.at t) t (parts_of w) ∙ g.part_count;
        link_count = g.link_count;
        port_count = length_ports r.part r.part_wires (begun r.start.at t) t (parts_of w) ∙ g.port_count;
        parts = record { states = s.states; ports = s.ports };
        links = record { states = g.links.states; ports = s.ports };
      }

  good_sec : (r : System P N) (vp : P → Type 0) (vn : N → Type 0) (t : ℕ) (w : WorldState P N) → Lawful r.link vn → Wired r.link_wires (length r.start.world.ports) → t ≤ LATEST_TICK → IsWellFormed r vp vn w → IsWellFormed r vp vn (sec r.link r.link_wires r.start.at w t)
  good_sec r vp vn t w law wired small g =
      let s = pass_sound r.link vn r.link_wires (begun r.start.at t) t (links_of w) law (subst (Wired r.link_wires) (sym g.port_count) wired) small g.links in
      record {
        part_count = g.part_count;
        link_count = length_states r.link r.link_wires (begun r.start.at t) t (links_of w) ∙ g.link_count;
        port_count = length_ports r.link r.link_wires (begun r.start.at t) t (links_of w) ∙ g.port_count;
        parts = record { states = g.parts.states; ports = s.ports };
        links = record { states = s.states; ports = s.ports };
      }

  -- each world up to the last time is good
  pub good_at : (r : System P N) (vp : P → Type 0) (vn : N → Type 0) (k : ℕ) → Lawful r.part vp → Lawful r.link vn → Wired r.part_wires (length r.start.world.ports) → Wired r.link_wires (length r.start.world.ports) → IsWellFormed r vp vn r.start.world → k ≤ 501000000001 → IsWellFormed r vp vn (world_at r k)
  good_at r vp vn zero lp ln wp wn g b = g
  good_at r vp vn (suc k) lp ln wp wn g b =
      good_sec r vp vn k (mid r k) ln wn (omega arith) (good_prim r vp vn k (world_at r k) lp wp (omega arith) (good_at r vp vn k lp ln wp wn g (omega arith)))

  pub world-whole : (w : WorldState P N) → world_of (whole_world w) ≡ w
  world-whole w =
      let a : somes (alls w.parts) ≡ w.parts = somes-alls w.parts in
      let b : somes (alls w.links) ≡ w.links = somes-alls w.links in
      let c : somes (alls w.ports) ≡ w.ports = somes-alls w.ports in
      world_is _ _ _ _ _ _ a b c
    where
      world_is : (a b : List P) (c d : List N) (e f : List PortView) → a ≡ b → c ≡ d → e ≡ f → let x : WorldState P N = record { parts = a; links = c; ports = e } in let y : WorldState P N = record { parts = b; links = d; ports = f } in x ≡ y
      world_is a b c d e f g h i = cc

  pub whole_is_whole : (w : WorldState P N) → IsWhole (whole_world w)
  whole_is_whole w = record { parts = alls_full w.parts; links = alls_full w.links; ports = alls_full w.ports }

pub room_same : {S : Type 0} (m : Machine S) (w : Wires) (h k : Side S) (a b c d : ℕ) → k ≡ h → b ≡ a → d ≡ c → HasRoom S m w h a c → HasRoom S m w k b d
room_same {S} m w h k a b c d e f g fits = subst (λ x. HasRoom S m w x b d) (sym e) (subst (λ x. HasRoom S m w h x d) (sym f) (subst (λ x. HasRoom S m w h a x) (sym g) fits))
