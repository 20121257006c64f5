-- A world of which one side is put back.
use Rattle.std.specs.Prelude.{◌≡◌, List, refl}
use Rattle.std.proofs.Common.{◌∙◌, ap}
use Rattle.port_msg.specs.PortView.{PortView}
use Rattle.tick_law.specs.Pass.{Side}
use Rattle.tick_law.specs.SerialLoop.{WorldState, parts_of, links_of}

pub side_parts : {P N : Type 0} (w : WorldState P N) (h : Side P) → h ≡ parts_of w → let x : WorldState P N = record { parts = h.states; links = w.links; ports = h.ports } in x ≡ w
side_parts w h e =
    let a : h.states ≡ w.parts = ap (λ (x : Side _). x.states) e in
    let b : h.ports ≡ w.ports = ap (λ (x : Side _). x.ports) e in
    world_is _ _ w.links w.links _ _ a refl b ∙ refl
  where
    world_is : {P N : Type 0} (a b : List P) (c d : List N) (e f : List PortView) → a ≡ b → c ≡ d → e ≡ f → let x : WorldState P N = record { parts = a; links = c; ports = e } in let y : WorldState P N = record { parts = b; links = d; ports = f } in x ≡ y
    world_is a b c d e f g h i = cc

pub side_links : {P N : Type 0} (w : WorldState P N) (h : Side N) → h ≡ links_of w → let x : WorldState P N = record { parts = w.parts; links = h.states; ports = h.ports } in x ≡ w
side_links w h e =
    let a : h.states ≡ w.links = ap (λ (x : Side _). x.states) e in
    let b : h.ports ≡ w.ports = ap (λ (x : Side _). x.ports) e in
    world_is w.parts w.parts _ _ _ _ refl a b ∙ refl
  where
    world_is : {P N : Type 0} (a b : List P) (c d : List N) (e f : List PortView) → a ≡ b → c ≡ d → e ≡ f → let x : WorldState P N = record { parts = a; links = c; ports = e } in let y : WorldState P N = record { parts = b; links = d; ports = f } in x ≡ y
    world_is a b c d e f g h i = cc
