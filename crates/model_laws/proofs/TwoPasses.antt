-- Two passes make a time.
use Rattle.std.proofs.Common.{◌≡◌, List, ap, ◌∙◌}
use Rattle.std.specs.Prelude.{Option}
use Rattle.port_msg.specs.PortView.{PortView}
use Rattle.tick_law.specs.WorldPlaces.{WorldPlaces, alls, somes}
use Rattle.model_laws.specs.Pass.{side_of}
use Rattle.model_laws.proofs.PortsPutBack.{somes-alls}

pub side_alls : {S : Type 0} (a : List (Option S)) (b : List (Option PortView)) (x : List S) (y : List PortView) → a ≡ alls x → b ≡ alls y → side_of a b ≡ record { states = x; ports = y }
side_alls a b x y e f =
    let p : somes a ≡ x = ap (λ l. somes l) e ∙ somes-alls x in
    let q : somes b ≡ y = ap (λ l. somes l) f ∙ somes-alls y in
    cc

pub world_places_is : {P N : Type 0} (a b : List (Option P)) (c d : List (Option N)) (e f : List (Option PortView)) → a ≡ b → c ≡ d → e ≡ f → let x : WorldPlaces P N = record { parts = a; links = c; ports = e } in let y : WorldPlaces P N = record { parts = b; links = d; ports = f } in x ≡ y
world_places_is a b c d e f g h i = cc

pub side_after : {S : Type 0} (a : List (Option S)) (b : List (Option PortView)) (y : List PortView) → b ≡ alls y → side_of a b ≡ record { states = somes a; ports = y }
side_after a b y f =
    let q : somes b ≡ y = ap (λ l. somes l) f ∙ somes-alls y in
    cc
