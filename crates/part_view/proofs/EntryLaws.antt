-- A list of a body with one entry more.
use Rattle.std.proofs.Common.{◌≡◌, ℕ, ◌+◌, ◌<◌, List, [], ◌∷◌, ◌++◌, length, take, zero, suc, refl, sym, ◌∙◌, ap, append_assoc, append-nil, add-one, map, subst, arith}
use Rattle.std.specs.Prelude.{Option, Some, option_to_list, slice_get, slice_index_or}
use Rattle.port_msg.specs.PortView.{PortView}
use Rattle.tick_law.specs.declared.port_plan.PortPlan.{PortPlan}
use Rattle.world_query.specs.Legend.{PortLabel}
use Rattle.serde_json.specs.Data.{Data}
use Rattle.part_view.specs.Entries.{entries}

some_is : {A : Type 0} (x y : A) → Some x ≡ Some y → x ≡ y
some_is x y e = cc

entries_more : {N S : Type 0} (entry : N → S → Option Data) (names : List N) (states : List S) (k : ℕ) (name : N) (state : S) → slice_get names k ≡ Some name → slice_get states k ≡ Some state → entries entry (take (suc k) names) (take (suc k) states) ≡ entries entry (take k names) (take k states) ++ option_to_list (entry name state)
entries_more entry [] states k name state e f = absurd (cc)
entries_more entry (n ∷ ns) [] k name state e f = absurd (cc)
entries_more entry (n ∷ ns) (s ∷ ss) zero name state e f = append-nil (option_to_list (entry n s)) ∙ ap (λ x. option_to_list (entry x s)) (some_is n name e) ∙ ap (λ x. option_to_list (entry name x)) (some_is s state f)
entries_more entry (n ∷ ns) (s ∷ ss) (suc k) name state e f = ap (λ l. option_to_list (entry n s) ++ l) (entries_more entry ns ss k name state e f) ∙ sym (append_assoc (option_to_list (entry n s)) (entries entry (take k ns) (take k ss)) (option_to_list (entry name state)))

-- the entries of the first k, and the entry of number k behind them
pub one_entry_more : {N S : Type 0} (entry : N → S → Option Data) (names : List N) (states : List S) (k : ℕ) (name : N) (state : S) (before after : List Data) (made : Option Data) → slice_get names k ≡ Some name → slice_get states k ≡ Some state → made ≡ entry name state → before ≡ entries entry (take k names) (take k states) → after ≡ before ++ option_to_list made → after ≡ entries entry (take (k + 1) names) (take (k + 1) states)
one_entry_more entry names states k name state before after made n s e g h =
    h ∙ ap (λ x. before ++ option_to_list x) e ∙ ap (λ x. x ++ option_to_list (entry name state)) g
    ∙ sym (entries_more entry names states k name state n s)
    ∙ ap (λ j. entries entry (take j names) (take j states)) (sym (add-one k))

pub slice_get_at : {A : Type 0} (xs : List A) (k : ℕ) (d : A) → k < length xs → slice_get xs k ≡ Some (slice_index_or xs k d)
slice_get_at [] k d b = absurd (omega (arith, b))
slice_get_at (x ∷ xs) zero d b = refl
slice_get_at (x ∷ xs) (suc k) d b = slice_get_at xs k d (omega (arith, b))

abbrev pub HaveCaps : List PortView → List PortLabel → Type 0
HaveCaps ports labels = map (λ (p : PortView). p.cap) ports ≡ map (λ (l : PortLabel). l.cap) labels

-- there are as many ports as labels
pub as_many : (ports : List PortView) (labels : List PortLabel) → HaveCaps ports labels → length ports ≡ length labels
as_many [] [] e = refl
as_many [] (l ∷ ls) e = absurd (cc)
as_many (p ∷ ps) [] e = absurd (cc)
as_many (p ∷ ps) (l ∷ ls) e = ap suc (as_many ps ls (cc))

-- each port has the capacity of its label
pub same_cap : (ports : List PortView) (labels : List PortLabel) (k : ℕ) (l : PortLabel) (p : PortView) → HaveCaps ports labels → slice_get labels k ≡ Some l → slice_get ports k ≡ Some p → l.cap ≡ p.cap
same_cap [] labels k l p e f g = absurd (cc)
same_cap (q ∷ ps) [] k l p e f g = absurd (cc)
same_cap (q ∷ ps) (m ∷ ls) zero l p e f g =
    let label : m ≡ l = some_is m l f in
    let port : q ≡ p = some_is q p g in
    let cap : q.cap ≡ m.cap = cc in
    ap (λ (x : PortLabel). x.cap) (sym label) ∙ sym cap ∙ ap (λ (x : PortView). x.cap) port
same_cap (q ∷ ps) (m ∷ ls) (suc k) l p e f g = same_cap ps ls k l p (cc) f g

-- each port's part is one of so many, where its owner is
pub ports_within : (given ports : List PortPlan) (names parts count : ℕ) → given ≡ ports → ((q : ℕ) → q < length ports → slice_index_or (map (λ (p : PortPlan). p.part.0) ports) q 0 < parts) → names ≡ count → count ≡ parts → (k : ℕ) (d : PortPlan) → k < length given → (slice_index_or given k d).part.0 < names
ports_within given ports names parts count e owned f g k d within =
    let here : k < length ports = subst (λ l. k < length l) e within in
    let bound = owned k here in
    let same : slice_index_or (map (λ (p : PortPlan). p.part.0) ports) k 0 ≡ (slice_index_or given k d).part.0 = owner_at ports k d here ∙ ap (λ l. (slice_index_or l k d).part.0) (sym e) in
    omega (arith, bound, same, f, g)
  where
    owner_at : (ps : List PortPlan) (i : ℕ) (c : PortPlan) → i < length ps → slice_index_or (map (λ (p : PortPlan). p.part.0) ps) i 0 ≡ (slice_index_or ps i c).part.0
    owner_at [] i c b = absurd (omega (arith, b))
    owner_at (p ∷ ps) zero c b = refl
    owner_at (p ∷ ps) (suc i) c b = owner_at ps i c (omega (arith, b))
