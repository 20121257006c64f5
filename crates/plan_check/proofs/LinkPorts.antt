-- The ports of links, where the rules on names and ports are kept.
use Rattle.std.proofs.Common.{◌≡◌, ℕ, ◌+◌, ◌<◌, ◌≤◌, zero, suc, Bool, true, false, cond, List, [], ◌∷◌, ◌++◌, map, take, length, get_or, refl, ap, arith, ◌∙◌, sym, subst, append_assoc, inl, inr}
use Rattle.std.specs.Prelude.{Option, Some, None, slice_get, nat_lt, is_none, unwrap_or, option_map, bytes_eq, ◌||◌, ◌⊎◌}
use Rattle.std.specs.List.{list_any}
use Rattle.std.proofs.lemmas.Bool.Decides.{nat_tests}
use Rattle.std.proofs.lemmas.List.Folds.{Any-from_list_any, list_any_at}
use Rattle.std.proofs.lemmas.List.Quantifiers.{position-Some}
use Rattle.std.proofs.lemmas.List.Sums.{position_or_len_is}
use Rattle.sim_config.specs.Tables.{PlanTables, PartTable, LinkTable}
use Rattle.sim_config.specs.declared.part_text.PartKeys.{PartKeys}
use Rattle.sim_config.specs.declared.link_text.PortRef.{PortRef}
use Rattle.tick_law.specs.declared.port_plan.PortPlan.{PortPlan}
use Rattle.tick_law.specs.Wires.{Wires, Wired, Has, AllApart, own_of, owner_of}
use Rattle.plan_rules.specs.Kinds.{port_count, port_words, word_text}
use Rattle.plan_rules.specs.Text.{◌>>=◌, first_port, keys_at, link_ports, part_no, place_of, port_no, port_numbers}
use Rattle.plan_rules.specs.Rules.{has_twice, is_port, link_of, ports_at}
use Rattle.plan_check.specs.Plan.{own_of_link, ports_to, count_of}
use Rattle.plan_check.proofs.Places.{length-map, get_past, get_map, get_take, below_or, within, apart_at, any_false, same_number}
use Rattle.plan_check.proofs.PartPorts.{count_at, first_port_step, first_port_rises, length-ports_to, part_of_port, port_at}

-- what the rules on names and ports say of the ports of links
pub record AreJoined (text : PlanTables) : Type 0 where
  pub named : (l : ℕ) → l < length text.links → list_any is_none (ports_at text l) ≡ false
  pub once : (l : ℕ) → l < length text.links → has_twice (take l (link_ports text)) [] (ports_at text l) ≡ false
  pub plugged : (i : ℕ) → i < length text.parts → (k : ℕ) → k < count_at text i → is_none (link_of text (first_port text i + k)) ≡ false

some_of : (o : Option ℕ) → is_none o ≡ false → (q : ℕ) × (o ≡ Some q)
some_of None h = absurd (cc)
some_of (Some q) h = (q, refl)

-- a port that is named is one of the parts'
place-below : (text : PlanTables) (part q : ℕ) (keys : PartKeys) (word : List ℕ) (t : PartTable) → slice_get text.parts part ≡ Some t → keys ≡ t.kind → (o : Option ℕ) → place_of keys word ≡ o → (o >>= (λ place. Some (first_port text part + place))) ≡ Some q → q < first_port text (length text.parts)
place-below text part q keys word t there same None placed e = absurd (cc)
place-below text part q keys word t there same (Some place) placed e =
    (let number : first_port text part + place ≡ q = cc in
    let r = position-Some (λ w. bytes_eq (word_text w) word) (port_words keys) place Rattle.plan_rules.specs.declared.port_word.PortWord.TheVariants.Io placed in
    let b = r.0 in
    let count : count_at text part ≡ length (port_words keys) = ap count_of there ∙ ap port_count (sym same) in
    let s = first_port_step text part in
    let l = within text.parts part t there in
    let m = first_port_rises text (suc part) (length text.parts) (omega (arith, l)) in
    omega (arith, number, b, count, s, m))

keys-below : (text : PlanTables) (ref : PortRef) (part q : ℕ) (o : Option PartTable) → slice_get text.parts part ≡ o → (option_map (λ (p : PartTable). p.kind) o >>= (λ keys. place_of keys ref.word >>= (λ place. Some (first_port text part + place)))) ≡ Some q → q < first_port text (length text.parts)
keys-below text ref part q None there e = absurd (cc)
keys-below text ref part q (Some t) there e = place-below text part q t.kind ref.word t there refl (place_of t.kind ref.word) refl e

part-below : (text : PlanTables) (ref : PortRef) (q : ℕ) (o : Option ℕ) → (o >>= (λ part. keys_at text part >>= (λ keys. place_of keys ref.word >>= (λ place. Some (first_port text part + place))))) ≡ Some q → q < first_port text (length text.parts)
part-below text ref q None e = absurd (cc)
part-below text ref q (Some part) e = keys-below text ref part q (slice_get text.parts part) refl e

port_no-below : (text : PlanTables) (ref : PortRef) (q : ℕ) → port_no text ref ≡ Some q → q < first_port text (length text.parts)
unfolding port_no
port_no-below text ref q e = part-below text ref q (part_no text ref.part) e

mapped-below : (text : PlanTables) (refs : List PortRef) (k q : ℕ) → k < length refs → get_or (map (port_no text) refs) k None ≡ Some q → q < first_port text (length text.parts)
mapped-below text [] k q b e = absurd (omega arith)
mapped-below text (ref ∷ refs) zero q b e = port_no-below text ref q e
mapped-below text (ref ∷ refs) (suc k) q b e = mapped-below text refs k q (omega arith) e

-- the port that stands at a place of a link
port_below : (text : PlanTables) (links : List LinkTable) (l k q : ℕ) → k < length (get_or (map (port_numbers text) links) l []) → get_or (get_or (map (port_numbers text) links) l []) k None ≡ Some q → q < first_port text (length text.parts)
port_below text [] l k q b e = absurd (omega (arith, b))
port_below text (t ∷ ts) zero k q b e = mapped-below text t.ports k q (let m = length-map (port_no text) t.ports in omega (arith, b, m)) e
port_below text (t ∷ ts) (suc l) k q b e = port_below text ts l k q b e

or_false : (a b : Bool) → (a || b) ≡ false → (a ≡ false) × (b ≡ false)
or_false true b h = absurd (cc)
or_false false b h = (refl, h)

append_none : {A : Type 0} (xs : List A) → xs ++ [] ≡ xs
append_none [] = refl
append_none (x ∷ xs) = ap (λ l. x ∷ l) (append_none xs)

-- a port of a list without repeats stands at no earlier place
twice_false : (earlier : List (List (Option ℕ))) (front ports : List (Option ℕ)) (k q : ℕ) → has_twice earlier front ports ≡ false → k < length ports → get_or ports k None ≡ Some q → (list_any (is_port (Some q)) (front ++ take k ports) ≡ false) × (list_any (list_any (is_port (Some q))) earlier ≡ false)
twice_false earlier front [] k q h b e = absurd (omega arith)
twice_false earlier front (p ∷ ps) zero q h b e =
    (let a = or_false (list_any (is_port p) front || list_any (list_any (is_port p)) earlier) _ h in
    let c = or_false (list_any (is_port p) front) _ a.0 in
    (ap (list_any (is_port (Some q))) (append_none front) ∙ ap (λ x. list_any (is_port x) front) (sym e) ∙ c.0, ap (λ x. list_any (list_any (is_port x)) earlier) (sym e) ∙ c.1))
twice_false earlier front (p ∷ ps) (suc k) q h b e =
    (let a = or_false (list_any (is_port p) front || list_any (list_any (is_port p)) earlier) _ h in
    let r = twice_false earlier (front ++ p ∷ []) ps k q a.1 (omega arith) e in
    (ap (list_any (is_port (Some q))) (sym (append_assoc front (p ∷ []) (take k ps))) ∙ r.0, r.1))

clash : (q : ℕ) → is_port (Some q) (Some q) ≡ false → ⊥
clash q h = (let t = same_number q in cc)

-- the links' wires
pub wires_of_links : PlanTables → Wires
wires_of_links text = record { own = map own_of_link (link_ports text); owner = map (λ (p : PortPlan). p.link.0) (ports_to text (length text.parts)) }

pub wires_of_links_are : (text : PlanTables) → wires_of_links text ≡ record { own = map own_of_link (link_ports text); owner = map (λ (p : PortPlan). p.link.0) (ports_to text (length text.parts)) }
unfolding wires_of_links
wires_of_links_are text = refl

no_port : PortPlan
no_port = record { cap = 1; part = record { 0 = 0 }; link = record { 0 = 0 }; word = [] }

count_lists : (text : PlanTables) → length (link_ports text) ≡ length text.links
count_lists text = length-map (port_numbers text) text.links

-- the ports of a link are its own
own_at : (text : PlanTables) (l : ℕ) → l < length text.links → own_of (wires_of_links text) l ≡ own_of_link (ports_at text l)
unfolding wires_of_links
own_at text l b = get_map own_of_link (link_ports text) l [] [] (let c = count_lists text in omega (arith, b, c))

own_past : (text : PlanTables) (l : ℕ) → length text.links ≤ l → own_of (wires_of_links text) l ≡ []
unfolding wires_of_links
own_past text l b = get_past (map own_of_link (link_ports text)) [] l (let c = count_lists text in let m = length-map own_of_link (link_ports text) in omega (arith, b, c, m))

entry : (ports : List (Option ℕ)) (k : ℕ) → list_any is_none ports ≡ false → k < length ports → (q : ℕ) × (get_or ports k None ≡ Some q)
entry ports k named b = some_of (get_or ports k None) (any_false is_none ports k None named b)

number_at : (ports : List (Option ℕ)) (k q : ℕ) → k < length ports → get_or ports k None ≡ Some q → get_or (own_of_link ports) k 0 ≡ q
number_at ports k q b e = get_map (λ port. unwrap_or port 0) ports k None 0 b ∙ ap (λ port. unwrap_or port 0) e

-- a port of a link stands at a place of it
own_of_link_has : (text : PlanTables) → AreJoined text → (l q : ℕ) → Has (own_of (wires_of_links text) l) q → (k : ℕ) × (l < length text.links) × (k < length (ports_at text l)) × (get_or (ports_at text l) k None ≡ Some q)
own_of_link_has text joined l q h = at (below_or l (length text.links))
  where
    at : (l < length text.links) ⊎ (length text.links ≤ l) → (k : ℕ) × (l < length text.links) × (k < length (ports_at text l)) × (get_or (ports_at text l) k None ≡ Some q)
    at (inr g) = absurd (let f = subst (λ xs. Has xs q) (own_past text l g) h in let b = f.1 in omega (arith, b))
    at (inl b) =
        (let f = subst (λ xs. Has xs q) (own_at text l b) h in
        let here : f.0 < length (ports_at text l) = (let m = length-map (λ (port : Option ℕ). unwrap_or port 0) (ports_at text l) in let c = f.1 in omega (arith, m, c)) in
        let e = entry (ports_at text l) f.0 (joined.named l b) here in
        let same : e.0 ≡ q = sym (number_at (ports_at text l) f.0 e.0 here e.1) ∙ f.2 in
        (f.0, b, here, e.1 ∙ ap (λ n. Some n) same))

-- the link that a port is on is the first that names it
link_of_at : (text : PlanTables) → AreJoined text → (l k q : ℕ) → l < length text.links → k < length (ports_at text l) → get_or (ports_at text l) k None ≡ Some q → link_of text q ≡ Some l
unfolding link_of
link_of_at text joined l k q b here e =
    (let p = list_any (is_port (Some q)) in
    let c = count_lists text in
    let passed : p (get_or (link_ports text) l []) ≡ true = list_any_at (is_port (Some q)) (ports_at text l) k None here (ap (is_port (Some q)) e ∙ same_number q) in
    let apart = twice_false (take l (link_ports text)) [] (ports_at text l) k q (joined.once l b) here e in
    let none = λ (j : ℕ) (below : j < l). (ap p (sym (get_take (link_ports text) l j [] below)) ∙ any_false p (take l (link_ports text)) j [] apart.1 (takes (link_ports text) l j below (omega (arith, b, c)))) in
    let place = position_or_len_is p (link_ports text) l [] (omega (arith, b, c)) none (λ _. passed) in
    let inside : nat_lt l (length (link_ports text)) ≡ true = grind (arith, nat_tests, b, c) in
    ap (λ n. cond (nat_lt n (length (link_ports text))) (Some n) None) place ∙ ap (λ t. cond t (Some l) None) inside)
  where
    takes : {A : Type 0} (xs : List A) (n j : ℕ) → j < n → n ≤ length xs → j < length (take n xs)
    takes [] zero j below fits = absurd (omega arith)
    takes [] (suc n) j below fits = absurd (omega arith)
    takes (x ∷ xs) zero j below fits = absurd (omega arith)
    takes (x ∷ xs) (suc n) zero below fits = omega arith
    takes (x ∷ xs) (suc n) (suc j) below fits = (let r = takes xs n j (omega arith) (omega arith) in omega (arith, r))

owner_at : (text : PlanTables) (q l : ℕ) → q < first_port text (length text.parts) → link_of text q ≡ Some l → owner_of (wires_of_links text) q ≡ l
unfolding wires_of_links
owner_at text q l b e =
    (let r = part_of_port text (length text.parts) q b in
    let p = port_at text (length text.parts) r.0 r.1 no_port r.2 r.3 in
    let c = length-ports_to text (length text.parts) in
    get_map (λ (p : PortPlan). p.link.0) (ports_to text (length text.parts)) q no_port 0 (omega (arith, b, c))
    ∙ ap (λ n. (get_or (ports_to text (length text.parts)) n no_port).link.0) r.4
    ∙ ap (λ (p : PortPlan). p.link.0) p.2
    ∙ ap (λ n. unwrap_or (link_of text n) 0) (sym r.4) ∙ ap (λ o. unwrap_or o 0) e)

-- each port of a part is on a link
plugged_at : (text : PlanTables) → AreJoined text → (q : ℕ) → q < first_port text (length text.parts) → (l : ℕ) × (link_of text q ≡ Some l)
plugged_at text joined q b =
    (let r = part_of_port text (length text.parts) q b in
    some_of (link_of text q) (ap (λ n. is_none (link_of text n)) r.4 ∙ joined.plugged r.0 r.2 r.1 r.3))

same_port : (q : ℕ) (o : Option ℕ) → is_port (Some q) o ≡ true → o ≡ Some q
same_port q None h = absurd (cc)
same_port q (Some p) h = (let e : p ≡ q = grind (arith, nat_tests) in ap (λ n. Some n) e)

-- the link that a port is on has it
on_link : (text : PlanTables) → AreJoined text → (q l : ℕ) → link_of text q ≡ Some l → (l < length text.links) × Has (own_of (wires_of_links text) l) q
unfolding link_of
on_link text joined q l e =
    (let p = position-Some (list_any (is_port (Some q))) (link_ports text) l [] e in
    let c = count_lists text in
    let b : l < length text.links = (let x = p.0 in omega (arith, x, c)) in
    let some = Any-from_list_any (is_port (Some q)) (ports_at text l) p.1 in
    (b, subst (λ xs. Has xs q) (sym (own_at text l b)) (place some.0 some.1 some.2 some.3 some.4)))
  where
    place : (k : ℕ) (x : Option ℕ) → k < length (ports_at text l) → get_or (ports_at text l) k x ≡ x → is_port (Some q) x ≡ true → Has (own_of_link (ports_at text l)) q
    place k x below there passed =
        (let same = same_port q x passed in
        let here : get_or (ports_at text l) k None ≡ Some q = defaults (ports_at text l) k None x below ∙ there ∙ same in
        (k, (let m = length-map (λ (port : Option ℕ). unwrap_or port 0) (ports_at text l) in omega (arith, m, below)), number_at (ports_at text l) k q below here))
      where
        defaults : (xs : List (Option ℕ)) (k : ℕ) (d e : Option ℕ) → k < length xs → get_or xs k d ≡ get_or xs k e
        defaults [] k d e b = absurd (omega arith)
        defaults (x ∷ xs) zero d e b = refl
        defaults (x ∷ xs) (suc k) d e b = defaults xs k d e (omega arith)

port_within : (text : PlanTables) → AreJoined text → (l q : ℕ) → Has (own_of (wires_of_links text) l) q → q < first_port text (length text.parts)
port_within text joined l q h = (let r = own_of_link_has text joined l q h in port_below text text.links l r.0 q r.2 r.3)

apart_ports : (text : PlanTables) → AreJoined text → (l : ℕ) → l < length text.links → AllApart (own_of_link (ports_at text l))
apart_ports text joined l b = apart_at (own_of_link (ports_at text l)) apart
  where
    count : length (own_of_link (ports_at text l)) ≡ length (ports_at text l)
    count = length-map (λ (port : Option ℕ). unwrap_or port 0) (ports_at text l)

    apart : (j k : ℕ) → j < k → k < length (own_of_link (ports_at text l)) → get_or (own_of_link (ports_at text l)) j 0 ≡ get_or (own_of_link (ports_at text l)) k 0 → ⊥
    apart j k below fits same =
        (let kb : k < length (ports_at text l) = omega (arith, fits, count) in
        let jb : j < length (ports_at text l) = omega (arith, below, kb) in
        let x = entry (ports_at text l) j (joined.named l b) jb in
        let y = entry (ports_at text l) k (joined.named l b) kb in
        let equal : x.0 ≡ y.0 = sym (number_at (ports_at text l) j x.0 jb x.1) ∙ same ∙ number_at (ports_at text l) k y.0 kb y.1 in
        let none = twice_false (take l (link_ports text)) [] (ports_at text l) k y.0 (joined.once l b) kb y.1 in
        let at_j = any_false (is_port (Some y.0)) (take k (ports_at text l)) j None none.0 (takes (ports_at text l) k j below (omega (arith, kb))) in
        let there : get_or (take k (ports_at text l)) j None ≡ Some y.0 = get_take (ports_at text l) k j None below ∙ x.1 ∙ ap (λ n. Some n) equal in
        clash y.0 (ap (is_port (Some y.0)) (sym there) ∙ at_j))
      where
        takes : {A : Type 0} (xs : List A) (n j : ℕ) → j < n → n ≤ length xs → j < length (take n xs)
        takes [] zero j below fits = absurd (omega arith)
        takes [] (suc n) j below fits = absurd (omega arith)
        takes (x ∷ xs) zero j below fits = absurd (omega arith)
        takes (x ∷ xs) (suc n) zero below fits = omega arith
        takes (x ∷ xs) (suc n) (suc j) below fits = (let r = takes xs n j (omega arith) (omega arith) in omega (arith, r))

pub links_wired : (text : PlanTables) → AreJoined text → Wired (wires_of_links text) (first_port text (length text.parts))
links_wired text joined = record {
  listed = λ l q h. (let r = own_of_link_has text joined l q h in owner_at text q l (port_within text joined l q h) (link_of_at text joined l r.0 q r.1 r.2 r.3));
  within = port_within text joined;
  found = λ q b. (let p = plugged_at text joined q b in subst (λ l. Has (own_of (wires_of_links text) l) q) (sym (owner_at text q p.0 b p.1)) (on_link text joined q p.0 p.1).1);
  apart = λ l. apart_of l (below_or l (length text.links));
}
  where
    apart_of : (l : ℕ) → (l < length text.links) ⊎ (length text.links ≤ l) → AllApart (own_of (wires_of_links text) l)
    apart_of l (inl b) = subst AllApart (sym (own_at text l b)) (apart_ports text joined l b)
    apart_of l (inr g) = subst AllApart (sym (own_past text l g)) tt

pub link_owned : (text : PlanTables) → AreJoined text → (q : ℕ) → q < first_port text (length text.parts) → owner_of (wires_of_links text) q < length text.links
link_owned text joined q b = (let p = plugged_at text joined q b in let o = owner_at text q p.0 b p.1 in let l = (on_link text joined q p.0 p.1).0 in omega (arith, o, l))

pub own_count : (text : PlanTables) (l : ℕ) → l < length text.links → length (own_of (wires_of_links text) l) ≡ length (ports_at text l)
own_count text l b = ap length (own_at text l b) ∙ length-map (λ (port : Option ℕ). unwrap_or port 0) (ports_at text l)
