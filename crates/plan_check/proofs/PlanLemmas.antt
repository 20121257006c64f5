-- The plan of a text that breaks no rule is a plan.
use Rattle.std.proofs.Common.{◌≡◌, ℕ, ◌+◌, ◌<◌, ◌≤◌, zero, suc, Bool, true, false, List, [], ◌∷◌, map, drop, length, get_or, refl, ap, arith, ◌∙◌, sym, subst, length-append, inl, inr}
use Rattle.std.specs.Prelude.{Option, Some, None, slice_get, is_none, option_map, All, ◌||◌, ◌⊎◌}
use Rattle.std.proofs.lemmas.Option.{slice_get-map}
use Rattle.sim_config.specs.Tables.{PlanTables, PartTable, LinkTable}
use Rattle.sim_config.specs.declared.fault.TableNo.{TableNo}
use Rattle.tick_law.specs.PlanView.{PlanView, IsPlan, part_wires, link_wires}
use Rattle.tick_law.specs.Wires.{Wires, Wired, own_of, owner_of}
use Rattle.tick_law.specs.declared.port_plan.PortPlan.{PortPlan}
use Rattle.elf_load.specs.declared.image.Image.{Image}
use Rattle.part_kind.specs.Part.{part, part_own}
use Rattle.part_kind.specs.LinkKind.{link, link_own}
use Rattle.part_kind.specs.declared.part.Part.{Part}
use Rattle.part_kind.specs.declared.link_kind.LinkKind.{LinkKind}
use Rattle.plan_rules.specs.declared.rule.PlanRule.{PlanRule}
use Rattle.plan_rules.specs.declared.rule.PlanRule.TheVariants.{TooMany, DuplicateName, NoSuchName, WrongTarget, PortTwice, PortUnplugged, NotOnLink, MapOverlap}
use Rattle.plan_rules.specs.declared.rule.TheConstants.{RULES}
use Rattle.plan_rules.specs.First.{first_broken, first_of, first_table, told_or}
use Rattle.plan_rules.specs.Kinds.{port_count}
use Rattle.plan_rules.specs.Numbers.{IsFew}
use Rattle.plan_rules.specs.Rules.{breaks, link_of, no_such_name, port_twice, port_unplugged}
use Rattle.plan_rules.specs.Text.{first_port, link_ports, passes, port_numbers, some_below}
use Rattle.plan_rules.proofs.Few.{no_link, no_part, first_port_all}
use Rattle.plan_check.specs.Plan.{HasCapacity, count_of, links_to, own_of_link, own_to, parts_to, plan_of, ports_to}
use Rattle.plan_check.proofs.Places.{length-map, drop_front, take_front, within, get_there, get_map, one_below}
use Rattle.plan_check.proofs.PartPorts.{count_own_to, length-ports_to, own_length, part_owned, parts_wired, wires_of_parts, wires_of_parts_are}
use Rattle.plan_check.proofs.LinkPorts.{AreJoined, link_owned, links_wired, own_count, wires_of_links, wires_of_links_are}

-- where nothing is told, the first rule is kept and the later ones tell nothing
none_told : (text : PlanTables) (rule : PlanRule) (rules : List PlanRule) → first_of text (rule ∷ rules) ≡ None → (first_table text rule ≡ None) × (first_of text rules ≡ None)
none_told text rule rules none = at (first_table text rule) none
  where
    at : (o : Option TableNo) → told_or rule o (first_of text rules) ≡ None → (o ≡ None) × (first_of text rules ≡ None)
    at None h = (refl, h)
    at (Some t) h = absurd (cc)

-- each rule is kept by all tables
pub record IsKept (text : PlanTables) : Type 0 where
  pub names : first_table text NoSuchName ≡ None
  pub ports : first_table text PortTwice ≡ None
  pub plugged : first_table text PortUnplugged ≡ None
  pub overlap : first_table text MapOverlap ≡ None

pub kept : (text : PlanTables) → first_broken text ≡ None → IsKept text
unfolding first_broken
kept text none =
    let a = none_told text TooMany (drop 1 RULES) none in
    let b = none_told text DuplicateName (drop 2 RULES) a.1 in
    let c = none_told text NoSuchName (drop 3 RULES) b.1 in
    let d = none_told text WrongTarget (drop 4 RULES) c.1 in
    let e = none_told text PortTwice (drop 5 RULES) d.1 in
    let f = none_told text PortUnplugged (drop 6 RULES) e.1 in
    let g = none_told text NotOnLink (drop 7 RULES) f.1 in
    let h = none_told text MapOverlap (drop 8 RULES) g.1 in
    record { names = c.0; ports = e.0; plugged = f.0; overlap = h.0 }

below_false : (n : ℕ) (test : ℕ → Bool) (k : ℕ) → some_below n test ≡ false → k < n → test k ≡ false
below_false zero test k none below = absurd (omega arith)
below_false (suc n) test k none below = at (one_below k n below) (parts (some_below n test) (test n) none) (λ h b. below_false n test k h b)
  where
    parts : (a b : Bool) → (a || b) ≡ false → (a ≡ false) × (b ≡ false)
    parts true b h = absurd (cc)
    parts false b h = (refl, h)

    at : ((k < n) ⊎ (k ≡ n)) → (some_below n test ≡ false) × (test n ≡ false) → (some_below n test ≡ false → k < n → test k ≡ false) → test k ≡ false
    at (inl l) both rest = rest both.0 l
    at (inr e) both rest = ap test e ∙ both.1

pub joined : (text : PlanTables) → IsKept text → AreJoined text
unfolding breaks no_such_name port_twice port_unplugged
joined text is =
    let named = no_link text (breaks text NoSuchName) is.names in
    let once = no_link text (breaks text PortTwice) is.ports in
    let plugged = no_part text (breaks text PortUnplugged) is.plugged in
    record {
      named = named;
      once = once;
      plugged = λ i b k h. plugged_at i k (slice_get text.parts i) refl (plugged i b) h;
    }
  where
    plugged_at : (i k : ℕ) (o : Option PartTable) → slice_get text.parts i ≡ o → passes (option_map (λ (p : PartTable). p.kind) o) (λ kind. some_below (port_count kind) (λ j. is_none (link_of text (first_port text i + j)))) ≡ false → k < count_of o → is_none (link_of text (first_port text i + k)) ≡ false
    plugged_at i k None there none below = absurd (omega arith)
    plugged_at i k (Some t) there none below = below_false (port_count t.kind) (λ j. is_none (link_of text (first_port text i + j))) k none below

wires_is : (a b : List (List ℕ)) (c d : List ℕ) → a ≡ b → c ≡ d → let x : Wires = record { own = a; owner = c } in let y : Wires = record { own = b; owner = d } in x ≡ y
wires_is a b c d e f = cc

pub length-ports : (text : PlanTables) (links : List LinkTable) → map (λ (l : LinkTable). length l.ports) links ≡ map length (map (port_numbers text) links)
length-ports text [] = refl
length-ports text (l ∷ ls) = ap (λ n. n ∷ map (λ (l : LinkTable). length l.ports) ls) (sym (length-map _ l.ports)) ∙ ap (λ ns. length (port_numbers text l) ∷ ns) (length-ports text ls)

-- how many parts and links the plan has, by what their lists of own ports say
pub record AreCounted (text : PlanTables) (images : List Image) : Type 0 where
  pub parts : map part_own (parts_to text images (length text.parts)) ≡ map (λ (p : PartTable). port_count p.kind) text.parts
  pub links : map link_own (links_to text (length text.links)) ≡ map length (link_ports text)

module _ (text : PlanTables) (images : List Image) (counted : AreCounted text images) where
  part_count : length (parts_to text images (length text.parts)) ≡ length text.parts
  part_count = sym (length-map part_own (parts_to text images (length text.parts))) ∙ ap length counted.parts ∙ length-map (λ (p : PartTable). port_count p.kind) text.parts

  link_count : length (links_to text (length text.links)) ≡ length text.links
  link_count = sym (length-map link_own (links_to text (length text.links))) ∙ ap length counted.links ∙ length-map length (link_ports text) ∙ length-map (port_numbers text) text.links

  part_wires_are : part_wires (plan_of text images) ≡ wires_of_parts text
  part_wires_are = wires_is _ _ _ _ (take_front (own_to text (length text.parts)) (map own_of_link (link_ports text)) (length (parts_to text images (length text.parts))) (part_count ∙ sym (count_own_to text (length text.parts)))) refl ∙ sym (wires_of_parts_are text)

  link_wires_are : link_wires (plan_of text images) ≡ wires_of_links text
  link_wires_are = wires_is _ _ _ _ (drop_front (own_to text (length text.parts)) (map own_of_link (link_ports text)) (length (parts_to text images (length text.parts))) (part_count ∙ sym (count_own_to text (length text.parts)))) refl ∙ sym (wires_of_links_are text)

  mapped_here : {A : Type 0} (f : A → ℕ) (xs : List A) (ys : List ℕ) (i : ℕ) (x : A) → map f xs ≡ ys → slice_get xs i ≡ Some x → slice_get ys i ≡ Some (f x)
  mapped_here f xs ys i x same there = ap (λ l. slice_get l i) (sym same) ∙ slice_get-map f xs i ∙ ap (option_map f) there

  part_own_is : (i : ℕ) (s : Part) → slice_get (parts_to text images (length text.parts)) i ≡ Some s → length (own_of (part_wires (plan_of text images)) i) ≡ part_own s
  part_own_is i s there =
      let b : i < length text.parts = (let l = within (parts_to text images (length text.parts)) i s there in let c = part_count in omega (arith, l, c)) in
      let own : option_map (λ (p : PartTable). port_count p.kind) (slice_get text.parts i) ≡ Some (part_own s) = sym (slice_get-map (λ (p : PartTable). port_count p.kind) text.parts i) ∙ mapped_here part_own (parts_to text images (length text.parts)) _ i s counted.parts there in
      ap (λ w. length (own_of w i)) part_wires_are ∙ own_length text i b ∙ count_is (slice_get text.parts i) own
    where
      count_is : (o : Option PartTable) → option_map (λ (p : PartTable). port_count p.kind) o ≡ Some (part_own s) → count_of o ≡ part_own s
      count_is None e = absurd (cc)
      count_is (Some t) e = cc

  link_own_is : (l : ℕ) (s : LinkKind) → slice_get (links_to text (length text.links)) l ≡ Some s → length (own_of (link_wires (plan_of text images)) l) ≡ link_own s
  link_own_is l s there =
      let b : l < length text.links = (let h = within (links_to text (length text.links)) l s there in let c = link_count in omega (arith, h, c)) in
      let own = mapped_here link_own (links_to text (length text.links)) _ l s counted.links there in
      let m = length-map (port_numbers text) text.links in
      ap (λ w. length (own_of w l)) link_wires_are ∙ own_count text l b ∙ sym (get_map length (link_ports text) l [] 0 (omega (arith, b, m))) ∙ get_there (map length (link_ports text)) l (link_own s) 0 own

  pub plan_is_plan : IsFew text → IsKept text → text.until.0 ≤ 500000000000 → All HasCapacity (ports_to text (length text.parts)) → IsPlan part link (plan_of text images)
  plan_is_plan few is early capacities =
      let together = joined text is in
      let ports = length-ports_to text (length text.parts) in
      let all = first_port_all text in
      record {
        parts_are_parts = refl;
        links_are_links = refl;
        few_parts = (let c = part_count in let f = few.parts in omega (arith, c, f));
        few_links = (let c = link_count in let f = few.links in omega (arith, c, f));
        few_ports = (let f = few.ports in omega (arith, ports, all, f));
        part_names = length-map (λ (p : PartTable). p.name) text.parts ∙ sym part_count;
        link_names = length-map (λ (l : LinkTable). l.name) text.links ∙ sym link_count;
        fields = length-map _ text.parts ∙ sym part_count;
        own = (let a = length-append (own_to text (length text.parts)) (map own_of_link (link_ports text)) in let b = count_own_to text (length text.parts) in let c = length-map own_of_link (link_ports text) in let d = length-map (port_numbers text) text.links in let e = part_count in let f = link_count in omega (arith, a, b, c, d, e, f));
        until = early;
        capacities = λ q p there. capacity q p there;
        part_wired = subst (Wired (part_wires (plan_of text images))) (sym ports) (subst (λ w. Wired w (first_port text (length text.parts))) (sym part_wires_are) (parts_wired text));
        link_wired = subst (Wired (link_wires (plan_of text images))) (sym ports) (subst (λ w. Wired w (first_port text (length text.parts))) (sym link_wires_are) (links_wired text together));
        part_owned = λ q b. (let o : owner_of (part_wires (plan_of text images)) q ≡ owner_of (wires_of_parts text) q = ap (λ w. owner_of w q) part_wires_are in let l = part_owned text q (omega (arith, b, ports)) in let c = part_count in omega (arith, o, l, c));
        link_owned = λ q b. (let o : owner_of (link_wires (plan_of text images)) q ≡ owner_of (wires_of_links text) q = ap (λ w. owner_of w q) link_wires_are in let l = link_owned text together q (omega (arith, b, ports)) in let c = link_count in omega (arith, o, l, c));
        part_own = part_own_is;
        link_own = link_own_is;
      }
    where
      capacity : (q : ℕ) (p : PortPlan) → slice_get (ports_to text (length text.parts)) q ≡ Some p → (1 ≤ p.cap) × (p.cap ≤ 64)
      capacity q p there =
          (let c = capacities q p (within (ports_to text (length text.parts)) q p there) in
          let same : get_or (ports_to text (length text.parts)) q p ≡ p = get_there (ports_to text (length text.parts)) q p p there in
          let h = subst HasCapacity same c in (h.some, h.few))

view_is : (p p' : List Part) (l l' : List LinkKind) (a a' b b' : List (List ℕ)) (f f' : List (List (List ℕ))) (q q' : List PortPlan) (o o' : List (List ℕ)) (t t' : ℕ) → p ≡ p' → l ≡ l' → a ≡ a' → b ≡ b' → f ≡ f' → q ≡ q' → o ≡ o' → t ≡ t' →
    (let x : PlanView Part LinkKind = record { parts = p; links = l; part_names = a; link_names = b; fields = f; ports = q; own = o; until = t } in
    let y : PlanView Part LinkKind = record { parts = p'; links = l'; part_names = a'; link_names = b'; fields = f'; ports = q'; own = o'; until = t' } in x ≡ y)
view_is p p' l l' a a' b b' f f' q q' o o' t t' c d e g h i j k = cc

-- what has the parts of a plan is the plan
pub plan_is : (text : PlanTables) (images : List Image) (parts : List Part) (links : List LinkKind) (part_names link_names : List (List ℕ)) (fields : List (List (List ℕ))) (ports : List PortPlan) (own : List (List ℕ)) (until : ℕ) →
    parts ≡ (plan_of text images).parts → links ≡ (plan_of text images).links → part_names ≡ (plan_of text images).part_names → link_names ≡ (plan_of text images).link_names → fields ≡ (plan_of text images).fields → ports ≡ (plan_of text images).ports → own ≡ (plan_of text images).own → until ≡ (plan_of text images).until →
    (let x : PlanView Part LinkKind = record { parts = parts; links = links; part_names = part_names; link_names = link_names; fields = fields; ports = ports; own = own; until = until } in x ≡ plan_of text images)
plan_is text images parts links part_names link_names fields ports own until a b c d e f g h = view_is _ _ _ _ _ _ _ _ _ _ _ _ _ _ _ _ a b c d e f g h
