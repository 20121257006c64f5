-- Where the words behind the first word of a command are refused.
use Rattle.std.proofs.Common.{◌≡◌, ◌≢◌, ℕ, suc, ◌+◌, ◌<◌, ◌≤◌, List, [], ◌∷◌, length, drop, codes, flat_map, refl, sym, ap, ◌∙◌, subst, arith}
use Rattle.std.specs.Prelude.{Some, None, false, slice_get, get_or}
use Rattle.std.specs.Fmt.{decimal}
use Rattle.std.proofs.lemmas.Fmt.{decimal_injective}
use Rattle.top_run.specs.declared.command.Ring.{Ring}
use Rattle.top_run.specs.declared.command.Options.{Options}
use Rattle.top_run.specs.declared.command.Detail.{Detail}
use Rattle.top_run.specs.declared.command.Detail.TheVariants.{Trace, Stats, Dump}
use Rattle.top_run.specs.declared.command.Command.TheVariants as commands
use Rattle.top_run.specs.Words.{latest, IsFile, Until, Shows, setting_words, detail_word, has_detail, with_detail, with_setting, Lead, AreSettings, IsAccepted, no_options, IsBehind, IsRing, IsStorm, IsOneFile, IsFileAndOptions, IsShow, HasOptions, IsRefusedFrom, IsNumberAt}
use Rattle.top_run.proofs.WordRefusals.{from_here, from_behind, from_same, drop_at}

abbrev pub ring_of : ℕ → ℕ → Ring
ring_of n until = record { relays = n; until = record { 0 = until } }

-- two words that begin with different bytes
pub differ : {A : Type 0} (v w : List ℕ) → get_or v 0 0 ≢ get_or w 0 0 → v ≡ w → A
differ v w ne e = absurd (ne (ap (λ l. get_or l 0 0) e))

-- two words that differ at their second bytes
pub differ_second : {A : Type 0} (v w : List ℕ) → get_or v 1 0 ≢ get_or w 1 0 → v ≡ w → A
differ_second v w ne e = absurd (ne (ap (λ l. get_or l 1 0) e))

-- nothing stands behind
abbrev pub IsEnd : List (List ℕ) → Type 0
IsEnd words = words ≡ []

-- one time
abbrev pub IsTime : List (List ℕ) → Type 0
IsTime words = (t : ℕ) × (words ≡ decimal t ∷ []) × (t ≤ latest)

pub refused_end : (words : List (List ℕ)) (place k : ℕ) → k ≡ place + 1 → place < length words → IsRefusedFrom IsEnd words place k
refused_end words place k e b = from_here IsEnd words place k [] refl e (λ is. b) (λ v t is at. absurd (cc))

-- `ring`
ring_is : (t : List (List ℕ)) → IsRing t → IsBehind (codes "ring") t
ring_is t (ring, is) = (commands.Ring ring, refl, is)

is_ring : (t : List (List ℕ)) → IsBehind (codes "ring") t → IsRing t
is_ring t (commands.Ring ring, e, is) = (ring, is)
is_ring t (commands.Check file, e, is) = differ (codes "check") (codes "ring") (λ h. omega (arith, h)) e
is_ring t (commands.Run file options, e, is) = absurd (cc)
is_ring t (commands.Slow file options, e, is) = differ (codes "slow") (codes "ring") (λ h. omega (arith, h)) e
is_ring t (commands.Show file at question, e, is) = differ (codes "show") (codes "ring") (λ h. omega (arith, h)) e
is_ring t (commands.Storm agents, e, is) = differ (codes "storm") (codes "ring") (λ h. omega (arith, h)) e

pub behind_ring : (words : List (List ℕ)) (k : ℕ) → IsRefusedFrom IsRing words 1 k → IsRefusedFrom (IsBehind (codes "ring")) words 1 k
behind_ring words k r = from_same (IsBehind (codes "ring")) IsRing words 1 k ring_is is_ring r

-- `check`
check_is : (t : List (List ℕ)) → IsOneFile t → IsBehind (codes "check") t
check_is t (file, is) = (commands.Check file, refl, is)

is_check : (t : List (List ℕ)) → IsBehind (codes "check") t → IsOneFile t
is_check t (commands.Ring ring, e, is) = differ (codes "ring") (codes "check") (λ h. omega (arith, h)) e
is_check t (commands.Check file, e, is) = (file, is)
is_check t (commands.Run file options, e, is) = differ (codes "run") (codes "check") (λ h. omega (arith, h)) e
is_check t (commands.Slow file options, e, is) = differ (codes "slow") (codes "check") (λ h. omega (arith, h)) e
is_check t (commands.Show file at question, e, is) = differ (codes "show") (codes "check") (λ h. omega (arith, h)) e
is_check t (commands.Storm agents, e, is) = differ (codes "storm") (codes "check") (λ h. omega (arith, h)) e

pub behind_check : (words : List (List ℕ)) (k : ℕ) → IsRefusedFrom IsOneFile words 1 k → IsRefusedFrom (IsBehind (codes "check")) words 1 k
behind_check words k r = from_same (IsBehind (codes "check")) IsOneFile words 1 k check_is is_check r

-- `run`
run_is : (t : List (List ℕ)) → IsFileAndOptions t → IsBehind (codes "run") t
run_is t (file, options, is) = (commands.Run file options, refl, is)

is_run : (t : List (List ℕ)) → IsBehind (codes "run") t → IsFileAndOptions t
is_run t (commands.Ring ring, e, is) = absurd (cc)
is_run t (commands.Check file, e, is) = differ (codes "check") (codes "run") (λ h. omega (arith, h)) e
is_run t (commands.Run file options, e, is) = (file, options, is)
is_run t (commands.Slow file options, e, is) = differ (codes "slow") (codes "run") (λ h. omega (arith, h)) e
is_run t (commands.Show file at question, e, is) = differ (codes "show") (codes "run") (λ h. omega (arith, h)) e
is_run t (commands.Storm agents, e, is) = differ (codes "storm") (codes "run") (λ h. omega (arith, h)) e

pub behind_run : (words : List (List ℕ)) (k : ℕ) → IsRefusedFrom IsFileAndOptions words 1 k → IsRefusedFrom (IsBehind (codes "run")) words 1 k
behind_run words k r = from_same (IsBehind (codes "run")) IsFileAndOptions words 1 k run_is is_run r

-- `slow`
slow_is : (t : List (List ℕ)) → IsFileAndOptions t → IsBehind (codes "slow") t
slow_is t (file, options, is) = (commands.Slow file options, refl, is)

is_slow : (t : List (List ℕ)) → IsBehind (codes "slow") t → IsFileAndOptions t
is_slow t (commands.Ring ring, e, is) = differ (codes "ring") (codes "slow") (λ h. omega (arith, h)) e
is_slow t (commands.Check file, e, is) = differ (codes "check") (codes "slow") (λ h. omega (arith, h)) e
is_slow t (commands.Run file options, e, is) = differ (codes "run") (codes "slow") (λ h. omega (arith, h)) e
is_slow t (commands.Slow file options, e, is) = (file, options, is)
is_slow t (commands.Show file at question, e, is) = let second : 104 ≡ 108 = ap (λ l. get_or l 1 0) e in absurd (omega (arith, second))
is_slow t (commands.Storm agents, e, is) = differ_second (codes "storm") (codes "slow") (λ h. omega (arith, h)) e

pub behind_slow : (words : List (List ℕ)) (k : ℕ) → IsRefusedFrom IsFileAndOptions words 1 k → IsRefusedFrom (IsBehind (codes "slow")) words 1 k
behind_slow words k r = from_same (IsBehind (codes "slow")) IsFileAndOptions words 1 k slow_is is_slow r

-- `show`
show_is : (t : List (List ℕ)) → IsShow t → IsBehind (codes "show") t
show_is t (file, at, question, is) = (commands.Show file at question, refl, is)

is_show : (t : List (List ℕ)) → IsBehind (codes "show") t → IsShow t
is_show t (commands.Ring ring, e, is) = differ (codes "ring") (codes "show") (λ h. omega (arith, h)) e
is_show t (commands.Check file, e, is) = differ (codes "check") (codes "show") (λ h. omega (arith, h)) e
is_show t (commands.Run file options, e, is) = differ (codes "run") (codes "show") (λ h. omega (arith, h)) e
is_show t (commands.Slow file options, e, is) = let second : 108 ≡ 104 = ap (λ l. get_or l 1 0) e in absurd (omega (arith, second))
is_show t (commands.Show file at question, e, is) = (file, at, question, is)
is_show t (commands.Storm agents, e, is) = differ_second (codes "storm") (codes "show") (λ h. omega (arith, h)) e

pub behind_show : (words : List (List ℕ)) (k : ℕ) → IsRefusedFrom IsShow words 1 k → IsRefusedFrom (IsBehind (codes "show")) words 1 k
behind_show words k r = from_same (IsBehind (codes "show")) IsShow words 1 k show_is is_show r

-- `storm`
storm_is : (t : List (List ℕ)) → IsStorm t → IsBehind (codes "storm") t
storm_is t (agents, is) = (commands.Storm agents, refl, is)

is_storm : (t : List (List ℕ)) → IsBehind (codes "storm") t → IsStorm t
is_storm t (commands.Ring ring, e, is) = differ (codes "ring") (codes "storm") (λ h. omega (arith, h)) e
is_storm t (commands.Check file, e, is) = differ (codes "check") (codes "storm") (λ h. omega (arith, h)) e
is_storm t (commands.Run file options, e, is) = differ (codes "run") (codes "storm") (λ h. omega (arith, h)) e
is_storm t (commands.Slow file options, e, is) = differ_second (codes "slow") (codes "storm") (λ h. omega (arith, h)) e
is_storm t (commands.Show file at question, e, is) = differ_second (codes "show") (codes "storm") (λ h. omega (arith, h)) e
is_storm t (commands.Storm agents, e, is) = (agents, is)

pub behind_storm : (words : List (List ℕ)) (k : ℕ) → IsRefusedFrom IsStorm words 1 k → IsRefusedFrom (IsBehind (codes "storm")) words 1 k
behind_storm words k r = from_same (IsBehind (codes "storm")) IsStorm words 1 k storm_is is_storm r

-- the number of a storm's agents
pub no_agents : (words : List (List ℕ)) (k : ℕ) → k ≡ 2 → ((n : ℕ) → IsNumberAt words 1 1 252 n → ⊥) → IsRefusedFrom IsStorm words 1 k
no_agents words k e other = from_here IsStorm words 1 k _ (1, (refl, (omega arith, omega arith))) e ended not
  where
    ended : IsStorm [] → 1 < length words
    ended (agents, (is, few)) = absurd (cc)

    not : (v : List ℕ) (t : List (List ℕ)) → IsStorm (v ∷ t) → slice_get words 1 ≡ Some v → ⊥
    not v t (agents, (is, few)) at =
        let head : v ≡ decimal agents = cc in
        other agents (record { word = at ∙ ap (λ x. Some x) head; from = few.0; within = few.1 })

pub behind_agents : (words : List (List ℕ)) (n k : ℕ) → IsNumberAt words 1 1 252 n → IsRefusedFrom IsEnd words 2 k → IsRefusedFrom IsStorm words 1 k
behind_agents words n k number r = from_behind IsStorm IsEnd (decimal n) words 1 k number.word put off r
  where
    put : (t : List (List ℕ)) → IsEnd t → IsStorm (decimal n ∷ t)
    put t is = (n, (ap (λ l. decimal n ∷ l) is, (number.from, number.within)))

    off : (t : List (List ℕ)) → IsStorm (decimal n ∷ t) → IsEnd t
    off t (agents, (is, few)) = cc

-- the numbers of a ring
pub no_relays : (words : List (List ℕ)) (k : ℕ) → k ≡ 2 → ((n : ℕ) → IsNumberAt words 1 1 256 n → ⊥) → IsRefusedFrom IsRing words 1 k
no_relays words k e other = from_here IsRing words 1 k _ (ring_of 1 0, (refl, (omega arith, omega arith, omega arith))) e ended not
  where
    ended : IsRing [] → 1 < length words
    ended (ring, (is, range)) = absurd (cc)

    not : (v : List ℕ) (t : List (List ℕ)) → IsRing (v ∷ t) → slice_get words 1 ≡ Some v → ⊥
    not v t (ring, (is, range)) at =
        let head : v ≡ decimal ring.relays = cc in
        other ring.relays (record { word = at ∙ ap (λ x. Some x) head; from = range.0; within = range.1 })

pub behind_relays : (words : List (List ℕ)) (n k : ℕ) → IsNumberAt words 1 1 256 n → IsRefusedFrom IsTime words 2 k → IsRefusedFrom IsRing words 1 k
behind_relays words n k number r = from_behind IsRing IsTime (decimal n) words 1 k number.word put off r
  where
    put : (t : List (List ℕ)) → IsTime t → IsRing (decimal n ∷ t)
    put t (until, is, within) = (ring_of n until, (ap (λ l. decimal n ∷ l) is, (number.from, number.within, within)))

    off : (t : List (List ℕ)) → IsRing (decimal n ∷ t) → IsTime t
    off t (ring, (is, range)) = let tail : t ≡ decimal ring.until.0 ∷ [] = cc in (ring.until.0, tail, range.2)

pub no_time : (words : List (List ℕ)) (place k : ℕ) → k ≡ place + 1 → ((n : ℕ) → IsNumberAt words place 0 latest n → ⊥) → IsRefusedFrom IsTime words place k
no_time words place k e other = from_here IsTime words place k _ (0, refl, omega arith) e ended not
  where
    ended : IsTime [] → place < length words
    ended (until, is, within) = absurd (cc)

    not : (v : List ℕ) (t : List (List ℕ)) → IsTime (v ∷ t) → slice_get words place ≡ Some v → ⊥
    not v t (until, is, within) at =
        let head : v ≡ decimal until = cc in
        other until (record { word = at ∙ ap (λ x. Some x) head; from = omega arith; within = within })

pub behind_time : (words : List (List ℕ)) (place n k : ℕ) → IsNumberAt words place 0 latest n → IsRefusedFrom IsEnd words (suc place) k → IsRefusedFrom IsTime words place k
behind_time words place n k number r = from_behind IsTime IsEnd (decimal n) words place k number.word put off r
  where
    put : (t : List (List ℕ)) → IsEnd t → IsTime (decimal n ∷ t)
    put t is = (n, ap (λ l. decimal n ∷ l) is, number.within)

    off : (t : List (List ℕ)) → IsTime (decimal n ∷ t) → IsEnd t
    off t (until, is, within) = cc

-- files
pub sample : IsFile (codes "a")
sample = (97, refl, λ h. omega (arith, h))

pub no_file : (words : List (List ℕ)) (k : ℕ) → k ≡ 2 → ((file : List ℕ) → slice_get words 1 ≡ Some file → IsFile file → ⊥) → IsRefusedFrom IsOneFile words 1 k
no_file words k e other = from_here IsOneFile words 1 k _ (codes "a", (refl, sample)) e ended not
  where
    ended : IsOneFile [] → 1 < length words
    ended (file, (is, good)) = absurd (cc)

    not : (v : List ℕ) (t : List (List ℕ)) → IsOneFile (v ∷ t) → slice_get words 1 ≡ Some v → ⊥
    not v t (file, (is, good)) at = let head : v ≡ file = cc in other file (at ∙ ap (λ x. Some x) head) good

pub behind_file : (words : List (List ℕ)) (file : List ℕ) (k : ℕ) → slice_get words 1 ≡ Some file → IsFile file → IsRefusedFrom IsEnd words 2 k → IsRefusedFrom IsOneFile words 1 k
behind_file words file k at good r = from_behind IsOneFile IsEnd file words 1 k at put off r
  where
    put : (t : List (List ℕ)) → IsEnd t → IsOneFile (file ∷ t)
    put t is = (file, (ap (λ l. file ∷ l) is, good))

    off : (t : List (List ℕ)) → IsOneFile (file ∷ t) → IsEnd t
    off t (other, (is, fine)) = cc

pub no_run_file : (words : List (List ℕ)) (k : ℕ) → k ≡ 2 → ((file : List ℕ) → slice_get words 1 ≡ Some file → IsFile file → ⊥) → IsRefusedFrom IsFileAndOptions words 1 k
no_run_file words k e other = from_here IsFileAndOptions words 1 k _ (codes "a", no_options, ([], refl, sample, ([], refl, refl))) e ended not
  where
    ended : IsFileAndOptions [] → 1 < length words
    ended (file, options, (rest, is, good, settings)) = absurd (cc)

    not : (v : List ℕ) (t : List (List ℕ)) → IsFileAndOptions (v ∷ t) → slice_get words 1 ≡ Some v → ⊥
    not v t (file, options, (rest, is, good, settings)) at = let head : v ≡ file = cc in other file (at ∙ ap (λ x. Some x) head) good

pub behind_run_file : (words : List (List ℕ)) (file : List ℕ) (k : ℕ) → slice_get words 1 ≡ Some file → IsFile file → IsRefusedFrom (HasOptions no_options) words 2 k → IsRefusedFrom IsFileAndOptions words 1 k
behind_run_file words file k at good r = from_behind IsFileAndOptions (HasOptions no_options) file words 1 k at put off r
  where
    put : (t : List (List ℕ)) → HasOptions no_options t → IsFileAndOptions (file ∷ t)
    put t (options, settings) = (file, options, (t, refl, good, settings))

    off : (t : List (List ℕ)) → IsFileAndOptions (file ∷ t) → HasOptions no_options t
    off t (other, options, (rest, is, fine, settings)) =
        let tail : t ≡ rest = cc in
        (options, subst (λ l. AreSettings no_options options l) (sym tail) settings)

-- options
pub detail_same : (d e : Detail) → detail_word d ≡ detail_word e → d ≡ e
detail_same Trace Trace is = refl
detail_same Trace Dump is = let third : 116 ≡ 100 = ap (λ l. get_or l 2 0) is in absurd (omega (arith, third))
detail_same Trace Stats is = let third : 116 ≡ 115 = ap (λ l. get_or l 2 0) is in absurd (omega (arith, third))
detail_same Stats Trace is = let third : 115 ≡ 116 = ap (λ l. get_or l 2 0) is in absurd (omega (arith, third))
detail_same Stats Stats is = refl
detail_same Stats Dump is = let third : 115 ≡ 100 = ap (λ l. get_or l 2 0) is in absurd (omega (arith, third))
detail_same Dump Stats is = let third : 100 ≡ 115 = ap (λ l. get_or l 2 0) is in absurd (omega (arith, third))
detail_same Dump Trace is = let third : 100 ≡ 116 = ap (λ l. get_or l 2 0) is in absurd (omega (arith, third))
detail_same Dump Dump is = refl

-- a word that asks for a detail differs from `--until` at its third byte
pub not_until : {A : Type 0} (d : Detail) → detail_word d ≡ codes "--until" → A
not_until Trace e = let third : 116 ≡ 117 = ap (λ l. get_or l 2 0) e in absurd (omega (arith, third))
not_until Stats e = let third : 115 ≡ 117 = ap (λ l. get_or l 2 0) e in absurd (omega (arith, third))
not_until Dump e = let third : 100 ≡ 117 = ap (λ l. get_or l 2 0) e in absurd (omega (arith, third))

pub no_option : (words : List (List ℕ)) (options : Options) (place k : ℕ) → k ≡ place + 1 → place < length words → (slice_get words place ≡ Some (codes "--until") → options.until ≡ None → ⊥) → ((d : Detail) → slice_get words place ≡ Some (detail_word d) → has_detail options d ≡ false → ⊥) → IsRefusedFrom (HasOptions options) words place k
no_option words options place k e b other none = from_here (HasOptions options) words place k [] (options, ([], refl, refl)) e (λ is. b) not
  where
    not : (v : List ℕ) (t : List (List ℕ)) → HasOptions options (v ∷ t) → slice_get words place ≡ Some v → ⊥
    not v t (after, ([], is, lead)) at = absurd (cc)
    not v t (after, (Until n ∷ ss, is, lead)) at =
        let head : v ≡ codes "--until" = cc in
        other (at ∙ ap (λ x. Some x) head) lead.0
    not v t (after, (Shows d ∷ ss, is, lead)) at =
        let head : v ≡ detail_word d = cc in
        none d (at ∙ ap (λ x. Some x) head) lead.0

-- a time and options behind it
abbrev pub IsTimeAndOptions : Options → List (List ℕ) → Type 0
IsTimeAndOptions options words = (t : ℕ) × (rest : List (List ℕ)) × (words ≡ decimal t ∷ rest) × (t ≤ latest) × HasOptions (with_setting options (Until t)) rest

pub behind_until : (words : List (List ℕ)) (options : Options) (place k : ℕ) → slice_get words place ≡ Some (codes "--until") → options.until ≡ None → IsRefusedFrom (IsTimeAndOptions options) words (suc place) k → IsRefusedFrom (HasOptions options) words place k
behind_until words options place k at free r = from_behind (HasOptions options) (IsTimeAndOptions options) (codes "--until") words place k at put off r
  where
    put : (t : List (List ℕ)) → IsTimeAndOptions options t → HasOptions options (codes "--until" ∷ t)
    put t (n, rest, is, within, (after, (ss, e, lead))) =
        (after, (Until n ∷ ss, ap (λ l. codes "--until" ∷ l) (is ∙ ap (λ l. decimal n ∷ l) e), (free, within, lead)))

    off : (t : List (List ℕ)) → HasOptions options (codes "--until" ∷ t) → IsTimeAndOptions options t
    off t (after, ([], is, lead)) = absurd (cc)
    off t (after, (Until n ∷ ss, is, lead)) =
        let tail : t ≡ decimal n ∷ flat_map setting_words ss = cc in
        (n, flat_map setting_words ss, tail, lead.1, (after, (ss, refl, lead.2)))
    off t (after, (Shows d ∷ ss, is, lead)) = let head : codes "--until" ≡ detail_word d = cc in not_until d (sym head)

pub no_until : (words : List (List ℕ)) (options : Options) (place k : ℕ) → k ≡ place + 1 → ((n : ℕ) → IsNumberAt words place 0 latest n → ⊥) → IsRefusedFrom (IsTimeAndOptions options) words place k
no_until words options place k e other = from_here (IsTimeAndOptions options) words place k _ (0, [], refl, omega arith, (_, ([], refl, refl))) e ended not
  where
    ended : IsTimeAndOptions options [] → place < length words
    ended (until, rest, is, within, more) = absurd (cc)

    not : (v : List ℕ) (t : List (List ℕ)) → IsTimeAndOptions options (v ∷ t) → slice_get words place ≡ Some v → ⊥
    not v t (until, rest, is, within, more) at =
        let head : v ≡ decimal until = cc in
        other until (record { word = at ∙ ap (λ x. Some x) head; from = omega arith; within = within })

pub behind_number : (words : List (List ℕ)) (options : Options) (place n k : ℕ) → IsNumberAt words place 0 latest n → IsRefusedFrom (HasOptions (with_setting options (Until n))) words (suc place) k → IsRefusedFrom (IsTimeAndOptions options) words place k
behind_number words options place n k number r = from_behind (IsTimeAndOptions options) (HasOptions (with_setting options (Until n))) (decimal n) words place k number.word put off r
  where
    put : (t : List (List ℕ)) → HasOptions (with_setting options (Until n)) t → IsTimeAndOptions options (decimal n ∷ t)
    put t has = (n, t, refl, number.within, has)

    off : (t : List (List ℕ)) → IsTimeAndOptions options (decimal n ∷ t) → HasOptions (with_setting options (Until n)) t
    off t (m, rest, is, within, has) =
        let head : decimal m ≡ decimal n = cc in
        let tail : t ≡ rest = cc in
        let same : m ≡ n = decimal_injective m n (omega (arith, within)) (omega (arith, number.within)) head in
        subst (λ l. HasOptions (with_setting options (Until n)) l) (sym tail) (subst (λ i. HasOptions (with_setting options (Until i)) rest) same has)

-- the first option and those behind it
pub one_more_option : (words : List (List ℕ)) (options after : Options) (place n : ℕ) → options.until ≡ None → IsNumberAt words (suc place) 0 latest n → drop place words ≡ codes "--until" ∷ decimal n ∷ drop (suc (suc place)) words → AreSettings (with_setting options (Until n)) after (drop (suc (suc place)) words) → AreSettings options after (drop place words)
one_more_option words options after place n free number e (ss, is, lead) =
    (Until n ∷ ss, e ∙ ap (λ l. codes "--until" ∷ decimal n ∷ l) is, (free, number.within, lead))

-- a detail is asked for, and options behind that are refused
pub detail_from : (words : List (List ℕ)) (options : Options) (place k : ℕ) (d : Detail) → slice_get words place ≡ Some (detail_word d) → has_detail options d ≡ false → IsRefusedFrom (HasOptions (with_detail options d)) words (place + 1) k → IsRefusedFrom (HasOptions options) words place k
detail_from words options place k d at free r =
    let one : place + 1 ≡ suc place = omega arith in
    from_behind (HasOptions options) (HasOptions (with_detail options d)) (detail_word d) words place k at put off (subst (λ p. IsRefusedFrom (HasOptions (with_detail options d)) words p k) one r)
  where
    put : (t : List (List ℕ)) → HasOptions (with_detail options d) t → HasOptions options (detail_word d ∷ t)
    put t (after, (ss, e, lead)) = (after, (Shows d ∷ ss, ap (λ l. detail_word d ∷ l) e, (free, tt, lead)))

    off : (t : List (List ℕ)) → HasOptions options (detail_word d ∷ t) → HasOptions (with_detail options d) t
    off t (after, ([], is, lead)) = absurd (cc)
    off t (after, (Until n ∷ ss, is, lead)) = let head : detail_word d ≡ codes "--until" = cc in not_until d head
    off t (after, (Shows e ∷ ss, is, lead)) =
        let head : detail_word e ≡ detail_word d = cc in
        let tail : t ≡ flat_map setting_words ss = cc in
        (after, (ss, tail, subst (λ x. Lead (with_detail options x) ss after) (detail_same e d head) lead.2))

-- and options behind that are made
pub detail_settings_from : (words : List (List ℕ)) (options after : Options) (place : ℕ) (d : Detail) → slice_get words place ≡ Some (detail_word d) → has_detail options d ≡ false → AreSettings (with_detail options d) after (drop (place + 1) words) → AreSettings options after (drop place words)
detail_settings_from words options after place d at free settings =
    let one : place + 1 ≡ suc place = omega arith in
    behind (subst (λ p. AreSettings (with_detail options d) after (drop p words)) one settings)
  where
    behind : AreSettings (with_detail options d) after (drop (suc place) words) → AreSettings options after (drop place words)
    behind (ss, is, lead) = (Shows d ∷ ss, drop_at words place (detail_word d) at ∙ ap (λ l. detail_word d ∷ l) is, (free, tt, lead))

-- some command is accepted
pub some_check : IsAccepted (codes "check" ∷ codes "a" ∷ [])
some_check = (commands.Check (codes "a"), (codes "a" ∷ [], refl, (refl, sample)))

-- `--until` stands at this place, and no time behind it
pub until_from : (words : List (List ℕ)) (options : Options) (place k : ℕ) → slice_get words place ≡ Some (codes "--until") → options.until ≡ None → k ≡ place + 1 + 1 → ((n : ℕ) → IsNumberAt words (place + 1) 0 latest n → ⊥) → IsRefusedFrom (HasOptions options) words place k
until_from words options place k at free e other = behind_until words options place k at free (no_until words options (suc place) k (omega (arith, e)) (λ n h. other n (subst (λ p. IsNumberAt words p 0 latest n) (let same : suc place ≡ place + 1 = omega arith in same) h)))

-- a time stands behind it, and options behind that are refused
pub time_from : (words : List (List ℕ)) (options : Options) (place n k : ℕ) → slice_get words place ≡ Some (codes "--until") → options.until ≡ None → IsNumberAt words (place + 1) 0 latest n → IsRefusedFrom (HasOptions (with_setting options (Until n))) words (place + 2) k → IsRefusedFrom (HasOptions options) words place k
time_from words options place n k at free number r =
    let one : place + 1 ≡ suc place = omega arith in
    let two : place + 2 ≡ suc (suc place) = omega arith in
    behind_until words options place k at free
    (behind_number words options (suc place) n k (subst (λ p. IsNumberAt words p 0 latest n) one number)
    (subst (λ p. IsRefusedFrom (HasOptions (with_setting options (Until n))) words p k) two r))

-- and options behind that are made
pub settings_from : (words : List (List ℕ)) (options after : Options) (place n : ℕ) → slice_get words place ≡ Some (codes "--until") → options.until ≡ None → IsNumberAt words (place + 1) 0 latest n → AreSettings (with_setting options (Until n)) after (drop (place + 2) words) → AreSettings options after (drop place words)
settings_from words options after place n at free number settings =
    let one : place + 1 ≡ suc place = omega arith in
    let two : place + 2 ≡ suc (suc place) = omega arith in
    let found : IsNumberAt words (suc place) 0 latest n = subst (λ p. IsNumberAt words p 0 latest n) one number in
    one_more_option words options after place n free found
    (drop_at words place (codes "--until") at ∙ ap (λ l. codes "--until" ∷ l) (drop_at words (suc place) (decimal n) found.word))
    (subst (λ p. AreSettings (with_setting options (Until n)) after (drop p words)) two settings)
