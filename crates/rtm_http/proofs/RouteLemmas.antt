-- The router's table leads where the paths say.
use Rattle.std.proofs.Common.{◌≡◌, ℕ, suc, ◌<◌, inl, inr, Bool, true, false, cond, List, [], ◌∷◌, ◌++◌, ◌&&◌, length, codes, get_or, refl, sym, ap, subst, ◌∙◌, arith, ltb, append-nil}
use Rattle.std.specs.Prelude.{Option, Some, ◌==◌, nat_lt, IsUtf8}
use Rattle.std.specs.List.{list_all}
use Rattle.std.proofs.lemmas.Bool.Decides.{nat_tests}
use Rattle.matchit.specs.Rows.{RowsOf, param_token, catch_all_token}
use Rattle.matchit.specs.Router.{RouteOf}
use Rattle.matchit.specs.Seek.{step, segment, cuts, with_suffix, first}
use Rattle.matchit.proofs.OnLiterals.{matchit_on_literals}
use Rattle.rtm_http.specs.declared.endpoint.Endpoint.{Endpoint}
use Rattle.rtm_http.specs.declared.endpoint.Endpoint.TheVariants.{Part, Field, Wait, Tick}
use Rattle.rtm_http.specs.Route.{Target, to_now, to_parts, to_buffers, to_progress, to_stuck, to_pause, to_continue, to_leave, to_part, to_wait, to_tick, to_field, path_text, IsSegment, HasSegments, Leads}
use Rattle.rtm_http.specs.Table.{endpoint_of, table, row, plain_row, parameter}
use Rattle.rtm_http.proofs.SegmentLemmas.{IsClear, cuts-clear, cuts-slash, segment-append}
use Rattle.rtm_http.proofs.SeekLemmas.{Fits, AreBytes, Has, steps, seek-word, seek-last, seek-segment, seek-found, and_left, and_right}

Rows : Type 0
Rows = RowsOf (RouteOf Endpoint)

-- a list of values that fit a byte
pub are_bytes : (xs : List ℕ) → ((i : ℕ) → get_or xs i 0 < 256) → AreBytes xs
are_bytes [] fit = tt
are_bytes (x ∷ xs) fit = (fit 0, are_bytes xs (λ i. fit (suc i)))

-- the row of a path: what the search finds
abbrev pub LeadsBy : List ℕ → Endpoint → Type 0
LeadsBy path endpoint = (r : RouteOf Endpoint) × (first table path ≡ Some r) × (r.value ≡ endpoint)

other_byte : (b : ℕ) → b < 256 → (param_token == b) ≡ false
other_byte b byte = grind (arith, nat_tests)

leads_tick : (b : ℕ) (text : List ℕ) → b < 256 → IsClear (b ∷ text) → LeadsBy (codes "/tick/" ++ b ∷ text) Tick
leads_tick b text byte clear = (
  _,
  seek-word (codes "/tick/") table (b ∷ text) (refl, refl, (refl, refl, (refl, refl, (refl, refl, (refl, refl, (refl, refl, tt))))))
      ∙ seek-last b text (steps (codes "/tick/") table) clear (rw (other_byte b byte)) refl refl,
  refl,
)

leads_wait : (b : ℕ) (text : List ℕ) → b < 256 → IsClear (b ∷ text) → LeadsBy (codes "/wait/" ++ b ∷ text) Wait
leads_wait b text byte clear = (
  _,
  seek-word (codes "/wait/") table (b ∷ text) (refl, refl, (refl, refl, (refl, refl, (refl, refl, (refl, refl, (refl, refl, tt))))))
      ∙ seek-last b text (steps (codes "/wait/") table) clear (rw (other_byte b byte)) refl refl,
  refl,
)

-- the rows behind `/part/`
abbrev part_rows : RowsOf (RouteOf Endpoint)
part_rows = steps (codes "/part/") table

-- and behind the part's name
abbrev field_rows : RowsOf (RouteOf Endpoint)
field_rows = with_suffix (47 ∷ []) (step param_token part_rows)

-- a suffix of the rows behind a part's name, by whether the segment ends in a slash
abbrev slash_if : Bool → List ℕ
slash_if v = cond v (47 ∷ []) []

abbrev suffix_of : List ℕ → Bool → List ℕ
suffix_of seg v = cond (ltb (length (slash_if v)) 0 && cuts seg []) [] (slash_if v)

leads_part : (b : ℕ) (text : List ℕ) → b < 256 → IsClear (b ∷ text) → LeadsBy (codes "/part/" ++ b ∷ text) Part
leads_part b text byte clear = (
  _,
  seek-word (codes "/part/") table (b ∷ text) (refl, refl, (refl, refl, (refl, refl, (refl, refl, (refl, refl, (refl, refl, tt))))))
      ∙ seek-last b text part_rows clear (rw (other_byte b byte)) refl (ap (suffix_of (segment (b ∷ text))) (cuts-clear (b ∷ text) clear)),
  refl,
)

leads_field : (b : ℕ) (text : List ℕ) (d : ℕ) (word : List ℕ) → b < 256 → IsClear (b ∷ text) → d < 256 → IsClear (d ∷ word) → LeadsBy (codes "/part/" ++ ((b ∷ text) ++ (codes "/field/" ++ d ∷ word))) Field
leads_field b text d word byte clear byte_d clear_d =
    let more : List ℕ = codes "field/" ++ d ∷ word in
    let seg : segment (b ∷ text ++ 47 ∷ more) ≡ b ∷ text ++ 47 ∷ [] = segment-append (b ∷ text) more clear in
    let slash = ap (λ (s : List ℕ). cuts s (47 ∷ [])) seg ∙ cuts-slash (b ∷ text) (omega arith) in (
      _,
      seek-word (codes "/part/") table (b ∷ text ++ 47 ∷ more) (refl, refl, (refl, refl, (refl, refl, (refl, refl, (refl, refl, (refl, refl, tt))))))
          ∙ seek-segment b text more part_rows clear (rw (other_byte b byte)) refl (ap (suffix_of (segment (b ∷ text ++ 47 ∷ more))) slash)
          ∙ seek-word (codes "/field/") field_rows (d ∷ word) (refl, refl, (refl, refl, (refl, refl, (refl, refl, (refl, refl, (refl, refl, (refl, refl, tt)))))))
          ∙ seek-last d word (steps (codes "/field/") field_rows) clear_d (rw (other_byte d byte_d)) refl refl,
      refl,
    )

bytes_behind : (front behind : List ℕ) → AreBytes (front ++ behind) → AreBytes behind
bytes_behind [] behind bytes = bytes
bytes_behind (b ∷ front) behind bytes = bytes_behind front behind bytes.1

not_param : (b : ℕ) → b < 256 → (b == param_token) ≡ false
not_param b byte = grind (arith, nat_tests)

not_rest : (b : ℕ) → b < 256 → (b == catch_all_token) ≡ false
not_rest b byte = grind (arith, nat_tests)

pub leads : (path : List ℕ) → AreBytes path → (target : Target) → Leads path target → LeadsBy path (endpoint_of target)
unfolding matchit_on_literals
leads path bytes to_now is = (_, ap (first table) is.text, refl)
leads path bytes to_parts is = (_, ap (first table) is.text, refl)
leads path bytes to_buffers is = (_, ap (first table) is.text, refl)
leads path bytes to_progress is = (_, ap (first table) is.text, refl)
leads path bytes to_stuck is = (_, ap (first table) is.text, refl)
leads path bytes to_pause is = (_, ap (first table) is.text, refl)
leads path bytes to_continue is = (_, ap (first table) is.text, refl)
leads path bytes to_leave is = (_, ap (first table) is.text, refl)
leads path bytes (to_part []) is = absurd (omega (arith, is.segments.some))
leads path bytes (to_part (b ∷ text)) is =
    let inside = subst AreBytes is.text bytes in
    subst (λ (p : List ℕ). LeadsBy p Part) (sym is.text) (leads_part b text inside.1.1.1.1.1.1.0 is.segments.no_slash)
leads path bytes (to_wait []) is = absurd (omega (arith, is.segments.some))
leads path bytes (to_wait (b ∷ text)) is =
    let inside = subst AreBytes is.text bytes in
    subst (λ (p : List ℕ). LeadsBy p Wait) (sym is.text) (leads_wait b text inside.1.1.1.1.1.1.0 is.segments.no_slash)
leads path bytes (to_tick []) is = absurd (omega (arith, is.segments.some))
leads path bytes (to_tick (b ∷ text)) is =
    let inside = subst AreBytes is.text bytes in
    subst (λ (p : List ℕ). LeadsBy p Tick) (sym is.text) (leads_tick b text inside.1.1.1.1.1.1.0 is.segments.no_slash)
leads path bytes (to_field [] word) is = absurd (omega (arith, is.segments.0.some))
leads path bytes (to_field (b ∷ text) []) is = absurd (omega (arith, is.segments.1.some))
leads path bytes (to_field (b ∷ text) (d ∷ word)) is =
    let inside = subst AreBytes is.text bytes in
    let behind = bytes_behind text _ inside.1.1.1.1.1.1.1 in
    subst (λ (p : List ℕ). LeadsBy p Field) (sym is.text)
    (leads_field b text d word inside.1.1.1.1.1.1.0 is.segments.0.no_slash behind.1.1.1.1.1.1.1.0 is.segments.1.no_slash)

-- a path that a word and then some tokens are written for begins with that word
fits_word : (word tokens path : List ℕ) → AreBytes word → Fits (word ++ tokens) path → (behind : List ℕ) × (path ≡ word ++ behind) × Fits tokens behind
fits_word [] tokens path bytes fits = (path, refl, fits)
fits_word (b ∷ word) tokens path bytes fits =
    let no_param : (b == param_token) ≡ false = not_param b bytes.0 in
    let no_rest : (b == catch_all_token) ≡ false = not_rest b bytes.0 in
    let here = rw (no_param, no_rest) at fits in
    let later = fits_word word tokens here.0 bytes.1 here.2 in
    (later.0, here.1 ∙ ap (λ l. b ∷ l) later.1, later.2)

-- only itself is written for a word
fits_plain : (word path : List ℕ) → AreBytes word → Fits word path → path ≡ word
fits_plain [] path bytes fits = fits
fits_plain (b ∷ word) path bytes fits =
    let here = rw (not_param b bytes.0, not_rest b bytes.0) at fits in
    here.1 ∙ ap (λ l. b ∷ l) (fits_plain word here.0 bytes.1 here.2)

-- a word and a parameter are written for the word and a segment
fits_last : (word path : List ℕ) → AreBytes word → Fits (word ++ parameter) path → (value : List ℕ) × IsSegment value × (path ≡ word ++ value)
fits_last word path bytes fits =
    let front = fits_word word parameter path bytes fits in
    let value = front.2 in
    let all : front.0 ≡ value.0 = value.3 ∙ ap (λ l. value.0 ++ l) value.4 ∙ append-nil value.0 in
    (value.0, value.2, front.1 ∙ ap (λ l. word ++ l) all)

-- and with a word and a parameter behind them, for those and another segment
fits_field : (word other path : List ℕ) → AreBytes word → AreBytes other → Fits (word ++ (parameter ++ (other ++ parameter))) path → (name : List ℕ) × (value : List ℕ) × IsSegment name × IsSegment value × (path ≡ word ++ (name ++ (other ++ value)))
fits_field word other path bytes bytes_other fits =
    let front = fits_word word (parameter ++ (other ++ parameter)) path bytes fits in
    let name = front.2 in
    let last = fits_last other name.1 bytes_other name.4 in
    (name.0, last.0, name.2, last.1, front.1 ∙ ap (λ l. word ++ l) (name.3 ∙ ap (λ l. name.0 ++ l) last.2))

-- a word of the table has bytes alone
bytes_of : (word : List ℕ) → list_all (λ b. nat_lt b 256) word ≡ true → AreBytes word
bytes_of [] all = tt
bytes_of (b ∷ word) all = (byte (and_left _ _ all), bytes_of word (and_right _ _ all))
  where
    byte : nat_lt b 256 ≡ true → b < 256
    byte is = grind (arith, nat_tests)

-- a target of this row
abbrev pub LeadsTo : List ℕ → RouteOf Endpoint → Type 0
LeadsTo path r = (target : Target) × Leads path target × (endpoint_of target ≡ r.value)

plain_target : (path word : List ℕ) (r : RouteOf Endpoint) (target : Target) → IsUtf8 path → HasSegments target → path_text target ≡ word → list_all (λ b. nat_lt b 256) word ≡ true → (tokens : List ℕ) → (word ≡ tokens) × ((plain_row word (endpoint_of target)).1 ≡ r) → Fits tokens path → LeadsTo path r
plain_target path word r target utf8 segments text all tokens has fits = (
  target,
  record {
    utf8 = utf8;
    text = fits_plain word path (bytes_of word all) (subst (λ (t : List ℕ). Fits t path) (sym has.0) fits) ∙ sym text;
    segments = segments;
  },
  ap (λ (x : RouteOf Endpoint). x.value) has.1,
)

part_target : (path : List ℕ) (r : RouteOf Endpoint) → IsUtf8 path → (tokens : List ℕ) → (codes "/part/" ++ parameter ≡ tokens) × ((row (codes "/part/" ++ parameter) (codes "/part/{name}") ((7, 11) ∷ []) Part).1 ≡ r) → Fits tokens path → LeadsTo path r
part_target path r utf8 tokens has fits =
    let last = fits_last (codes "/part/") path (bytes_of (codes "/part/") refl) (subst (λ (t : List ℕ). Fits t path) (sym has.0) fits) in
    (to_part last.0, record { utf8 = utf8; text = last.2; segments = last.1 }, ap (λ (x : RouteOf Endpoint). x.value) has.1)

tick_target : (path : List ℕ) (r : RouteOf Endpoint) → IsUtf8 path → (tokens : List ℕ) → (codes "/tick/" ++ parameter ≡ tokens) × ((row (codes "/tick/" ++ parameter) (codes "/tick/{name}") ((7, 11) ∷ []) Tick).1 ≡ r) → Fits tokens path → LeadsTo path r
tick_target path r utf8 tokens has fits =
    let last = fits_last (codes "/tick/") path (bytes_of (codes "/tick/") refl) (subst (λ (t : List ℕ). Fits t path) (sym has.0) fits) in
    (to_tick last.0, record { utf8 = utf8; text = last.2; segments = last.1 }, ap (λ (x : RouteOf Endpoint). x.value) has.1)

wait_target : (path : List ℕ) (r : RouteOf Endpoint) → IsUtf8 path → (tokens : List ℕ) → (codes "/wait/" ++ parameter ≡ tokens) × ((row (codes "/wait/" ++ parameter) (codes "/wait/{time}") ((7, 11) ∷ []) Wait).1 ≡ r) → Fits tokens path → LeadsTo path r
wait_target path r utf8 tokens has fits =
    let last = fits_last (codes "/wait/") path (bytes_of (codes "/wait/") refl) (subst (λ (t : List ℕ). Fits t path) (sym has.0) fits) in
    (to_wait last.0, record { utf8 = utf8; text = last.2; segments = last.1 }, ap (λ (x : RouteOf Endpoint). x.value) has.1)

field_target : (path : List ℕ) (r : RouteOf Endpoint) → IsUtf8 path → (tokens : List ℕ) → (codes "/part/" ++ (parameter ++ (codes "/field/" ++ parameter)) ≡ tokens) × ((row (codes "/part/" ++ (parameter ++ (codes "/field/" ++ parameter))) (codes "/part/{name}/field/{field}") ((7, 11) ∷ (20, 25) ∷ []) Field).1 ≡ r) → Fits tokens path → LeadsTo path r
field_target path r utf8 tokens has fits =
    let both = fits_field (codes "/part/") (codes "/field/") path (bytes_of (codes "/part/") refl) (bytes_of (codes "/field/") refl) (subst (λ (t : List ℕ). Fits t path) (sym has.0) fits) in
    (to_field both.0 both.1, record { utf8 = utf8; text = both.4; segments = (both.2, both.3) }, ap (λ (x : RouteOf Endpoint). x.value) has.1)

table_target : (path tokens : List ℕ) (r : RouteOf Endpoint) → IsUtf8 path → Has table tokens r → Fits tokens path → LeadsTo path r
table_target path tokens r utf8 has fits =
    elim has [
      | inl h ↦ plain_target path (codes "/buffers") r to_buffers utf8 tt refl refl tokens h fits
      | inr has ↦ elim has [
        | inl h ↦ plain_target path (codes "/continue") r to_continue utf8 tt refl refl tokens h fits
        | inr has ↦ elim has [
          | inl h ↦ plain_target path (codes "/leave") r to_leave utf8 tt refl refl tokens h fits
          | inr has ↦ elim has [
            | inl h ↦ plain_target path (codes "/now") r to_now utf8 tt refl refl tokens h fits
            | inr has ↦ elim has [
              | inl h ↦ field_target path r utf8 tokens h fits
              | inr has ↦ elim has [
                | inl h ↦ part_target path r utf8 tokens h fits
                | inr has ↦ elim has [
                  | inl h ↦ plain_target path (codes "/parts") r to_parts utf8 tt refl refl tokens h fits
                  | inr has ↦ elim has [
                    | inl h ↦ plain_target path (codes "/pause") r to_pause utf8 tt refl refl tokens h fits
                    | inr has ↦ elim has [
                      | inl h ↦ plain_target path (codes "/progress") r to_progress utf8 tt refl refl tokens h fits
                      | inr has ↦ elim has [
                        | inl h ↦ plain_target path (codes "/stuck") r to_stuck utf8 tt refl refl tokens h fits
                        | inr has ↦ elim has [
                          | inl h ↦ tick_target path r utf8 tokens h fits
                          | inr has ↦ elim has [
                            | inl h ↦ wait_target path r utf8 tokens h fits
                            | inr none ↦ absurd none
                          ]
                        ]
                      ]
                    ]
                  ]
                ]
              ]
            ]
          ]
        ]
      ]
    ]

-- what the router finds is a target of the path
pub found_leads : (path : List ℕ) → AreBytes path → IsUtf8 path → (r : RouteOf Endpoint) → first table path ≡ Some r → LeadsTo path r
found_leads path bytes utf8 r is =
    let found = seek-found path bytes 0 table r is in
    table_target path found.0 r utf8 found.1 found.2

-- one path has one row
pub same_value : {o : Option (RouteOf Endpoint)} {x y : RouteOf Endpoint} → o ≡ Some x → o ≡ Some y → x.value ≡ y.value
same_value {o} {x} {y} here there = let same : Some x ≡ Some y = sym here ∙ there in cc
