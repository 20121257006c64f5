-- The value at a key of a table, or the rule that it breaks.
use Rattle.std.specs.Prelude.{ℕ, ◌+◌, List, [], ◌∷◌, map, length, take, drop, position, Bool, true, false, ◌==◌, ◌&&◌, ◌||◌, nat_le, nat_lt, pos, negsuc, Option, Some, None, option_map, ok_or, Result, Ok, Err, if◌then◌else◌, ◌≡◌}
use Rattle.std.specs.List.{list_all, list_any}
use Rattle.std.specs.Prelude.{bytes_eq}
use Rattle.std.specs.Borrow.{Bor}
use Rattle.sim_base.specs.Name.{is_name_byte}
use Rattle.toml.specs.Data.{Data, string, integer, array, table, Items, no_items, item, Members, no_members, member, get_member}
use Rattle.sim_config.specs.declared.fault.ConfigFault.{ConfigFault}
use Rattle.sim_config.specs.declared.fault.ConfigFault.TheVariants.{Broken, OutOfMemory}
use Rattle.sim_config.specs.declared.fault.ConfigRule.{ConfigRule}
use Rattle.sim_config.specs.declared.fault.ConfigRule.TheVariants.{UnknownKey, Missing, WrongType, OutOfRange, NameShape}
use Rattle.sim_config.specs.declared.fault.TableNo.{TableNo}
use Rattle.sim_config.specs.declared.fault.Key.{Key}
use Rattle.sim_config.specs.declared.link_text.PortRef.{PortRef}
use Rattle.sim_config.specs.declared.keys.Allowed.{Allowed}
use Rattle.sim_config.specs.Keys.{NumberRow, ListRow, allows}

-- a text that is a name: 1 to 32 bytes of names
abbrev pub is_name : List ℕ → Bool
is_name text = nat_lt 0 (length text) && nat_le (length text) 32 && list_all is_name_byte text

abbrev pub name_of : List ℕ → Option (List ℕ)
name_of text = if is_name text then Some text else None

abbrev pub key_of : List ℕ → Option Key
key_of word = option_map (λ name. record { 0 = name }) (name_of word)

-- a rule that is broken at a key of a table
abbrev pub broken : ConfigRule → TableNo → List ℕ → ConfigFault
broken rule place word = Broken rule place (key_of word)

-- what a key has, or the fault that names its table and the key
abbrev pub at_key : {A : Type 0} → TableNo → List ℕ → Result A ConfigRule → Result A ConfigFault
at_key place word (Ok x) = Ok x
at_key place word (Err rule) = Err (broken rule place word)

-- what is read where the key is there, and what stands for it where it is not
abbrev pub value_or : {A : Type 0} → Result A ConfigRule → (Data → Result A ConfigRule) → Option Data → Result A ConfigRule
value_or absent read None = absent
value_or absent read (Some d) = read d

-- the value of one key, read so
abbrev pub read_at : {A : Type 0} → TableNo → List ℕ → Result A ConfigRule → (Data → Result A ConfigRule) → Members → Result A ConfigFault
read_at place word absent read ms = at_key place word (value_or absent read (get_member word ms))

-- first what one step gives, then what the next makes of it; the first rule broken ends the reading
infixl 10 ◌>>=◌
abbrev pub ◌>>=◌ : {A B : Type 0} → Result A ConfigFault → (A → Result B ConfigFault) → Result B ConfigFault
(Ok x) >>= f = f x
(Err e) >>= f = Err e

-- What a function returned is what the file means, unless memory ran out.
abbrev pub Gives : {A : Type 0} → Result A ConfigFault → Result A ConfigFault → Type 0
Gives (Ok x) meaning = meaning ≡ Ok x
Gives (Err OutOfMemory) meaning = Unit {0}
Gives (Err (Broken rule place key)) meaning = meaning ≡ Err (Broken rule place key)

-- a number
abbrev pub number_in : Allowed → Data → Result ℕ ConfigRule
number_in a (integer (pos n)) = if allows a n then Ok n else Err OutOfRange
number_in a (integer (negsuc n)) = Err OutOfRange
number_in a _ = Err WrongType

abbrev pub number_at : TableNo → NumberRow → Members → Result ℕ ConfigFault
number_at place row = read_at place row.word (ok_or row.default Missing) (number_in row.allowed)

-- a number that may be left out
abbrev pub some_number_in : Allowed → Data → Result (Option ℕ) ConfigRule
some_number_in a (integer (pos n)) = if allows a n then Ok (Some n) else Err OutOfRange
some_number_in a (integer (negsuc n)) = Err OutOfRange
some_number_in a _ = Err WrongType

abbrev pub optional_number_at : TableNo → NumberRow → Members → Result (Option ℕ) ConfigFault
optional_number_at place row = read_at place row.word (Ok None) (some_number_in row.allowed)

-- a text of a shape: what it is read as, or the rule that is broken where it is none
abbrev pub text_in : {A : Type 0} → (List ℕ → Option A) → ConfigRule → Data → Result A ConfigRule
text_in read rule (string text) = ok_or (read text) rule
text_in read rule _ = Err WrongType

-- a name
abbrev pub name_in : Data → Result (List ℕ) ConfigRule
name_in = text_in name_of NameShape

abbrev pub name_at : TableNo → List ℕ → Members → Result (List ℕ) ConfigFault
name_at place word = read_at place word (Err Missing) name_in

-- one of some words
abbrev pub choice_at : {A : Type 0} → TableNo → List ℕ → (List ℕ → Option A) → Members → Result A ConfigFault
choice_at place word meaning = read_at place word (Err Missing) (text_in meaning OutOfRange)

abbrev pub choice_or : {A : Type 0} → A → TableNo → List ℕ → (List ℕ → Option A) → Members → Result A ConfigFault
choice_or default place word meaning = read_at place word (Ok default) (text_in meaning OutOfRange)

-- a text that is not empty
abbrev pub some_text : List ℕ → Option (List ℕ)
some_text [] = None
some_text (b ∷ bs) = Some (b ∷ bs)

abbrev pub file_at : TableNo → List ℕ → Members → Result (List ℕ) ConfigFault
file_at place word = read_at place word (Err Missing) (text_in some_text OutOfRange)

-- a name, one full stop and a name
abbrev pub port_from : Option (List ℕ) → Option (List ℕ) → Option PortRef
port_from (Some part) (Some word) = Some (record { part = part; word = word })
port_from (Some part) None = None
port_from None word = None

abbrev pub split_at : List ℕ → Option ℕ → Option PortRef
split_at text None = None
split_at text (Some dot) = port_from (name_of (take dot text)) (name_of (drop (dot + 1) text))

abbrev pub port_of : List ℕ → Option PortRef
port_of text = split_at text (position (λ b. b == 46) text)

abbrev pub port_in : Data → Result PortRef ConfigRule
port_in = text_in port_of NameShape

-- a table
abbrev pub table_in : Data → Result Members ConfigRule
table_in (table ms) = Ok ms
table_in _ = Err WrongType

-- a list
abbrev pub is_wrong_type : {A : Type 0} → Result A ConfigRule → Bool
is_wrong_type (Err WrongType) = true
is_wrong_type _ = false

abbrev pub some_wrong_type : {A : Type 0} → (Data → Result A ConfigRule) → Items → Bool
some_wrong_type read no_items = false
some_wrong_type read (item d ds) = is_wrong_type (read d) || some_wrong_type read ds

abbrev pub item_count : Items → ℕ
item_count no_items = 0
item_count (item d ds) = item_count ds + 1

abbrev pub with_first : {A : Type 0} → Result A ConfigRule → Result (List A) ConfigRule → Result (List A) ConfigRule
with_first (Ok x) (Ok xs) = Ok (x ∷ xs)
with_first (Ok x) (Err rule) = Err rule
with_first (Err rule) xs = Err rule

-- each element, or the rule that the first wrong one breaks
abbrev pub elements : {A : Type 0} → (Data → Result A ConfigRule) → Items → Result (List A) ConfigRule
elements read no_items = Ok []
elements read (item d ds) = with_first (read d) (elements read ds)

-- First the types of all elements, then the length, then what the elements are.
abbrev pub list_in : {A : Type 0} → (Data → Result A ConfigRule) → Allowed → Data → Result (List A) ConfigRule
list_in read lengths (array ds) =
    if some_wrong_type read ds then Err WrongType
    else if allows lengths (item_count ds) then elements read ds else Err OutOfRange
list_in read lengths _ = Err WrongType

abbrev pub list_or_missing : {A : Type 0} → Bool → Result (List A) ConfigRule
list_or_missing is_optional = if is_optional then Ok [] else Err Missing

abbrev pub list_at : {A : Type 0} → (Data → Result A ConfigRule) → TableNo → ListRow → Members → Result (List A) ConfigFault
list_at read place row = read_at place row.word (list_or_missing row.is_optional) (list_in read row.lengths)

-- the tables among the items
abbrev pub tables_of : Items → List Members
tables_of no_items = []
tables_of (item (table ms) ds) = ms ∷ tables_of ds
tables_of (item _ ds) = tables_of ds

abbrev pub tables_at : TableNo → ListRow → Members → Result (List Members) ConfigFault
tables_at = list_at table_in

-- the bytes of some texts
abbrev pub texts : List (Bor (List ℕ)) → List (List ℕ)
texts = map (λ t. t.now)

-- the keys that a table has
abbrev pub words_in : Members → List (List ℕ)
words_in no_members = []
words_in (member word d ms) = word ∷ words_in ms

abbrev pub has_only : List (List ℕ) → Members → Bool
has_only known ms = list_all (λ word. list_any (bytes_eq word) known) (words_in ms)

-- a table with no other keys than these
abbrev pub known_at : TableNo → List (List ℕ) → Members → Result (Unit {0}) ConfigFault
known_at place known ms = if has_only known ms then Ok tt else Err (Broken UnknownKey place None)
