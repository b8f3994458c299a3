-- What is wrong with an object, and that it is so.
use Rattle.std.specs.Prelude.{◌≡◌, ◌%◌, ◌==◌, length, ℕ, suc, ℤ, Bool, true, false, not, ◌&&◌, ◌||◌, nat_le, is_some}
use Rattle.std.specs.Prelude.{List, [], ◌∷◌, Option, Some, None, option_and_then, MatchOption, IsSomeAnd, IfSome}
use Rattle.std.specs.Prelude.{map, filter, codes, bytes_eq, string_bytes, String, ⊤}
use Rattle.std.specs.Prelude.{nat_lt, nat_eq, if◌then◌else◌}
use Rattle.std.specs.{List.{AllZip, list_any, list_all, position, starts_with}, Char.{is_ascii_hexdigit}, Str.{chars}}
use Rattle.std.specs.{Char.{is_ascii_alphanumeric, to_ascii_lowercase}, Int.{abs_diff}, Option.{unwrap_or}}
use Rattle.std.specs.declared.alloc.Global.{Global}
use Rattle.strsim.specs.Edits.{osa_table}
use Rattle.serde_json.specs.{Data.{Data, null, boolean, number, string, array, object}, Find.{get, as_u64, as_i64}}
use Rattle.serde_json.specs.{Data.{Members, no_members, member}, Find.{as_number, as_bool, as_str, as_array, as_object}}
use Rattle.dsa_scenario.specs.Fields.{hex_bytes_of, text_of, Row}
use Rattle.dsa_scenario.specs.declared.{fields.Form.{Form}, actions.StepKind.{StepKind}}
use Rattle.dsa_scenario.specs.Actions.{kinds, kind_text, rows_of_kind, kind_named, kind_of}
use Rattle.dsa_check.specs.declared.fields.{Found.{Found}, Key.{Key}}
use Rattle.dsa_check.specs.{declared.finding.Reason.{Reason}, Tables.{caps_rows}}
use Rattle.dsa_scenario.specs.declared.fields.Form.TheVariants as form
use Rattle.dsa_check.specs.declared.finding.Reason.TheVariants as reason
use Rattle.dsa_check.specs.declared.fields.Found.TheVariants as found

-- a number, as it is told
abbrev pub found_number : Option ℕ → Option ℤ → Found
found_number (Some n) z = found.Whole n
found_number None (Some z) = found.Below z
found_number None None = found.Number

-- what stands there, as it is told
abbrev pub found_of : Data → Found
found_of null = found.Null
found_of (boolean b) = found.Truth b
found_of (number n) = found_number (as_u64 n) (as_i64 n)
found_of (string text) = found.Text
found_of (array _) = found.Array
found_of (object _) = found.Object

-- the number lies between these
abbrev pub is_between : ℕ → ℕ → Option ℕ → Bool
is_between least most (Some n) = nat_le least n && nat_le n most
is_between least most None = false

-- the value may stand there
abbrev pub is_of_form : Form → Data → Bool
is_of_form (form.Whole least most) d = is_between least most (option_and_then as_u64 (as_number d))
is_of_form (form.Bounded field least most) d = is_between 0 field (option_and_then as_u64 (as_number d))
is_of_form form.Truth d = is_some (as_bool d)
is_of_form form.Text d = is_some (as_str d)
is_of_form form.Digits d = is_some (option_and_then hex_bytes_of (as_str d))
is_of_form form.Array d = is_some (as_array d)
is_of_form form.Object d = is_some (as_object d)

-- the value, where one stands there, may stand there
abbrev pub fits_form : Form → Option Data → Bool
fits_form form None = false
fits_form form (Some d) = is_of_form form d

-- the object has no such value at the key
abbrev pub is_unfit : Data → Row → Bool
is_unfit d row = not (fits_form row.1 (get row.0 d))

-- the place of the first character that is no hexadecimal digit, counted from 0
abbrev pub first_no_digit : List ℕ → Option ℕ
first_no_digit text = position (λ byte. not (is_ascii_hexdigit byte)) text

-- what is wrong with so many characters, of which the first that is no hexadecimal digit has this place; the rest is
-- looked at where all are digits, and whether they are odd where they are not too many
abbrev pub reason_of_digits : Key → ℕ → Option ℕ → Option Reason
reason_of_digits key count (Some before) = Some (reason.NoDigit key (suc before))
reason_of_digits key count None =
    if nat_lt 128 count then Some (reason.ManyDigits key count)
    else if count % 2 == 1 then Some (reason.OddDigits key count)
    else None

-- what is wrong with a text where digits are wanted, if anything is
abbrev pub digits_reason : Key → List ℕ → Option Reason
digits_reason key text = reason_of_digits key (length text) (first_no_digit text)

-- the same where another form may be wanted, or there is no text
abbrev pub text_reason : Key → Form → Option (List ℕ) → Option Reason
text_reason key form.Digits (Some text) = digits_reason key text
text_reason key _ _ = None

-- what is wrong with a value that may not stand where this form is wanted: its digits, or else the value
abbrev pub unfit_reason : Key → Form → Data → Reason
unfit_reason key wanted d = unwrap_or (text_reason key wanted (as_str d)) (reason.Unfit key (found_of d) wanted)

-- the reason is so of an object that has this at the key, where the form is wanted
abbrev pub IsReasonOf : Key → Form → Option Data → Reason → Type 0
IsReasonOf key wanted (Some d) r = r ≡ unfit_reason key wanted d
IsReasonOf key wanted None (reason.Missing k) = k ≡ key
IsReasonOf key wanted None (reason.Misspelled k found) = k ≡ key
IsReasonOf key wanted None (reason.Expandable k) = k ≡ key
IsReasonOf key wanted _ _ = ⊥

-- the object has such a value at each key
abbrev pub has_rows : Data → List Row → Bool
has_rows d rows = list_all (λ row. fits_form row.1 (get row.0 d)) rows

-- the object is a step of this kind, or of none
abbrev pub is_step_of : Data → Option StepKind → Bool
is_step_of d None = false
is_step_of d (Some kind) = has_rows d (rows_of_kind kind)

abbrev pub is_step : Data → Bool
is_step d = is_step_of d (kind_of d)

-- the value is there, and is caps
abbrev pub has_caps : Option Data → Bool
has_caps None = false
has_caps (Some caps) = has_rows caps caps_rows

-- ---- the reasons of an object

-- the key is asked for
abbrev pub is_asked : List Row → List ℕ → Bool
is_asked rows name = bytes_eq name (codes "do") || list_any (λ row. bytes_eq row.0 name) rows

-- the text is short and of graphic ASCII and spaces (profile)
abbrev pub is_plain : List ℕ → Bool
is_plain text = nat_le (length text) 40 && list_all (λ byte. nat_le 32 byte && nat_le byte 126) text

-- ---- how far a name is from another (profile)

-- the letters and digits of a name, with small letters for capitals
abbrev pub letters_of : List ℕ → List ℕ
letters_of name = map to_ascii_lowercase (filter is_ascii_alphanumeric name)

-- how many edits lead from a name to the other: a character more, less or changed, or two beside each other exchanged
abbrev pub edits_between : List ℕ → List ℕ → ℕ
edits_between name other = (osa_table (chars name) (chars other)).last_row (length (chars other))

-- as many edits are near: of a short name one, else two
abbrev pub most_edits : List ℕ → ℕ
most_edits name = if nat_lt (length name) 5 then 1 else 2

abbrev pub few_edits : ℕ → ℕ → Option ℕ
few_edits most count = if nat_le count most then Some count else None

-- names whose lengths differ by more are not near
abbrev pub distance_by_edits : List ℕ → List ℕ → Option ℕ
distance_by_edits name other =
    if nat_lt (most_edits name) (abs_diff (length other) (length name)) then None
    else few_edits (most_edits name) (edits_between name other)

-- a longer name that begins with this one is farther than one with an edit or two
abbrev pub begins_with : List ℕ → List ℕ → Bool
begins_with name other = nat_lt 3 (length name) && starts_with nat_eq other name

-- how far the other name is from this one, where it is near and can be told as it stands
abbrev pub distance_of : List ℕ → List ℕ → Option ℕ
distance_of name other =
    if not (is_plain other) then None
    else if bytes_eq (letters_of name) (letters_of other) then Some 0
    else if begins_with name other then Some 3
    else distance_by_edits name other

-- ---- the nearest name (profile)

abbrev pub is_below : ℕ → Option ℕ → Bool
is_below bound None = false
is_below bound (Some distance) = nat_lt distance bound

-- the first of those that are nearest, where one is nearer than the bound; else this
abbrev pub nearest_below : {X : Type 0} → (X → Option ℕ) → ℕ → Option X → List X → Option X
nearest_below far bound found [] = found
nearest_below far bound found (x ∷ xs) =
    if is_below bound (far x) then nearest_below far (unwrap_or (far x) bound) (Some x) xs
    else nearest_below far bound found xs

-- the first of those that are nearest, of which none is farther than 3
abbrev pub nearest : {X : Type 0} → (X → Option ℕ) → List X → Option X
nearest far xs = nearest_below far 4 None xs

-- the kind of steps whose name is nearest to this text
unfoldable pub near_kind : List ℕ → Option StepKind
near_kind text = nearest (λ kind. distance_of (kind_text kind) text) kinds

abbrev pub keys_of_members : Members → List (List ℕ)
keys_of_members no_members = []
keys_of_members (member key d ms) = key ∷ keys_of_members ms

-- the keys of an object, in its order
abbrev pub keys_of : Data → List (List ℕ)
keys_of (object ms) = keys_of_members ms
keys_of d = []

-- how far a key that nobody asks for is from this one
abbrev pub stray_distance : List Row → List ℕ → List ℕ → Option ℕ
stray_distance rows name key = if is_asked rows key then None else distance_of name key

-- the key that nobody asks for and that is nearest to this one
abbrev pub near_key : Data → List Row → List ℕ → Option (List ℕ)
near_key d rows name = nearest (stray_distance rows name) (keys_of d)

-- ---- what `expand` writes (profile)

-- the object calls a command by its name
abbrev pub calls_command : Data → Bool
calls_command d = is_some (text_of (codes "command") d)

-- `expand` writes the key, where it is missing: the word of a command that is called by its name
abbrev pub expands_missing : Data → List ℕ → Bool
expands_missing d name = bytes_eq name (codes "word") && calls_command d

-- `expand` writes what is wanted at the key of a step, where this is found: digits for a descriptor, a number for a
-- list of queues or of engines, and a number for an own name
abbrev pub expands_found : List ℕ → Found → Bool
expands_found name found.Object = bytes_eq name (codes "desc")
expands_found name found.Array = bytes_eq name (codes "queues") || bytes_eq name (codes "engines")
expands_found name found.Text = bytes_eq name (codes "name")
expands_found name _ = false

-- ---- keys that are missing

-- the key stands in the object, nobody asks for it, and it can be told as it stands
pub record IsStrayKey (d : Data) (rows : List Row) (name : List ℕ) : Type 0 where
  pub inside : is_some (get name d) ≡ true
  pub strange : is_asked rows name ≡ false
  pub plain : is_plain name ≡ true

-- a key that is told as the spelling of another is such a one
abbrev pub HasStrayKey : Data → List Row → Reason → Type 0
HasStrayKey d rows (reason.Misspelled key found) = IsStrayKey d rows (string_bytes found)
HasStrayKey d rows _ = ⊤

-- where the key is missing, the reason tells the nearest of the keys that nobody asks for, or that none is near, and
-- then whether `expand` writes the key
abbrev pub TellsNearKey : Data → List Row → List ℕ → Reason → Type 0
TellsNearKey d rows name (reason.Misspelled key found) = near_key d rows name ≡ Some (string_bytes found)
TellsNearKey d rows name (reason.Missing key) = (near_key d rows name ≡ None) × (expands_missing d name ≡ false)
TellsNearKey d rows name (reason.Expandable key) = (near_key d rows name ≡ None) × (expands_missing d name ≡ true)
TellsNearKey d rows name _ = ⊤

-- the reason says what is wrong at the key of a row; the key is told as one of `caps` or not
pub record IsReasonAt (d : Data) (rows : List Row) (in_caps : Bool) (row : Row) (reason : Reason) : Type 0 where
  pub key : Key
  pub named : key.name.now ≡ row.0
  pub holder : key.in_caps ≡ in_caps
  pub so : IsReasonOf key row.1 (get row.0 d) reason
  pub stray : HasStrayKey d rows reason
  pub near : TellsNearKey d rows row.0 reason

-- there is a reason for each of these rows whose key is missing or has something else, and no other
abbrev pub AreReasonsAt : Data → List Row → Bool → List Row → List Reason → Type 0
AreReasonsAt d rows in_caps some reasons = AllZip (IsReasonAt d rows in_caps) (filter (is_unfit d) some) reasons

-- and so of all rows of the object
abbrev pub AreReasonsOf : Data → List Row → Bool → List Reason → Type 0
AreReasonsOf d rows in_caps reasons = AreReasonsAt d rows in_caps rows reasons

-- ---- the reasons of a step

-- the key that says the kind
abbrev pub kind_row : Row
kind_row = (codes "do", form.Text)

-- the text names no kind, and is told as it stands where it is plain, with the kind whose name is nearest to it
pub record IsNoKind (told : Option (String Global)) (near : Option StepKind) (name : List ℕ) : Type 0 where
  pub none : kind_named name ≡ None
  pub plain : is_some told ≡ is_plain name
  pub text : IfSome told (λ text. string_bytes text ≡ name)
  pub nearest : near ≡ near_kind name

-- the reason says why the step names no kind: its text is none, or there is no text
abbrev pub IsKindReason : Data → Reason → Type 0
IsKindReason step (reason.UnknownKind told near) = IsSomeAnd (text_of (codes "do") step) (IsNoKind told near)
IsKindReason step reason = (is_unfit step kind_row ≡ true) × IsReasonAt step [] false kind_row reason

-- the reasons of an object that is a step of this kind, or of none
abbrev pub AreReasonsOfKind : Data → Option StepKind → List Reason → Type 0
AreReasonsOfKind step (Some kind) reasons = AreReasonsOf step (rows_of_kind kind) false reasons
AreReasonsOfKind step None (reason ∷ []) = IsKindReason step reason
AreReasonsOfKind step None _ = ⊥

-- the reasons of an item of the steps
abbrev pub AreStepReasons : Data → List Reason → Type 0
AreStepReasons step reasons =
    MatchOption (as_object step) (reasons ≡ reason.NoObject (found_of step) ∷ [])
    (λ members. AreReasonsOfKind step (kind_of step) reasons)
