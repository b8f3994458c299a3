-- The lines of the faults of a document.
use Rattle.dsa_check.specs.declared.syntax.Wanted.TheVariants as wanted
use Rattle.dsa_check.specs.declared.finding.Reason.TheVariants as reason
use Rattle.dsa_scenario.specs.declared.fields.Form.TheVariants as form
use Rattle.dsa_check.specs.declared.fields.Found.TheVariants as found
use Rattle.std.specs.Prelude.{ℕ, Bool, true, false, List, [], ◌∷◌, ◌++◌, Option, Some, None, codes, decimal}
use Rattle.std.specs.Prelude.{option_map}
use Rattle.std.specs.Prelude.{nat_lt, if◌then◌else◌, not, ◌&&◌}
use Rattle.std.specs.Fmt.{signed_decimal}
use Rattle.std.specs.Prelude.{String, string_bytes}
use Rattle.std.specs.declared.alloc.Global.{Global}
use Rattle.dsa_event_text.specs.Text.{count_text, truth_text}
use Rattle.dsa_scenario.specs.declared.faults.ScenarioFault.{ScenarioFault, TheVariants.{NotJson, BadDocument, BadStep}}
use Rattle.dsa_scenario.specs.declared.faults.ScenarioFault.TheVariants.{BadCaps, BadCapacity}
use Rattle.dsa_scenario.specs.declared.{fields.Form.{Form}, actions.StepKind.{StepKind}}
use Rattle.dsa_scenario.specs.Actions.{kinds, kind_text, names_text}
use Rattle.dsa_check.specs.declared.fields.{Key.{Key}, Found.{Found}}
use Rattle.dsa_check.specs.declared.finding.{Finding.{Finding}, Reason.{Reason}}
use Rattle.dsa_check.specs.declared.{places.Spot.{Spot}, remarks.Remark.{Remark}}
use Rattle.dsa_check.specs.declared.syntax.Syntax.{Syntax, TheVariants.{TooDeep, CommaBefore, Comment, Unwanted}}
use Rattle.dsa_check.specs.declared.syntax.Piece.{Piece, TheVariants.{End, LineBreak, Tab, Control, Character}}
use Rattle.dsa_check.specs.declared.syntax.Piece.TheVariants.{ByteOrderMark, Told, Text, Number, Word}
use Rattle.dsa_check.specs.declared.syntax.Wanted.{Wanted}
use Rattle.dsa_check.specs.Reasons.{expands_found}

-- ---- what is wrong (profile)

abbrev pub holder_text : Bool → List ℕ
holder_text true = codes " of \"caps\""
holder_text false = []

-- the key of this name, and the object that it stands in where that is `caps`
abbrev pub named_text : List ℕ → Bool → List ℕ
named_text name in_caps = codes "\"" ++ name ++ codes "\"" ++ holder_text in_caps

abbrev pub key_text : Key → List ℕ
key_text key = named_text key.name.now key.in_caps

abbrev pub whole_range_text : ℕ → ℕ → List ℕ
whole_range_text least most = codes "a whole number from " ++ (decimal least ++ (codes " to " ++ decimal most))

abbrev pub form_text : Form → List ℕ
form_text (form.Whole least most) = whole_range_text least most
form_text (form.Bounded field least most) = whole_range_text least most
form_text form.Truth = codes "true or false"
form_text form.Text = codes "a text"
form_text form.Digits = codes "a text of hexadecimal digits"
form_text form.Array = codes "an array"
form_text form.Object = codes "an object"

abbrev pub found_text : Found → List ℕ
found_text found.Null = codes "null"
found_text (found.Truth b) = truth_text b
found_text (found.Whole n) = decimal n
found_text (found.Below z) = signed_decimal z
found_text found.Number = codes "a number with a sign, a fraction, an exponent or past 64 bits"
found_text found.Text = codes "a text"
found_text found.Array = codes "an array"
found_text found.Object = codes "an object"

-- what may stand there, of a number that is too large or too small its bound
abbrev pub bound_text : Found → ℕ → ℕ → List ℕ
bound_text (found.Whole n) least most =
    if nat_lt most n then codes "at most " ++ decimal most else codes "at least " ++ decimal least
bound_text (found.Below z) least most = codes "at least " ++ decimal least
bound_text found least most = whole_range_text least most

abbrev pub wanted_of : Found → Form → List ℕ
wanted_of found (form.Whole least most) = bound_text found least most
wanted_of found (form.Bounded field least most) = bound_text found least most
wanted_of found form = form_text form

-- that `expand` writes what is wanted, where it does
abbrev pub hint_text : Bool → List ℕ
hint_text true = codes " (dsa_run expand writes it)"
hint_text false = []

-- something else is found at the key of this name than what is wanted; `expand` writes the keys of steps alone
abbrev pub unfit_text : List ℕ → Bool → Found → Form → List ℕ
unfit_text name in_caps found wanted = named_text name in_caps ++ codes " is " ++ found_text found ++ codes ", "
    ++ wanted_of found wanted ++ codes " is wanted" ++ hint_text (not in_caps && expands_found name found)

-- what stands at a place of a text that is no JSON
abbrev pub piece_text : Piece → List ℕ
piece_text End = codes "the end is here"
piece_text LineBreak = codes "a line break stands here"
piece_text Tab = codes "a tab stands here"
piece_text Control = codes "a control character stands here"
piece_text Character = codes "a character beyond ASCII stands here"
piece_text ByteOrderMark = codes "a byte order mark stands here"
piece_text (Told text) = string_bytes text ++ codes " stands here"
piece_text Text = codes "a text stands here"
piece_text Number = codes "a number stands here"
piece_text Word = codes "a word stands here"

-- what ends what begins at a place
abbrev pub begun_text : List ℕ → ℕ → ℕ → List ℕ
begun_text ending line column =
    ending ++ (codes " of line " ++ (decimal line ++ (codes ", column " ++ decimal column)))

abbrev pub closing_text : Bool → ℕ → ℕ → List ℕ
closing_text true line column = begun_text (codes "a ] for the [") line column
closing_text false line column = begun_text (codes "a } for the {") line column

-- what may stand there
abbrev pub wanted_text : Wanted → List ℕ
wanted_text wanted.Document = codes "an object"
wanted_text wanted.Value = codes "a value"
wanted_text wanted.Item = codes "a value"
wanted_text wanted.FirstItem = codes "a value or ]"
wanted_text wanted.FirstKey = codes "a key in double quotes or }"
wanted_text wanted.Key = codes "a key in double quotes"
wanted_text wanted.Colon = codes "a colon"
wanted_text (wanted.More true) = codes "a comma or ]"
wanted_text (wanted.More false) = codes "a comma or }"
wanted_text (wanted.Closing is_array line column) = closing_text is_array line column
wanted_text wanted.Nothing = codes "the end"
wanted_text wanted.Word = codes "true, false, null or a text in double quotes"
wanted_text wanted.Digit = codes "a digit"
wanted_text wanted.NoZero = codes "a number with no 0 before its other digits"
wanted_text wanted.InRange = codes "a number that floats of 64 bits reach"
wanted_text wanted.DoubleQuote = codes "a double quote"
wanted_text (wanted.Quote line column) = begun_text (codes "a double quote for the text") line column
wanted_text wanted.Escaped = codes "a double quote or an escape"
wanted_text wanted.Escape = codes "one of \" \\ / b f n r t u"
wanted_text wanted.HexDigit = codes "a hexadecimal digit"
wanted_text wanted.Pair = codes "a whole surrogate pair"
wanted_text wanted.Depth = codes "less nesting"

abbrev pub syntax_text : Syntax → List ℕ
syntax_text TooDeep = codes "nested more than 127 deep"
syntax_text (CommaBefore what) = codes "a comma before " ++ what.now
syntax_text Comment = codes "a comment, of which JSON has none"
syntax_text (Unwanted found wanted) = piece_text found ++ codes ", " ++ wanted_text wanted ++ codes " is wanted"

-- a kind that is spelled nearly as the name
abbrev pub near_kind_text : List ℕ → StepKind → List ℕ
near_kind_text name kind =
    codes "\"do\" is \"" ++ (name
    ++ (codes "\", which is no kind of step, but \"" ++ (kind_text kind ++ codes "\" is")))

abbrev pub no_kind_text : Option (String Global) → Option StepKind → List ℕ
no_kind_text (Some name) (Some kind) = near_kind_text (string_bytes name) kind
no_kind_text (Some name) None =
    codes "\"do\" is \"" ++ string_bytes name ++ (codes "\", none of " ++ names_text kinds)
no_kind_text None near = codes "\"do\" names no kind of step"

-- a key that nothing reads, where it can be told, and the known key that is spelled nearly so
abbrev pub stray_text : Option (List ℕ) → Option (List ℕ) → List ℕ
stray_text (Some key) (Some near) =
    codes "\"" ++ (key ++ (codes "\" is no key here, but \"" ++ (near ++ codes "\" is")))
stray_text (Some key) None = codes "\"" ++ (key ++ codes "\" is no key here")
stray_text None near = codes "a key that is long or not plain is no key here"

-- a key that comes more than once, where it can be told
abbrev pub twice_text : Option (List ℕ) → List ℕ
twice_text (Some key) = codes "\"" ++ (key ++ codes "\" comes twice")
twice_text None = codes "a key that is long or not plain comes twice"

-- of a text at `as`
abbrev pub no_own_name_text : List ℕ
no_own_name_text =
    codes "\"as\" is no own name, 1 to 40 printable ASCII characters other than \" and \\ are wanted"

-- how many digits a text has
abbrev pub digits_text : ℕ → List ℕ
digits_text count = count_text (codes " has ") count (codes "digit") (codes "digits")

abbrev pub reason_text : Reason → List ℕ
reason_text (reason.Missing key) = key_text key ++ codes " is missing"
reason_text (reason.Misspelled key found) =
    key_text key ++ (codes " is missing, and \"" ++ (string_bytes found ++ codes "\" is no key here"))
reason_text (reason.Expandable key) = key_text key ++ (codes " is missing" ++ hint_text true)
reason_text (reason.Unfit key found wanted) = unfit_text key.name.now key.in_caps found wanted
reason_text (reason.OddDigits key count) =
    key_text key ++ digits_text count ++ codes ", an even number is wanted"
reason_text (reason.ManyDigits key count) =
    key_text key ++ digits_text count ++ codes ", at most 128 are wanted"
reason_text (reason.NoDigit key at) = key_text key ++ (codes " has no hexadecimal digit at character " ++ decimal at)
reason_text reason.NoOwnName = no_own_name_text
reason_text (reason.NoObject found) = found_text found ++ codes " stands here, an object is wanted"
reason_text (reason.UnknownKind name near) = no_kind_text name near
reason_text (reason.Stray found near) = stray_text (option_map string_bytes found) (option_map (λ name. name.now) near)
reason_text (reason.Twice found) = twice_text (option_map string_bytes found)
reason_text reason.NotUtf8 = codes "the bytes are no UTF-8"
reason_text (reason.Syntax syntax) = syntax_text syntax

-- ---- where it is (profile)

-- a number between these texts, where it is known
abbrev pub known_number_text : List ℕ → Option ℕ → List ℕ → List ℕ
known_number_text before None after = []
known_number_text before (Some n) after = before ++ decimal n ++ after

abbrev pub step_text : ℕ → Option StepKind → List ℕ
step_text i None = codes "step " ++ decimal i ++ codes ": "
step_text i (Some kind) = codes "step " ++ decimal i ++ codes " (" ++ kind_text kind ++ codes "): "

abbrev pub fault_part_text : ScenarioFault → Option StepKind → List ℕ
fault_part_text NotJson kind = codes "not JSON: "
fault_part_text BadDocument kind = codes "document: "
fault_part_text (BadStep i) kind = step_text i kind
fault_part_text BadCaps kind = codes "caps: "
fault_part_text BadCapacity kind = codes "capacity: "
fault_part_text _ kind = []

-- where the finding is, where no place of its own is known of a reason
abbrev pub own_place_text : Finding → List ℕ
own_place_text finding =
    known_number_text (codes "line ") finding.place.line (codes ", ")
    ++ known_number_text (codes "column ") finding.place.column (codes ": ")

abbrev pub after_place : ScenarioFault → List ℕ
after_place NotJson = codes ": "
after_place _ = codes ", "

abbrev pub spot_text : Finding → Option Spot → List ℕ
spot_text finding (Some spot) =
    codes "line " ++ (decimal spot.line ++ (codes ", column " ++ decimal spot.column)) ++ after_place finding.fault
spot_text finding None = own_place_text finding

-- ---- the lines (profile)

abbrev pub warning_mark : Bool → List ℕ
warning_mark true = codes "warning: "
warning_mark false = []

-- of a fault of which nothing finer is known that is told
abbrev pub known_text : Option Reason → List ℕ
known_text (Some reason) = reason_text reason
known_text None = codes "not understood"

-- what a remark says: whether it is a warning, where it is, and what is wrong or odd there
abbrev pub said_text : Bool → Finding → Option Reason → Option Spot → List ℕ
said_text is_warning finding reason spot =
    warning_mark is_warning ++ spot_text finding spot ++ fault_part_text finding.fault finding.place.kind
    ++ known_text reason ++ codes "\n"

abbrev pub remark_text : Remark → List ℕ
remark_text remark =
    said_text remark.is_warning remark.finding.now (option_map (λ r. r.now) remark.reason) remark.spot
