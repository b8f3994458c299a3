-- What is told of a text that is no JSON, and that it is so.
use Rattle.std.specs.Prelude.{◌≡◌, ◌<◌, ◌≤◌, ◌==◌, ◌||◌, ℕ, Bool, true, false, List, [], ◌∷◌, ◌++◌}
use Rattle.std.specs.Prelude.{take, drop, slice_get}
use Rattle.std.specs.Prelude.{codes, if◌then◌else◌, nat_eq, nat_lt, Option, Some, None, IfSome, IsSomeAnd, MatchOption}
use Rattle.std.specs.Prelude.{count_by, string_bytes, ⊤}
use Rattle.std.specs.{Char.{is_ascii_digit}, List.{ends_with, list_any, starts_with}, Str.{IsTrimAsciiEnd}}
use Rattle.dsa_check.specs.declared.syntax.Piece.{Piece, TheVariants.{End, LineBreak, Tab, Control, Character}}
use Rattle.dsa_check.specs.declared.syntax.Piece.TheVariants.{ByteOrderMark, Told, Text, Number, Word}
use Rattle.dsa_check.specs.declared.syntax.Syntax.{Syntax, TheVariants.{TooDeep, CommaBefore, Comment, Unwanted}}
use Rattle.dsa_check.specs.declared.syntax.Wanted.{Wanted}
use Rattle.dsa_check.specs.declared.syntax.Wanted.TheVariants as wanted
use Rattle.dsa_check.specs.{Places.{AreJson, BeginJson, line_after, column_after}, Reasons.{is_plain}}

-- ---- what stands at a place (profile)

-- a control character and a character beyond ASCII, as they are told; of a sign of ASCII none
abbrev pub name_of_sign : List ℕ → ℕ → Option Piece
name_of_sign bytes byte =
    if byte == 10 || byte == 13 then Some LineBreak
    else if byte == 9 then Some Tab
    else if nat_lt byte 32 || byte == 127 then Some Control
    else if nat_lt byte 127 then None
    else if starts_with nat_eq bytes (239 ∷ 187 ∷ 191 ∷ []) then Some ByteOrderMark
    else Some Character

-- a text, a number or a word that is not told as it stands, by its first byte
abbrev pub name_of_long : ℕ → Piece
name_of_long byte = if byte == 34 then Text else if byte == 45 || is_ascii_digit byte then Number else Word

-- these bytes, which begin with this one, are told as they stand or by their name
abbrev pub IsToldAs : List ℕ → ℕ → Piece → Type 0
IsToldAs text byte (Told told) = (string_bytes told ≡ text) × (is_plain text ≡ true)
IsToldAs text byte piece = piece ≡ name_of_long byte

-- so many of the bytes are told, at least one
pub record IsFrontTold (bytes : List ℕ) (byte : ℕ) (piece : Piece) : Type 0 where
  pub count : ℕ
  pub some : 0 < count
  pub told : IsToldAs (take count bytes) byte piece

-- what begins these bytes is told so
abbrev pub IsPieceAt : List ℕ → Piece → Type 0
IsPieceAt bytes piece =
    MatchOption (slice_get bytes 0) (piece ≡ End)
    (λ byte. MatchOption (name_of_sign bytes byte) (IsFrontTold bytes byte piece) (λ name. piece ≡ name))

-- ---- what may stand there

-- how what is wanted may begin; after the end of a document nothing is wanted
abbrev pub example_of : Wanted → Option (List ℕ)
example_of wanted.Document = Some (codes "\"\"")
example_of wanted.Value = Some (codes "\"\"")
example_of wanted.FirstItem = Some (codes "\"\"")
example_of wanted.Item = Some (codes "\"\"")
example_of wanted.FirstKey = Some (codes "\"\":0")
example_of wanted.Key = Some (codes "\"\":0")
example_of wanted.Colon = Some (codes ":0")
example_of (wanted.More true) = Some (codes ",0")
example_of (wanted.More false) = Some (codes ",\"\":0")
example_of (wanted.Closing true line column) = Some (codes ",0")
example_of (wanted.Closing false line column) = Some (codes ",\"\":0")
example_of wanted.Nothing = None
example_of wanted.Word = Some (codes "true")
example_of wanted.Digit = Some (codes "0")
example_of wanted.NoZero = Some (codes "0")
example_of wanted.InRange = Some (codes "0")
example_of wanted.DoubleQuote = Some (codes "\"")
example_of (wanted.Quote line column) = Some (codes "\"")
example_of wanted.Escaped = Some (codes "\"")
example_of wanted.Escape = Some (codes "n")
example_of wanted.HexDigit = Some (codes "0")
example_of wanted.Pair = Some (codes "\\ud800\\udc00")
example_of wanted.Depth = Some (codes "0")

-- the document has ended after these bytes, or a JSON text begins with them and this text
abbrev pub IsAllowedAfter : List ℕ → Option (List ℕ) → Type 0
IsAllowedAfter before None = AreJson before
IsAllowedAfter before (Some text) = BeginJson (before ++ text)

-- what is wanted may stand after these bytes
abbrev pub IsWantedAfter : List ℕ → Wanted → Type 0
IsWantedAfter before wanted = IsAllowedAfter before (example_of wanted)

-- a text in double quotes may stand there
abbrev pub takes_text : Wanted → Bool
takes_text wanted.Document = true
takes_text wanted.Value = true
takes_text wanted.FirstItem = true
takes_text wanted.Item = true
takes_text wanted.FirstKey = true
takes_text wanted.Key = true
takes_text _ = false

-- ---- where what has not ended begins

-- how an array ends that has a value, an object, and a text
abbrev pub end_of : ℕ → List ℕ
end_of sign = if sign == 91 then codes ",0]" else if sign == 123 then codes ",\"\":0}" else codes "\""

-- what begins with this sign at the place goes on to the end of the bytes: from there on they are JSON with its end
abbrev pub GoesOnFrom : List ℕ → ℕ → ℕ → Type 0
GoesOnFrom bytes at sign = AreJson (drop at bytes ++ end_of sign)

-- the same, where a sign stands at the place
abbrev pub IsOpenFrom : List ℕ → ℕ → Type 0
IsOpenFrom bytes at = IfSome (slice_get bytes at) (GoesOnFrom bytes at)

-- this sign stands among the bytes, on this line and in this column, and what it begins has not ended
pub record HasSignAt (bytes : List ℕ) (sign line column : ℕ) : Type 0 where
  pub at : ℕ
  pub there : slice_get bytes at ≡ Some sign
  pub goes_on : GoesOnFrom bytes at sign
  pub line_there : line ≡ line_after (take at bytes)
  pub column_there : column ≡ column_after (take at bytes)

-- what has to end begins where that is told
abbrev pub IsBegunAt : List ℕ → Wanted → Type 0
IsBegunAt before (wanted.Closing true line column) = HasSignAt before 91 line column
IsBegunAt before (wanted.Closing false line column) = HasSignAt before 123 line column
IsBegunAt before (wanted.Quote line column) = HasSignAt before 34 line column
IsBegunAt before _ = ⊤

-- ---- what is wrong there

-- the byte is one of these
abbrev pub IsOneOf : List ℕ → ℕ → Type 0
IsOneOf signs byte = list_any (nat_eq byte) signs ≡ true

-- the last of the bytes that is no white space is a comma
pub record EndWithComma (bytes : List ℕ) : Type 0 where
  pub front : List ℕ
  pub trimmed : IsTrimAsciiEnd bytes front
  pub comma : ends_with nat_eq front (codes ",") ≡ true

-- so many arrays and objects begin among the bytes, at most
abbrev pub is_opening : ℕ → Bool
is_opening byte = byte == 91 || byte == 123

abbrev pub openings_in : List ℕ → ℕ
openings_in bytes = count_by is_opening bytes

-- the byte closes an array or an object, and is told
abbrev pub IsClosing : List ℕ → ℕ → Type 0
IsClosing told byte = IsOneOf (codes "]}") byte × (told ≡ byte ∷ [])

-- this is wrong between the bytes before a place and those that follow
abbrev pub IsSyntaxAt : List ℕ → List ℕ → Syntax → Type 0
IsSyntaxAt before rest TooDeep =
    (127 ≤ openings_in before) × IsSomeAnd (slice_get rest 0) (IsOneOf (codes "[{"))
    × IsWantedAfter before wanted.Depth
IsSyntaxAt before rest (CommaBefore what) = EndWithComma before × IsSomeAnd (slice_get rest 0) (IsClosing what.now)
IsSyntaxAt before rest Comment = IsSomeAnd (slice_get rest 0) (IsOneOf (codes "/"))
IsSyntaxAt before rest (Unwanted found wanted) =
    IsPieceAt rest found × IsWantedAfter before wanted × IsBegunAt before wanted
