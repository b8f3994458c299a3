-- A text that was seen, in one line of printable ASCII.
use Rattle.std.specs.Prelude.{ℕ, Bool, not, ◌&&◌, ◌||◌, ◌==◌, if◌then◌else◌, List, [], ◌∷◌, ◌++◌, codes}
use Rattle.std.specs.Prelude.{flat_map, map}
use Rattle.std.specs.{List.{list_all}, Int.{is_in_range}, Str.{chars}, Char.Escape.{encode_utf16, hex_digit_at}}
use Rattle.json.specs.{Ascii.{quote, backslash}, Print.{escape_byte}}

-- a printable character of ASCII
abbrev pub is_printable : ℕ → Bool
is_printable c = is_in_range 0x20 0x7e c

-- printable, and no character that JSON escapes
abbrev pub is_unescaped : ℕ → Bool
is_unescaped c = is_printable c && not (c == quote || c == backslash)

-- `\u` and the four hexadecimal digits of a unit of UTF-16
abbrev pub unit_text : ℕ → List ℕ
unit_text unit = codes "\\u" ++ map (λ place. hex_digit_at place unit) (0x1000 ∷ 0x100 ∷ 0x10 ∷ 1 ∷ [])

-- a character in JSON: where it is printable as JSON has it, and else each unit of its UTF-16
abbrev pub char_text : ℕ → List ℕ
char_text c = if is_printable c then escape_byte c else flat_map unit_text (encode_utf16 c)

-- a text in JSON
abbrev pub quoted_text : List ℕ → List ℕ
quoted_text text = codes "\"" ++ flat_map char_text (chars text) ++ codes "\""

-- a text as it is where it is plain, and else in JSON (profile)
abbrev pub seen_text : List ℕ → List ℕ
seen_text text = if list_all is_unescaped text then text else quoted_text text
