-- The lines of an input.
use Rattle.std.specs.Prelude.{◌≡◌, ◌≢◌, ◌≤◌, ◌==◌, ◌||◌, ◌&&◌, ◌+◌, ◌-◌, ℕ, ◌^◌, Bool, true, false}
use Rattle.std.specs.Prelude.{not, nat_lt}
use Rattle.std.specs.Prelude.{if◌then◌else◌, List, [], ◌∷◌, ◌++◌, All, flat_map, length, slice_get}
use Rattle.std.specs.Prelude.{Some, take}
use Rattle.dsa_scenario.specs.Lines.{line_of_text}
use Rattle.dsa_serve.specs.declared.ending.Inside.{Inside, TheVariants.{Brackets, Text, Escape}}

-- bytes without a line feed
abbrev pub IsLine : List ℕ → Type 0
IsLine bytes = All (λ byte. byte ≢ 10) bytes

-- the bytes are these lines, each with its line feed, and then the rest of a line (profile)
pub record AreLines (bytes : List ℕ) (lines : List (List ℕ)) (rest : List ℕ) : Type 0 where
  pub joined : bytes ≡ flat_map line_of_text lines ++ rest
  pub each : All IsLine lines
  pub last : IsLine rest

-- at the end of input the rest of a line counts as one, if it has a byte (profile)
abbrev pub with_rest : List (List ℕ) → List ℕ → List (List ℕ)
with_rest lines [] = lines
with_rest lines (byte ∷ rest) = lines ++ (byte ∷ rest) ∷ []

-- ---- where a first document ends (profile)

-- a document goes on behind a line that ends here: a bracket is open, and no text
abbrev pub is_open : Inside → Bool
is_open (Brackets depth) = nat_lt 0 depth
is_open (Text depth) = false
is_open (Escape depth) = false

abbrev pub depth_of : Inside → ℕ
depth_of (Brackets depth) = depth
depth_of (Text depth) = depth
depth_of (Escape depth) = depth

-- a bracket opens or closes
abbrev pub depth_after : ℕ → ℕ → ℕ
depth_after depth byte =
    if byte == 91 || byte == 123 then depth + 1 else if byte == 93 || byte == 125 then depth - 1 else depth

-- in a text no bracket counts; a double quote ends it, but for one behind a backslash
abbrev pub after_byte : Inside → ℕ → Inside
after_byte (Brackets depth) byte = if byte == 34 then Text depth else Brackets (depth_after depth byte)
after_byte (Text depth) byte =
    if byte == 34 then Brackets depth else if byte == 92 then Escape depth else Text depth
after_byte (Escape depth) byte = Text depth

abbrev pub inside_after : Inside → List ℕ → Inside
inside_after inside [] = inside
inside_after inside (byte ∷ bytes) = inside_after (after_byte inside byte) bytes

-- the byte is a line feed that ends the document
abbrev pub ends_with : Inside → ℕ → Bool
ends_with inside byte = byte == 10 && not (is_open inside)

-- none of these bytes does
abbrev pub has_no_end : Inside → List ℕ → Bool
has_no_end inside [] = true
has_no_end inside (byte ∷ bytes) = not (ends_with inside byte) && has_no_end (after_byte inside byte) bytes

-- the piece has a line feed at this place, and it is the first at which the document ends
abbrev pub IsEndAt : Inside → List ℕ → ℕ → Type 0
IsEndAt inside piece at =
    (has_no_end inside (take at piece) ≡ true) × (is_open (inside_after inside (take at piece)) ≡ false)
    × (slice_get piece at ≡ Some 10)

-- a document that begins with these bytes has not ended in them
abbrev pub IsUnended : List ℕ → Type 0
IsUnended bytes = has_no_end (Brackets 0) bytes ≡ true

-- and it ends with the line that they end with
abbrev pub IsClosed : List ℕ → Type 0
IsClosed bytes = is_open (inside_after (Brackets 0) bytes) ≡ false

-- the input is a document with the line feed that ends it and what comes behind, or all of it is that document, which
-- its end ended (profile)
abbrev pub IsFront : Bool → List ℕ → List ℕ → List ℕ → Type 0
IsFront false input first behind = (input ≡ line_of_text first ++ behind) × IsClosed first
IsFront true input first behind = (input ≡ first) × (behind ≡ [])

-- the input has this document, which is no longer than one may be, and this behind it; where the end of the input
-- `ended` it, no line feed did (profile)
pub record HasFirst (ended : Bool) (input first behind : List ℕ) : Type 0 where
  pub unended : IsUnended first
  pub short : length first ≤ 2 ^ 20
  pub front : IsFront ended input first behind
