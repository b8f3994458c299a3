-- The source line that a remark points to, with a mark below its column.
use Rattle.std.specs.Prelude.{◌-◌, ◌+◌, ℕ, Bool, true, false, List, [], ◌∷◌, ◌++◌, map, take, drop, length, codes, replicate}
use Rattle.std.specs.Prelude.{nat_le, ◌&&◌, if◌then◌else◌, Option, Some, None, slice_range, min}
use Rattle.std.specs.List.{position}
use Rattle.dsa_check.specs.declared.{places.Spot.{Spot}, remarks.Remark.{Remark}}
use Rattle.dsa_check.specs.Places.{is_line_feed}

-- a byte, as it is shown: what is no printable ASCII as a question mark
abbrev pub shown_byte : ℕ → ℕ
shown_byte byte = if nat_le 32 byte && nat_le byte 126 then byte else 63

-- of the line of a place at most 60 bytes before it are shown, and 40 from it on (profile)
abbrev pub before_place : List ℕ → Spot → List ℕ
before_place bytes spot =
    if nat_le spot.at (length bytes) then slice_range bytes (spot.at - min (spot.column - 1) 60) spot.at else []

abbrev pub until : Option ℕ → List ℕ → List ℕ
until None bytes = bytes
until (Some end) bytes = take end bytes

abbrev pub until_line_feed : List ℕ → List ℕ
until_line_feed bytes = until (position is_line_feed bytes) bytes

abbrev pub rest_from : List ℕ → ℕ → List ℕ
rest_from bytes at = if nat_le at (length bytes) then drop at bytes else []

abbrev pub from_place : List ℕ → Spot → List ℕ
from_place bytes spot =
    let rest = rest_from bytes spot.at in
    until_line_feed (take (min (length rest) 40) rest)

-- a mark, which is red for a fault and yellow for a warning where it has a colour (profile)
abbrev pub mark_begin : Bool → Bool → List ℕ
mark_begin false is_warning = []
mark_begin true false = 27 ∷ codes "[31m"
mark_begin true true = 27 ∷ codes "[33m"

abbrev pub mark_end : Bool → List ℕ
mark_end false = []
mark_end true = 27 ∷ codes "[0m"

abbrev pub colored_mark : Bool → Bool → List ℕ
colored_mark is_colored is_warning = mark_begin is_colored is_warning ++ codes "^" ++ mark_end is_colored

-- the line, and below the column the mark
abbrev pub lines_at : Bool → Bool → List ℕ → Spot → List ℕ
lines_at is_colored is_warning bytes spot =
    map shown_byte (before_place bytes spot) ++ map shown_byte (from_place bytes spot) ++ codes "\n"
    ++ replicate (length (before_place bytes spot)) 32 ++ colored_mark is_colored is_warning ++ codes "\n"

abbrev pub source_at : Bool → Bool → List ℕ → Option Spot → List ℕ
source_at is_colored is_warning bytes None = []
source_at is_colored is_warning bytes (Some spot) = lines_at is_colored is_warning bytes spot

abbrev pub source_text : Bool → List ℕ → Remark → List ℕ
source_text is_colored bytes remark = source_at is_colored remark.is_warning bytes remark.spot
