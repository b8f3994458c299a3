-- Which steps of a run a drawing has, as a text and as columns.
use Rattle.std.specs.Prelude.{ℕ, ◌+◌, ◌-◌, ◌*◌, ◌^◌, ◌==◌, ◌&&◌, Bool, cond, nat_lt, nat_le, min, List, [], ◌∷◌}
use Rattle.std.specs.Prelude.{drop, length, position, take, Option, Some, None, option_and_then, slice_get, slice_range}
use Rattle.dsa_base.specs.Rows.{when}
use Rattle.dsa_draw.specs.declared.{moment.Moment.{Moment}, range.{Extent.{Extent}, StepRange.{StepRange}}}

-- ---- texts

abbrev pub all_steps : StepRange
all_steps = record { first = 0; end = 2 ^ 32 - 1 }

-- a number of 32 bits
abbrev pub narrow : ℕ → Option ℕ
narrow number = when (nat_lt number (2 ^ 32)) number

-- a number with one digit more
abbrev pub digit_more : ℕ → ℕ → Option ℕ
digit_more number byte = cond (nat_le 48 byte && nat_le byte 57) (narrow (10 * number + (byte - 48))) None

-- the number that these digits go on with
abbrev pub number_from : ℕ → List ℕ → Option ℕ
number_from number [] = Some number
number_from number (byte ∷ bytes) = option_and_then (λ more. number_from more bytes) (digit_more number byte)

-- the number of a text of digits alone
abbrev pub digits_number : List ℕ → Option ℕ
digits_number [] = None
digits_number (byte ∷ bytes) = number_from 0 (byte ∷ bytes)

-- a bound, or what stands for none
abbrev pub bound_of : ℕ → List ℕ → Option ℕ
bound_of absent [] = Some absent
bound_of absent (byte ∷ bytes) = number_from 0 (byte ∷ bytes)

-- the range with both of these steps
abbrev pub range_between : ℕ → ℕ → Option StepRange
range_between first last = when (nat_le first last) (record { first = first; end = min (last + 1) (2 ^ 32 - 1) })

abbrev pub range_of_bounds : Option ℕ → Option ℕ → Option StepRange
range_of_bounds first last = option_and_then (λ a. option_and_then (λ b. range_between a b) last) first

-- what is around the first of two dots
abbrev pub range_around : List ℕ → List ℕ → Option StepRange
range_around first [] = None
range_around first (byte ∷ last) =
    cond (byte == 46) (range_of_bounds (bound_of 0 first) (bound_of (2 ^ 32 - 1) last)) None

-- the first dot has this place
abbrev pub range_at : Option ℕ → List ℕ → Option StepRange
range_at None text = None
range_at (Some place) text = range_around (take place text) (drop (place + 1) text)

-- `A..B`, `A..` or `..B`
abbrev pub range_of_text : List ℕ → Option StepRange
range_of_text text = range_at (position (λ byte. byte == 46) text) text

-- ---- columns

-- of a run of so many steps
abbrev pub within : ℕ → StepRange → StepRange
within steps range = record { first = min range.first steps; end = min range.end steps }

-- the column of a step; that of an earlier one is the first, and that of a later one is after the last
abbrev pub column_of : StepRange → ℕ → ℕ
column_of range step = min step range.end - range.first

-- how many columns there are
abbrev pub columns_of : Extent → ℕ
columns_of extent = column_of extent.range extent.last

-- something of what goes from a step on to before another is in it
abbrev pub is_in_range : StepRange → ℕ → ℕ → Bool
is_in_range range begin end = nat_lt begin range.end && nat_lt range.first end

-- the moments of these steps, and how many entries had ended before them
abbrev pub moments_in : StepRange → List Moment → List Moment
moments_in range moments =
    slice_range moments (min range.first (min range.end (length moments))) (min range.end (length moments))

abbrev pub ended_until : Option Moment → ℕ
ended_until None = 0
ended_until (Some moment) = moment.ended

abbrev pub ended_before : StepRange → List Moment → ℕ
ended_before range moments = cond (range.first == 0) 0 (ended_until (slice_get moments (range.first - 1)))
