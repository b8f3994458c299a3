-- A run, with what is drawn of it.
use Rattle.std.specs.Prelude.{◌≡◌, ℕ, ◌-◌, ◌^◌, min, List, [], ◌∷◌, ◌++◌, length, ⊤}
use Rattle.std.specs.List.{range_with_len}
use Rattle.dsa_device.specs.Running.{Running}
use Rattle.dsa_named.specs.Steps.{NamedVisit, IsNamedText}
use Rattle.dsa_draw.specs.{Bands.{bands_text, bands_end, bands_of}, Columns.{columns_text}, Moments.{IsMomentOf}}
use Rattle.dsa_draw.specs.{Pages.{head_text, foot_text, legend_text}, Rows.{rows_above_text}, Bars.{bars_of}}
use Rattle.dsa_draw.specs.{Engines.{engines_text, engines_end}, Ranges.{columns_of, moments_in, within}}
use Rattle.dsa_draw.specs.declared.{moment.Moment.{Moment}, range.{Extent.{Extent}, StepRange.{StepRange}}, run.Story.{Story}}

-- there is a moment for each of these steps, in order
abbrev pub AreMoments : List NamedVisit → List Moment → Type 0
AreMoments [] [] = ⊤
AreMoments [] (moment ∷ moments) = ⊥
AreMoments (step ∷ steps) [] = ⊥
AreMoments (step ∷ steps) (moment ∷ moments) =
    IsMomentOf step moment × AreMoments steps moments

-- the story is of these steps, and of how the device stands at last
pub record IsStoryOf (steps : List NamedVisit) (last : Running) (story : Story) : Type 0 where
  pub caps : story.caps ≡ last.caps
  pub each : AreMoments steps story.moments.items
  pub fates : story.fates.items ≡ last.state.work.fates

-- so many steps; their numbers have 32 bits
abbrev pub step_count : List Moment → ℕ
step_count moments = min (length moments) (2 ^ 32 - 1)

-- ---- the text

-- what is drawn of these moments
abbrev pub extent_of : StepRange → List Moment → Extent
extent_of range moments = record { range = within (step_count moments) range; last = step_count moments }

abbrev pub shown_of : StepRange → Story → List Moment
shown_of range story = moments_in (extent_of range story.moments.items).range story.moments.items

-- the bands, one below the other, and where they end
abbrev pub story_bands_text : StepRange → Story → List ℕ
story_bands_text range story =
    bands_text (columns_of (extent_of range story.moments.items)) 190 (bands_of story.caps) (shown_of range story)

abbrev pub story_bands_end : StepRange → Story → ℕ
story_bands_end range story = bands_end 190 (bands_of story.caps) (shown_of range story)

-- the engines below them, and where they end, which is the height of the rows
abbrev pub story_engines_text : StepRange → Story → List ℕ
story_engines_text range story =
    engines_text (extent_of range story.moments.items) (story_bands_end range story)
    (range_with_len 0 story.caps.engines) story.moments.items (bars_of story.moments.items story.fates.items)

abbrev pub story_height : StepRange → Story → ℕ
story_height range story =
    engines_end (extent_of range story.moments.items) (story_bands_end range story)
    (range_with_len 0 story.caps.engines) story.moments.items (bars_of story.moments.items story.fates.items)

-- a column for each moment that is drawn, over these the rows, and a legend below
abbrev pub drawing_text : StepRange → Story → List ℕ
drawing_text range story =
    head_text (extent_of range story.moments.items) (story_height range story)
    ++ columns_text (story_height range story) 0 (shown_of range story)
    ++ rows_above_text (extent_of range story.moments.items) story.fates.items story.moments.items
    ++ story_bands_text range story ++ story_engines_text range story ++ legend_text (story_height range story)
    ++ foot_text

-- the text is the drawing of these steps of the story
abbrev pub IsTextOf : StepRange → Story → List ℕ → Type 0
IsTextOf range story text = text ≡ drawing_text range story

-- the text is drawn of those of these steps, and of how the device stands at last
abbrev pub IsDrawnOf : StepRange → List NamedVisit → Running → List ℕ → Type 0
IsDrawnOf range steps last text = (story : Story) × IsStoryOf steps last story × IsTextOf range story text

-- the bytes are a document without a fault, and the text is a drawing of a run of it, with the own names of its steps
abbrev pub IsDrawingOf : StepRange → List ℕ → List ℕ → Type 0
IsDrawingOf range bytes text = IsNamedText (IsDrawnOf range) bytes text
