-- What the bands of a drawing are, as text.
use Rattle.dsa_draw.specs.declared.phases.Holder.TheVariants as holder
use Rattle.std.specs.Prelude.{Bool, true, false, Option, Some, None, option_and_then, flat_map}
use Rattle.std.specs.Prelude.{ℕ, ◌+◌, ◌-◌, ◌*◌, ◌/◌, ◌^◌, ◌==◌, cond, min, max, List, [], ◌∷◌, ◌++◌, map, codes, decimal}
use Rattle.std.specs.Prelude.{slice_get, unwrap_or}
use Rattle.std.specs.List.{range_with_len}
use Rattle.dsa_regs.specs.declared.Caps.{Caps}
use Rattle.dsa_regs.specs.declared.Phase.{Phase, TheVariants.{Off, On, Stopping}}
use Rattle.dsa_event_text.specs.Text.{phase_word}
use Rattle.dsa_base.specs.Numbers.{numbers_below}
use Rattle.dsa_draw.specs.Moments.{band_count}
use Rattle.dsa_draw.specs.declared.phases.{Holder.{Holder, TheVariants.{Device}}, Stretch.{Stretch}}
use Rattle.dsa_draw.specs.declared.bands.{Band.{Band}}
use Rattle.dsa_draw.specs.declared.bands.{Line.{Line, TheVariants.{Filled, Mark, Limit}}}
use Rattle.dsa_draw.specs.declared.moment.{Level.{Level}, Moment.{Moment}}
use Rattle.dsa_draw.specs.declared.moment.BandKind.{BandKind, TheVariants.{Queue, Group}}

-- ---- levels

-- the levels of the queues or of the groups at a moment
abbrev pub levels_in : BandKind → Moment → List Level
levels_in Queue moment = moment.queues.items
levels_in Group moment = moment.groups.items

-- what a band has at a moment; all is 0 where the device has no such queue or group
abbrev pub level_in : Band → Moment → Level
level_in band moment =
    unwrap_or (slice_get (levels_in band.kind moment) band.number)
    (record { filled = 0; mark = 0; limit = 0; phase = None })

-- what a line of it has
abbrev pub line_value : Line → Level → ℕ
line_value Filled level = level.filled
line_value Mark level = level.mark
line_value Limit level = level.limit

-- each of these at its highest, in this level and in that
abbrev pub raised : Level → Level → Level
raised most level = record {
  filled = max most.filled level.filled;
  mark = max most.mark level.mark;
  limit = max most.limit level.limit;
  phase = None;
}

-- and in all of a band
abbrev pub raised_by : Band → Level → List Moment → Level
raised_by band most [] = most
raised_by band most (moment ∷ moments) = raised_by band (raised most (level_in band moment)) moments

-- the peaks of a band in a run; all is 0 where nothing was configured
abbrev pub peaks_of : Band → List Moment → Level
peaks_of band moments = raised_by band (record { filled = 0; mark = 0; limit = 0; phase = None }) moments

-- the highest of them, where the band is full
abbrev pub highest : Level → ℕ
highest peaks = max (max peaks.limit peaks.mark) peaks.filled

-- ---- lines

-- the step after a step; the numbers of steps have 32 bits
abbrev pub next_step : ℕ → ℕ
next_step step = min (step + 1) (2 ^ 32 - 1)

-- how high a level stands in a band that is full at `most`; one that is not 0 is at least 2 high
abbrev pub level_height : ℕ → ℕ → ℕ
level_height most level = cond (level == 0) 0 (max (48 * min level most / max most 1) 2)

-- on to the column of a step; where the level before is 0 nothing is drawn up to there
abbrev pub reach_text : ℕ → ℕ → ℕ → List ℕ
reach_text bottom step before =
    cond (before == 0) (codes "M" ++ decimal (112 + 14 * step) ++ codes " " ++ decimal bottom)
    (codes "H" ++ decimal (112 + 14 * step))

-- to the column of a step, and there to the height of a level
abbrev pub turn_text : ℕ → ℕ → ℕ → ℕ → ℕ → List ℕ
turn_text bottom most step before level =
    reach_text bottom step before ++ codes "V" ++ decimal (bottom - level_height most level)

-- a line turns where its level is another than before, and goes on to the end of the last column
abbrev pub turns : ℕ → ℕ → ℕ → ℕ → List ℕ → List ℕ
turns bottom most step before [] = reach_text bottom step before
turns bottom most step before (level ∷ levels) =
    cond (level == before) [] (turn_text bottom most step before level)
    ++ turns bottom most (next_step step) level levels

-- the levels of a line, one for each step
abbrev pub levels_of : Band → Line → List Moment → List ℕ
levels_of band line moments = map (λ moment. line_value line (level_in band moment)) moments

-- a line from its first step on
abbrev pub path_text : ℕ → ℕ → List ℕ → List ℕ
path_text bottom most levels = codes "M112 " ++ decimal bottom ++ turns bottom most 0 0 levels

-- ---- phases

-- the phase of a queue of this level; one that the device does not have is off
abbrev pub phase_of_queue : Option Level → Phase
phase_of_queue level = unwrap_or (option_and_then (λ level. level.phase) level) Off

-- the phase of the device, or of a queue, at a moment
abbrev pub phase_in : Holder → Moment → Phase
phase_in Device moment = moment.phase
phase_in (holder.Queue queue) moment = phase_of_queue (slice_get moment.queues.items queue)

abbrev pub is_same_phase : Phase → Phase → Bool
is_same_phase Off Off = true
is_same_phase On On = true
is_same_phase Stopping Stopping = true
is_same_phase _ _ = false

-- since which step it has the phase that it has after this one
abbrev pub stretch_after : ℕ → Phase → Stretch → Stretch
stretch_after step phase stretch =
    cond (is_same_phase stretch.phase phase) stretch (record { phase = phase; begin = step })

abbrev pub phase_holder_text : Holder → List ℕ
phase_holder_text Device = codes "device"
phase_holder_text (holder.Queue queue) = codes "queue " ++ decimal queue

-- a line over the columns from `begin` on to before `end`, and its title
unfoldable pub phase_line_text : List ℕ → ℕ → ℕ → ℕ → List ℕ
phase_line_text word begin end y =
    codes "<path class=\"" ++ word ++ codes "\" d=\"M" ++ decimal (112 + 14 * begin) ++ codes " " ++ decimal y
    ++ codes "h" ++ decimal (14 * (end - begin)) ++ codes "\"><title>"

unfoldable pub phase_line_title : Holder → List ℕ → List ℕ
phase_line_title holder word = phase_holder_text holder ++ codes " " ++ word ++ codes "</title></path>\n"

abbrev pub phase_stretch_text : Holder → ℕ → ℕ → Stretch → List ℕ
phase_stretch_text holder y end stretch =
    phase_line_text (phase_word stretch.phase) stretch.begin end y
    ++ phase_line_title holder (phase_word stretch.phase)

-- while it is off there is none
abbrev pub line_unless_off : Phase → List ℕ → List ℕ
line_unless_off Off line = []
line_unless_off _ line = line

abbrev pub stretch_text : Holder → ℕ → ℕ → Stretch → List ℕ
stretch_text holder y end stretch = line_unless_off stretch.phase (phase_stretch_text holder y end stretch)

-- a line where a stretch ends since the phase is another, the first moment's step of this number
abbrev pub stretches_text : Holder → ℕ → ℕ → Stretch → List Moment → List ℕ
stretches_text holder y step stretch [] = stretch_text holder y step stretch
stretches_text holder y step stretch (moment ∷ moments) =
    cond (is_same_phase stretch.phase (phase_in holder moment)) [] (stretch_text holder y step stretch)
    ++ stretches_text holder y (next_step step) (stretch_after step (phase_in holder moment) stretch) moments

-- the lines at `y` of a run, before which it was off
abbrev pub phases_text : Holder → ℕ → List Moment → List ℕ
phases_text holder y moments = stretches_text holder y 0 (record { phase = Off; begin = 0 }) moments

-- ---- bands

abbrev pub class_text : Line → List ℕ
class_text Filled = codes "filled"
class_text Mark = codes "mark"
class_text Limit = codes "limit"

-- what is filled goes down to the lower end
abbrev pub close_text : ℕ → Line → List ℕ
close_text bottom Filled = codes "V" ++ decimal bottom ++ codes "Z"
close_text bottom _ = []

-- one line of a band that ends at `bottom` and is full at `most`
abbrev pub line_text : ℕ → ℕ → Band → Line → List Moment → List ℕ
line_text bottom most band line moments =
    codes "<path class=\"" ++ class_text line ++ codes "\" d=\"" ++ path_text bottom most (levels_of band line moments)
    ++ close_text bottom line ++ codes "\"/>\n"

-- its lines
unfoldable pub lines_text : ℕ → ℕ → Band → List Moment → List ℕ
lines_text bottom most band moments =
    line_text bottom most band Filled moments ++ line_text bottom most band Mark moments
    ++ line_text bottom most band Limit moments

-- the frame of a band, from the first column on to before that of this step
unfoldable pub frame_text : ℕ → ℕ → List ℕ
frame_text steps top =
    codes "<path class=\"frame\" d=\"M112 " ++ decimal top ++ codes "H" ++ decimal (112 + 14 * steps) ++ codes "V"
    ++ decimal (top + 48) ++ codes "H112Z\"/>\n"

-- a row's name with a number
abbrev pub numbered_text : List ℕ → ℕ → ℕ → List ℕ
numbered_text name number top =
    codes "<text x=\"4\" y=\"" ++ decimal (top + 11) ++ codes "\">" ++ name ++ codes " " ++ decimal number
    ++ codes "</text>\n"

-- the place of a row's name in column 100, or in one of those that follow it by hundreds
unfoldable pub again_place_text : ℕ → ℕ → List ℕ
again_place_text top place =
    codes "<text class=\"again\" x=\"" ++ decimal (1514 + 1400 * place) ++ codes "\" y=\"" ++ decimal (top + 11)
    ++ codes "\">"

abbrev pub number_after_text : Option ℕ → List ℕ
number_after_text None = []
number_after_text (Some number) = codes " " ++ decimal number

abbrev pub again_at_text : List ℕ → Option ℕ → ℕ → ℕ → List ℕ
again_at_text name number top place =
    again_place_text top place ++ name ++ number_after_text number ++ codes "</text>\n"

-- the name of a row again, faint, in every hundredth column of so many after the first
abbrev pub again_text : List ℕ → Option ℕ → ℕ → ℕ → List ℕ
again_text name number steps top =
    flat_map (again_at_text name number top) (numbers_below ((steps - 1) / 100))

abbrev pub name_of_kind : BandKind → List ℕ
name_of_kind Queue = codes "queue"
name_of_kind Group = codes "buffers"

unfoldable pub name_text : Band → ℕ → List ℕ
name_text band top = numbered_text (name_of_kind band.kind) band.number top

-- from which level to which the band goes
unfoldable pub band_range_text : ℕ → ℕ → List ℕ
band_range_text most top =
    codes "<text x=\"4\" y=\"" ++ decimal (top + 24) ++ codes "\">0 to " ++ decimal most ++ codes "</text>\n"

-- the lower end of what begins at `top` and is so high; places have 32 bits
abbrev pub lower_end : ℕ → ℕ → ℕ
lower_end top high = min (top + high) (2 ^ 32 - 1)

-- how much of it was filled at most
unfoldable pub peak_text : ℕ → ℕ → List ℕ
peak_text peak top =
    codes "<text x=\"4\" y=\"" ++ decimal (top + 37) ++ codes "\">peak " ++ decimal peak ++ codes "</text>\n"

-- the phases of a queue are above its frame, which ends at `bottom`; a group has none
abbrev pub phases_of_kind : BandKind → ℕ → ℕ → List Moment → List ℕ
phases_of_kind Queue number bottom moments = phases_text (holder.Queue number) (bottom - 50) moments
phases_of_kind Group number bottom moments = []

abbrev pub band_phases_text : ℕ → Band → List Moment → List ℕ
band_phases_text bottom band moments = phases_of_kind band.kind band.number bottom moments

-- a band that begins at `top` and has these peaks: its frame, its lines, its names, its numbers and its phases
unfoldable pub band_text : ℕ → ℕ → Level → Band → List Moment → List ℕ
band_text steps top peaks band moments =
    frame_text steps top ++ lines_text (lower_end top 48) (highest peaks) band moments ++ name_text band top
    ++ band_range_text (highest peaks) top ++ peak_text peaks.filled top
    ++ band_phases_text (lower_end top 48) band moments
    ++ again_text (name_of_kind band.kind) (Some band.number) steps top

-- of a band of which nothing was configured there is no text, and the next one stands in its place
abbrev pub band_part_text : ℕ → ℕ → Band → List Moment → List ℕ
band_part_text steps top band moments =
    cond (highest (peaks_of band moments) == 0) [] (band_text steps top (peaks_of band moments) band moments)

abbrev pub next_top : ℕ → Band → List Moment → ℕ
next_top top band moments = cond (highest (peaks_of band moments) == 0) top (lower_end top 56)

-- bands below one another
abbrev pub bands_text : ℕ → ℕ → List Band → List Moment → List ℕ
bands_text steps top [] moments = []
bands_text steps top (band ∷ bands) moments =
    band_part_text steps top band moments ++ bands_text steps (next_top top band moments) bands moments

-- where the bands end
abbrev pub bands_end : ℕ → List Band → List Moment → ℕ
bands_end top [] moments = top
bands_end top (band ∷ bands) moments = bands_end (next_top top band moments) bands moments

-- a band of each queue, or of each group
abbrev pub bands_of_kind : Caps → BandKind → List Band
bands_of_kind caps kind = map (λ n. record { kind = kind; number = n }) (range_with_len 0 (band_count caps kind))

-- the bands of a device: its queues, and then its groups
abbrev pub bands_of : Caps → List Band
bands_of caps = bands_of_kind caps Queue ++ bands_of_kind caps Group
