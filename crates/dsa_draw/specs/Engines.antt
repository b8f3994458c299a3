-- The rows of the engines, as text: a mark for each step of an engine, and a bar for each entry that it had.
use Rattle.std.specs.Prelude.{ℕ, ◌+◌, ◌-◌, ◌*◌, ◌^◌, ◌==◌, ◌&&◌, Bool, true, false, cond, nat_lt, min, List, [], ◌∷◌}
use Rattle.std.specs.Prelude.{◌++◌, codes, decimal, Option, Some, None, option_and_then, option_map, slice_get}
use Rattle.std.specs.Prelude.{string_bytes, unwrap_or}
use Rattle.dsa_desc.specs.declared.Descriptor.{Descriptor}
use Rattle.dsa_event_text.specs.Text.{descriptor_text}
use Rattle.dsa_book.specs.declared.event.Actor.TheVariants.{Engine}
use Rattle.dsa_book.specs.declared.fate.{Fate.{Fate, TheVariants.{Completed, Aborted, Abandoned}}}
use Rattle.dsa_book.specs.Totals.{actor_of, same_actor}
use Rattle.dsa_scenario.specs.declared.run.Record.{Record, TheVariants.{Stepped, Refused}}
use Rattle.dsa_scenario.specs.Lines.{two_digits}
use Rattle.dsa_draw.specs.declared.{engines.Lanes.{Lanes}, labels.{Sign.{Sign, TheVariants.{Cross, Slash}}}}
use Rattle.dsa_draw.specs.declared.{bars.{Bar.{Bar}, End.{End}}, moment.Moment.{Moment}}
use Rattle.dsa_draw.specs.{Marks.{mark_of}, Bands.{again_text, next_step, lower_end, numbered_text}, Pages.{box_text, mark_text, rect_text, rule_text, xml_text}}
use Rattle.dsa_draw.specs.Labels.{bar_label_text, sign_of}
use Rattle.dsa_draw.specs.declared.range.Extent.{Extent}
use Rattle.dsa_draw.specs.Ranges.{column_of, columns_of, is_in_range, moments_in}
use Rattle.dsa_draw.specs.Bars.{end_step, in_lanes, all_lanes, lane_count}

-- ---- marks

-- the step is the engine's
abbrev pub is_step_by : ℕ → Record → Bool
is_step_by engine (Stepped made) = same_actor (actor_of made.event) (Engine engine)
is_step_by engine (Refused fault) = false

abbrev pub has_steps : ℕ → List Moment → Bool
has_steps engine [] = false
has_steps engine (moment ∷ moments) = cond (is_step_by engine moment.entry) true (has_steps engine moments)

-- a mark for each of its steps, the first moment's step of this number
abbrev pub engine_mark_text : ℕ → ℕ → ℕ → Record → List ℕ
engine_mark_text engine top step entry =
    cond (is_step_by engine entry) (mark_text (mark_of entry) step top) []

abbrev pub engine_marks_text : ℕ → ℕ → ℕ → List Moment → List ℕ
engine_marks_text engine top step [] = []
engine_marks_text engine top step (moment ∷ moments) =
    engine_mark_text engine top step moment.entry ++ engine_marks_text engine top (next_step step) moments

-- ---- bars

abbrev pub class_of_fate : Fate → List ℕ
class_of_fate (Completed status) = cond (status == 1) (codes "success") (codes "failure")
class_of_fate _ = codes "lost"

abbrev pub class_of_end : Option End → List ℕ
class_of_end None = codes "held"
class_of_end (Some end) = class_of_fate end.fate

abbrev pub fate_phrase : Fate → List ℕ
fate_phrase (Completed status) = codes "completed " ++ two_digits status
fate_phrase (Aborted command) = codes "aborted by command " ++ decimal command
fate_phrase Abandoned = codes "abandoned"

unfoldable pub kind_phrase : Bool → List ℕ
kind_phrase true = codes "batch "
kind_phrase false = codes "entry "

-- what the entry asks for
abbrev pub work_phrase : Option Descriptor → List ℕ
work_phrase None = []
work_phrase (Some desc) = codes ": " ++ descriptor_text desc ++ codes ", PASID " ++ decimal desc.pasid

abbrev pub client_phrase : Option ℕ → List ℕ
client_phrase None = []
client_phrase (Some client) = codes ", client " ++ decimal client

abbrev pub parent_phrase : Option ℕ → List ℕ
parent_phrase None = []
parent_phrase (Some batch) = codes ", member of batch " ++ decimal batch

-- the reason of the answer to a step
abbrev pub bar_reason_text : Option Moment → List ℕ
bar_reason_text None = []
bar_reason_text (Some moment) = xml_text (string_bytes moment.reason)

-- why an entry completed so: the reason of the step that ended it. A success has none
abbrev pub completion_reason : List Moment → ℕ → Fate → List ℕ
completion_reason moments step (Completed status) = bar_reason_text (slice_get moments step)
completion_reason moments step fate = []

abbrev pub end_phrase : List Moment → Option End → List ℕ
end_phrase moments None = codes ", still held"
end_phrase moments (Some end) =
    codes " to " ++ decimal end.step ++ codes ": " ++ fate_phrase end.fate
    ++ completion_reason moments end.step end.fate

-- the own name of the entry, as the step tells it that brought it to the engine (profile)
abbrev pub own_at : List Moment → ℕ → Option (List ℕ)
own_at moments step =
    option_and_then (λ moment. option_map string_bytes moment.own) (slice_get moments step)

abbrev pub own_phrase : Option (List ℕ) → List ℕ
own_phrase None = []
own_phrase (Some text) = codes " is " ++ xml_text text

-- what the bar is of, an entry with this own name
abbrev pub entry_phrase : Option (List ℕ) → Bar → List ℕ
entry_phrase own bar =
    kind_phrase bar.is_batch ++ decimal bar.name ++ own_phrase own ++ work_phrase bar.desc ++ client_phrase bar.client
    ++ parent_phrase bar.parent

-- from where to where it goes, and how it ended
abbrev pub steps_phrase : List Moment → Bar → List ℕ
steps_phrase moments bar =
    codes ", on e" ++ decimal bar.engine ++ codes " from step " ++ decimal bar.begin ++ end_phrase moments bar.end

-- of a bar of the run with these moments
unfoldable pub bar_title_text : List Moment → Bar → List ℕ
bar_title_text moments bar =
    codes "<title>" ++ entry_phrase (own_at moments bar.begin) bar ++ steps_phrase moments bar ++ codes "</title>"

abbrev pub box_part_text : List ℕ → ℕ → ℕ → ℕ → List ℕ
box_part_text class begin end y = cond (nat_lt begin end) (box_text class begin end y) []

-- the strokes of a sign, 4 wide and 4 high
abbrev pub strokes_text : Sign → List ℕ
strokes_text Cross = codes "l4 4m0-4l-4 4"
strokes_text Slash = codes "m0 4l4-4"

-- a sign before the column of the step of an end
unfoldable pub sign_text : Sign → ℕ → ℕ → List ℕ
sign_text sign end y =
    codes "<path class=\"sign\" d=\"M" ++ decimal (106 + 14 * end) ++ codes " " ++ decimal y ++ strokes_text sign
    ++ codes "\"/>"

abbrev pub end_sign_text : Option Sign → ℕ → ℕ → List ℕ
end_sign_text None end y = []
end_sign_text (Some sign) end y = sign_text sign end y

-- members are in lanes below those of what the engine took from queues
abbrev pub lane_by : Lanes → ℕ → Option ℕ → ℕ
lane_by lanes lane None = lane
lane_by lanes lane (Some batch) = lower_end lanes.taken lane

abbrev pub bar_top : Lanes → Bar → ℕ
bar_top lanes bar = lanes.top + 13 * lane_by lanes bar.lane bar.parent

-- a box until it starts, a box until it ends, its label with this own name, and a sign at its end
abbrev pub boxes_in_columns : Bar → Option (List ℕ) → ℕ → ℕ → ℕ → ℕ → List ℕ
boxes_in_columns bar own begin runs end y =
    box_part_text (codes "waits") begin runs y ++ box_part_text (class_of_end bar.end) runs end y
    ++ bar_label_text bar own begin end (y + 9) ++ end_sign_text (sign_of bar.end) end (y + 4)

abbrev pub boxes_text : Extent → Bar → Option (List ℕ) → ℕ → List ℕ
boxes_text extent bar own y =
    boxes_in_columns bar own (column_of extent.range bar.begin)
    (column_of extent.range (unwrap_or bar.started (end_step extent.last bar)))
    (column_of extent.range (end_step extent.last bar)) y

abbrev pub bar_text : Lanes → List Moment → Bar → List ℕ
bar_text lanes moments bar =
    codes "<g>" ++ bar_title_text moments bar
    ++ boxes_text lanes.extent bar (own_at moments bar.begin) (bar_top lanes bar) ++ codes "</g>\n"

-- the engine had it, in a step that is drawn
abbrev pub is_shown : ℕ → Extent → Bar → Bool
is_shown engine extent bar =
    bar.engine == engine && is_in_range extent.range bar.begin (end_step extent.last bar)

-- each bar of the engine
abbrev pub bars_text : ℕ → Lanes → List Moment → List Bar → List ℕ
bars_text engine lanes moments [] = []
bars_text engine lanes moments (bar ∷ bars) =
    cond (is_shown engine lanes.extent bar) (bar_text lanes moments bar) [] ++ bars_text engine lanes moments bars

-- ---- batches

-- where the lanes of the engine end
abbrev pub lanes_bottom : Lanes → ℕ
lanes_bottom lanes = lanes.top + 13 * lower_end lanes.taken lanes.members

unfoldable pub batch_title_text : ℕ → ℕ → List ℕ
batch_title_text engine name =
    codes "><title>batch of e" ++ decimal engine ++ codes ": batch " ++ decimal name
    ++ codes " and its members</title></rect>\n"

-- a box around a batch and its members
abbrev pub batch_text : Lanes → Bar → List ℕ
batch_text lanes bar =
    rect_text (codes "batch") (column_of lanes.extent.range bar.begin) (lanes.top + 13 * bar.lane)
    (14 * (column_of lanes.extent.range (end_step lanes.extent.last bar) - column_of lanes.extent.range bar.begin))
    (lanes_bottom lanes - (lanes.top + 13 * bar.lane))
    ++ batch_title_text bar.engine bar.name

abbrev pub batches_text : ℕ → Lanes → List Bar → List ℕ
batches_text engine lanes [] = []
batches_text engine lanes (bar ∷ bars) =
    cond (is_shown engine lanes.extent bar && bar.is_batch) (batch_text lanes bar) []
    ++ batches_text engine lanes bars

-- ---- engines

-- the bars, those that the engine took from queues in lanes, and then its members too
abbrev pub taken_in_lanes : ℕ → ℕ → List Bar → List Bar
taken_in_lanes engine steps bars = in_lanes engine false steps [] bars

abbrev pub bars_in_lanes : ℕ → ℕ → List Bar → List Bar
bars_in_lanes engine steps bars = in_lanes engine true steps [] (taken_in_lanes engine steps bars)

-- the lanes of an engine whose row begins at `top`
abbrev pub lanes_of : ℕ → Extent → ℕ → List Bar → Lanes
lanes_of engine extent top bars = record {
  top = lower_end top 18;
  taken = lane_count (all_lanes engine false extent.last [] bars);
  members = lane_count (all_lanes engine true extent.last [] (taken_in_lanes engine extent.last bars));
  extent = extent;
}

-- so much is 13 times as high; heights have 32 bits
abbrev pub lanes_high : ℕ → ℕ
lanes_high lanes = min (lanes * 13) (2 ^ 32 - 1)

abbrev pub engine_bottom : Lanes → ℕ
engine_bottom lanes = lower_end (lower_end lanes.top (lanes_high (lower_end lanes.taken lanes.members))) 4

-- the name of an engine's rows, and that name again
unfoldable pub engine_name_text : ℕ → ℕ → ℕ → List ℕ
engine_name_text engine steps top =
    numbered_text (codes "engine") engine top ++ again_text (codes "engine") (Some engine) steps top

abbrev pub engine_rows_text : ℕ → ℕ → List Moment → Lanes → List Bar → List ℕ
engine_rows_text engine top moments lanes bars =
    engine_name_text engine (columns_of lanes.extent) top
    ++ engine_marks_text engine top 0 (moments_in lanes.extent.range moments) ++ batches_text engine lanes bars
    ++ bars_text engine lanes moments bars ++ rule_text (columns_of lanes.extent) (engine_bottom lanes)

-- of an engine that made no step there is no text, and the next one is in its place
abbrev pub engine_part_text : ℕ → Extent → ℕ → List Moment → List Bar → List ℕ
engine_part_text engine extent top moments bars =
    cond (has_steps engine moments)
    (engine_rows_text engine top moments (lanes_of engine extent top bars) (bars_in_lanes engine extent.last bars)) []

abbrev pub engine_end : ℕ → Extent → ℕ → List Moment → List Bar → ℕ
engine_end engine extent top moments bars =
    cond (has_steps engine moments) (lower_end (engine_bottom (lanes_of engine extent top bars)) 4) top

-- engines below one another, and where they end
abbrev pub engines_text : Extent → ℕ → List ℕ → List Moment → List Bar → List ℕ
engines_text extent top [] moments bars = []
engines_text extent top (engine ∷ engines) moments bars =
    engine_part_text engine extent top moments bars
    ++ engines_text extent (engine_end engine extent top moments bars) engines moments bars

abbrev pub engines_end : Extent → ℕ → List ℕ → List Moment → List Bar → ℕ
engines_end extent top [] moments bars = top
engines_end extent top (engine ∷ engines) moments bars =
    engines_end extent (engine_end engine extent top moments bars) engines moments bars
