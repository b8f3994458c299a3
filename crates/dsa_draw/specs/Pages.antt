-- Pieces of a page, as text: its head and its foot, names, lines and marks.
use Rattle.std.specs.Prelude.{ℕ, ◌+◌, ◌-◌, ◌*◌, ◌==◌, cond, List, ◌++◌, codes, decimal, flat_map}
use Rattle.std.specs.{Str.{chars}, Char.{encode_utf8}}
use Rattle.dsa_event_text.specs.Text.{count_text}
use Rattle.dsa_draw.specs.{Bands.{lower_end}, Ranges.{columns_of}, declared.range.Extent.{Extent}}
use Rattle.dsa_draw.specs.declared.{page.TheConstants.{STYLE, DESCRIPTION, LEGEND}, marks.Mark.{Mark, TheVariants.{Done, Wait, Failed}}}

-- ---- texts

-- a character in XML: `&`, `<` and `>` are entities (profile)
abbrev pub xml_char : ℕ → List ℕ
xml_char c =
    cond (c == 38) (codes "&amp;") (cond (c == 60) (codes "&lt;") (cond (c == 62) (codes "&gt;") (encode_utf8 c)))

-- a text in XML

abbrev pub xml_text : List ℕ → List ℕ
xml_text text = flat_map xml_char (chars text)

-- ---- head and foot

-- how wide a page of so many steps is
abbrev pub page_width : ℕ → ℕ
page_width steps = 112 + 14 * steps + 56

unfoldable pub page_size_text : ℕ → ℕ → List ℕ
page_size_text width height = codes " width=\"" ++ decimal width ++ codes "\" height=\"" ++ decimal height ++ codes "\""

unfoldable pub view_text : ℕ → ℕ → List ℕ
view_text width height = codes " viewBox=\"0 -28 " ++ decimal width ++ codes " " ++ decimal height
    ++ codes "\" role=\"img\">\n"

unfoldable pub svg_text : List ℕ
svg_text = codes "<svg xmlns=\"http://www.w3.org/2000/svg\""

-- what the page is of, in words: a title, and what the rows are
unfoldable pub description_text : List ℕ
description_text = DESCRIPTION.now

unfoldable pub whole_title_text : ℕ → List ℕ
whole_title_text steps = count_text (codes "<title>Run of ") steps (codes "step") (codes "steps")

unfoldable pub some_steps_text : ℕ → List ℕ
some_steps_text steps = count_text (codes "<title>") steps (codes "step") (codes "steps")

unfoldable pub of_run_text : ℕ → List ℕ
of_run_text steps = count_text (codes " of a run of ") steps (codes "step") (codes "steps")

abbrev pub part_title_text : Extent → List ℕ
part_title_text extent =
    some_steps_text (columns_of extent) ++ codes " from step " ++ decimal extent.range.first ++ of_run_text extent.last

-- some steps of a run, or all
abbrev pub run_title_text : Extent → List ℕ
run_title_text extent =
    cond (columns_of extent == extent.last) (whole_title_text extent.last) (part_title_text extent)

abbrev pub told_text : Extent → List ℕ
told_text extent = run_title_text extent ++ codes "</title>\n" ++ description_text

-- the colours, for light and for dark
unfoldable pub style_text : List ℕ
style_text = STYLE.now

unfoldable pub sheet_text : ℕ → ℕ → List ℕ
sheet_text width height =
    codes "<rect class=\"sheet\" y=\"-28\" width=\"" ++ decimal width ++ codes "\" height=\"" ++ decimal height
    ++ codes "\"/>\n"

-- a rectangle from the left of the column of a step on, whose tag is left open
unfoldable pub rect_text : List ℕ → ℕ → ℕ → ℕ → ℕ → List ℕ
rect_text class step y wide high =
    codes "<rect class=\"" ++ class ++ codes "\" x=\"" ++ decimal (112 + 14 * step) ++ codes "\" y=\"" ++ decimal y
    ++ codes "\" width=\"" ++ decimal wide ++ codes "\" height=\"" ++ decimal high ++ codes "\""

-- a box over the columns from `begin` on to before `end`
abbrev pub box_text : List ℕ → ℕ → ℕ → ℕ → List ℕ
box_text class begin end y = rect_text class begin y (14 * (end - begin)) 11 ++ codes " rx=\"2\"/>"

-- small letters from the column of a step on
unfoldable pub letters_text : ℕ → ℕ → List ℕ → List ℕ
letters_text step base letters =
    codes "<text class=\"label\" x=\"" ++ decimal (112 + 14 * step + 2) ++ codes "\" y=\"" ++ decimal base
    ++ codes "\">" ++ letters ++ codes "</text>"

-- a small number there
abbrev pub small_number_text : ℕ → ℕ → ℕ → List ℕ
small_number_text step base number = letters_text step base (decimal number)

-- the height of a page whose rows are so high: 28 above them for long commands, and a legend of 207 below
abbrev pub page_height : ℕ → ℕ
page_height rows = lower_end rows 235

-- the head of a page with these steps, whose rows are so high
abbrev pub head_text : Extent → ℕ → List ℕ
head_text extent rows =
    svg_text ++ page_size_text (page_width (columns_of extent)) (page_height rows)
    ++ view_text (page_width (columns_of extent)) (page_height rows) ++ told_text extent ++ style_text
    ++ sheet_text (page_width (columns_of extent)) (page_height rows)

-- the shapes of the legend with their meanings, and the legend below rows that are so high
unfoldable pub shapes_text : List ℕ
shapes_text = LEGEND.now

unfoldable pub legend_text : ℕ → List ℕ
legend_text rows =
    codes "<g transform=\"translate(0 " ++ decimal rows ++ codes ")\">\n" ++ shapes_text ++ codes "</g>\n"

abbrev pub foot_text : List ℕ
foot_text = codes "</svg>\n"

-- ---- rows

-- the name of a row that begins at `top`
unfoldable pub row_name_text : List ℕ → ℕ → List ℕ
row_name_text name top =
    codes "<text x=\"4\" y=\"" ++ decimal (top + 11) ++ codes "\">" ++ name ++ codes "</text>\n"

-- a line over all columns
unfoldable pub rule_text : ℕ → ℕ → List ℕ
rule_text steps y =
    codes "<path class=\"grid\" d=\"M112 " ++ decimal y ++ codes "h" ++ decimal (14 * (steps - 0)) ++ codes "\"/>\n"

unfoldable pub dot_text : List ℕ → ℕ → ℕ → List ℕ
dot_text class step top =
    codes "<circle class=\"" ++ class ++ codes "\" cx=\"" ++ decimal (112 + 14 * step + 7) ++ codes "\" cy=\""
    ++ decimal (top + 8) ++ codes "\" r=\"3\"/>\n"

unfoldable pub cross_text : ℕ → ℕ → List ℕ
cross_text step top =
    codes "<path class=\"failed\" d=\"M" ++ decimal (112 + 14 * step + 4) ++ codes " " ++ decimal (top + 5)
    ++ codes "l6 6m0-6l-6 6\"/>\n"

-- a dot, a ring or a cross in the column of a step, in a row that begins at `top`
abbrev pub mark_text : Mark → ℕ → ℕ → List ℕ
mark_text Done step top = dot_text (codes "done") step top
mark_text Wait step top = dot_text (codes "wait") step top
mark_text Failed step top = cross_text step top
