use Rattle.dsa_draw.proofs.drawing.draw.Goals as goal
use Rattle.std.proofs.Common.{◌≡◌, ◌∙◌, ◌++◌, refl, ap, append_assoc, string_bytes}
use Rattle.dsa_draw.specs.{Bars.{bars_of}, Pages.{foot_text, head_text, legend_text}, Columns.{columns_text}, Rows.{rows_above_text}}
use Rattle.dsa_draw.specs.Ranges.{columns_of}
use Rattle.dsa_draw.specs.Drawings.{extent_of, shown_of, story_bands_text, story_bands_end, story_engines_text}
use Rattle.dsa_draw.specs.Drawings.{story_height}

pub returns : goal.returns
returns c =
    let story = c.args.story.now in
    let range = c.args.steps in
    let moments = story.moments.items in
    let fates = story.fates.items in
    let extent = extent_of range moments in
    let same : c.as_slice-moments.result.now ≡ moments = c.as_slice-moments.ensures.value in
    let ended : c.as_slice-fates.result.now ≡ fates = c.as_slice-fates.ensures.value in
    let drawn : c.extent_of-extent.result ≡ extent = c.extent_of-extent.ensures ∙ ap (extent_of range) same in
    let shown : c.moments_in-shown.result.now ≡ shown_of range story =
    c.moments_in-shown.ensures ∙ rw (drawn, same) refl in
    let above : c.as_str.result.now ≡ rows_above_text extent fates moments =
    c.as_str.ensures.value ∙ c.in_ok-add_rows_above.ensures ∙ rw (c.new-above.ensures.bytes, drawn, same, ended) refl in
    let columns : c.columns.result ≡ columns_of extent = c.columns.ensures ∙ ap columns_of drawn in
    let bands : c.as_str-2.result.now ≡ story_bands_text range story =
    c.as_str-2.ensures.value ∙ c.in_ok-top.ensures.text ∙ rw (
      c.new-bands.ensures.bytes,
      columns,
      shown,
      c.deref.ensures.value,
      c.in_ok-list.ensures,
    ) refl in
    let top : c.in_ok-top.top ≡ story_bands_end range story =
    c.in_ok-top.ensures.end ∙ rw (shown, c.deref.ensures.value, c.in_ok-list.ensures) refl in
    let bars : c.in_ok-bars.bars.items ≡ bars_of moments fates =
    c.in_ok-bars.ensures ∙ ap (λ ms. bars_of ms c.as_slice-fates.result.now) same ∙ ap (bars_of moments) ended in
    let height : c.in_ok-height.height ≡ story_height range story =
    c.in_ok-height.ensures.end ∙ rw (drawn, top, same, c.deref-2.ensures.value, bars) refl in
    let below : c.as_str-3.result.now
    ≡ story_engines_text range story ++ legend_text (story_height range story) ++ foot_text =
    c.as_str-3.ensures.value ∙ c.in_ok-add_foot.ensures ∙ rw (
      c.in_ok-add_legend.ensures,
      height,
      c.in_ok-height.ensures.text,
      c.new-below.ensures.bytes,
      drawn,
      top,
      same,
      c.deref-2.ensures.value,
      bars,
    ) (simp append_assoc) in
    let head : string_bytes c.add_head.new.text ≡ head_text extent (story_height range story) =
    c.in_ok-add_head.ensures ∙ rw (c.new-text.ensures.bytes, drawn, height) refl in
    let page : string_bytes c.add_columns.new.text
    ≡ head_text extent (story_height range story) ++ columns_text (story_height range story) 0 (shown_of range story) =
    c.in_ok-add_columns.ensures ∙ rw (head, height, shown) refl in
    c.in_ok-add_parts.ensures ∙ rw (page, above, bands, below) (simp append_assoc)
