use Rattle.dsa_draw.proofs.rows.drawn_of_a_device.Goals as goal
use Rattle.std.proofs.Common.{◌≡◌, ◌∙◌, ℕ, List, [], ◌∷◌, ◌++◌, ap, arith, get_or, length, refl, sym}
use Rattle.std.specs.declared.alloc.Global.{Global}
use Rattle.dsa_scenario.specs.Lines.{record_text}
use Rattle.dsa_draw.specs.declared.{moment.Moment.{Moment}, run.Story.{Story}}
use Rattle.dsa_draw.specs.Ranges.{all_steps}
use Rattle.dsa_draw.specs.Drawings.{AreMoments, drawing_text, extent_of, shown_of, story_bands_text, story_engines_text}
use Rattle.dsa_draw.specs.{Drawings.{story_height}, Moments.{IsMomentOf}, Pages.{foot_text, head_text, legend_text}}
use Rattle.dsa_draw.specs.{Columns.{columns_text}, Rows.{rows_above_text}}
use Rattle.dsa_draw.specs.Worked.{device_with_an_empty_queue, drawn_on_literals, idle_step, moment_of_a_device}
use Rattle.dsa_draw.specs.Worked.{of_an_empty_queue, step_of_a_device, story_of_a_device}
use Rattle.dsa_scenario.specs.Run.{answered_by}
use Rattle.dsa_explain_lines.specs.Parts.{part_of}

is_moment : (memory : Global) → IsMomentOf step_of_a_device (moment_of_a_device memory)
unfolding drawn_on_literals
is_moment memory = record {
  number = refl;
  of_entry = refl;
  reason = refl;
  note = refl;
  phase = refl;
  queues = refl;
  groups = refl;
  batch = refl;
  desc = refl;
  own = refl;
  ended = refl;
}

counts_differ : (memory : Global)
    → IsMomentOf step_of_a_device (record (moment_of_a_device memory) { ended = 1 }) → ⊥
counts_differ memory is = omega (arith, is.ended)

-- the number of columns is in the page's width
first_digits : (moments : List Moment) (height : ℕ) (columns rows bands engines legend : List ℕ)
    → AreMoments [] moments
    → get_or (head_text (extent_of all_steps moments) height ++ columns ++ rows ++ bands ++ engines ++ legend ++ foot_text) 48 0
    ≡ 54
unfolding drawn_on_literals
first_digits [] height columns rows bands engines legend are = refl
first_digits (moment ∷ moments) height columns rows bands engines legend are = absurd are

first_digits_of : (story : Story) → AreMoments [] story.moments.items → get_or (drawing_text all_steps story) 48 0 ≡ 54
first_digits_of story are = first_digits story.moments.items (story_height all_steps story)
    (columns_text (story_height all_steps story) 0 (shown_of all_steps story))
    (rows_above_text (extent_of all_steps story.moments.items) story.fates.items story.moments.items)
    (story_bands_text all_steps story) (story_engines_text all_steps story)
    (legend_text (story_height all_steps story)) are

first_digits_of_a_step : (memory : Global) → get_or (drawing_text all_steps (story_of_a_device memory)) 48 0 ≡ 56
unfolding drawn_on_literals
first_digits_of_a_step memory = refl

pub returns-clause-moment : goal.returns-clause-moment
returns-clause-moment c memory = is_moment memory

pub returns-clause-other_number : goal.returns-clause-other_number
returns-clause-other_number c memory is = omega (arith, is.number)

-- what the device says before the step
why_idle : part_of device_with_an_empty_queue (answered_by (idle_step 1)) ≡ of_an_empty_queue
unfolding drawn_on_literals
why_idle = refl

pub returns-clause-no_reason : goal.returns-clause-no_reason
returns-clause-no_reason c memory is =
    let same : 0 ≡ 13 = ap length (is.reason ∙ why_idle) in
    omega (arith, same)

pub returns-clause-reason_after : goal.returns-clause-reason_after
returns-clause-reason_after c memory is =
    let same : 19 ≡ 13 = ap length (is.reason ∙ why_idle) in
    omega (arith, same)

pub returns-clause-reason_of_a_poll : goal.returns-clause-reason_of_a_poll
returns-clause-reason_of_a_poll c memory is =
    let same : 22 ≡ 13 = ap length (is.reason ∙ why_idle) in
    omega (arith, same)

pub returns-clause-other_phase : goal.returns-clause-other_phase
returns-clause-other_phase c memory is = grind (arith, is.phase)

pub returns-clause-other_entry : goal.returns-clause-other_entry
returns-clause-other_entry c memory is =
    let same : 105 ≡ 102 = ap (λ entry. get_or (record_text entry) 0 0) is.of_entry in
    omega (arith, same)

pub returns-clause-other_queue : goal.returns-clause-other_queue
returns-clause-other_queue c memory is = omega (arith, ap length is.queues)

pub returns-clause-other_groups : goal.returns-clause-other_groups
returns-clause-other_groups c memory is = omega (arith, ap length is.groups)

pub returns-clause-other_batch : goal.returns-clause-other_batch
returns-clause-other_batch c memory is = grind (arith, is.batch)

pub returns-clause-other_descriptor : goal.returns-clause-other_descriptor
returns-clause-other_descriptor c memory is = grind (arith, is.desc)

pub returns-clause-other_count : goal.returns-clause-other_count
returns-clause-other_count c memory is = counts_differ memory is

pub returns-clause-named : goal.returns-clause-named
unfolding drawn_on_literals
returns-clause-named c memory = record {
  number = refl;
  of_entry = refl;
  reason = refl;
  note = refl;
  phase = refl;
  queues = refl;
  groups = refl;
  batch = refl;
  desc = refl;
  own = refl;
  ended = refl;
}

pub returns-clause-no_note : goal.returns-clause-no_note
unfolding drawn_on_literals
returns-clause-no_note c memory is = omega (arith, ap length is.note)

pub returns-clause-other_note : goal.returns-clause-other_note
unfolding drawn_on_literals
returns-clause-other_note c memory is = omega (arith, ap length is.note)

pub returns-clause-no_own_name : goal.returns-clause-no_own_name
returns-clause-no_own_name c memory is = grind (arith, is.own)

pub returns-clause-other_names : goal.returns-clause-other_names
returns-clause-other_names c memory is = grind (arith, is.own)

pub returns-clause-moments : goal.returns-clause-moments
returns-clause-moments c memory = (is_moment memory, tt)

pub returns-clause-no_moment : goal.returns-clause-no_moment
returns-clause-no_moment c = tt

pub returns-clause-one_more : goal.returns-clause-one_more
returns-clause-one_more c memory are = are

pub returns-clause-two_of_one_step : goal.returns-clause-two_of_one_step
returns-clause-two_of_one_step c memory are = are.1

pub returns-clause-other_moment : goal.returns-clause-other_moment
returns-clause-other_moment c memory are = counts_differ memory are.0

pub returns-clause-story : goal.returns-clause-story
returns-clause-story c memory = record { caps = refl; each = (is_moment memory, tt); fates = refl }

pub returns-clause-other_caps : goal.returns-clause-other_caps
returns-clause-other_caps c memory is = omega (arith, ap (λ caps. caps.groups) is.caps)

pub returns-clause-other_story : goal.returns-clause-other_story
returns-clause-other_story c memory is = counts_differ memory is.each.0

pub returns-clause-other_fates : goal.returns-clause-other_fates
returns-clause-other_fates c memory is = omega (arith, ap length is.fates)

pub returns-clause-drawn : goal.returns-clause-drawn
returns-clause-drawn c memory =
    (story_of_a_device memory, record { caps = refl; each = (is_moment memory, tt); fates = refl }, refl)

pub returns-clause-no_text : goal.returns-clause-no_text
unfolding drawn_on_literals
returns-clause-no_text c (story, is, text) = omega (arith, ap (λ t. get_or t 0 0) text)

pub returns-clause-text_of_a_step : goal.returns-clause-text_of_a_step
returns-clause-text_of_a_step c memory (story, is, text) =
    let same : 56 ≡ 54 =
    sym (first_digits_of_a_step memory) ∙ ap (λ t. get_or t 48 0) text ∙ first_digits_of story is.each in
    omega (arith, same)
