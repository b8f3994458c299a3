-- Lines of a snapshot, and the rows that are made of them.
use Rattle.std.proofs.Common.{◌≡◌, ◌∙◌, ◌<◌, ◌≤◌, ◌++◌, ◌∷◌, ℕ, List, [], ap, flat_map, get_or, length, sym, subst}
use Rattle.std.proofs.lemmas.List.{flat_map_more, get_or-map, get_or_past, length-map}
use Rattle.std.specs.{Borrow.{Bor}, Str.Lines.{lines}}
use Rattle.dsa_device.specs.Running.{Running}
use Rattle.dsa_scenario.specs.{declared.run.Record.{Record}, Steps.{Visit, visit}}
use Rattle.dsa_trace.specs.declared.form.Trace.{Trace}
use Rattle.dsa_trace.specs.Changes.{snapshot, line_texts, told_before_step}
use Rattle.dsa_trace.specs.Lines.{change_line, change_row, step_line, trace_line_of_step}

-- a line that is there
pub line_there : (lines : List (Bor (List ℕ))) (number : ℕ) (line : Bor (List ℕ)) → number < length lines
    → line ≡ get_or lines number line → line.now ≡ get_or (line_texts lines) number []
line_there lines number line inside is =
    ap (λ (text : Bor (List ℕ)). text.now) is
    ∙ sym (get_or-map (λ (text : Bor (List ℕ)). text.now) lines number line [] inside)

-- and a number after the last one
pub line_past : (lines : List (Bor (List ℕ))) (number : ℕ) → length lines ≤ number
    → [] ≡ get_or (line_texts lines) number []
line_past lines number past =
    sym (get_or_past (line_texts lines) number []
    (subst (λ n. n ≤ number) (sym (length-map lines (λ (text : Bor (List ℕ)). text.now))) past))

-- a row of the lines of two snapshots
pub row_of_lines : (old new before : List ℕ) (was now : List (List ℕ)) (number : ℕ) (entry : Record) (device : Running)
    → was ≡ lines before → now ≡ lines (snapshot device.caps device.state)
    → new ≡ old ++ change_row was now number entry device.caps → new ≡ old ++ change_line before number entry device
row_of_lines old new before was now number entry device first second is =
    is ∙ ap (λ (those : List (List ℕ)). old ++ change_row those now number entry device.caps) first
    ∙ ap (λ (those : List (List ℕ)). old ++ change_row (lines before) those number entry device.caps) second

-- the line of one step more
pub step_more : (form : Trace) (old new told : List ℕ) (steps : List Visit) (number : ℕ) (before : Running)
    (entry : Record) (after : Running) → new ≡ old ++ step_line form told number entry after
    → old ≡ flat_map (trace_line_of_step form) steps → told ≡ told_before_step form before
    → new ≡ flat_map (trace_line_of_step form) (steps ++ visit number before entry after ∷ [])
step_more form old new told steps number before entry after added was same =
    added ∙ ap (λ (text : List ℕ). text ++ step_line form told number entry after) was
    ∙ ap (λ (text : List ℕ). flat_map (trace_line_of_step form) steps ++ step_line form text number entry after) same
    ∙ flat_map_more (trace_line_of_step form) [] steps (visit number before entry after)
