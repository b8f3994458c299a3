-- Rows of a drawing, an item at a time.
use Rattle.std.proofs.Common.{◌≡◌, ◌<◌, ◌≤◌, ◌+◌, ℕ, List, [], ◌∷◌, ◌++◌, length, drop, get_or, cond, ◌∙◌, add-one, ap}
use Rattle.std.proofs.Common.{append_assoc, append-nil}
use Rattle.std.proofs.lemmas.List.{drop_all, flat_map_more}
use Rattle.std.specs.List.{flat_map}
use Rattle.dsa_base.specs.Numbers.{numbers_below}
use Rattle.dsa_book.specs.declared.fate.FateRow.{FateRow}
use Rattle.dsa_draw.specs.declared.{moment.Moment.{Moment}}
use Rattle.dsa_draw.specs.declared.phases.{Holder.{Holder}, Stretch.{Stretch}}
use Rattle.dsa_draw.specs.Bands.{is_same_phase, next_step, phase_in, stretch_after, stretch_text, stretches_text}
use Rattle.dsa_draw.specs.Rows.{marks_of_step_text, marks_above_text}
use Rattle.dsa_draw.specs.Engines.{engine_mark_text, engine_marks_text}
use Rattle.dsa_draw.proofs.Turns.{left}

-- what is told of the numbers below, and of one more
pub told_more : (f : ℕ → List ℕ) (n : ℕ) (o text new : List ℕ) → text ≡ o ++ flat_map f (numbers_below n)
    → new ≡ text ++ f n → new ≡ o ++ flat_map f (numbers_below (n + 1))
told_more f n o text new h e = rw add-one (e ∙ ap (λ l. l ++ f n) h ∙ flat_map_more f o (numbers_below n) n)

-- one moment more
pub marked : (fates : List FateRow) (ms : List Moment) (i : ℕ) (m : Moment) (step ended : ℕ)
    (text longer whole_run : List ℕ) → i < length ms → m ≡ get_or ms i m
    → longer ≡ text ++ marks_of_step_text fates step ended m
    → text ++ marks_above_text fates step ended (drop i ms) ≡ whole_run
    → longer ++ marks_above_text fates (next_step step) m.ended (drop (i + 1) ms) ≡ whole_run
marked fates ms i m step ended text longer whole_run inside is added h =
    let h' : text ++ marks_above_text fates step ended (m ∷ drop (i + 1) ms) ≡ whole_run =
    rw (left ms i m inside is) at h in
    rw (added, append_assoc) h'

-- no moment more
pub marked_at_end : (fates : List FateRow) (ms : List Moment) (i step ended : ℕ) (text whole_run : List ℕ)
    → length ms ≤ i → text ++ marks_above_text fates step ended (drop i ms) ≡ whole_run → text ≡ whole_run
marked_at_end fates ms i step ended text whole_run past h =
    let h' : text ++ marks_above_text fates step ended [] ≡ whole_run = rw (drop_all i ms past) at h in
    let h'' : text ≡ whole_run = rw (append-nil text) at h' in
    h''

-- one moment of an engine more
pub engine_marked : (engine top : ℕ) (ms : List Moment) (i : ℕ) (m : Moment) (step : ℕ)
    (text longer whole_run : List ℕ) → i < length ms → m ≡ get_or ms i m
    → longer ≡ text ++ engine_mark_text engine top step m.entry
    → text ++ engine_marks_text engine top step (drop i ms) ≡ whole_run
    → longer ++ engine_marks_text engine top (next_step step) (drop (i + 1) ms) ≡ whole_run
engine_marked engine top ms i m step text longer whole_run inside is added h =
    let h' : text ++ engine_marks_text engine top step (m ∷ drop (i + 1) ms) ≡ whole_run =
    rw (left ms i m inside is) at h in
    rw (added, append_assoc) h'

pub engine_marked_at_end : (engine top : ℕ) (ms : List Moment) (i step : ℕ) (text whole_run : List ℕ) → length ms ≤ i
    → text ++ engine_marks_text engine top step (drop i ms) ≡ whole_run → text ≡ whole_run
engine_marked_at_end engine top ms i step text whole_run past h =
    let h' : text ++ engine_marks_text engine top step [] ≡ whole_run = rw (drop_all i ms past) at h in
    let h'' : text ≡ whole_run = rw (append-nil text) at h' in
    h''

-- one moment of a phase more
pub stretched : (holder : Holder) (y : ℕ) (ms : List Moment) (i : ℕ) (m : Moment) (step : ℕ) (stretch : Stretch)
    (text longer whole_run : List ℕ) → i < length ms → m ≡ get_or ms i m
    → longer ≡ text ++ cond (is_same_phase stretch.phase (phase_in holder m)) [] (stretch_text holder y step stretch)
    → text ++ stretches_text holder y step stretch (drop i ms) ≡ whole_run
    → longer ++ stretches_text holder y (next_step step) (stretch_after step (phase_in holder m) stretch) (drop (i + 1) ms)
    ≡ whole_run
stretched holder y ms i m step stretch text longer whole_run inside is added h =
    let h' : text ++ stretches_text holder y step stretch (m ∷ drop (i + 1) ms) ≡ whole_run =
    rw (left ms i m inside is) at h in
    rw (added, append_assoc) h'

-- no moment more
pub stretched_at_end : (holder : Holder) (y : ℕ) (ms : List Moment) (i step : ℕ) (stretch : Stretch)
    (text longer whole_run : List ℕ) → length ms ≤ i → longer ≡ text ++ stretch_text holder y step stretch
    → text ++ stretches_text holder y step stretch (drop i ms) ≡ whole_run → longer ≡ whole_run
stretched_at_end holder y ms i step stretch text longer whole_run past added h =
    let h' : text ++ stretches_text holder y step stretch [] ≡ whole_run = rw (drop_all i ms past) at h in
    added ∙ h'
