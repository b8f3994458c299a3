-- A line more, the text of lines, and the queues that one step more was taken from.
use Rattle.std.proofs.Common.{◌≡◌, ◌∙◌, ◌<◌, ◌+◌, ℕ, List, [], ◌∷◌, ◌++◌, Some, None, inl, refl, sym, ap, subst}
use Rattle.std.proofs.Common.{take, length, get_or, map, flat_map, string_bytes}
use Rattle.std.proofs.lemmas.{List.{take_more, get_or_default}, Option.{same_Some}}
use Rattle.std.specs.Prelude.{slice_get}
use Rattle.dsa_base.specs.Lists.{In}
use Rattle.dsa_book.specs.declared.event.Step.{Step}
use Rattle.dsa_scenario.specs.declared.run.Record.{Record}
use Rattle.dsa_conform.specs.declared.told.{Line.{Line}, Told.{Told}}
use Rattle.dsa_conform.specs.Lines.{against_line, allowed_line, asked_step_line, seen_line, difference_text}
use Rattle.dsa_conform.specs.Seen.{Seen}
use Rattle.dsa_conform.specs.ToldLines.{HasText, IsLinePlaced, AddsLines, line_as}
use Rattle.dsa_conform.specs.Ways.{queues_taken}
use Rattle.dsa_conform.proofs.{Placing.{in_at, more_placed}, Runs.{taken_more}}

-- one of the lines had the text
pub was_placed : (lines : List Line) (line : Line) (now : List Line) (text : List ℕ) → now ≡ lines
    → text ≡ string_bytes line.text → HasText now text → IsLinePlaced lines line lines
was_placed lines line now text is says h = record {
  each = λ other i. inl i;
  all = λ other i. i;
  here = (h.0, subst (λ l. In h.0 l) is h.1, h.2 ∙ says);
  listed = λ h. h;
}

-- the line of one answer more has been placed
pub more_told : (old mid new : List Line) (told : Told) (entries : List Record) (why : List ℕ) (i : ℕ) (d : Record)
    (line : Line) → entries ≡ told.allowed.items → why ≡ string_bytes told.why → i < length entries
    → AddsLines old mid told (take i told.allowed.items) → line.entry ≡ get_or entries i d
    → string_bytes line.text ≡ allowed_line why (get_or entries i d) → IsLinePlaced mid line new
    → AddsLines old new told (take (i + 1) told.allowed.items)
more_told old mid new told entries why i d line same says inside before is text placed =
    let all = told.allowed.items in
    let entry = get_or all i d in
    let inside' : i < length all = subst (λ l. i < length l) same inside in
    subst (λ l. AddsLines old new told l) (sym (take_more all i d inside'))
    (more_placed old mid new told (take i all) entry line before
    (in_at all i entry inside' (get_or_default all i d entry inside'))
    (is ∙ ap (λ l. get_or l i d) same)
    (text ∙ ap (λ l. allowed_line l (get_or entries i d)) says
    ∙ ap (λ l. allowed_line (string_bytes told.why) (get_or l i d)) same)
    placed)

-- the queue of one step more has been added
pub one_taken : (steps : List Step) (i : ℕ) (d : Step) (old new : List ℕ) → i < length steps
    → old ≡ queues_taken (take i steps) → new ≡ old ++ queues_taken (get_or steps i d ∷ [])
    → new ≡ queues_taken (take (i + 1) steps)
one_taken steps i d old new inside before is =
    let step = get_or steps i d in
    is ∙ ap (λ l. l ++ queues_taken (step ∷ [])) before
    ∙ sym (taken_more steps i step inside (get_or_default steps i d step inside))

-- the texts of lines, one after the other
texts : (lines : List Line)
    → flat_map (λ (line : Line). string_bytes line.text) lines ≡ flat_map (λ l. l.1) (map line_as lines)
texts [] = refl
texts (line ∷ lines) = ap (λ l. string_bytes line.text ++ l) (texts lines)

-- the text of lines, of which this is the first
pub text_told : (number : ℕ) (seen : Seen) (fact : List ℕ) (lines : List Line) (first : Line)
    (none step line against text : List ℕ) → slice_get lines 0 ≡ Some first → none ≡ []
    → step ≡ none ++ asked_step_line number first.entry → line ≡ step ++ seen_line seen
    → against ≡ line ++ against_line fact → text ≡ against ++ flat_map (λ (l : Line). string_bytes l.text) lines
    → text ≡ difference_text number seen fact (map line_as lines)
text_told number seen fact [] first none step line against text at empty a b f c = absurd cc
text_told number seen fact (l ∷ ls) first none step line against text at empty a b f c =
    let same : l ≡ first = same_Some l first at in
    let asked : List ℕ = asked_step_line number l.entry in
    let begun : step ≡ asked = a ∙ ap (λ x. x ++ asked_step_line number first.entry) empty
    ∙ ap (λ (x : Line). asked_step_line number x.entry) (sym same) in
    c ∙ ap (λ x. x ++ flat_map (λ (y : Line). string_bytes y.text) (l ∷ ls))
    (f ∙ ap (λ x. x ++ against_line fact) (b ∙ ap (λ x. x ++ seen_line seen) begun))
    ∙ ap (λ x. asked ++ seen_line seen ++ against_line fact ++ x) (texts (l ∷ ls))

-- of none there is no text
pub text_of_none : (number : ℕ) (seen : Seen) (fact : List ℕ) (lines : List Line) (text : List ℕ)
    → None ≡ slice_get lines 0 → text ≡ [] → text ≡ difference_text number seen fact (map line_as lines)
text_of_none number seen fact [] text at is = is
text_of_none number seen fact (l ∷ ls) text at is = absurd cc
