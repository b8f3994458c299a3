use Rattle.dsa_scenario.proofs.rows.other_documents.Goals as goal
use Rattle.std.proofs.Common.{◌≡◌, ◌∙◌, ℕ, true, false, List, [], ◌∷◌, Some, None, IsUtf8, ap, append-nil}
use Rattle.std.proofs.Common.{arith, codes, length, length-append, lit<, lit≤, map, refl, subst, sym, take}
use Rattle.std.proofs.lemmas.Str.{is_utf8-from_IsUtf8}
use Rattle.std.specs.{Option.{option_map_or}, Str.{chars, is_utf8}}
use lib.Utf8.{encode}
use Rattle.serde_json.proofs.OnLiterals.{serde_json_on_literals}
use Rattle.serde_json.specs.{Data.{Data, array, no_items}, Read.{read}}
use Rattle.dsa_regs.specs.declared.Caps.{Caps}
use Rattle.dsa_book.specs.{Machine.{replay, stored_steps}, State.{State}}
use Rattle.dsa_book.specs.declared.event.Event.TheVariants as event
use Rattle.dsa_scenario.specs.declared.{actions.Action.{Action, TheVariants.{Ask}}, run.Record.{Record}}
use Rattle.dsa_scenario.specs.Document.{HasHead, HasNoHead, IsDocument, head_of, list_of_items}
use Rattle.dsa_scenario.specs.{Lines.{lines_of_run}, Run.{AreOf, steps_of_records}}
use Rattle.dsa_scenario.specs.Scenario.{IsRenderingOf}
use Rattle.dsa_scenario.specs.Worked.{object_of, poll_text, polled, smallest_caps, stepless_text, whole}
use Rattle.dsa_scenario.proofs.Heads.{Head, document_by, same_head}

-- ---- texts that are no JSON, or of another value

-- the text of a byte that no character has
no_utf8 : IsUtf8 (34 ∷ 255 ∷ 34 ∷ []) → ⊥
unfolding is_utf8 chars encode
no_utf8 utf8 =
    let valid : false ≡ true = is_utf8-from_IsUtf8 (34 ∷ 255 ∷ 34 ∷ []) utf8 in
    absurd cc

pub returns-clause-no_utf8 : goal.returns-clause-no_utf8
returns-clause-no_utf8 c utf8 = absurd (no_utf8 utf8)

pub returns-clause-no_utf8_in_json : goal.returns-clause-no_utf8_in_json
returns-clause-no_utf8_in_json c is = no_utf8 is.utf8

-- what the text of a number is read as
one : read (codes "1") ≡ Some (whole 1)
unfolding serde_json_on_literals
one = refl

pub returns-clause-another_value : goal.returns-clause-another_value
returns-clause-another_value c is =
    let value = is.value in
    let same = one in
    absurd cc

-- ---- heads

-- what has one is not without
some_head : (text : List ℕ) (d : Data) (head : Head) → read text ≡ Some d → head_of d ≡ Some head → HasNoHead text → ⊥
some_head text d head e known is =
    let value = is.json.value in
    let same : d ≡ is.document = cc in
    let none : Some head ≡ None = sym known ∙ ap head_of same ∙ is.none in
    absurd cc

-- a number has none
no_keys : (caps : Caps) (capacity : ℕ) (steps : List Data) → HasHead (codes "1") caps capacity steps → ⊥
no_keys caps capacity steps has =
    let head = same_head (codes "1") (whole 1) caps capacity steps one has in
    absurd cc

pub returns-clause-no_keys : goal.returns-clause-no_keys
returns-clause-no_keys c is = no_keys smallest_caps 9 [] is

pub returns-clause-no_document : goal.returns-clause-no_document
returns-clause-no_document c is = no_keys smallest_caps 9 is.steps is.head

-- the value of a document of this capacity without a step
abbrev stepless : ℕ → Data
stepless capacity =
    object_of (
    (codes "capacity", whole capacity) ∷ (
      codes "caps",
      object_of (
          (codes "engines", whole 1) ∷ (codes "groups", whole 1) ∷ (codes "max_batch_shift", whole 1) ∷
          (codes "max_xfer_shift", whole 0) ∷ (codes "queues", whole 1) ∷ (codes "read_buffers", whole 1) ∷
          (codes "slots", whole 1) ∷ (codes "total_size", whole 1) ∷ []),
    ) ∷
    (codes "steps", array no_items) ∷ []
    )

small : read (stepless_text (codes "9")) ≡ Some (stepless 9)
unfolding serde_json_on_literals
small = refl

large : read (stepless_text (codes "1048577")) ≡ Some (stepless 1_048_577)
unfolding serde_json_on_literals
large = refl

-- its head has that capacity and no step
of_stepless : (text : List ℕ) (n : ℕ) (caps : Caps) (capacity : ℕ) (steps : List Data) → read text ≡ Some (stepless n)
    → HasHead text caps capacity steps → (head_of (stepless n) ≡ Some (smallest_caps, n, no_items))
    → (smallest_caps ≡ caps) × (n ≡ capacity) × ([] ≡ steps)
of_stepless text n caps capacity steps e has known =
    let head = sym known ∙ same_head text (stepless n) caps capacity steps e has in (
      ap (λ o. option_map_or (λ (h : Head). h.0) o caps) head,
      ap (λ o. option_map_or (λ (h : Head). h.1) o 0) head,
      ap (λ o. option_map_or (λ (h : Head). list_of_items h.2) o []) head ∙ has.listed,
    )

of_small : (caps : Caps) (capacity : ℕ) (steps : List Data) → HasHead (stepless_text (codes "9")) caps capacity steps
    → (smallest_caps ≡ caps) × (9 ≡ capacity) × ([] ≡ steps)
of_small caps capacity steps has = of_stepless (stepless_text (codes "9")) 9 caps capacity steps small has refl

pub returns-clause-another_capacity : goal.returns-clause-another_capacity
returns-clause-another_capacity c is = omega (arith, (of_small smallest_caps 8 [] is).1)

pub returns-clause-no_steps : goal.returns-clause-no_steps
returns-clause-no_steps c is =
    let steps = (of_small smallest_caps 9 (whole 1 ∷ []) is).2 in
    absurd cc

pub returns-clause-not_bad : goal.returns-clause-not_bad
returns-clause-not_bad c is =
    some_head (stepless_text (codes "9")) (stepless 9) (smallest_caps, 9, no_items) small refl is

-- ---- actions

-- no step asks no action
no_action : (caps : Caps) (capacity : ℕ) (actions : List Action)
    → (is : IsDocument (stepless_text (codes "9")) caps capacity actions) → [] ≡ map Some actions
no_action caps capacity actions is =
    let steps = (of_small caps capacity is.steps is.head).2 in
    rw (← steps) at is.asked

pub returns-clause-no_action : goal.returns-clause-no_action
returns-clause-no_action c is =
    let none = no_action smallest_caps 9 (Ask event.Poll ∷ []) is in
    absurd cc

-- ---- renderings

pub returns-clause-not_rendered : goal.returns-clause-not_rendered
returns-clause-not_rendered c is = no_keys is.caps is.capacity is.document.steps is.document.head

pub returns-clause-no_text : goal.returns-clause-no_text
returns-clause-no_text c is = no_keys is.caps is.capacity is.document.steps is.document.head

-- what has a larger capacity is not opened
not_opened : (caps : Caps) (capacity : ℕ) (actions : List Action)
    → IsDocument (stepless_text (codes "1048577")) caps capacity actions → 1_048_577 ≡ capacity
not_opened caps capacity actions is =
    (of_stepless (stepless_text (codes "1048577")) 1_048_577 caps capacity is.steps large is.head refl).1

pub returns-clause-not_opened : goal.returns-clause-not_opened
returns-clause-not_opened c is =
    omega (arith, not_opened is.caps is.capacity is.actions is.document, is.opening.small)

pub returns-clause-text_not_opened : goal.returns-clause-text_not_opened
returns-clause-text_not_opened c is =
    omega (arith, not_opened is.caps is.capacity is.actions is.document, is.opening.small)

pub returns-clause-another_text : goal.returns-clause-another_text
returns-clause-another_text c is = is.of_run.rendered refl

pub returns-clause-no_lines_begun : goal.returns-clause-no_lines_begun
returns-clause-no_lines_begun c is = no_keys is.caps is.capacity is.document.steps is.document.head

pub returns-clause-not_opened_to_begin : goal.returns-clause-not_opened_to_begin
returns-clause-not_opened_to_begin c is =
    omega (arith, not_opened is.caps is.capacity is.actions is.document, is.opening.small)

-- the run of a poll
rendering : IsRenderingOf poll_text (codes "nothing\n")
unfolding serde_json_on_literals
rendering = record {
  caps = smallest_caps;
  capacity = _;
  actions = Ask event.Poll ∷ [];
  document = document_by poll_text _ smallest_caps _ _ (Ask event.Poll ∷ []) (poll_text, (refl, refl)) refl refl refl;
  opening = record { good = refl; small = lit≤ tt };
  lines_of_run =
      record { records = polled; last = _; events = (refl, tt); run = refl; replayed = refl; rendered = refl };
}

pub returns-clause-rendering : goal.returns-clause-rendering
returns-clause-rendering c = rendering

pub returns-clause-cut : goal.returns-clause-cut
returns-clause-cut c = (poll_text, codes "nothing\n", 3, (refl, refl, lit≤ tt), rendering, lit< tt, refl)

pub returns-clause-other_bytes : goal.returns-clause-other_bytes
returns-clause-other_bytes c is =
    omega (arith, ap length is.6, length-append (codes "x") (take is.2 is.1))

pub returns-clause-more_left : goal.returns-clause-more_left
returns-clause-more_left c is = omega (arith, ap length is.3.1)

pub returns-clause-none_cut : goal.returns-clause-none_cut
returns-clause-none_cut c is =
    let bytes : is.0 ≡ codes "1" = sym (is.3.0 ∙ append-nil is.0) in
    let it = is.4.document in
    no_keys is.4.caps is.4.capacity it.steps
    (subst (λ b. HasHead b is.4.caps is.4.capacity it.steps) bytes it.head)

-- no action has no line
no_line : (caps : Caps) (capacity : ℕ) (actions : List Action) (records : List Record) (last : State)
    → [] ≡ map Some actions → AreOf [] actions records
    → replay caps (stored_steps (steps_of_records records)) ≡ Some last
    → (lines : List ℕ) → lines ≡ lines_of_run records last.work.fates → length lines ≡ 0
no_line caps capacity (action ∷ actions) records last none are replayed lines rendered = absurd cc
no_line caps capacity [] (entry ∷ records) last none are replayed lines rendered = absurd are
no_line caps capacity [] [] last none are replayed lines rendered =
    let fates : [] ≡ last.work.fates = ap (λ o. option_map_or (λ (s : State). s.work.fates) o []) replayed in
    let none : lines ≡ [] = rendered ∙ rw (← fates) refl in
    ap length none

pub returns-clause-all_written : goal.returns-clause-all_written
returns-clause-all_written c is =
    let bytes : is.0 ≡ stepless_text (codes "9") = sym (is.3.0 ∙ append-nil is.0) in
    let it = is.4 in
    let document = subst (λ b. IsDocument b it.caps it.capacity it.actions) bytes it.document in
    let none = no_action it.caps it.capacity it.actions document in
    let run = it.lines_of_run in
    omega (
      arith,
      is.5,
      no_line it.caps it.capacity it.actions run.records run.last none run.events run.replayed is.1 run.rendered,
    )
