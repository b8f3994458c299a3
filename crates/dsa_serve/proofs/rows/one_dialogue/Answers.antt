use Rattle.dsa_serve.proofs.rows.one_dialogue.Goals as goal
use Rattle.dsa_book.specs.declared.answer.Reply.TheVariants as reply
use Rattle.std.proofs.Common.{◌≡◌, ◌≢◌, ◌∙◌, ◌++◌, ℕ, true, false, List, [], ◌∷◌, All, Option, Some}
use Rattle.std.proofs.Common.{None, Ok, map, option_map}
use Rattle.std.proofs.Common.{codes, refl, ap}
use Rattle.std.proofs.Common.{arith, drop, flat_map, length, length-append, length-take, subst, sym, inl, inr}
use Rattle.std.specs.{Option.{is_some}, Fmt.{digits}}
use Rattle.std.proofs.lemmas.{Bool.{false≢true}, List.{append_cancel_right, Elements.{All-nil, All-cons}}}
use Rattle.serde_json.proofs.OnLiterals.{serde_json_on_literals}
use Rattle.dsa_regs.specs.{declared.Caps.{Caps}, Caps.{check_caps}}
use Rattle.dsa_book.specs.declared.answer.{Reply.{Reply}, PollAnswer.TheVariants.{Nothing}}
use Rattle.dsa_book.specs.declared.event.Event.TheVariants.{Poll}
use Rattle.dsa_book.specs.{Machine.{next}, State.{State, opening}}
use Rattle.dsa_book.proofs.Nexts.{next-is}
use Rattle.dsa_device.specs.Running.{Running, running_at_first, running_after, after_answer}
use Rattle.dsa_scenario.specs.declared.actions.Action.{Action, TheVariants.{Ask}}
use Rattle.dsa_scenario.specs.declared.run.Record.{Record, TheVariants.{Stepped, Refused}}
use Rattle.dsa_scenario.specs.Lines.{record_text, reply_text, line_of_text}
use Rattle.dsa_scenario.specs.{Run.{AreOf, Leads, answered_by}, Steps.{Visit}}
use Rattle.dsa_scenario.specs.Worked.{smallest_caps, smallest_caps_text, no_caps_text, document_text}
use Rattle.dsa_conform.specs.Seen.{Seen}
use Rattle.dsa_serve.specs.Requests.{Request, Step, Ready, actions_of}
use Rattle.dsa_serve.specs.Answers.{after_requests, answers, records_of_visits, AreStepsOf}
use Rattle.dsa_serve.specs.Input.{IsLine, with_rest}
use Rattle.dsa_serve.specs.Dialogue.{from_document, names_at_first, IsDialogue, AnswersWhole}
use Rattle.dsa_serve.specs.Worked.{first_line, not_utf8, poll_line, unseen}
use Rattle.dsa_serve.proofs.{Ends.{one_document}, RowLines.{line_by_test, no_lines, one_division}}
use Rattle.dsa_serve.proofs.RowDialogues.{as_given, parts_are, no_document, bare_parts, open_brace}
use Rattle.dsa_serve.proofs.RowDialogues.{no_request, odd_byte}

pub returns-clause-no_document : goal.returns-clause-no_document
unfolding serde_json_on_literals
returns-clause-no_document c last output is =
    no_document (codes "{}") is.caps is.capacity is.observed _ refl refl (as_given is.form is.document)

pub returns-clause-bad_caps : goal.returns-clause-bad_caps
unfolding serde_json_on_literals
returns-clause-bad_caps c last output is =
    let parts = parts_are (document_text no_caps_text (codes "9") []) is.caps is.capacity is.observed _ _ refl refl
    (as_given is.form is.document) in
    false≢true (ap check_caps parts.0 ∙ is.opening.good)

pub returns-clause-large : goal.returns-clause-large
unfolding serde_json_on_literals
returns-clause-large c last output is =
    let parts = parts_are (document_text smallest_caps_text (codes "1048577") []) is.caps is.capacity
    is.observed _ _ refl refl (as_given is.form is.document) in
    let capacity : 1_048_577 ≡ is.capacity = parts.1 in
    omega (arith, capacity, is.opening.small)

-- a first line without steps, and no lines
bare_requests : (last : State) (output : List ℕ) → (is : IsDialogue false (first_line []) [] last output)
    → from_document is.observed is.requests ≡ Ready 0 ∷ []
bare_requests last output is =
    rw (bare_parts is.caps is.capacity is.observed (as_given is.form is.document)).1
    (ap (λ rs. Ready 0 ∷ rs)
    (no_request (names_at_first false is.document.steps (records_of_visits is.steps)) is.requests
    (drop (length is.observed) (records_of_visits is.steps)) is.names is.asked))

state_is : (last : State) (output : List ℕ) → IsDialogue false (first_line []) [] last output
    → last ≡ opening smallest_caps
state_is last output is =
    let asked = bare_requests last output is in
    let first = running_at_first is.caps is.capacity in
    let opened : opening is.caps ≡ last = subst (λ rs. (after_requests first rs is.steps).state ≡ last) asked is.led_to
    in
    let caps = (bare_parts is.caps is.capacity is.observed (as_given is.form is.document)).0 in
    sym opened ∙ sym (ap opening caps)

output_is : (last : State) (output : List ℕ) → IsDialogue false (first_line []) [] last output
    → output ≡ codes "ready 0\n"
unfolding digits
output_is last output is =
    is.course.answered
    ∙ ap (λ rs. answers (running_at_first is.caps is.capacity) 0 rs is.steps) (bare_requests last output is)

pub returns-clause-one_state : goal.returns-clause-one_state
returns-clause-one_state c last output is = state_is last output is

pub returns-clause-one_end : goal.returns-clause-one_end
returns-clause-one_end c output h =
    let parts = no_lines h.lines h.rest h.lines_are.joined in
    let rest = subst (λ r. IsDialogue false (first_line []) (with_rest h.lines r) h.last h.answered)
    parts.1 h.dialogue in
    let whole = subst (λ ls. IsDialogue false (first_line []) ls h.last h.answered) parts.0 rest in
    rw (output_is h.last h.answered whole, state_is h.last h.answered whole) at h.with_fates

-- and one that is no UTF-8
answer_is : (last : State) (output : List ℕ) → IsDialogue false (first_line []) ((255 ∷ []) ∷ []) last output
    → output ≡ codes "ready 0\nfault not JSON: column 1: the bytes are no UTF-8\n"
unfolding digits
answer_is last output is =
    let requests : from_document is.observed is.requests ≡ Ready 0 ∷ not_utf8 ∷ [] =
    rw (bare_parts is.caps is.capacity is.observed (as_given is.form is.document)).1
    (ap (λ rs. Ready 0 ∷ rs)
    (odd_byte (names_at_first false is.document.steps (records_of_visits is.steps)) is.requests
    (drop (length is.observed) (records_of_visits is.steps)) is.names is.asked)) in
    is.course.answered ∙ ap (λ rs. answers (running_at_first is.caps is.capacity) 0 rs is.steps) requests

pub returns-clause-one_answer : goal.returns-clause-one_answer
returns-clause-one_answer c last output is = answer_is last output is

-- an answer to a step is a line
no_answer : (observed : List (Action × Seen)) (requests : List Request) (steps : List Visit) (caps : Caps)
    (capacity : ℕ) → observed ≡ (Ask Poll, unseen) ∷ []
    → AreOf [] (actions_of (from_document observed requests)) (records_of_visits steps)
    → [] ≡ answers (running_at_first caps capacity) 0 (from_document observed requests) steps → ⊥
no_answer observed requests [] caps capacity is of_actions answered = rw is at of_actions
no_answer observed requests (v ∷ steps) caps capacity is of_actions answered =
    let lines = rw is at answered in
    absurd (omega (
      arith,
      ap length lines,
      length-append (record_text v.entry) (10 ∷ []),
      length-append (record_text v.entry ++ 10 ∷ []) (answers v.after 0 (Ready 1 ∷ requests) steps),
    ))

one_action : (observed : List (Action × Seen)) → Some (Ask Poll, unseen) ∷ [] ≡ map Some observed
    → observed ≡ (Ask Poll, unseen) ∷ []
one_action [] e = absurd cc
one_action (a ∷ []) e = cc
one_action (a ∷ b ∷ observed) e = absurd cc

-- a first line with one step
poll_head : (last : State) (output : List ℕ) → (is : IsDialogue false (first_line poll_line) [] last output)
    → (smallest_caps ≡ is.caps) × (9 ≡ is.capacity) × (is.observed ≡ (Ask Poll, unseen) ∷ [])
unfolding serde_json_on_literals
poll_head last output is =
    let parts = parts_are (first_line poll_line) is.caps is.capacity is.observed _ _ refl refl
    (as_given is.form is.document) in
    (parts.0, parts.1, one_action is.observed parts.2)

pub returns-clause-no_record : goal.returns-clause-no_record
returns-clause-no_record c last is =
    let actions = (poll_head last [] is).2 in
    no_answer is.observed is.requests is.steps is.caps is.capacity actions is.course.of_actions
    is.course.answered

-- nothing else is answered to a poll of a new device
a_value : {X : Type 0} (o : Option X) → is_some o ≡ true → (x : X) × (o ≡ Some x)
a_value None h = absurd cc
a_value (Some x) h = (x, refl)

led_some : {X Y : Type 0} (f : X → Y) (o : Option X) (y : Y) → option_map f o ≡ Some y → is_some o ≡ true
led_some f None y h = absurd cc
led_some f (Some x) y h = refl

poll_reply : (r : Reply) (after : Running)
    → after_answer (running_at_first smallest_caps 9) Poll r ≡ Some after → r ≡ reply.Poll Nothing
poll_reply r after leads =
    let start = opening smallest_caps in
    let first = running_at_first smallest_caps 9 in
    let some = led_some (running_after first Poll r) (next start Poll r) after leads in
    let there = a_value (next start Poll r) some in
    sym (ap (λ (p : Reply × State). p.0) (next-is start there.0 Poll r there.1).1)

poll_text_is : (steps : List Visit) → AreOf [] (Ask Poll ∷ []) (records_of_visits steps)
    → AreStepsOf (running_at_first smallest_caps 9) 0 (Step (Ask Poll) unseen ∷ Ready 1 ∷ []) steps
    → answers (running_at_first smallest_caps 9) 0 (Step (Ask Poll) unseen ∷ Ready 1 ∷ []) steps
    ≡ codes "nothing\nready 1\n"
unfolding digits
poll_text_is [] of led = absurd of
poll_text_is (v ∷ []) of led = text_of v.entry v.after of.0 led.0.leads
  where
    text_of : (entry : Record) (after : Running) → answered_by entry ≡ Ok Poll
        → Leads (running_at_first smallest_caps 9) entry after
        → line_of_text (record_text entry) ++ codes "ready 1\n" ≡ codes "nothing\nready 1\n"
    text_of (Refused fault) after asked leads = absurd cc
    text_of (Stepped step) after asked leads =
        let event : step.event ≡ Poll = cc in
        let polled : after_answer (running_at_first smallest_caps 9) Poll step.reply ≡ Some after =
        subst (λ e. after_answer (running_at_first smallest_caps 9) e step.reply ≡ Some after) event leads in
        ap (λ r. line_of_text (reply_text r) ++ codes "ready 1\n") (poll_reply step.reply after polled)
poll_text_is (v ∷ w ∷ steps) of led = absurd of.1

pub returns-clause-one_run : goal.returns-clause-one_run
unfolding digits
returns-clause-one_run c last output is =
    let head = poll_head last output is in
    let asks : from_document is.observed is.requests ≡ Step (Ask Poll) unseen ∷ Ready 1 ∷ [] =
    rw head.2 (ap (λ rs. Step (Ask Poll) unseen ∷ Ready 1 ∷ rs) (no_request
    (names_at_first false is.document.steps (records_of_visits is.steps)) is.requests
    (drop (length is.observed) (records_of_visits is.steps)) is.names is.asked)) in
    let first : running_at_first is.caps is.capacity ≡ running_at_first smallest_caps 9 =
    rw (← head.0, ← head.1) refl in
    let of : AreOf [] (Ask Poll ∷ []) (records_of_visits is.steps) = rw asks at is.course.of_actions in
    let led = subst (λ d. AreStepsOf d 0 (Step (Ask Poll) unseen ∷ Ready 1 ∷ []) is.steps) first
    (rw asks at is.course.led) in
    is.course.answered
    ∙ ap (λ rs. answers (running_at_first is.caps is.capacity) 0 rs is.steps) asks
    ∙ ap (λ d. answers d 0 (Step (Ask Poll) unseen ∷ Ready 1 ∷ []) is.steps) first
    ∙ poll_text_is is.steps of led

-- ---- where one stopped

-- what answers the whole lines behind a first line without steps answers these
whole_is : (behind : List ℕ) (lines : List (List ℕ)) (rest input output : List ℕ)
    → All IsLine lines → IsLine rest
    → flat_map line_of_text lines ++ rest ≡ behind → line_of_text (first_line []) ++ behind ≡ input
    → AnswersWhole false false input output
    → (last : State) × IsDialogue false (first_line []) lines last output
whole_is behind lines rest input output each line is e h =
    let way = one_document input (first_line []) h.first behind h.behind refl h.split.unended
    (sym e, refl) h.split.front in
    let these = one_division lines h.lines rest h.rest each h.lines_are.each line h.lines_are.last
    (is ∙ way.1 ∙ h.lines_are.joined) in
    let first = subst (λ f. IsDialogue false f h.lines h.last output) (sym way.0) h.dialogue in
    (h.last, subst (λ ls. IsDialogue false (first_line []) ls h.last output) (sym these.0) first)

pub returns-clause-cut : goal.returns-clause-cut
returns-clause-cut c text is =
    let input =
    append_cancel_right (line_of_text (first_line []) ++ 255 ∷ codes "\n") is.0 (codes "1") is.3 in
    elim is.4 [
      | inl whole ↦
          let it = whole_is (255 ∷ codes "\n") ((255 ∷ []) ∷ []) [] is.0 is.1
          (All-cons IsLine (255 ∷ []) [] (line_by_test (255 ∷ []) refl) (All-nil IsLine))
          (All-nil (λ byte. byte ≢ 10)) refl input whole in
          let answer = answer_is it.0 is.1 it.1 in
          omega (arith, is.5, ap length answer, ap length is.6, length-take is.2 is.1)
      | inr (inl only) ↦ (let left = only.0 in absurd cc)
      | inr (inr all) ↦ (let left = all.0 in absurd cc)
    ]

pub returns-clause-rest_before_the_end : goal.returns-clause-rest_before_the_end
returns-clause-rest_before_the_end c text is =
    let input = append_cancel_right (line_of_text (first_line []) ++ codes "{") is.0 (codes "1") is.3 in
    elim is.4 [
      | inl whole ↦
          let it =
          whole_is (codes "{") [] (codes "{") is.0 is.1 (All-nil IsLine) open_brace refl input whole in
          omega (arith, is.5, ap length (output_is it.0 is.1 it.1), ap length is.6, length-take is.2 is.1)
      | inr (inl only) ↦ (let left = only.0 in absurd cc)
      | inr (inr all) ↦ (let left = all.0 in absurd cc)
    ]
