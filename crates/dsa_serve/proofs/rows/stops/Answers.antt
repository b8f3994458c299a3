use Rattle.dsa_serve.proofs.rows.stops.Goals as goal
use Rattle.std.proofs.Common.{◌≡◌, ◌≢◌, ◌≤◌, ◌^◌, ◌∙◌, ◌++◌, ℕ, true, false, Bool, List, []}
use Rattle.std.proofs.Common.{◌∷◌, Option, None, codes, refl, sym, ap, arith, subst}
use Rattle.std.proofs.Common.{length, length-append, append-nil, append_assoc, inl, inr}
use Rattle.std.specs.{Prelude.{Some, IsUtf8}, Io.KnownBytes.{IsAtEnd}}
use Rattle.std.proofs.{Math.ListN.{get_or-append}, lemmas.List.Elements.{All-nil, All-cons}}
use Rattle.dsa_scenario.specs.declared.faults.ScenarioFault.TheVariants.{BadDocument, Write}
use Rattle.dsa_scenario.specs.Document.{IsNoJson, HasNoHead}
use Rattle.dsa_conform.specs.Run.{IsUnread}
use Rattle.dsa_book.specs.State.{State}
use Rattle.serde_json.{specs.Read.{read}, proofs.OnLiterals.{serde_json_on_literals}}
use Rattle.dsa_serve.specs.declared.ending.Inside.TheVariants.{Brackets}
use Rattle.dsa_serve.specs.Input.{IsLine, IsFront, HasFirst, IsUnended, with_rest}
use Rattle.dsa_serve.specs.Dialogue.{IsDialogue, AnswersWhole, AnswersAll, AnswersSoFar, IsStopped}
use Rattle.dsa_serve.proofs.{Ends.{line_no_end}, RowLines.{no_feed_behind}}
use Rattle.dsa_serve.proofs.{FirstFaults.{headless}, RowDialogues.{as_given, no_dialogue}}

one : IsLine (codes "1")
one = All-cons (λ byte. byte ≢ 10) 49 [] (λ same. absurd (omega (arith, same))) (All-nil (λ byte. byte ≢ 10))

-- a line is all of its first line
only_first : (ended : Bool) (input first behind : List ℕ) → IsLine input → IsFront ended input first behind
    → input ≡ first
only_first true input first behind line front = front.0
only_first false input first behind line front = absurd (no_feed_behind input first behind line front.0)

pub returns-clause-read : goal.returns-clause-read
returns-clause-read c = (codes "1", [], refl, inl (refl, omega arith, refl), refl)

-- a line that no dialogue begins with: nothing is an answer to it
module _ (bytes : List ℕ) (line : IsLine bytes)
    (none : (lines : List (List ℕ)) (last : State) (output : List ℕ)
    → ¬ IsDialogue false bytes lines last output) where
  first_is : (ended : Bool) (input first behind : List ℕ) → bytes ≡ input → HasFirst ended input first behind
      → bytes ≡ first
  first_is ended input first behind is h =
      is ∙ only_first ended input first behind (subst IsLine is line) h.front

  no_whole : (ended : Bool) (input output : List ℕ) → bytes ≡ input → ¬ AnswersWhole false ended input output
  no_whole ended input output is h =
      let first = first_is ended input h.first h.behind is h.split in
      none h.lines h.last output
      (subst (λ f. IsDialogue false f h.lines h.last output) (sym first) h.dialogue)

  no_all : (input output : List ℕ) → bytes ≡ input → ¬ AnswersAll false input output
  no_all input output is h =
      let e = h.ended in
      let first = first_is h.without_feed input h.first h.behind is h.split in
      let lines = with_rest e.lines e.rest in
      none lines e.last e.answered
      (subst (λ f. IsDialogue false f lines e.last e.answered) (sym first) e.dialogue)

  nothing_written : (held holds : Option (List ℕ)) → ¬ IsStopped false Write (Some bytes) (Some []) held holds
  nothing_written held holds is =
      let input = is.3 ∙ append-nil is.0 in
      elim is.4 [
        | inl whole ↦ no_whole false is.0 is.1 input whole
        | inr (inl only) ↦ no_whole true is.0 is.1 input only.1
        | inr (inr all) ↦ no_all is.0 is.1 input all.1
      ]

-- no bytes begin no dialogue
no_bytes : (lines : List (List ℕ)) (last : State) (output : List ℕ) → ¬ IsDialogue false [] lines last output
unfolding serde_json_on_literals
no_bytes lines last output is =
    let value = (as_given is.form is.document).head.json.value in
    absurd cc

nothing_so_far : (input output : List ℕ) → codes "1" ≡ input → AnswersSoFar false input output → output ≡ []
nothing_so_far input output is (inl h) = h.2
nothing_so_far input output is (inr h) = absurd (no_whole (codes "1") one no_dialogue false input output is h)

pub returns-clause-answered_too_early : goal.returns-clause-answered_too_early
returns-clause-answered_too_early c is =
    let none = nothing_so_far is.0 is.1 (is.2 ∙ append-nil is.0) is.3 in
    let holds = is.4 in
    absurd cc

pub returns-clause-too_long : goal.returns-clause-too_long
returns-clause-too_long c first line long = (
  first,
  [],
  sym (append-nil (first ++ []) ∙ append-nil first),
  line_no_end (Brackets 0) first line,
  omega (arith, long),
  omega (arith, long),
  refl,
)

pub returns-clause-longest : goal.returns-clause-longest
returns-clause-longest c first long is = absurd (omega (
  arith,
  long,
  is.4,
  ap length is.2,
  length-append (is.0 ++ is.1) [],
  length-append is.0 is.1,
))

pub returns-clause-nothing_to_write : goal.returns-clause-nothing_to_write
returns-clause-nothing_to_write c is = nothing_written (codes "1") one no_dialogue (Some []) (Some []) is

pub returns-clause-nothing_read : goal.returns-clause-nothing_read
returns-clause-nothing_read c is =
    nothing_written [] (All-nil (λ byte. byte ≢ 10)) no_bytes (Some []) (Some []) is

pub returns-clause-memory : goal.returns-clause-memory
returns-clause-memory c = (codes "1", [], [], refl, omega arith, inl (inl (refl, omega arith, refl)), refl)

-- a number is no document
no_head : HasNoHead (codes "1")
unfolding serde_json_on_literals
no_head =
    record { document = _; json = record { utf8 = (codes "1", (refl, refl)); value = refl }; none = refl }

-- so no object of it is one that is not read
none_unread : (i : ℕ) → ¬ IsUnread (codes "1") i
unfolding serde_json_on_literals
none_unread i is = headless (codes "1") is.caps is.capacity is.steps _ refl refl is.head

-- a number stops a dialogue, where its line or the input ends
number_stops : (ended : Bool) (input rest : List ℕ) → IsFront ended input (codes "1") []
    → (ended ≡ true → IsAtEnd (Some rest))
    → IsStopped false BadDocument (Some (input ++ rest)) (Some rest) (Some []) (Some [])
number_stops ended input rest front at_end = (
  input,
  codes "1",
  [],
  ended,
  refl,
  record { unended = refl; short = omega arith; front = front },
  at_end,
  omega arith,
  (no_head, none_unread),
  refl,
)

pub returns-clause-document : goal.returns-clause-document
returns-clause-document c = number_stops true (codes "1") [] (refl, refl) (λ ended. refl)

pub returns-clause-document_before_more : goal.returns-clause-document_before_more
returns-clause-document_before_more c =
    number_stops false (codes "1\n") (codes "2") (refl, refl) (λ ended. absurd cc)

pub returns-clause-other_fault : goal.returns-clause-other_fault
unfolding serde_json_on_literals
returns-clause-other_fault c is =
    let first = first_is (codes "1") one no_dialogue is.3 is.0 is.1 is.2 (is.4 ∙ append-nil is.0) is.5 in
    let none = subst (λ f. IsUtf8 f → read f ≡ None) (sym first) is.8.0 (codes "1", (refl, refl)) in
    absurd cc

pub returns-clause-nothing_yet : goal.returns-clause-nothing_yet
returns-clause-nothing_yet c = inl (refl, omega arith, refl)

-- an answer so far is to a line that is not too long
no_longer : (input output : List ℕ) → IsLine input → AnswersSoFar false input output → length input ≤ 2 ^ 20
no_longer input output line (inl h) = h.1
no_longer input output line (inr h) =
    rw (only_first false input h.first h.behind line h.split.front) h.split.short

pub returns-clause-too_long_so_far : goal.returns-clause-too_long_so_far
returns-clause-too_long_so_far c input output line long is =
    absurd (let short = no_longer input output line is in omega (arith, long, short))

-- the front of a line
front_line : (bytes more : List ℕ) → IsLine (bytes ++ more) → IsLine bytes
front_line bytes more line k d inside feed =
    line k d (omega (arith, inside, length-append bytes more)) (get_or-append bytes more d k inside ∙ feed)

pub returns-clause-memory_after_a_long_line : goal.returns-clause-memory_after_a_long_line
returns-clause-memory_after_a_long_line c input line long is =
    let all : input ≡ is.0 ++ is.1 = is.3 ∙ append-nil (is.0 ++ is.1) in
    elim is.5 [
      | inl so_far ↦
          let short = no_longer is.0 is.2 (front_line is.0 is.1 (rw all at line)) so_far in
          absurd (omega (arith, long, is.4, short, ap length all, length-append is.0 is.1))
      | inr only ↦
          let whole = only.1 in
          let first : is.0 ++ is.1 ≡ whole.first =
          only_first true (is.0 ++ is.1) whole.first whole.behind (rw all at line) whole.split.front in
          let short = whole.split.short in
          absurd (omega (arith, long, ap length all, ap length first, short))
    ]

pub returns-clause-too_long_with_more : goal.returns-clause-too_long_with_more
returns-clause-too_long_with_more c first line long = (
  first,
  codes "\n",
  sym (append-nil (first ++ codes "\n")),
  line_no_end (Brackets 0) first line,
  omega (arith, long),
  omega (arith, long),
  refl,
)

pub returns-clause-too_long_with_a_read : goal.returns-clause-too_long_with_a_read
returns-clause-too_long_with_a_read c first more line long few = (
  first,
  more,
  sym (append-nil (first ++ more)),
  line_no_end (Brackets 0) first line,
  omega (arith, long),
  omega (arith, long, few),
  refl,
)

pub returns-clause-too_long_and_read_on : goal.returns-clause-too_long_and_read_on
returns-clause-too_long_and_read_on c input long is =
    absurd (omega (arith, long, is.5, ap length (is.2 ∙ append-nil (is.0 ++ is.1)), length-append is.0 is.1))

-- no document begins with a line feed
nothing_there : (rest first more : List ℕ) → 10 ∷ rest ≡ first ++ more → IsUnended first → first ≡ []
nothing_there rest [] more e unended = refl
nothing_there rest (b ∷ first) more e unended =
    let feed : b ≡ 10 = cc in
    let ended = rw feed at unended in
    absurd cc

pub returns-clause-too_long_behind_a_line_feed : goal.returns-clause-too_long_behind_a_line_feed
returns-clause-too_long_behind_a_line_feed c rest is =
    let none = nothing_there rest is.0 is.1 (is.2 ∙ append-nil (is.0 ++ is.1)) is.3 in
    absurd (omega (arith, is.4, ap length none))

-- what has no line feed is not answered
nothing_to_a_line : (input output : List ℕ) → IsLine input → AnswersSoFar false input output → output ≡ []
nothing_to_a_line input output line (inl h) = h.2
nothing_to_a_line input output line (inr h) =
    absurd (no_feed_behind input h.first h.behind line h.split.front.0)

-- what is no JSON begins no dialogue
no_json : (bytes : List ℕ) → IsNoJson bytes → (lines : List (List ℕ)) (last : State) (output : List ℕ)
    → ¬ IsDialogue false bytes lines last output
no_json bytes none lines last output is =
    let no_value = none (as_given is.form is.document).head.json.utf8 in
    let value = (as_given is.form is.document).head.json.value in
    absurd cc

pub returns-clause-no_json_in_memory : goal.returns-clause-no_json_in_memory
returns-clause-no_json_in_memory c input output line none is =
    let all : input ≡ is.0 ++ is.1 = is.3 ∙ append-nil (is.0 ++ is.1) in
    elim is.5 [
      | inl so_far ↦ is.6 ∙ nothing_to_a_line is.0 is.2 (front_line is.0 is.1 (rw all at line)) so_far
      | inr only ↦ absurd (no_whole input line (no_json input none) true (is.0 ++ is.1) is.2 all only.1)
    ]

pub returns-clause-unfinished_line_is_answered : goal.returns-clause-unfinished_line_is_answered
returns-clause-unfinished_line_is_answered c input output line is =
    let all : input ≡ is.0 = is.2 ∙ append-nil is.0 in
    is.4 ∙ nothing_to_a_line is.0 is.1 (rw all at line) is.3

pub returns-clause-fault_is_answered : goal.returns-clause-fault_is_answered
returns-clause-fault_is_answered c is =
    let holds = is.9 in
    absurd cc

pub returns-clause-long_line_is_answered : goal.returns-clause-long_line_is_answered
returns-clause-long_line_is_answered c first is =
    let holds = is.6 in
    absurd cc

-- a first line that the input did not end has its line feed
with_more : (ended : Bool) (input first behind : List ℕ) → codes "12" ≡ input ++ codes "2"
    → HasFirst ended input first behind → (ended ≡ true → IsAtEnd (Some (codes "2"))) → ⊥
with_more true input first behind is h at_end =
    let none : codes "2" ≡ [] = at_end refl in
    absurd cc
with_more false [] first behind is h at_end = absurd cc
with_more false (b ∷ []) first behind is h at_end =
    let byte : 49 ≡ b = cc in
    no_feed_behind (b ∷ []) first behind (subst (λ d. IsLine (d ∷ [])) byte one) h.front.0
with_more false (b ∷ (d ∷ input)) first behind is h at_end =
    absurd (omega (arith, ap length is, length-append input (codes "2")))

pub returns-clause-unfinished_line_is_judged : goal.returns-clause-unfinished_line_is_judged
returns-clause-unfinished_line_is_judged c is = with_more is.3 is.0 is.1 is.2 is.4 is.5 is.6

-- behind an empty first line is all that follows its line feed
all_behind : (ended : Bool) (rest input first behind : List ℕ) → 10 ∷ rest ≡ input
    → HasFirst ended input first behind
    → length behind ≡ length rest
all_behind false rest input first behind is h =
    let whole : 10 ∷ rest ≡ first ++ 10 ∷ behind = is ∙ h.front.0 ∙ append_assoc first (10 ∷ []) behind in
    let none = nothing_there rest first (10 ∷ behind) whole h.unended in
    omega (arith, ap length whole, length-append first (10 ∷ behind), ap length none)
all_behind true rest input first behind is h =
    let whole : 10 ∷ rest ≡ first = is ∙ h.front.0 in
    let none = nothing_there rest first [] (whole ∙ sym (append-nil first)) h.unended in
    absurd (omega (arith, ap length whole, ap length none))

pub returns-clause-fault_with_a_read_behind : goal.returns-clause-fault_with_a_read_behind
unfolding serde_json_on_literals
returns-clause-fault_with_a_read_behind c rest few = (
  10 ∷ rest,
  [],
  rest,
  false,
  sym (append-nil (10 ∷ rest)),
  record { unended = refl; short = omega arith; front = (refl, refl) },
  λ ended. absurd cc,
  omega (arith, few),
  (λ text. refl, λ i is. let value = is.head.json.value in absurd cc),
  refl,
)

pub returns-clause-fault_and_read_on : goal.returns-clause-fault_and_read_on
returns-clause-fault_and_read_on c rest long is =
    let same = all_behind is.3 rest is.0 is.1 is.2 (is.4 ∙ append-nil is.0) is.5 in
    absurd (omega (arith, long, same, is.7))
