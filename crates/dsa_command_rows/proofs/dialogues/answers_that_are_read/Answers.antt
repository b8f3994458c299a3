use Rattle.dsa_command_rows.proofs.dialogues.answers_that_are_read.Goals as goal
use Rattle.std.proofs.Common.{◌≡◌, ◌∙◌, ℕ, true, false, Bool, List, [], codes, append-nil, inl, inr, refl, subst, sym}
use Rattle.dsa_book.specs.State.{State}
use Rattle.serde_json.proofs.OnLiterals.{serde_json_on_literals}
use Rattle.dsa_serve.specs.{Dialogue.{AnswersAll, AnswersWhole, IsDialogue}, Input.{HasFirst, IsUnended, with_rest}}
use Rattle.dsa_serve.proofs.{Ends.{one_document}, RowDialogues.{as_given}}

-- the only document that this may have
first_is : (ended : Bool) (first behind : List ℕ) → HasFirst ended (codes "ready 0\n") first behind
    → first ≡ codes "ready 0"
first_is true first behind h =
    let unended = subst IsUnended (sym h.front.0) h.unended in
    absurd cc
first_is false first behind h =
    (one_document (codes "ready 0\n") first (codes "ready 0") behind [] h.unended refl h.front (refl, refl)).0

no_dialogue : (lines : List (List ℕ)) (last : State) (output : List ℕ)
    → ¬ IsDialogue false (codes "ready 0") lines last output
unfolding serde_json_on_literals
no_dialogue lines last output is =
    let value = (as_given is.form is.document).head.json.value in
    absurd cc

no_whole : (ended : Bool) (input output : List ℕ) → codes "ready 0\n" ≡ input → ¬ AnswersWhole false ended input output
no_whole ended input output is h =
    let first = first_is ended h.first h.behind (subst (λ i. HasFirst ended i h.first h.behind) (sym is) h.split) in
    no_dialogue h.lines h.last output (subst (λ f. IsDialogue false f h.lines h.last output) first h.dialogue)

no_all : (input output : List ℕ) → codes "ready 0\n" ≡ input → ¬ AnswersAll false input output
no_all input output is h =
    let split = subst (λ i. HasFirst h.without_feed i h.first h.behind) (sym is) h.split in
    let first = first_is h.without_feed h.first h.behind split in
    let lines = with_rest h.ended.lines h.ended.rest in
    no_dialogue lines h.ended.last h.ended.answered
    (subst (λ f. IsDialogue false f lines h.ended.last h.ended.answered) first h.ended.dialogue)

pub returns : goal.returns
returns c = record {
  no_document = λ is. let input = is.3 ∙ append-nil is.0 in elim is.4 [
    | inl whole ↦ no_whole false is.0 is.1 input whole
    | inr (inl only) ↦ no_whole true is.0 is.1 input only.1
    | inr (inr all) ↦ no_all is.0 is.1 input all.1
  ];
}
