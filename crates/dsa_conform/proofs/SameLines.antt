-- Answers of one text have one line.
use Rattle.dsa_book.specs.declared.answer.SubmitAnswer.TheVariants as submit
use Rattle.dsa_book.specs.declared.answer.DispatchAnswer.TheVariants as dispatch
use Rattle.dsa_book.specs.declared.answer.FetchAnswer.TheVariants as fetch
use Rattle.dsa_book.specs.declared.answer.StartAnswer.TheVariants as start
use Rattle.dsa_book.specs.declared.answer.FinishAnswer.TheVariants as finish
use Rattle.dsa_book.specs.declared.answer.IssueAnswer.TheVariants as issue
use Rattle.dsa_book.specs.declared.answer.PollAnswer.TheVariants as poll
use Rattle.dsa_book.specs.declared.answer.WriteAnswer.TheVariants as write
use Rattle.dsa_book.specs.declared.answer.ClearAnswer.TheVariants as clear
use Rattle.dsa_book.specs.declared.answer.Reply.TheVariants as reply
use Rattle.std.proofs.Common.{◌≡◌, ◌∙◌, ◌==◌, Bool, false, ℕ, List, [], ◌∷◌, ◌++◌, codes, refl, sym, ap}
use Rattle.std.specs.Prelude.{cond}
use Rattle.dsa_book.specs.declared.answer.Reply.{Reply}
use Rattle.dsa_scenario.specs.declared.run.Record.{Record, TheVariants.{Stepped, Refused}}
use Rattle.dsa_scenario.specs.Lines.{record_text, reply_text}
use Rattle.dsa_explain_lines.specs.Lines.{is_taken, is_taken_by, shown}
use Rattle.dsa_conform.specs.Lines.{allowed_line}

-- of all answers' texts, those of entries taken alone begin with this letter
begins_taken : List ℕ → Bool
begins_taken [] = false
begins_taken (byte ∷ rest) = byte == 116

-- by cases of the answer of each kind
taken_by_text : (r : Reply) → is_taken_by r ≡ begins_taken (reply_text r)
unfolding begins_taken
taken_by_text (reply.Submit submit.Full) = refl
taken_by_text (reply.Dispatch dispatch.Full) = refl
taken_by_text (reply.Fetch fetch.Full) = refl
taken_by_text (reply.Start start.Full) = refl
taken_by_text (reply.Finish finish.Full) = refl
taken_by_text (reply.Issue issue.Full) = refl
taken_by_text (reply.Poll poll.Full) = refl
taken_by_text (reply.Write write.Full) = refl
taken_by_text (reply.Clear clear.Full) = refl
taken_by_text _ = refl

taken_text : (entry : Record) → is_taken entry ≡ begins_taken (record_text entry)
unfolding begins_taken
taken_text (Stepped step) = taken_by_text step.reply
taken_text (Refused fault) = refl

pub same_line : (reason : List ℕ) (a b : Record) → record_text a ≡ record_text b
    → allowed_line reason a ≡ allowed_line reason b
same_line reason a b same =
    let taken : is_taken a ≡ is_taken b = taken_text a ∙ ap begins_taken same ∙ sym (taken_text b) in
    ap (λ t. codes "allowed: " ++ t ++ (shown reason a ++ codes "\n")) same
    ∙ ap (λ t. codes "allowed: " ++ record_text b ++ (cond t [] reason ++ codes "\n")) taken
