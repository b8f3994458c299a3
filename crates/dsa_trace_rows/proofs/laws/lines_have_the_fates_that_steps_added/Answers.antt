use Rattle.dsa_trace_rows.proofs.laws.lines_have_the_fates_that_steps_added.Goals as goal
use Rattle.std.proofs.Common.{◌≡◌, ◌-◌, ◌++◌, ◌∙◌, ap, drop, length, refl}
use Rattle.dsa_book.specs.declared.answer.FinishAnswer.TheVariants.{Done}
use Rattle.dsa_book.specs.declared.answer.Reply.{Reply, TheVariants.{Finish, Start, Issue}}
use Rattle.dsa_book.specs.declared.answer.{StartAnswer.TheVariants.{Abandoned}, IssueAnswer.TheVariants.{Ended}}
use Rattle.dsa_book.proofs.Gains.{ended_by}
use Rattle.dsa_chosen.proofs.Ended.{ended-behind}
use Rattle.dsa_trace.specs.Ended.{ended_count}

same-count : (r : Reply) → ended_by r ≡ ended_count r
same-count (Finish (Done status)) = refl
same-count (Start (Abandoned count)) = refl
same-count (Issue (Ended aborted)) = refl
same-count _ = refl

pub returns : goal.returns
returns c s s' step h =
    ended-behind s s' step.event step.reply h
    ∙ ap (λ n. s.work.fates ++ drop (length s'.work.fates - n) s'.work.fates) (same-count step.reply)
