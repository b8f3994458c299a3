-- Which findings of a search a question asks for.
use Rattle.dsa_book.specs.declared.answer.Reply.TheVariants as reply
use Rattle.dsa_explore.specs.declared.found.Finding.TheVariants as finding
use Rattle.std.specs.Prelude.{◌==◌, ◌&&◌, Bool, false, List}
use Rattle.std.specs.List.{list_any}
use Rattle.dsa_parties.specs.Watches.{is_submitted_so, is_ended_so, is_replied_so}
use Rattle.dsa_explore.specs.declared.found.{Ask.TheVariants.{Submission, Act}, Finding.{Finding}}
use Rattle.dsa_questions.specs.declared.question.Condition.{Condition}
use Rattle.dsa_questions.specs.declared.question.Condition.TheVariants as condition

-- the condition is about the finding
abbrev pub is_about_entry : Condition → Finding → Bool
is_about_entry (condition.Entry label became) (finding.Answer (Submission other) (reply.Submit answer)) =
    (other == label) && is_submitted_so became answer
is_about_entry (condition.Entry label became) (finding.End other ending) = (other == label) && is_ended_so became ending
is_about_entry (condition.Act act replied) (finding.Answer (Act other) answer) =
    (other == act) && is_replied_so replied answer
is_about_entry (condition.Wait act label) (finding.Wait other entry) = (other == act) && (entry == label)
is_about_entry (condition.Removal act label) (finding.Removal other entry) = (other == act) && (entry == label)
is_about_entry asked found = false

-- one of the conditions is about the finding
abbrev pub is_row_asked : List Condition → Finding → Bool
is_row_asked conditions found = list_any (λ condition. is_about_entry condition found) conditions
