-- Selections, records and fates that the worked rows speak of.
use Rattle.dsa_book.specs.declared.answer.Reply.TheVariants as reply
use Rattle.dsa_book.specs.declared.event.Event.TheVariants as event
use Rattle.std.specs.Prelude.{ℕ, List, [], ◌∷◌, Some, None}
use Rattle.dsa_desc.specs.declared.Outcome.TheVariants.{Success}
use Rattle.dsa_regs.specs.declared.Command.TheVariants.{AbortAll}
use Rattle.dsa_book.specs.declared.answer.{FinishAnswer.{FinishAnswer}, IssueAnswer.TheVariants.{Ended}}
use Rattle.dsa_book.specs.declared.answer.{StartAnswer.{StartAnswer}}
use Rattle.dsa_book.specs.declared.answer.{SubmitAnswer.{SubmitAnswer, TheVariants.{Accepted}}}
use Rattle.dsa_book.specs.declared.event.{Kind.TheVariants.{Enqcmd}, Portal.TheVariants.{Limited}}
use Rattle.dsa_book.specs.declared.fate.{Fate.TheVariants.{Aborted, Completed}, FateRow.{FateRow}}
use Rattle.dsa_device.specs.Running.{Running, running_at_first}
use Rattle.dsa_scenario.specs.declared.run.Record.{Record}
use Rattle.dsa_scenario.specs.Steps.{Visit, standing, visit, visits}
use Rattle.dsa_scenario.specs.Worked.{caps_of_a_run, fate, fill, record_ticket, records_of_a_run}
use Rattle.dsa_scenario.specs.Worked.{smallest_caps, stepped}
use Rattle.dsa_chosen.specs.declared.selection.Selection.{Selection}
use Rattle.dsa_chosen.specs.declared.words.AnswerWords.{AnswerWords}

-- ---- selections

abbrev pub all_lines : Selection
all_lines = record { name = None; client = None; answers = None }

abbrev pub of_name : ℕ → Selection
of_name name = record all_lines { name = Some name }

abbrev pub of_this_client : ℕ → Selection
of_this_client client = record all_lines { client = Some client }

abbrev pub answer_words_of : List ℕ → AnswerWords
answer_words_of text = record { text = record { ref_ptr = (0, 0); now = text } }

abbrev pub of_answers : List ℕ → Selection
of_answers text = record all_lines { answers = Some (answer_words_of text) }

abbrev pub of_name_and_answers : ℕ → List ℕ → Selection
of_name_and_answers name text = record (of_answers text) { name = Some name }

abbrev pub of_client_and_answers : ℕ → List ℕ → Selection
of_client_and_answers client text = record (of_answers text) { client = Some client }

-- ---- records

-- a submission of this client to queue 1
abbrev pub submitted_by : ℕ → SubmitAnswer → Record
submitted_by client answer =
    stepped (event.Submit client 1 Limited (Enqcmd 6) fill) (reply.Submit answer)

-- an entry of the name 7, which client 2 submitted
abbrev pub accepted_as_7 : Record
accepted_as_7 = submitted_by 2 (Accepted (record_ticket 1 7))

abbrev pub started_with : StartAnswer → Record
started_with answer = stepped (event.Start 0) (reply.Start answer)

-- an engine asked to end the entry of this name
abbrev pub finished_with : ℕ → FinishAnswer → Record
finished_with name answer = stepped (event.Finish 0 (record_ticket 8 name) Success) (reply.Finish answer)

-- an abort that removed so many entries
abbrev pub aborted_so_many : ℕ → Record
aborted_so_many count = stepped (event.Issue AbortAll) (reply.Issue (Ended count))

-- entry 4 completed, and then entries 7 and 5 were aborted
abbrev pub fates_of_three : List FateRow
fates_of_three = fate 4 (Completed 1) ∷ fate 7 (Aborted 4) ∷ fate 5 (Aborted 4) ∷ []

-- a step of a new device, after which these are the fates
abbrev pub visit_with : Record → List FateRow → Visit
visit_with entry fates =
    let new = running_at_first smallest_caps 4 in
    let work = record new.state.work { fates = fates } in
    visit 3 new entry (record new { state = record new.state { work = work } })

-- ---- a run

-- the steps of a run of one submission, which fills a history of seven steps
abbrev pub steps_of_a_run : List Visit
steps_of_a_run = visits caps_of_a_run 7 [] records_of_a_run

abbrev pub end_of_a_run : Running
end_of_a_run = standing caps_of_a_run 7 records_of_a_run
