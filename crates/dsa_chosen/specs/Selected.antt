-- Which steps are selected, and which fates.
use Rattle.dsa_book.specs.declared.event.Event.TheVariants as event
use Rattle.dsa_book.specs.declared.answer.Reply.TheVariants as reply
use Rattle.std.specs.Prelude.{ℕ, ◌-◌, ◌==◌, ◌&&◌, ◌||◌, Bool, true, false, List, [], Option, Some, None, drop, filter}
use Rattle.std.specs.Prelude.{length}
use Rattle.std.specs.List.{list_any}
use Rattle.dsa_base.specs.Rows.{passes}
use Rattle.dsa_book.specs.declared.answer.{Reply.{Reply}, SubmitAnswer.TheVariants.{Accepted}}
use Rattle.dsa_book.specs.declared.answer.{DispatchAnswer.TheVariants.{Taken}, FetchAnswer.TheVariants.{Fetched}}
use Rattle.dsa_book.specs.declared.answer.StartAnswer.TheVariants.{Started}
use Rattle.dsa_book.specs.declared.event.{Event.{Event}, Step.{Step}, Actor.TheVariants.{Client}}
use Rattle.dsa_book.specs.declared.fate.FateRow.{FateRow}
use Rattle.dsa_book.specs.Totals.{actor_of, lost_by, same_actor}
use Rattle.dsa_scenario.specs.declared.run.Record.{Record, TheVariants.{Stepped, Refused}}
use Rattle.dsa_chosen.specs.declared.selection.Selection.{Selection}
use Rattle.dsa_chosen.specs.Words.{is_answered}

-- ---- the entry of a name

-- the name that an event tells
abbrev pub name_asked : Event → Option ℕ
name_asked (event.Finish engine ticket outcome) = Some ticket.name
name_asked _ = None

-- the name that an answer gives or tells
abbrev pub name_answered : Reply → Option ℕ
name_answered (reply.Submit (Accepted ticket)) = Some ticket.name
name_answered (reply.Dispatch (Taken ticket queue)) = Some ticket.name
name_answered (reply.Fetch (Fetched ticket)) = Some ticket.name
name_answered (reply.Start (Started ticket)) = Some ticket.name
name_answered _ = None

-- the fates of the entries that a step aborted or abandoned: of the fates after it the last, so many as it answered
abbrev pub lost_rows : Reply → List FateRow → List FateRow
lost_rows answer fates = drop (length fates - lost_by answer) fates

abbrev pub is_row_of : ℕ → FateRow → Bool
is_row_of name row = row.name == name

-- the event or the answer tells the name, or the step aborted or abandoned the entry (profile)
abbrev pub is_step_about : ℕ → Step → List FateRow → Bool
is_step_about name step fates =
    passes (λ told. told == name) (name_asked step.event) || passes (λ told. told == name) (name_answered step.reply)
    || list_any (is_row_of name) (lost_rows step.reply fates)

-- a step with this record, after which these are the fates, is about the entry of this name
abbrev pub is_about : ℕ → Record → List FateRow → Bool
is_about name (Stepped step) fates = is_step_about name step fates
is_about name (Refused fault) fates = false

-- ---- clients

-- the client made the step (profile)
abbrev pub is_by : ℕ → Record → Bool
is_by client (Stepped step) = same_actor (actor_of step.event) (Client client)
is_by client (Refused fault) = false

-- ---- selections

-- the value passes, where one is wanted
abbrev pub is_met : {X : Type 0} → (X → Bool) → Option X → Bool
is_met test None = true
is_met test (Some x) = test x

-- a step with this record, after which these are the fates, is about the name, made by the client and answered with
-- one of the words, as far as these are wanted (profile)
abbrev pub is_selected : Selection → Record → List FateRow → Bool
is_selected selection entry fates =
    is_met (λ name. is_about name entry fates) selection.name && is_met (λ client. is_by client entry) selection.client
    && is_met (λ answers. is_answered answers.text.now entry) selection.answers

-- the fate of the name that is wanted; without a name there is none (profile)
abbrev pub selected_fates : Option ℕ → List FateRow → List FateRow
selected_fates None fates = []
selected_fates (Some name) fates = filter (is_row_of name) fates
