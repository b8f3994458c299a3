-- What steps tell: what parties were answered, how entries ended, and which entries a command waits for or removed.
use Rattle.std.specs.Prelude.{ℕ, List, [], ◌∷◌, ◌++◌, map, filter, drop, length, Option, Some, None}
use Rattle.dsa_store.specs.Content.{HeldEntry, all_held}
use Rattle.dsa_book.specs.declared.answer.{Reply.{Reply, TheVariants.{Issue}}, IssueAnswer.TheVariants.{Active}}
use Rattle.dsa_book.specs.declared.{fate.FateRow.{FateRow}, note.ActiveCommand.{ActiveCommand}}
use Rattle.dsa_book.specs.State.{State}
use Rattle.dsa_admin.specs.Admin.{is_awaited_by}
use Rattle.dsa_keys.specs.{Labels.{Labels, labelled_reply, labelled_row}, Parties.{World}}
use Rattle.dsa_explore.specs.declared.found.Ask.{Ask, TheVariants.{Act}}
use Rattle.dsa_explore.specs.declared.found.Finding.{Finding, TheVariants.{Answer, End, Wait, Removal}}

-- what is answered to what a party asks for, by labels; what an engine does is no such thing
abbrev pub answer_to : Option Ask → Labels → Reply → List Finding
answer_to None labels reply = []
answer_to (Some ask) labels reply = Answer ask (labelled_reply labels reply) ∷ []

-- how an entry ended
abbrev pub ending_told : FateRow → Finding
ending_told row = End row.name row.fate

-- how the entries of these rows ended, by labels
abbrev pub ends_of : Labels → List FateRow → List Finding
ends_of labels rows = map ending_told (map (labelled_row labels) rows)

-- the act removed an entry
abbrev pub removal_told : ℕ → FateRow → Finding
removal_told act row = Removal act row.name

-- where an act is asked for: it removed the entries of these rows, by labels
abbrev pub removals_of : Option Ask → Labels → List FateRow → List Finding
removals_of (Some (Act act)) labels rows = map (removal_told act) (map (labelled_row labels) rows)
removals_of ask labels rows = []

-- the labels of those of these entries that the active command waits for
abbrev pub awaited_among : Labels → Option ActiveCommand → List HeldEntry → List ℕ
awaited_among labels active pairs = map (λ (pair : HeldEntry). labels pair.1.name)
    (filter (λ (pair : HeldEntry). is_awaited_by active pair.1) pairs)

-- the labels of all held entries that a command waits for which this reply told to be active
abbrev pub labels_waited_for : Labels → State → Reply → List ℕ
labels_waited_for labels s (Issue Active) = awaited_among labels s.active (all_held s.work.content)
labels_waited_for labels s reply = []

-- where an act is asked for: it waits for the entries with these labels
abbrev pub waits_told : Option Ask → List ℕ → List Finding
waits_told (Some (Act act)) awaited = map (Wait act) awaited
waits_told ask awaited = []

-- what is told to one who asks for this, with this reply, these rows of what ended, and these labels of what is
-- waited for
abbrev pub findings_told : Option Ask → Labels → Reply → List FateRow → List ℕ → List Finding
findings_told ask labels reply rows awaited =
    answer_to ask labels reply ++ (ends_of labels rows ++ (waits_told ask awaited ++ removals_of ask labels rows))

-- the rows of what ended in a step from one state to the other
abbrev pub rows_of_step : State → State → List FateRow
rows_of_step s s' = drop (length s.work.fates) s'.work.fates

-- all that a step from one world to the other tells, where a party asks for this
abbrev pub findings_of : {P : Type 0} → Option Ask → World P → World P → Reply → List Finding
findings_of ask w w' reply = findings_told ask w'.labels reply (rows_of_step w.state w'.state)
    (labels_waited_for w'.labels w'.state reply)
