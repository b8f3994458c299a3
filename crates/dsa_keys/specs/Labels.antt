-- Labels of names, and what is told by labels: nothing of it depends on names or cells.
use Rattle.std.specs.Prelude.{◌≡◌, ℕ, ◌<◌, ◌==◌, cond, List, ◌++◌, map, None}
use Rattle.dsa_book.specs.declared.answer.{SubmitAnswer.TheVariants.{Accepted}, DispatchAnswer.TheVariants.{Taken}}
use Rattle.dsa_book.specs.declared.answer.{FetchAnswer.TheVariants.{Fetched}, StartAnswer.TheVariants.{Started}}
use Rattle.dsa_book.specs.declared.answer.{Ticket.{Ticket}, Reply.{Reply, TheVariants.{Submit, Dispatch, Fetch, Start}}}
use Rattle.dsa_book.specs.{declared.{note.BatchNote.{BatchNote}, fate.FateRow.{FateRow}}, State.{Work, State}}

-- ---- labels

-- a label for each name, such as a place in a program
abbrev pub Labels : Type 0
Labels = ℕ → ℕ

-- no two names that were given have one label
abbrev pub HasDistinctLabels : Labels → State → Type 0
HasDistinctLabels labels s = (a b : ℕ) → a < s.work.setup.next_name → b < s.work.setup.next_name
    → labels a ≡ labels b → a ≡ b

-- no name that was given has the label
abbrev pub IsFreshLabel : Labels → State → ℕ → Type 0
IsFreshLabel labels s label = (name : ℕ) → name < s.work.setup.next_name → labels name ≡ label → ⊥

-- the labels, with this one for the name
abbrev pub with_label : Labels → ℕ → ℕ → Labels
with_label labels name label = λ each. cond (each == name) label (labels each)

-- the labels, with this one for the next name
abbrev pub with_next_label : Labels → State → ℕ → Labels
with_next_label labels s label = with_label labels s.work.setup.next_name label

-- ---- what is told by labels

-- a ticket: the label stands for the name, and nothing for the cell
abbrev pub labelled_ticket : Labels → Ticket → Ticket
labelled_ticket labels ticket = record { cell = record { 0 = 0 }; name = labels ticket.name }

-- a reply
abbrev pub labelled_reply : Labels → Reply → Reply
labelled_reply labels (Submit (Accepted ticket)) = Submit (Accepted (labelled_ticket labels ticket))
labelled_reply labels (Dispatch (Taken ticket queue)) = Dispatch (Taken (labelled_ticket labels ticket) queue)
labelled_reply labels (Fetch (Fetched ticket)) = Fetch (Fetched (labelled_ticket labels ticket))
labelled_reply labels (Start (Started ticket)) = Start (Started (labelled_ticket labels ticket))
labelled_reply labels reply = reply

-- the note of a batch
abbrev pub labelled_note : Labels → BatchNote → BatchNote
labelled_note labels note = record note { batch = labels note.batch }

-- a fate row, without the name of the parent
abbrev pub labelled_row : Labels → FateRow → FateRow
labelled_row labels row = record row { name = labels row.name; parent = None }

-- a step from w to w' and one from v to v' end the same entries in the same way
pub record HaveSameEnds (labels others : Labels) (w w' v v' : Work) : Type 0 where
  pub rows : List FateRow
  pub rows' : List FateRow
  pub left : w'.fates ≡ w.fates ++ rows
  pub right : v'.fates ≡ v.fates ++ rows'
  pub same : map (labelled_row labels) rows ≡ map (labelled_row others) rows'
