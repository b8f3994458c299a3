-- States that differ in the cells of their entries, and in fates, alone.
use Rattle.std.specs.Prelude.{◌≡◌, ℕ, ◌<◌, ◌==◌, List, [], ◌∷◌, ◌++◌, map, find, unwrap_or, Some}
use Rattle.dsa_base.specs.Lists.{In}
use Rattle.dsa_store.specs.{declared.{entry.Entry.{Entry}}, Content.{HeldEntry, Content, all_held}}
use Rattle.dsa_book.specs.declared.answer.{Ticket.{Ticket}, SubmitAnswer.TheVariants.{Accepted}}
use Rattle.dsa_book.specs.declared.answer.{DispatchAnswer.TheVariants.{Taken}, FetchAnswer.TheVariants.{Fetched}}
use Rattle.dsa_book.specs.declared.answer.{StartAnswer.TheVariants.{Started}}
use Rattle.dsa_book.specs.declared.answer.Reply.{Reply, TheVariants.{Submit, Dispatch, Fetch, Start}}
use Rattle.dsa_book.specs.declared.event.Event.{Event, TheVariants.{Finish}}
use Rattle.dsa_book.specs.{State.{State, ticket_of_entry}, Choice.{from_queue, choice_of}}

-- ---- states

-- the entries of each list in order, without their cells
abbrev pub entries_alone : Content → List (List Entry)
entries_alone content = map (map (λ pair. pair.1)) content

-- the states differ in the cells of their entries, and in fates, alone (profile)
pub record AreStatesAlike (s t : State) : Type 0 where
  pub setup : s.work.setup ≡ t.work.setup
  pub entries : entries_alone s.work.content ≡ entries_alone t.work.content
  pub notes : s.work.notes ≡ t.work.notes
  pub active : s.active ≡ t.active

-- ---- replies

-- the ticket with cell 0
abbrev pub name_alone : Ticket → Ticket
name_alone ticket = record { cell = record { 0 = 0 }; name = ticket.name }

-- the reply, where each ticket has cell 0 (profile)
abbrev pub without_cell : Reply → Reply
without_cell (Submit (Accepted ticket)) = Submit (Accepted (name_alone ticket))
without_cell (Dispatch (Taken ticket queue)) = Dispatch (Taken (name_alone ticket) queue)
without_cell (Fetch (Fetched ticket)) = Fetch (Fetched (name_alone ticket))
without_cell (Start (Started ticket)) = Start (Started (name_alone ticket))
without_cell reply = reply

-- if both replies take an entry, they take it from the same queue (profile)
abbrev pub TakeAlike : Reply → Reply → Type 0
TakeAlike r r' = (q p : ℕ) → choice_of r ≡ from_queue q → choice_of r' ≡ from_queue p → q ≡ p

-- ---- questions

-- where an entry with the ticket's name is held, it is in the ticket's cell (profile)
abbrev pub IsTicketIn : State → Ticket → Type 0
IsTicketIn s ticket = (pair : HeldEntry) → In pair (all_held s.work.content) → pair.1.name ≡ ticket.name
    → pair.0 ≡ ticket.cell

-- the same event in both states; the end of an entry is of one name, with the ticket of each state (profile)
abbrev pub AskAlike : State → State → Event → Event → Type 0
AskAlike s t (Finish e a o) (Finish e' b o') =
    (e ≡ e') × (o ≡ o') × (a.name ≡ b.name) × IsTicketIn s a × IsTicketIn t b
AskAlike s t event event' = event ≡ event'

-- ---- the tickets that were given

-- the tickets given so far, and the one that a reply gives with a new name
abbrev pub given_after : List Ticket → Reply → List Ticket
given_after given (Submit (Accepted ticket)) = given ++ ticket ∷ []
given_after given (Fetch (Fetched ticket)) = given ++ ticket ∷ []
given_after given _ = given

-- the ticket with the name, or cell 0 with a name that was not given (profile)
abbrev pub ticket_named : List Ticket → ℕ → Ticket
ticket_named given name = unwrap_or (find (λ ticket. ticket.name == name) given)
    (record { cell = record { 0 = 0 }; name = name })

-- each held entry is found by its name among the tickets given so far, which have names below the next one (profile)
pub record HeldAsGiven (given : List Ticket) (s : State) : Type 0 where
  pub found : (pair : HeldEntry) → In pair (all_held s.work.content)
      → find (λ ticket. ticket.name == pair.1.name) given ≡ Some (ticket_of_entry pair)
  pub below : (ticket : Ticket) → In ticket given → ticket.name < s.work.setup.next_name
