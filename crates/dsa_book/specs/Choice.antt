-- What is free in a step: the cell of an entry that comes in, and the queue that one is taken from.
use Rattle.std.specs.Prelude.{ℕ, Bool, true, false}
use Rattle.dsa_regs.specs.Caps.{cell_count}
use Rattle.dsa_store.specs.{declared.entry.Cell.{Cell}, Content.{Content, is_free}}
use Rattle.dsa_book.specs.declared.answer.Reply.{Reply, TheVariants.{Submit, Dispatch, Fetch}}
use Rattle.dsa_book.specs.declared.answer.{SubmitAnswer.TheVariants.{Accepted}, DispatchAnswer.TheVariants.{Taken}}
use Rattle.dsa_book.specs.{declared.answer.FetchAnswer.TheVariants.{Fetched}, State.{Setup}}

-- nothing is chosen, or the cell of an entry that comes in, or the queue that one is taken from (profile)
pub data Choice : Type 0 where
  nothing : Choice
  in_cell : Cell → Choice
  from_queue : ℕ → Choice

-- what was chosen, by the reply
abbrev pub choice_of : Reply → Choice
choice_of (Submit (Accepted ticket)) = in_cell ticket.cell
choice_of (Dispatch (Taken ticket queue)) = from_queue queue
choice_of (Fetch (Fetched ticket)) = in_cell ticket.cell
choice_of _ = nothing

-- whether nothing is chosen
abbrev pub is_nothing : Choice → Bool
is_nothing nothing = true
is_nothing _ = false

-- the cell that is chosen
abbrev pub chosen_cell : Choice → Cell
chosen_cell (in_cell cell) = cell
chosen_cell _ = record { 0 = 0 }

-- the cell of an entry that comes in is one of the device's, and no list names it (profile)
abbrev pub may_enter : Setup → Content → Choice → Bool
may_enter setup content nothing = true
may_enter setup content (in_cell cell) = is_free (cell_count setup.caps) content cell
may_enter setup content (from_queue queue) = false
