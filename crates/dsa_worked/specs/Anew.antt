-- Books that begin anew, and states whose fates of long ago were forgotten.
use Rattle.std.specs.Prelude.{◌≡◌, ℕ, true, false, List, [], ◌∷◌, Option, Some, None, option_map}
use Rattle.std.specs.Prelude.{vec_capacity, vec_len}
use Rattle.dsa_regs.specs.declared.Command.TheVariants.{EnableDevice, EnableWq}
use Rattle.dsa_book.specs.declared.book.Book.TheInside.{Inside}
use Rattle.dsa_book.specs.declared.fate.{FateRow.{FateRow}, Fate.TheVariants.{Abandoned}}
use Rattle.dsa_book.specs.Machine.{with_work, replay_from}
use Rattle.dsa_book.specs.{Records.{Records}, State.{State, opening}}
use Rattle.dsa_laws.specs.Forgotten.{with_past_fates}
use Rattle.dsa_worked.specs.Setup.{completed, obeyed, row}
use Rattle.dsa_worked.specs.Uneven.{many_engines, batch_of_the_last_engine}

-- ---- the memory of a book

-- how many steps and rows a book has and may have, for how many steps there is room, and for how
-- many of each there is memory
pub record Sizes : Type 0 where
  pub steps : ℕ
  pub rows : ℕ
  pub capacity : ℕ
  pub row_room : ℕ
  pub room : ℕ
  pub steps_memory : ℕ
  pub rows_memory : ℕ

-- the book has these sizes
pub record HasSizes (b : Inside) (sizes : Sizes) : Type 0 where
  pub steps : vec_len b.history ≡ sizes.steps
  pub rows : vec_len b.fates ≡ sizes.rows
  pub capacity : b.capacity ≡ sizes.capacity
  pub row_room : b.row_room ≡ sizes.row_room
  pub room : b.room ≡ sizes.room
  pub steps_memory : vec_capacity b.history ≡ sizes.steps_memory
  pub rows_memory : vec_capacity b.fates ≡ sizes.rows_memory

-- more rows than there may be steps, and something left of each
abbrev pub uneven_sizes : Sizes
uneven_sizes = record {
  steps = 3;
  rows = 7;
  capacity = 5;
  row_room = 8;
  room = 6;
  steps_memory = 10;
  rows_memory = 9;
}

-- ---- books

-- three entries have ended
abbrev pub three_rows : List FateRow
three_rows = completed 2 0x01 ∷ row 0 None Abandoned ∷ completed 1 0x03 ∷ []

-- a book of room for nine steps, of which two are stored, and with three rows
abbrev pub book_in_use : Records
book_in_use = record {
  history = obeyed EnableDevice ∷ obeyed (EnableWq 0) ∷ [];
  fates = three_rows;
  room = 9;
  capacity = 6;
  row_room = 8;
  anew = false;
}

-- the same after it began anew: these rows, and room for so many steps and rows
abbrev pub book_anew : List FateRow → (capacity row_room : ℕ) → Records
book_anew rows capacity row_room = record {
  history = [];
  fates = rows;
  room = 9;
  capacity = capacity;
  row_room = row_room;
  anew = true;
}

-- ---- states

-- the state with these fates alone
abbrev pub with_fates_alone : List FateRow → State → State
with_fates_alone rows s = with_work s (record s.work { fates = rows })

-- the fates after a batch on the last of many engines, where these were before it
abbrev pub fates_after_past : List FateRow → Option (List FateRow)
fates_after_past past = option_map (λ s. s.work.fates)
    (replay_from (Some (with_past_fates past (opening many_engines))) batch_of_the_last_engine)
