-- Room for all that a book may come to hold.
use Rattle.std.specs.Prelude.{◌≤◌, vec_capacity, vec_len}
use Rattle.dsa_book.specs.declared.book.Book.TheInside.{Inside}

-- no more is kept than there is room for, and the memory for it was taken
pub record HasRoom (b : Inside) : Type 0 where
  pub steps : vec_len b.history ≤ b.capacity
  pub rows : vec_len b.fates ≤ b.row_room
  pub within : b.capacity ≤ b.room
  pub steps_room : b.room ≤ vec_capacity b.history
  pub rows_room : b.row_room ≤ vec_capacity b.fates
