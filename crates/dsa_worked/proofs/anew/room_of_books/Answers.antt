use Rattle.dsa_worked.proofs.anew.room_of_books.Goals as goal
use Rattle.std.proofs.Common.{◌≤◌, arith, lit≤}
use Rattle.dsa_book.specs.{Room.{HasRoom}, declared.book.Book.TheInside.{Inside}}
use Rattle.dsa_worked.specs.Anew.{Sizes, HasSizes}

-- a book of sizes that fit
room_of : (b : Inside) (sizes : Sizes) → sizes.steps ≤ sizes.capacity → sizes.rows ≤ sizes.row_room
    → sizes.capacity ≤ sizes.room → sizes.room ≤ sizes.steps_memory → sizes.row_room ≤ sizes.rows_memory
    → HasSizes b sizes → HasRoom b
room_of b sizes steps rows within steps_room rows_room is = record {
  steps = omega (arith, steps, is.steps, is.capacity);
  rows = omega (arith, rows, is.rows, is.row_room);
  within = omega (arith, within, is.capacity, is.room);
  steps_room = omega (arith, steps_room, is.room, is.steps_memory);
  rows_room = omega (arith, rows_room, is.row_room, is.rows_memory);
}

pub returns-clause-full : goal.returns-clause-full
returns-clause-full c b = room_of b _ (lit≤ tt) (lit≤ tt) (lit≤ tt) (lit≤ tt) (lit≤ tt)

pub returns-clause-room_for_more : goal.returns-clause-room_for_more
returns-clause-room_for_more c b = room_of b _ (lit≤ tt) (lit≤ tt) (lit≤ tt) (lit≤ tt) (lit≤ tt)

pub returns-clause-too_many_steps : goal.returns-clause-too_many_steps
returns-clause-too_many_steps c b is has = omega (arith, is.steps, is.capacity, has.steps)

pub returns-clause-too_many_rows : goal.returns-clause-too_many_rows
returns-clause-too_many_rows c b is has = omega (arith, is.rows, is.row_room, has.rows)

pub returns-clause-more_than_at_first : goal.returns-clause-more_than_at_first
returns-clause-more_than_at_first c b is has = omega (arith, is.capacity, is.room, has.within)

pub returns-clause-no_memory_for_a_step : goal.returns-clause-no_memory_for_a_step
returns-clause-no_memory_for_a_step c b is has = omega (arith, is.room, is.steps_memory, has.steps_room)

pub returns-clause-no_memory_for_a_row : goal.returns-clause-no_memory_for_a_row
returns-clause-no_memory_for_a_row c b is has = omega (arith, is.row_room, is.rows_memory, has.rows_room)
