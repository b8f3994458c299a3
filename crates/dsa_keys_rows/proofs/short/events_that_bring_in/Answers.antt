use Rattle.dsa_keys_rows.proofs.short.events_that_bring_in.Goals as goal
use Rattle.std.proofs.Common.{true, ap, arith, refl}
use Rattle.std.proofs.lemmas.Option.{same_Some}
use Rattle.dsa_book.specs.declared.note.BatchNote.{BatchNote}
use Rattle.dsa_worked.specs.Setup.{no_op}
use Rattle.dsa_keys.specs.Short.{Description}
use Rattle.dsa_keys_rows.specs.Holding.{hundreds, half_fetched, batch_in_queue}

-- a member of the batch of a note
abbrev member_of : BatchNote → Description
member_of note = record {
  desc = no_op;
  queue = (batch_in_queue 2 (hundreds note.batch)).queue;
  kind = (batch_in_queue 2 (hundreds note.batch)).kind;
  member = true;
}

pub returns-clause-fetch : goal.returns-clause-fetch
returns-clause-fetch c note is = ap member_of (same_Some half_fetched note is)

pub returns-clause-fetch_to_another_queue : goal.returns-clause-fetch_to_another_queue
returns-clause-fetch_to_another_queue c brings = grind (arith, brings half_fetched refl)

pub returns-clause-fetch_of_another : goal.returns-clause-fetch_of_another
returns-clause-fetch_of_another c brings = grind (arith, brings half_fetched refl)
