-- What an entry that ends leaves.
use Rattle.std.proofs.Common.{◌≡◌, ℕ, ◌≤◌, false, List, ◌∷◌, ◌++◌, get_or, Option, Some, None, refl, [], arith}
use Rattle.std.proofs.lemmas.List.{length-set}
use Rattle.std.specs.List.{find}
use Rattle.dsa_store.specs.{declared.entry.{Cell.{Cell}, Entry.{Entry}}, Content.{Content, use_count, after_unlink}}
use Rattle.dsa_book.specs.declared.note.BatchNote.{BatchNote}
use Rattle.dsa_book.specs.declared.answer.{Ticket.{Ticket}, FinishAnswer.TheVariants.{Done}}
use Rattle.dsa_book.specs.declared.fate.{FateRow.{FateRow}, Fate.TheVariants.{Completed}}
use Rattle.dsa_book.specs.State.{Setup, need_of, is_ticket}
use Rattle.dsa_book.specs.Work.{with_note, running_on, must_wait, last_status, note_after, finish}
use Rattle.dsa_desc.specs.declared.Outcome.{Outcome}
use Rattle.dsa_queues.{specs.Queues.{Kept, IsCounted}, proofs.Counts.{Leaves, unlinked-leaves}}
use Rattle.dsa_engines.specs.Engines.{EnginesState, work, lists_alone, IsInStep, buffers_after_return, Holds}
use Rattle.dsa_engines.proofs.{Finding.{RunsAt}, Leaving.{gives, in_step-left}, Used.{held-is}}

module _ {cells : ℕ} {setup : Setup} {engines_state : EnginesState} {content : Content} {e n : ℕ} {home : Option ℕ} {cell : Cell}
    {entry : Entry} (s : IsInStep setup engines_state cells content) (once : use_count content cell ≤ 1)
    (at : RunsAt setup content e cell entry) (he : home ≡ get_or engines_state.homes e None) (ne : n ≡ need_of setup entry) where
  -- its group has what it needs in use
  pub holds-need : Holds home n engines_state.buffers
  holds-need = rw (he, ne, ← held-is setup entry at.running) (gives s once at.stands at.engine at.mine).holds

  -- and once it has left, and its group has that back, all is in step again
  pub in_step-ended : {more : ℕ} {gave after : EnginesState} {now : Content} (new : Option BatchNote) → more ≡ cells
      → gave ≡ record engines_state { buffers = buffers_after_return home n engines_state.buffers }
      → after ≡ record gave { notes = with_note gave.notes e new } → now ≡ after_unlink content cell
      → IsInStep setup after more now
  in_step-ended new same ge ae is =
      rw (ae, ge, is, he, ne, ← held-is setup entry at.running)
      (in_step-left s once at.stands same at.engine at.mine (length-set engines_state.notes e new))

-- and it is counted no more
pub leaves-ended : {cells : ℕ} {k : Kept} {engines_state : EnginesState} {content : Content} {e : ℕ} {cell : Cell} {entry : Entry}
    → IsInStep k.setup engines_state cells content → use_count content cell ≤ 1 → RunsAt k.setup content e cell entry
    → IsCounted k content → Leaves k (after_unlink content cell) entry.queue
leaves-ended {k = k} {content = content} {cell = cell} {entry = entry} s once at = unlinked-leaves k content at.list
    at.place cell entry once (omega (arith, s.store.lists, at.engine, at.mine)) at.stands

-- the step, by what the calls answer one after another
pub finish-done : {setup : Setup} {gave after : EnginesState} {now : Content} {more : List FateRow} {entry : Entry} {status : ℕ}
    (engines_state : EnginesState) (content : Content) (fates : List FateRow) (e n : ℕ) (home : Option ℕ)
    (t : Ticket) (outcome : Outcome)
    → find (is_ticket t) (running_on (lists_alone setup content) e) ≡ Some (t.cell, entry)
    → must_wait (work setup engines_state content []) e entry ≡ false
    → status ≡ last_status (work setup engines_state content []) e (t.cell, entry) outcome
    → gave ≡ record engines_state { buffers = buffers_after_return home n engines_state.buffers }
    → after ≡ record gave {
      notes = with_note gave.notes e (note_after (work setup gave content []) e (t.cell, entry) outcome);
    }
    → now ≡ after_unlink content t.cell
    → more ≡ fates ++ record { name = entry.name; parent = entry.parent; fate = Completed status } ∷ []
    → finish (work setup engines_state content fates) e t outcome ≡ (Done status, work setup after now more)
finish-done engines_state content fates e n home t outcome found ready se ge ae is me =
    rw (found, ready, ae, ge, is, me, se) refl
