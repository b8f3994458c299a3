-- The members of a batch: how many are done, abandoned, aborted or still held.
use Rattle.std.specs.Prelude.{◌≡◌, ℕ, ◌+◌, ◌≤◌, Bool, true, false, ◌&&◌, ◌==◌, Option, count_by}
use Rattle.dsa_base.specs.Rows.{passes}
use Rattle.dsa_store.specs.Content.{all_held}
use Rattle.dsa_book.specs.declared.{fate.Fate.{Fate, TheVariants.{Completed, Aborted}}, note.BatchNote.{BatchNote}}
use Rattle.dsa_book.specs.State.{Work}
use Rattle.dsa_accounts.specs.Accounts.{was_abandoned}

-- whether the parent is the batch of this name (profile)
abbrev pub is_of_batch : ℕ → Option ℕ → Bool
is_of_batch batch parent = passes (λ name. name == batch) parent

-- an engine ended it (profile)
abbrev pub was_completed : Fate → Bool
was_completed (Completed status) = true
was_completed _ = false

-- a command took it out (profile)
abbrev pub was_aborted : Fate → Bool
was_aborted (Aborted number) = true
was_aborted _ = false

-- how many members of the batch came to such an end (profile)
abbrev pub members_ended : (Fate → Bool) → Work → ℕ → ℕ
members_ended such w batch = count_by (λ row. such row.fate && is_of_batch batch row.parent) w.fates

-- how many members are done (profile)
abbrev pub members_done : Work → ℕ → ℕ
members_done = members_ended was_completed

-- how many are abandoned (profile)
abbrev pub members_abandoned : Work → ℕ → ℕ
members_abandoned = members_ended was_abandoned

-- how many are aborted (profile)
abbrev pub members_aborted : Work → ℕ → ℕ
members_aborted = members_ended was_aborted

-- how many are held (profile)
abbrev pub members_held : Work → ℕ → ℕ
members_held w batch = count_by (λ pair. is_of_batch batch pair.1.parent) (all_held w.content)

-- of the batch that an engine works on: each member that was fetched is done, abandoned or held,
-- and members are abandoned exactly where the batch is closed; none is aborted without its batch
-- (Intel DSA: a failure before a fence abandons the rest; all else is the profile's)
pub record AddsUp (w : Work) (note : BatchNote) : Type 0 where
  pub fetched : members_done w note.batch + members_abandoned w note.batch + members_held w note.batch ≡ note.fetched
  pub unclosed : note.closed ≡ false → members_abandoned w note.batch ≡ 0
  pub closed : note.closed ≡ true → 1 ≤ members_abandoned w note.batch
  pub none_aborted : members_aborted w note.batch ≡ 0

-- of a batch of so many that has ended: all of them are done, or some are abandoned, and these with
-- the done ones are no more; none is held or aborted (Intel DSA: a failure before a fence abandons
-- the rest; all else is the profile's)
pub record HasEnded (w : Work) (batch count : ℕ) : Type 0 where
  pub all : members_abandoned w batch ≡ 0 → members_done w batch ≡ count
  pub most : members_done w batch + members_abandoned w batch ≤ count
  pub none_held : members_held w batch ≡ 0
  pub none_aborted : members_aborted w batch ≡ 0
