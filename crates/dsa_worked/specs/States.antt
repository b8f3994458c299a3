-- What is seen of the states that worked histories lead to, and entries and rows of which the words
-- of the laws are true or false.
use Rattle.std.specs.Prelude.{ℕ, true, false, List, [], ◌∷◌, count_by, Option, Some, None, option_map}
use Rattle.dsa_regs.specs.Buffers.{covered_count}
use Rattle.dsa_store.specs.Content.{HeldEntry}
use Rattle.dsa_book.specs.declared.fate.{Fate.TheVariants.{Completed, Aborted, Abandoned}, FateRow.{FateRow}}
use Rattle.dsa_book.specs.{Work.{in_progress, all_used}, declared.event.Step.{Step}, State.{Work}}
use Rattle.dsa_laws.specs.Engines.{holds_batch}
use Rattle.dsa_worked.specs.Setup.{no_op, row, held_entry, state_after}

-- what is seen of the work after the set-up and these steps
abbrev pub seen_after : {X : Type 0} → (Work → X) → List Step → Option X
seen_after look steps = option_map (λ s. look s.work) (state_after steps)

-- how many batches are in progress on an engine
abbrev pub batches_on : ℕ → Work → ℕ
batches_on engine w = count_by (holds_batch w.setup) (in_progress w engine)

-- how many read buffers the groups use or have reserved
abbrev pub covered_by : Work → ℕ
covered_by w = covered_count w.setup.groups (all_used w)

-- a member of batch 0 that runs
abbrev pub running_member : HeldEntry
running_member = held_entry 1 1 (Some 0) no_op 0 true

-- and one that waits
abbrev pub waiting_member : HeldEntry
waiting_member = held_entry 2 2 (Some 0) no_op 0 false

-- an entry with a success, a member that was abandoned, and an entry that was aborted
abbrev pub one_abandoned_member : List FateRow
one_abandoned_member = row 0 None (Completed 0x01) ∷ row 1 (Some 0) Abandoned ∷ row 2 None (Aborted 4) ∷ []

-- the same, but the abandoned one was submitted
abbrev pub one_abandoned_entry : List FateRow
one_abandoned_entry = row 0 None (Completed 0x01) ∷ row 1 None Abandoned ∷ row 2 None (Aborted 4) ∷ []
