-- What the parts of a device keep, at chosen values.
use Rattle.std.specs.Prelude.{ℕ, [], ◌∷◌, None, Some, replicate}
use Rattle.dsa_regs.specs.declared.{Command.TheVariants.{DrainAll}}
use Rattle.dsa_store.specs.Content.{Content}
use Rattle.dsa_book.specs.State.{Work, opening_setup}
use Rattle.dsa_engines.specs.Engines.{EnginesState}
use Rattle.dsa_admin.specs.Admin.{Watch}
use Rattle.dsa_worked.specs.Uneven.{of_these}
use Rattle.dsa_worked.specs.Lawful.{unlike, that_waits, that_runs, a_member_of_three, work_of}

-- the last engine of two is of group 0, and has three entries in progress
abbrev pub three_in_progress : Work
three_in_progress =
    work_of (record (opening_setup unlike) { groups = of_these 1 2 ∷ [] }) ([] ∷ [] ∷ replicate 3 that_runs ∷ [])

-- seven engines of which the last is of a group, and nothing runs
abbrev pub kept_by_engines : EnginesState
kept_by_engines = record {
  notes = replicate 7 None;
  buffers = record { total = 4; groups = of_these 1 64 ∷ []; used = 0 ∷ [] };
  homes = None ∷ None ∷ None ∷ None ∷ None ∷ None ∷ Some 0 ∷ [];
}

-- an entry of queue 0, one in progress, a member of each engine, and one that is none beyond them
abbrev pub in_places : Content
in_places =
    (that_waits ∷ []) ∷ (that_runs ∷ []) ∷ [] ∷ (a_member_of_three ∷ []) ∷ (a_member_of_three ∷ []) ∷
    (that_runs ∷ []) ∷ []

-- a drain of all with this mark, of which this number is kept
abbrev pub one_drain : ℕ → ℕ → Watch
one_drain mark awaited = record { active = Some (record { command = DrainAll; mark = mark }); awaited = awaited }
