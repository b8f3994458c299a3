-- States whose fates of long ago were forgotten.
use Rattle.std.specs.Prelude.{List, ◌++◌}
use Rattle.dsa_regs.specs.declared.Caps.{Caps}
use Rattle.dsa_book.specs.{declared.fate.FateRow.{FateRow}, State.{State}, Machine.{with_work}}
use Rattle.dsa_laws.specs.WellFormed.{IsWellFormed}

-- the state with these fates before its own (profile)
abbrev pub with_past_fates : List FateRow → State → State
with_past_fates past s = with_work s (record s.work { fates = past ++ s.work.fates })

-- with the fates that were forgotten it is well formed (profile)
pub record IsLawful (caps : Caps) (s : State) : Type 0 where
  pub forgotten : List FateRow
  pub well_formed : IsWellFormed caps (with_past_fates forgotten s)
