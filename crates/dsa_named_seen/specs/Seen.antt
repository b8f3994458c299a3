-- What is made of the run that was seen, with own names.
use Rattle.std.specs.Prelude.{ℕ, List, Option}
use Rattle.serde_json.specs.Data.{Data}
use Rattle.dsa_regs.specs.declared.Caps.{Caps}
use Rattle.dsa_device.specs.Running.{Running}
use Rattle.dsa_scenario.specs.{declared.faults.ScenarioFault.{ScenarioFault}, Document.{HasHead}}
use Rattle.dsa_conform.specs.AsSeen.{IsMadeAsSeen}
use Rattle.dsa_named.specs.Steps.{NamedVisit, with_names}

-- the bytes are a document with these step objects, and the text, and the fault that is told after it, are what is
-- made of the run of it that shows what was seen, with the own names of the objects (profile)
pub record IsNamedAsSeen (is_text : List NamedVisit → Running → List ℕ → Type 0) (bytes : List ℕ)
    (fault : Option ScenarioFault) (text : List ℕ) : Type 0 where
  pub caps : Caps
  pub capacity : ℕ
  pub objects : List Data
  pub head : HasHead bytes caps capacity objects
  pub made : IsMadeAsSeen (with_names objects is_text) bytes fault text
