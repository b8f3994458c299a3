-- Steps of a run, with the own names that were given up to each.
use Rattle.std.specs.Prelude.{ℕ, List, [], ◌∷◌, ◌++◌}
use Rattle.serde_json.specs.Data.{Data}
use Rattle.dsa_regs.specs.declared.Caps.{Caps}
use Rattle.dsa_device.specs.Running.{Running}
use Rattle.dsa_scenario.specs.{Document.{HasHead}, Steps.{Visit, IsTextOfDocument}}
use Rattle.dsa_named.specs.Names.{Own, names_given}

-- a step of a run, and the own names that were given up to it and with it (profile)
pub record NamedVisit : Type 0 where
  pub names : List Own
  pub step : Visit

abbrev pub named_visit : List Own → Visit → NamedVisit
named_visit names step = record { names = names; step = step }

-- after those before, these steps in turn, by the step objects of the run (profile)
abbrev pub named_visits : List Data → List Visit → List Visit → List NamedVisit
named_visits objects before [] = []
named_visits objects before (step ∷ steps) =
    let so_far = before ++ step ∷ [] in
    named_visit (names_given objects so_far) step ∷ named_visits objects so_far steps

-- what is made of steps with own names, of the steps of a run of these step objects
abbrev pub with_names : List Data → (List NamedVisit → Running → List ℕ → Type 0) → List Visit → Running → List ℕ
    → Type 0
with_names objects is_text steps last text = is_text (named_visits objects [] steps) last text

-- the bytes are a document with these step objects, and the text is made of a run of it, with their own names (profile)
pub record IsNamedText (is_text : List NamedVisit → Running → List ℕ → Type 0) (bytes text : List ℕ) : Type 0 where
  pub caps : Caps
  pub capacity : ℕ
  pub objects : List Data
  pub head : HasHead bytes caps capacity objects
  pub made : IsTextOfDocument (with_names objects is_text) bytes text
