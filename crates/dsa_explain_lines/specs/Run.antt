-- What an explanation is of.
use Rattle.std.specs.Prelude.{◌≡◌, ℕ, List, flat_map}
use Rattle.dsa_device.specs.Running.{Running}
use Rattle.dsa_scenario.specs.Steps.{Visit, IsTextOfDocument}
use Rattle.dsa_explain_lines.specs.Lines.{explanation_of_step}

-- the text has a line for each of these steps, with why it was answered so (profile)
abbrev pub IsExplanationOf : List Visit → Running → List ℕ → Type 0
IsExplanationOf steps last text = text ≡ flat_map explanation_of_step steps

-- the bytes are a document without a fault, and the text explains a run of it (profile)
abbrev pub IsExplanation : List ℕ → List ℕ → Type 0
IsExplanation bytes text = IsTextOfDocument IsExplanationOf bytes text
