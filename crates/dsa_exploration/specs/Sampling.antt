-- The text of random walks of a document's parties.
use Rattle.std.specs.Prelude.{◌≡◌, ℕ, List, [], false, Option, Some, None, Ok}
use Rattle.dsa_regs.specs.declared.Caps.{Caps}
use Rattle.dsa_book.specs.declared.event.Event.{Event}
use Rattle.dsa_scenario.specs.declared.faults.ScenarioFault.{ScenarioFault}
use Rattle.dsa_scenario.specs.declared.faults.ScenarioFault.TheVariants.{NoParties, BadParties, BadParty, TooManyParties}
use Rattle.dsa_scenario.specs.declared.faults.ScenarioFault.TheVariants.{BadQuestion, BadSetup, Broken, Incomplete}
use Rattle.dsa_parties.specs.declared.script.Script.{Script}
use Rattle.dsa_explore.specs.{declared.sampling.{Sampled.{Sampled}, Walks.{Walks}}, Sampling.{IsSampled}}
use Rattle.dsa_questions.specs.Samples.{answers_of_walks, objects_of_walks, text_of_walks}
use Rattle.dsa_questions.specs.{Reading.{Inquiry, questions_said}, Stating.{nameable}, Verdicts.{Answer, first_broken}}
use Rattle.dsa_exploration.specs.declared.exploration.Form.{Form, TheVariants.{Table, Json}}
use Rattle.dsa_exploration.specs.{Plan.{IsPlan}, Exploration.{HasBadParties, HasBadQuestion, HasBadSetup, fault_of_search}}

-- what random walks found and what they say of questions, in this form (profile)
abbrev pub walks_text_in : Form → List (List ℕ) → List (List ℕ) → List Answer → Sampled → List ℕ
walks_text_in Table labels acts answers sampled = text_of_walks labels acts answers sampled
walks_text_in Json labels acts answers sampled = objects_of_walks labels acts answers sampled

-- the text is that of these walks, for these bytes' plan and in this form, with what they say of its document's
-- questions, for which the parties watch, and this fault is told after it, as after a search that is not complete
-- (profile)
pub record IsTextOfWalks (form : Form) (walks : Walks) (bytes : List ℕ) (fault : Option ScenarioFault) (text : List ℕ)
    : Type 0 where
  pub caps : Caps
  pub script : Script
  pub setup : List Event
  pub labels : List (List ℕ)
  pub acts : List (List ℕ)
  pub sampled : Sampled
  pub questions : Inquiry
  pub plan : IsPlan bytes caps script setup labels acts questions.watches
  pub asked : questions_said (nameable caps script labels acts) plan.document ≡ Ok questions
  pub made : IsSampled caps script setup walks sampled
  pub told : fault ≡ fault_of_search (first_broken (answers_of_walks sampled questions.asked)) false
  pub table : text ≡ walks_text_in form labels acts (answers_of_walks sampled questions.asked) sampled

-- this text is made of these bytes in this form by these walks, and this fault is told after it (profile)
abbrev pub IsSamplingOf : Form → Walks → List ℕ → Option ScenarioFault → List ℕ → Type 0
IsSamplingOf form walks bytes (Some Incomplete) text = IsTextOfWalks form walks bytes (Some Incomplete) text
IsSamplingOf form walks bytes (Some (Broken i)) text = IsTextOfWalks form walks bytes (Some (Broken i)) text
IsSamplingOf form walks bytes (Some BadSetup) text = (text ≡ []) × HasBadSetup bytes
IsSamplingOf form walks bytes (Some NoParties) text = (text ≡ []) × HasBadParties bytes NoParties
IsSamplingOf form walks bytes (Some BadParties) text = (text ≡ []) × HasBadParties bytes BadParties
IsSamplingOf form walks bytes (Some (BadParty i)) text = (text ≡ []) × HasBadParties bytes (BadParty i)
IsSamplingOf form walks bytes (Some TooManyParties) text = (text ≡ []) × HasBadParties bytes TooManyParties
IsSamplingOf form walks bytes (Some (BadQuestion i)) text = (text ≡ []) × HasBadQuestion bytes (BadQuestion i)
IsSamplingOf form walks bytes fault text = ⊥
