-- The text of a document's search.
use Rattle.std.specs.Prelude.{◌≡◌, ◌≤◌, ℕ, List, [], Bool, true, false, Option, Some, None, Ok, Err}
use Rattle.serde_json.specs.Data.{Data}
use Rattle.dsa_regs.specs.declared.Caps.{Caps}
use Rattle.dsa_book.specs.declared.event.Event.{Event}
use Rattle.dsa_scenario.specs.declared.actions.Action.{Action}
use Rattle.dsa_scenario.specs.declared.faults.ScenarioFault.{ScenarioFault}
use Rattle.dsa_scenario.specs.declared.faults.ScenarioFault.TheVariants.{NoParties, BadParties, BadParty, TooManyParties}
use Rattle.dsa_scenario.specs.declared.faults.ScenarioFault.TheVariants.{BadQuestion, BadSetup, Broken, Incomplete}
use Rattle.dsa_parties.specs.declared.script.Script.{Script}
use Rattle.dsa_plans.specs.Plans.{parties_said}
use Rattle.dsa_explore.specs.declared.{found.Explored.{Explored}, search.Bounds.{Bounds}}
use Rattle.dsa_explore.specs.{Bounds.{IsBounded}, Counted.{FoundNothing}, Walked.{IsExplored, CannotBegin, NeedsDepth}}
use Rattle.dsa_questions.specs.{Lines.{text_with_answers}, Objects.{objects_with_answers}}
use Rattle.dsa_questions.specs.{Answers.{AreAnswers}, Reading.{Inquiry, questions_said}, Stating.{nameable}}
use Rattle.dsa_questions.specs.Verdicts.{Answer, first_broken}
use Rattle.dsa_exploration.specs.declared.exploration.Form.{Form, TheVariants.{Table, Json}}
use Rattle.dsa_exploration.specs.Plan.{IsRunnable, IsPlan}

-- a plain run can begin, but its parties cannot be read (profile)
pub record HasBadParties (bytes : List ℕ) (fault : ScenarioFault) : Type 0 where
  pub document : Data
  pub caps : Caps
  pub actions : List Action
  pub runnable : IsRunnable bytes document caps actions
  pub said : parties_said caps.engines document ≡ Err fault

-- there is a plan, but the questions of its document cannot be read (profile)
pub record HasBadQuestion (bytes : List ℕ) (fault : ScenarioFault) : Type 0 where
  pub caps : Caps
  pub script : Script
  pub setup : List Event
  pub labels : List (List ℕ)
  pub acts : List (List ℕ)
  pub plan : IsPlan bytes caps script setup labels acts []
  pub said : questions_said (nameable caps script labels acts) plan.document ≡ Err fault

-- there is a plan with questions, but no search can begin after its set-up (profile)
pub record HasBadSetup (bytes : List ℕ) : Type 0 where
  pub caps : Caps
  pub script : Script
  pub setup : List Event
  pub labels : List (List ℕ)
  pub acts : List (List ℕ)
  pub questions : Inquiry
  pub plan : IsPlan bytes caps script setup labels acts questions.watches
  pub asked : questions_said (nameable caps script labels acts) plan.document ≡ Ok questions
  pub stopped : CannotBegin caps setup

-- the fault that is told after a search, by the number of the first broken question, and by whether it is complete
abbrev pub fault_of_search : Option ℕ → Bool → Option ScenarioFault
fault_of_search (Some question) is_complete = Some (Broken question)
fault_of_search None true = None
fault_of_search None false = Some Incomplete

-- a search within these bounds found this. It stores no more states than it may, and nothing is found without a state.
-- If it is not complete, it met a bound; if it is, some state needs as many steps as the depth
pub record IsFoundWithin (bounds : Bounds) (caps : Caps) (script : Script) (setup : List Event) (explored : Explored)
    : Type 0 where
  pub found : IsExplored caps script setup explored
  pub small : explored.states ≤ bounds.states
  pub nothing : explored.states ≡ 0 → FoundNothing explored
  pub bounded : explored.is_complete ≡ false → IsBounded bounds caps script setup explored
  pub deep : explored.is_complete ≡ true → NeedsDepth caps script setup explored

-- what a search found and what it says of these questions, in this form (profile)
abbrev pub search_text_in : Form → List (List ℕ) → List (List ℕ) → List Answer → Explored → List ℕ
search_text_in Table labels acts answers explored = text_with_answers labels acts answers explored
search_text_in Json labels acts answers explored = objects_with_answers labels acts answers explored

-- the text is that of a search for these bytes' plan, in this form and within these bounds, with what it says of its
-- document's questions, for which the parties watch, and this fault is told after it (profile)
pub record IsExploration (form : Form) (bounds : Bounds) (bytes : List ℕ) (fault : Option ScenarioFault) (text : List ℕ)
    : Type 0 where
  pub caps : Caps
  pub script : Script
  pub setup : List Event
  pub labels : List (List ℕ)
  pub acts : List (List ℕ)
  pub explored : Explored
  pub questions : Inquiry
  pub plan : IsPlan bytes caps script setup labels acts questions.watches
  pub asked : questions_said (nameable caps script labels acts) plan.document ≡ Ok questions
  pub search : IsFoundWithin bounds caps script setup explored
  pub answers : List Answer
  pub answered : AreAnswers caps script setup explored questions.asked answers
  pub told : fault ≡ fault_of_search (first_broken answers) explored.is_complete
  pub table : text ≡ search_text_in form labels acts answers explored

-- this text is made of these bytes in this form and within these bounds, and this fault is told after it (profile)
abbrev pub IsExplorationOf : Form → Bounds → List ℕ → Option ScenarioFault → List ℕ → Type 0
IsExplorationOf form bounds bytes None text = IsExploration form bounds bytes None text
IsExplorationOf form bounds bytes (Some Incomplete) text = IsExploration form bounds bytes (Some Incomplete) text
IsExplorationOf form bounds bytes (Some (Broken i)) text = IsExploration form bounds bytes (Some (Broken i)) text
IsExplorationOf form bounds bytes (Some BadSetup) text = (text ≡ []) × HasBadSetup bytes
IsExplorationOf form bounds bytes (Some NoParties) text = (text ≡ []) × HasBadParties bytes NoParties
IsExplorationOf form bounds bytes (Some BadParties) text = (text ≡ []) × HasBadParties bytes BadParties
IsExplorationOf form bounds bytes (Some (BadParty i)) text = (text ≡ []) × HasBadParties bytes (BadParty i)
IsExplorationOf form bounds bytes (Some TooManyParties) text = (text ≡ []) × HasBadParties bytes TooManyParties
IsExplorationOf form bounds bytes (Some (BadQuestion i)) text = (text ≡ []) × HasBadQuestion bytes (BadQuestion i)
IsExplorationOf form bounds bytes (Some fault) text = ⊥
