-- The document of a row of the table, or of what answers a question.
use Rattle.std.specs.Prelude.{◌≡◌, ◌⊎◌, ℕ, List, [], length, Bool, true, false, Option, Some, None, Ok}
use Rattle.dsa_regs.specs.declared.Caps.{Caps}
use Rattle.dsa_book.specs.declared.event.{Event.{Event}, Step.{Step}}
use Rattle.dsa_scenario.specs.declared.faults.ScenarioFault.{ScenarioFault, TheVariants.{Incomplete, NoSuchRow}}
use Rattle.dsa_scenario.specs.declared.faults.ScenarioFault.TheVariants.{BadQuestion, BadSetup, Broken}
use Rattle.dsa_parties.specs.declared.script.Script.{Script}
use Rattle.dsa_explore.specs.declared.{found.{Explored.{Explored}, Found.{Found}}, search.Bounds.{Bounds}}
use Rattle.dsa_explore.specs.{Walked.{CannotBegin}, Schedules.{IsSchedule}}
use Rattle.dsa_tables.specs.Naming.{table_rows, HasNoRowNamed, IsFirstNamed}
use Rattle.dsa_questions.specs.{Reading.{Asked, Inquiry, questions_said}, Stating.{nameable}}
use Rattle.dsa_questions.specs.Shown.{calls_question, HasNoneAsked, HasNoneToShow, IsAnswerShown, IsFirstAsked}
use Rattle.dsa_recordings.specs.Recordings.{recording_text}
use Rattle.dsa_exploration.specs.declared.exploration.Form.TheVariants.{Table}
use Rattle.dsa_exploration.specs.{Plan.{IsPlan}, Exploration.{HasBadQuestion, HasBadSetup, IsExplorationOf, IsFoundWithin}}

-- a search for these bytes' plan, within these bounds, and the names of entries and acts (profile)
pub record IsSearchOf (bounds : Bounds) (bytes : List ℕ) (caps : Caps) (script : Script) (setup : List Event)
    (labels acts : List (List ℕ)) (explored : Explored) : Type 0 where
  pub plan : IsPlan bytes caps script setup labels acts []
  pub search : IsFoundWithin bounds caps script setup explored

-- the text is a document of steps that show the first row of the table that is called so; its history has room for them
pub record IsShown (bounds : Bounds) (name bytes text : List ℕ) : Type 0 where
  pub caps : Caps
  pub script : Script
  pub setup : List Event
  pub labels : List (List ℕ)
  pub acts : List (List ℕ)
  pub explored : Explored
  pub search : IsSearchOf bounds bytes caps script setup labels acts explored
  pub called : calls_question labels acts name ≡ false
  pub row : Found
  pub named : IsFirstNamed labels acts (table_rows labels acts explored.rows.items) name row
  pub steps : List Step
  pub schedule : IsSchedule caps script setup row.steps row.finding steps
  pub document : text ≡ recording_text caps (length steps) steps

-- no row of a search is called so; the search is complete or not
pub record HasNoSuchRow (bounds : Bounds) (name bytes : List ℕ) (is_complete : Bool) : Type 0 where
  pub caps : Caps
  pub script : Script
  pub setup : List Event
  pub labels : List (List ℕ)
  pub acts : List (List ℕ)
  pub explored : Explored
  pub search : IsSearchOf bounds bytes caps script setup labels acts explored
  pub called : calls_question labels acts name ≡ false
  pub complete : explored.is_complete ≡ is_complete
  pub none : HasNoRowNamed labels acts (table_rows labels acts explored.rows.items) name

-- there is a plan, but no search can begin after its set-up, and no question is called so
pub record HasNoSearch (name bytes : List ℕ) : Type 0 where
  pub caps : Caps
  pub script : Script
  pub setup : List Event
  pub labels : List (List ℕ)
  pub acts : List (List ℕ)
  pub plan : IsPlan bytes caps script setup labels acts []
  pub called : calls_question labels acts name ≡ false
  pub stopped : CannotBegin caps setup

-- this text is made of these bytes for the row of this name, and this fault is told after it. What stops a search stops
-- this too; questions are not read
abbrev pub IsRowShowingOf : Bounds → List ℕ → List ℕ → Option ScenarioFault → List ℕ → Type 0
IsRowShowingOf bounds name bytes None text = IsShown bounds name bytes text
IsRowShowingOf bounds name bytes (Some NoSuchRow) text = (text ≡ []) × HasNoSuchRow bounds name bytes true
IsRowShowingOf bounds name bytes (Some Incomplete) text = (text ≡ []) × HasNoSuchRow bounds name bytes false
IsRowShowingOf bounds name bytes (Some BadSetup) text = (text ≡ []) × HasNoSearch name bytes
IsRowShowingOf bounds name bytes (Some (BadQuestion i)) text = ⊥
IsRowShowingOf bounds name bytes (Some (Broken i)) text = ⊥
IsRowShowingOf bounds name bytes fault text = IsExplorationOf Table bounds bytes fault text

-- ---- questions

-- a search for these bytes' plan, within these bounds, where the parties watch for what its document's questions speak
-- of, and the names of entries and acts
pub record IsSearchFor (bounds : Bounds) (bytes : List ℕ) (caps : Caps) (script : Script) (setup : List Event)
    (labels acts : List (List ℕ)) (questions : Inquiry) (explored : Explored) : Type 0 where
  pub plan : IsPlan bytes caps script setup labels acts questions.watches
  pub asked : questions_said (nameable caps script labels acts) plan.document ≡ Ok questions
  pub search : IsFoundWithin bounds caps script setup explored

-- the text is a document of steps that show what answers the first question that is called so; its history has room for
-- them
pub record IsAnswerDocument (bounds : Bounds) (name bytes text : List ℕ) : Type 0 where
  pub caps : Caps
  pub script : Script
  pub setup : List Event
  pub labels : List (List ℕ)
  pub acts : List (List ℕ)
  pub explored : Explored
  pub questions : Inquiry
  pub search : IsSearchFor bounds bytes caps script setup labels acts questions explored
  pub called : calls_question labels acts name ≡ true
  pub question : Asked
  pub named : IsFirstAsked questions.asked name question
  pub steps : List Step
  pub shown : IsAnswerShown caps script setup explored question steps
  pub document : text ≡ recording_text caps (length steps) steps

-- the first question that is called so asks for something that a search did not find
pub record IsAskedInVain (caps : Caps) (script : Script) (setup : List Event) (explored : Explored)
    (questions : List Asked) (name : List ℕ) : Type 0 where
  pub question : Asked
  pub named : IsFirstAsked questions name question
  pub none : HasNoneToShow caps script setup explored question

-- no question is called so, or the one that is asks for something that was not found; the search is complete or not
pub record HasNoSuchAnswer (bounds : Bounds) (name bytes : List ℕ) (is_complete : Bool) : Type 0 where
  pub caps : Caps
  pub script : Script
  pub setup : List Event
  pub labels : List (List ℕ)
  pub acts : List (List ℕ)
  pub explored : Explored
  pub questions : Inquiry
  pub search : IsSearchFor bounds bytes caps script setup labels acts questions explored
  pub called : calls_question labels acts name ≡ true
  pub complete : explored.is_complete ≡ is_complete
  pub none : HasNoneAsked questions.asked name ⊎ IsAskedInVain caps script setup explored questions.asked name

-- this text is made of these bytes for the question of this name, and this fault is told after it. What stops an
-- exploration stops this too
abbrev pub IsAnswerShowingOf : Bounds → List ℕ → List ℕ → Option ScenarioFault → List ℕ → Type 0
IsAnswerShowingOf bounds name bytes None text = IsAnswerDocument bounds name bytes text
IsAnswerShowingOf bounds name bytes (Some NoSuchRow) text = (text ≡ []) × HasNoSuchAnswer bounds name bytes true
IsAnswerShowingOf bounds name bytes (Some Incomplete) text = (text ≡ []) × HasNoSuchAnswer bounds name bytes false
IsAnswerShowingOf bounds name bytes (Some BadSetup) text =
    (text ≡ []) × ((bad : HasBadSetup bytes) × (calls_question bad.labels bad.acts name ≡ true))
IsAnswerShowingOf bounds name bytes (Some (BadQuestion i)) text =
    (text ≡ []) × ((bad : HasBadQuestion bytes (BadQuestion i)) × (calls_question bad.labels bad.acts name ≡ true))
IsAnswerShowingOf bounds name bytes (Some (Broken i)) text = ⊥
IsAnswerShowingOf bounds name bytes fault text = IsExplorationOf Table bounds bytes fault text

-- ---- both

-- this text is made of these bytes for the row or the question of this name, and this fault is told after it. The row
-- comes first where either may be called so
abbrev pub IsShowingOf : Bounds → List ℕ → List ℕ → Option ScenarioFault → List ℕ → Type 0
IsShowingOf bounds name bytes fault text =
    IsRowShowingOf bounds name bytes fault text ⊎ IsAnswerShowingOf bounds name bytes fault text
