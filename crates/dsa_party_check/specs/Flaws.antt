-- What is wrong with the parties of a document: the first is what `explore` tells.
use Rattle.dsa_party_check.specs.declared.complaint.Subject.TheVariants as subject
use Rattle.std.specs.Prelude.{ℕ, ◌==◌, Bool, true, false, cond, List, [], ◌∷◌, codes, Option, Some, None, Result, Ok, Err}
use Rattle.serde_json.specs.{Data.{Data}, Find.{get}}
use Rattle.dsa_regs.specs.declared.Caps.{Caps}
use Rattle.dsa_party_check.specs.declared.complaint.Subject.{Subject}
use Rattle.dsa_scenario.specs.declared.faults.ScenarioFault.{ScenarioFault}
use Rattle.dsa_scenario.specs.declared.faults.ScenarioFault.TheVariants.{BadParties, BadParty, TooManyParties}
use Rattle.dsa_plans.specs.Plans.{Tables, parties_said}
use Rattle.dsa_check.specs.Judgement.{caps_at}
use Rattle.dsa_party_check.specs.Complaints.{Flawed, flaw_of_fault}
use Rattle.dsa_party_check.specs.PartyFlaws.{parties_flaws}

-- both are the same fault of parties
abbrev pub is_same_fault : ScenarioFault → ScenarioFault → Bool
is_same_fault BadParties BadParties = true
is_same_fault (BadParty i) (BadParty j) = i == j
is_same_fault TooManyParties TooManyParties = true
is_same_fault fault other = false

-- the flaws begin with this fault
abbrev pub begins_with_fault : ScenarioFault → List Flawed → Bool
begins_with_fault fault [] = false
begins_with_fault fault (flaw ∷ flaws) = is_same_fault flaw.fault fault

-- the flaws, begun with the fault that is told first
abbrev pub led_by : Subject → ScenarioFault → List Flawed → List Flawed
led_by subject fault flaws =
    cond (begins_with_fault fault flaws) flaws (flaw_of_fault subject fault ∷ flaws)

-- none where the parties can be read
abbrev pub flaws_read : Result Tables ScenarioFault → List Flawed → List Flawed
flaws_read (Ok tables) flaws = []
flaws_read (Err fault) flaws = led_by subject.Parties fault flaws

-- where the caps cannot be read, each number of 16 bits but the last is taken for one of an engine
abbrev pub flaws_by_caps : Data → Data → Option Caps → List Flawed
flaws_by_caps document d None = parties_flaws 65535 document d
flaws_by_caps document d (Some caps) =
    flaws_read (parties_said caps.engines document) (parties_flaws caps.engines document d)

abbrev pub flaws_at : Data → Option Data → List Flawed
flaws_at document None = []
flaws_at document (Some d) = flaws_by_caps document d (caps_at document)

-- all that is wrong with the parties of a document; without parties nothing is (profile)
abbrev pub flaws_of_document : Data → List Flawed
flaws_of_document document = flaws_at document (get (codes "parties") document)
