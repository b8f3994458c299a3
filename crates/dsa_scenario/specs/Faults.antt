-- What is told of a fault.
use Rattle.std.specs.Prelude.{◌≡◌, ◌≢◌, ℕ, Bool, true, List, ◌++◌, codes, decimal, Result, OnOk, IfErr, IsErrOf}
use Rattle.dsa_scenario.specs.declared.faults.ScenarioFault.{ScenarioFault, TheVariants.{Read, TooLong, NotJson}}
use Rattle.dsa_scenario.specs.declared.faults.ScenarioFault.TheVariants.{BadDocument, BadStep, BadCaps, BadCapacity}
use Rattle.dsa_scenario.specs.declared.faults.ScenarioFault.TheVariants.{NoParties, BadParties, BadParty}
use Rattle.dsa_scenario.specs.declared.faults.ScenarioFault.TheVariants.{TooManyParties, BadQuestion, BadSetup}
use Rattle.dsa_scenario.specs.declared.faults.ScenarioFault.TheVariants.{Differs, Incomplete, Broken, NoSuchRow}
use Rattle.dsa_scenario.specs.declared.faults.ScenarioFault.TheVariants.{Write, OutOfMemory}

-- the sentence of a fault (profile)
abbrev pub fault_text : ScenarioFault → List ℕ
fault_text Read = codes "read failed"
fault_text TooLong = codes "document too long"
fault_text NotJson = codes "not JSON"
fault_text BadDocument = codes "bad document"
fault_text (BadStep i) = codes "bad step " ++ decimal i
fault_text BadCaps = codes "bad caps"
fault_text BadCapacity = codes "bad capacity"
fault_text NoParties = codes "no parties"
fault_text BadParties = codes "bad parties"
fault_text (BadParty i) = codes "bad party " ++ decimal i
fault_text TooManyParties = codes "too many parties"
fault_text (BadQuestion i) = codes "bad question " ++ decimal i
fault_text BadSetup = codes "bad set-up"
fault_text (Differs i) = codes "step " ++ decimal i ++ codes " differs"
fault_text Incomplete = codes "search incomplete"
fault_text (Broken i) = codes "question " ++ decimal i ++ codes " is broken"
fault_text NoSuchRow = codes "no such row"
fault_text Write = codes "write failed"
fault_text OutOfMemory = codes "out of memory"

-- the line of a fault (profile)
abbrev pub fault_line : ScenarioFault → List ℕ
fault_line fault = codes "dsa_run: " ++ fault_text fault ++ codes "\n"

-- where this fault is told it is noted; else what is noted of it is what was before
abbrev pub IsFaultNoted : {T : Type 0} → ScenarioFault → Result T ScenarioFault → Bool → Bool → Type 0
IsFaultNoted fault result old new =
    (IsErrOf result fault → new ≡ true) × OnOk result (new ≡ old) × IfErr result (λ e. e ≢ fault → new ≡ old)
