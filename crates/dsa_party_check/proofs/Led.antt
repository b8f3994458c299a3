-- What is told first is the fault that is told of a search.
use Rattle.std.proofs.Common.{◌≡◌, ◌==◌, ℕ, Bool, true, false, cond, List, [], ◌∷◌, Some, refl, ap, sym, ◌∙◌, arith}
use Rattle.std.proofs.Common.{Err, codes}
use Rattle.std.proofs.lemmas.Grind.{common_steps}
use Rattle.serde_json.specs.{Data.{Data}, Find.{get}}
use Rattle.dsa_regs.specs.declared.Caps.{Caps}
use Rattle.dsa_scenario.specs.declared.faults.ScenarioFault.{ScenarioFault}
use Rattle.dsa_scenario.specs.declared.faults.ScenarioFault.TheVariants.{BadParties, BadParty, TooManyParties}
use Rattle.dsa_plans.specs.Plans.{parties_said}
use Rattle.dsa_check.specs.Judgement.{caps_at}
use Rattle.dsa_party_check.specs.declared.complaint.Subject.{Subject}
use Rattle.dsa_party_check.specs.Complaints.{Flawed, flaw_of_fault}
use Rattle.dsa_party_check.specs.Flaws.{is_same_fault, led_by, flaws_of_document, flaws_at, flaws_by_caps, flaws_read}
use Rattle.dsa_party_check.specs.{PartyCheck.{first_flaw}, PartyFlaws.{parties_flaws}}

same-fault : (a b : ScenarioFault) → is_same_fault a b ≡ true → a ≡ b
same-fault a b h = grind (arith, common_steps)

pub led-first : (s : Subject) (fault : ScenarioFault) (flaws : List Flawed)
    → first_flaw (led_by s fault flaws) ≡ Some fault
led-first s fault [] = refl
led-first s fault (x ∷ xs) = go (is_same_fault x.fault fault) refl
  where
    go : (b : Bool) → is_same_fault x.fault fault ≡ b
        → first_flaw (cond b (x ∷ xs) (flaw_of_fault s fault ∷ x ∷ xs)) ≡ Some fault
    go true e = ap Some (same-fault x.fault fault e)
    go false e = refl

pub first-of-parties : (document d : Data) (caps : Caps) (fault : ScenarioFault) → get (codes "parties") document ≡ Some d
    → caps_at document ≡ Some caps → parties_said caps.engines document ≡ Err fault
    → first_flaw (flaws_of_document document) ≡ Some fault
first-of-parties document d caps fault there has bad =
    rw (there, has, bad) (led-first _ fault (parties_flaws caps.engines document d))
