-- What is told of random walks.
use Rattle.std.proofs.Common.{◌≡◌, ℕ, List, [], false, Option, Some, None, Ok, refl, subst}
use Rattle.std.specs.Prelude.{IfSome}
use Rattle.dsa_regs.specs.declared.Caps.{Caps}
use Rattle.dsa_book.specs.declared.event.Event.{Event}
use Rattle.dsa_scenario.specs.declared.faults.ScenarioFault.{ScenarioFault}
use Rattle.dsa_scenario.specs.declared.faults.ScenarioFault.TheVariants.{BadSetup, Broken, Incomplete}
use Rattle.dsa_parties.specs.declared.script.Script.{Script}
use Rattle.dsa_explore.specs.{declared.sampling.{Sampled.{Sampled}, Walks.{Walks}}, Sampling.{IsSampled}}
use Rattle.dsa_explore.specs.Walked.{CannotBegin}
use Rattle.dsa_questions.specs.{Reading.{Inquiry, questions_said}, Samples.{answers_of_walks}, Stating.{nameable}}
use Rattle.dsa_questions.specs.Verdicts.{Answer, first_broken}
use Rattle.dsa_exploration.specs.{declared.exploration.Form.{Form}, Plan.{IsPlan}}
use Rattle.dsa_exploration.specs.Exploration.{fault_of_search, HasBadParties, HasBadQuestion}
use Rattle.dsa_exploration.specs.Sampling.{IsSamplingOf, IsTextOfWalks, walks_text_in}
use Rattle.dsa_exploration.proofs.Faults.{of_parties, of_questions}

-- ---- faults

-- a fault of the parties is told without a text
told_of_parties : (form : Form) (walks : Walks) (bytes text : List ℕ) (e : ScenarioFault) → HasBadParties bytes e
    → text ≡ [] → IsSamplingOf form walks bytes (Some e) text
told_of_parties form walks bytes text e has empty =
    of_parties (λ e. HasBadParties bytes e → IsSamplingOf form walks bytes (Some e) text)
    (λ has. (empty, has)) (λ has. (empty, has)) (λ i has. (empty, has)) (λ has. (empty, has))
    has.caps.engines has.document e has.said has

pub told_alone : (form : Form) (walks : Walks) (bytes text : List ℕ) (fault : Option ScenarioFault)
    (e : ScenarioFault) → HasBadParties bytes e → text ≡ [] → fault ≡ Some e
    → IsSamplingOf form walks bytes fault text
told_alone form walks bytes text fault e has empty is = rw is (told_of_parties form walks bytes text e has empty)

-- and so is a fault of the questions
told_of_questions : (form : Form) (walks : Walks) (bytes text : List ℕ) (e : ScenarioFault) → HasBadQuestion bytes e
    → text ≡ [] → IsSamplingOf form walks bytes (Some e) text
told_of_questions form walks bytes text e has empty =
    of_questions (λ e. HasBadQuestion bytes e → IsSamplingOf form walks bytes (Some e) text) (λ i has. (empty, has))
    (nameable has.caps has.script has.labels has.acts) has.plan.document e has.said has

pub questions_alone : (form : Form) (walks : Walks) (bytes text : List ℕ) (fault : Option ScenarioFault)
    (e : ScenarioFault) → HasBadQuestion bytes e → text ≡ [] → fault ≡ Some e
    → IsSamplingOf form walks bytes fault text
questions_alone form walks bytes text fault e has empty is =
    rw is (told_of_questions form walks bytes text e has empty)

-- ---- walks

module _ (form : Form) (walks : Walks) (bytes : List ℕ) {caps : Caps} {script : Script} {setup : List Event}
    {labels acts : List (List ℕ)} (questions : Inquiry)
    (plan : IsPlan bytes caps script setup labels acts questions.watches)
    (asked : questions_said (nameable caps script labels acts) plan.document ≡ Ok questions) where
  -- what is told of walks, by the first question that they break
  sampled_so : (sampled : Sampled) → IsSampled caps script setup walks sampled → (broken : Option ℕ)
      → fault_of_search broken false
      ≡ fault_of_search (first_broken (answers_of_walks sampled questions.asked)) false
      → IsSamplingOf form walks bytes (fault_of_search broken false)
      (walks_text_in form labels acts (answers_of_walks sampled questions.asked) sampled)
  sampled_so sampled made broken e = go broken e
    where
      text_is : (fault : Option ScenarioFault)
          → fault ≡ fault_of_search (first_broken (answers_of_walks sampled questions.asked)) false
          → IsTextOfWalks form walks bytes fault
          (walks_text_in form labels acts (answers_of_walks sampled questions.asked) sampled)
      text_is fault e = record {
        caps = caps;
        script = script;
        setup = setup;
        labels = labels;
        acts = acts;
        sampled = sampled;
        questions = questions;
        plan = plan;
        asked = asked;
        made = made;
        told = e;
        table = refl;
      }

      go : (broken : Option ℕ)
          → fault_of_search broken false
          ≡ fault_of_search (first_broken (answers_of_walks sampled questions.asked)) false
          → IsSamplingOf form walks bytes (fault_of_search broken false)
          (walks_text_in form labels acts (answers_of_walks sampled questions.asked) sampled)
      go (Some question) e = text_is (Some (Broken question)) e
      go None e = text_is (Some Incomplete) e

  pub told_of_walks : (sampled : Sampled) (answers : List Answer)
      → answers ≡ answers_of_walks sampled questions.asked → (fault : Option ScenarioFault) (text : List ℕ)
      → IsSampled caps script setup walks sampled → fault ≡ fault_of_search (first_broken answers) false
      → text ≡ walks_text_in form labels acts answers sampled → IsSamplingOf form walks bytes fault text
  told_of_walks sampled answers same fault text made f t =
      rw (f, t, same) (sampled_so sampled made (first_broken (answers_of_walks sampled questions.asked)) refl)

  -- no walk can begin
  pub told_of_setup : (fault : Option ScenarioFault) (text : List ℕ) → CannotBegin caps setup → fault ≡ Some BadSetup
      → text ≡ [] → IsSamplingOf form walks bytes fault text
  told_of_setup fault text stopped f empty =
      rw f (
        empty,
        record {
          caps = caps;
          script = script;
          setup = setup;
          labels = labels;
          acts = acts;
          questions = questions;
          plan = plan;
          asked = asked;
          stopped = stopped;
        },
      )

-- what walks found, by their contract
pub sampled_after : (caps : Caps) (script : Script) (setup events : List Event) (walks : Walks)
    (found : Option Sampled) (x : Sampled) → found ≡ Some x → events ≡ setup
    → IfSome found (λ x. IsSampled caps script events walks x) → IsSampled caps script setup walks x
sampled_after caps script setup events walks found x is same made =
    subst (λ events. IsSampled caps script events walks x) same (rw is at made)
