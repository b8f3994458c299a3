-- What is told of a question.
use Rattle.std.proofs.Common.{◌≡◌, ℕ, List, [], length, Bool, true, false, Option, Some, None, Ok, refl}
use Rattle.std.specs.Prelude.{◌⊎◌, if◌then◌else◌}
use Rattle.dsa_regs.specs.declared.Caps.{Caps}
use Rattle.dsa_book.specs.declared.event.{Event.{Event}, Step.{Step}}
use Rattle.dsa_scenario.specs.declared.faults.ScenarioFault.{ScenarioFault}
use Rattle.dsa_scenario.specs.declared.faults.ScenarioFault.TheVariants.{BadQuestion, BadSetup, Incomplete, NoSuchRow}
use Rattle.dsa_parties.specs.declared.script.Script.{Script}
use Rattle.dsa_explore.specs.declared.{found.Explored.{Explored}, search.Bounds.{Bounds}}
use Rattle.dsa_explore.specs.Walked.{CannotBegin}
use Rattle.dsa_questions.specs.{Reading.{Asked, Inquiry, questions_said}, Stating.{nameable}}
use Rattle.dsa_questions.specs.Shown.{calls_question, HasNoneAsked, IsAnswerShown, IsFirstAsked}
use Rattle.dsa_recordings.specs.Recordings.{recording_text}
use Rattle.dsa_exploration.specs.{Plan.{IsPlan}, Exploration.{HasBadQuestion, HasBadSetup}}
use Rattle.dsa_exploration.specs.Showing.{HasNoSuchAnswer, IsAnswerShowingOf, IsAskedInVain, IsSearchFor}
use Rattle.dsa_exploration.proofs.Faults.{of_questions}

module _ (bounds : Bounds) (name bytes : List ℕ) where
  -- a fault of the questions is told without a text
  pub answered-alone : (text : List ℕ) (fault : Option ScenarioFault) (e : ScenarioFault)
      → (bad : HasBadQuestion bytes e) → calls_question bad.labels bad.acts name ≡ true → text ≡ [] → fault ≡ Some e
      → IsAnswerShowingOf bounds name bytes fault text
  answered-alone text fault e bad called empty is =
      rw is (of_questions
      (λ e. (bad : HasBadQuestion bytes e) → calls_question bad.labels bad.acts name ≡ true
      → IsAnswerShowingOf bounds name bytes (Some e) text)
      (λ i bad called. (empty, (bad, called)))
      (nameable bad.caps bad.script bad.labels bad.acts) bad.plan.document e bad.said bad called)

  module _ {caps : Caps} {script : Script} {setup : List Event} {labels acts : List (List ℕ)}
      (called : calls_question labels acts name ≡ true) (questions : Inquiry) where
    -- no search can begin
    pub answered-of-setup : (fault : Option ScenarioFault) (text : List ℕ)
        → (plan : IsPlan bytes caps script setup labels acts questions.watches)
        → questions_said (nameable caps script labels acts) plan.document ≡ Ok questions → CannotBegin caps setup
        → fault ≡ Some BadSetup → text ≡ [] → IsAnswerShowingOf bounds name bytes fault text
    answered-of-setup fault text plan asked stopped f empty =
        rw f (
          empty,
          (
            record {
              caps = caps;
              script = script;
              setup = setup;
              labels = labels;
              acts = acts;
              questions = questions;
              plan = plan;
              asked = asked;
              stopped = stopped;
            },
            called,
          ),
        )

    module _ (explored : Explored)
        (search : IsSearchFor bounds bytes caps script setup labels acts questions explored) where
      -- nothing answers it
      pub none-answered : (fault : Option ScenarioFault) (text : List ℕ)
          → HasNoneAsked questions.asked name ⊎ IsAskedInVain caps script setup explored questions.asked name
          → fault ≡ Some (if explored.is_complete then NoSuchRow else Incomplete) → text ≡ []
          → IsAnswerShowingOf bounds name bytes fault text
      none-answered fault text none f empty = rw f (go explored.is_complete refl)
        where
          no-answer : (b : Bool) → explored.is_complete ≡ b → HasNoSuchAnswer bounds name bytes b
          no-answer b e = record {
            caps = caps;
            script = script;
            setup = setup;
            labels = labels;
            acts = acts;
            explored = explored;
            questions = questions;
            search = search;
            called = called;
            complete = e;
            none = none;
          }

          go : (b : Bool) → explored.is_complete ≡ b
              → IsAnswerShowingOf bounds name bytes (Some (if b then NoSuchRow else Incomplete)) text
          go true e = (empty, no-answer true e)
          go false e = (empty, no-answer false e)

      -- the document of what answers it
      pub question-answered : (question : Asked) (steps : List Step) (text : List ℕ) (count : ℕ)
          → IsFirstAsked questions.asked name question → IsAnswerShown caps script setup explored question steps
          → count ≡ length steps → text ≡ recording_text caps count steps
          → IsAnswerShowingOf bounds name bytes None text
      question-answered question steps text count named shown c document = record {
        caps = caps;
        script = script;
        setup = setup;
        labels = labels;
        acts = acts;
        explored = explored;
        questions = questions;
        search = search;
        called = called;
        question = question;
        named = named;
        steps = steps;
        shown = shown;
        document = rw c at document;
      }
