-- Documents that can be run, and what is told of their searches.
use Rattle.std.proofs.Common.{◌≡◌, ◌≤◌, ◌∙◌, ℕ, List, [], Bool, true, false, Option, Some, None, Ok, map, ap}
use Rattle.std.proofs.Common.{length, refl, subst, sym}
use Rattle.std.specs.Prelude.{IfSome}
use Rattle.serde_json.specs.{Data.{Data}, View.{view, items_view}, declared.value.Value.{Value}}
use Rattle.dsa_regs.specs.declared.Caps.{Caps}
use Rattle.dsa_book.specs.declared.event.Event.{Event}
use Rattle.dsa_scenario.specs.declared.actions.Action.{Action}
use Rattle.dsa_scenario.specs.{Actions.{action_of}, Document.{IsJson, IsOpenable, head_of}}
use Rattle.dsa_plans.proofs.Items.{listed}
use Rattle.dsa_scenario.specs.declared.faults.ScenarioFault.{ScenarioFault}
use Rattle.dsa_scenario.specs.declared.faults.ScenarioFault.TheVariants.{BadSetup, Broken, Incomplete}
use Rattle.dsa_parties.specs.declared.script.Script.{Script}
use Rattle.dsa_explore.specs.declared.{found.Explored.{Explored}, search.Bounds.{Bounds}}
use Rattle.dsa_explore.specs.{Bounds.{IsBounded}, Counted.{FoundNothing}, Walked.{CannotBegin, IsExplored, NeedsDepth}}
use Rattle.dsa_plans.specs.Plans.{tables_of}
use Rattle.dsa_parties.specs.declared.watches.Watch.{Watch}
use Rattle.dsa_questions.specs.{Answers.{AreAnswers}, Reading.{Asked, Inquiry, questions_said}, Stating.{nameable}}
use Rattle.dsa_questions.specs.Verdicts.{Answer, first_broken}
use Rattle.dsa_exploration.specs.{declared.exploration.Form.{Form}, Plan.{IsPlan, IsRunnable, setup_events}}
use Rattle.dsa_exploration.specs.Exploration.{fault_of_search, search_text_in, IsExploration, IsExplorationOf}
use Rattle.dsa_exploration.specs.Exploration.{IsFoundWithin}

-- a value with this head, whose step objects ask these actions, can be run
pub runnable : (bytes : List ℕ) (v : Value) (caps : Caps) (capacity : ℕ) (steps : List Value) (actions : List Action)
    → IsJson bytes (view v) → Some (caps, capacity, items_view steps) ≡ head_of (view v)
    → map action_of (map view steps) ≡ map Some actions → IsOpenable caps capacity
    → IsRunnable bytes (view v) caps actions
runnable bytes v caps capacity steps actions json head asked opens = record {
  capacity = capacity;
  items = items_view steps;
  json = json;
  head = sym head;
  asked = ap (map action_of) (listed (map view steps)) ∙ asked;
  opens = opens;
}

module _ (form : Form) (bounds : Bounds) (bytes : List ℕ) {caps : Caps} {script : Script} {setup : List Event}
    {labels acts : List (List ℕ)} (questions : Inquiry)
    (plan : IsPlan bytes caps script setup labels acts questions.watches)
    (asked : questions_said (nameable caps script labels acts) plan.document ≡ Ok questions) where
  module _ (explored : Explored) (search : IsFoundWithin bounds caps script setup explored) (answers : List Answer)
      (answered : AreAnswers caps script setup explored questions.asked answers) where
    exploration : (fault : Option ScenarioFault) → fault ≡ fault_of_search (first_broken answers) explored.is_complete
        → IsExploration form bounds bytes fault (search_text_in form labels acts answers explored)
    exploration fault e = record {
      caps = caps;
      script = script;
      setup = setup;
      labels = labels;
      acts = acts;
      explored = explored;
      questions = questions;
      plan = plan;
      asked = asked;
      search = search;
      answers = answers;
      answered = answered;
      told = e;
      table = refl;
    }

    -- what is told of a search, by the first question that it breaks, and by whether it is complete
    searched : (broken : Option ℕ) (b : Bool)
        → fault_of_search broken b ≡ fault_of_search (first_broken answers) explored.is_complete
        → IsExplorationOf form bounds bytes (fault_of_search broken b)
        (search_text_in form labels acts answers explored)
    searched (Some question) b e = exploration (Some (Broken question)) e
    searched None true e = exploration None e
    searched None false e = exploration (Some Incomplete) e

    pub told_of_search : (fault : Option ScenarioFault) (text : List ℕ)
        → fault ≡ fault_of_search (first_broken answers) explored.is_complete
        → text ≡ search_text_in form labels acts answers explored → IsExplorationOf form bounds bytes fault text
    told_of_search fault text f t = rw (f, t) (searched (first_broken answers) explored.is_complete refl)

  -- no search can begin
  pub told_of_setup : (fault : Option ScenarioFault) (text : List ℕ) → CannotBegin caps setup → fault ≡ Some BadSetup
      → text ≡ [] → IsExplorationOf form bounds bytes fault text
  told_of_setup fault text stopped f empty =
      rw f (
        empty,
        record {
          caps = caps;
          script = script;
          setup = setup;
          labels = labels;
          acts = acts;
          questions = questions;
          plan = plan;
          asked = asked;
          stopped = stopped;
        },
      )

-- what a search found, by its contract
pub found_within : {A : Type 0} (explored_of : A → Explored) (bounds : Bounds) (caps : Caps) (script : Script)
    (setup events : List Event) (found : Option A) (x : A) → found ≡ Some x → events ≡ setup
    → IfSome found (λ x. IsExplored caps script events (explored_of x))
    → IfSome found (λ x. (explored_of x).states ≤ bounds.states)
    → IfSome found (λ x. (explored_of x).states ≡ 0 → FoundNothing (explored_of x))
    → IfSome found (λ x. (explored_of x).is_complete ≡ false → IsBounded bounds caps script events (explored_of x))
    → IfSome found (λ x. (explored_of x).is_complete ≡ true → NeedsDepth caps script events (explored_of x))
    → IsFoundWithin bounds caps script setup (explored_of x)
found_within explored_of bounds caps script setup events found x is same so small nothing bounded deep =
    subst (λ events. IsFoundWithin bounds caps script events (explored_of x)) same (record {
      found = rw is at so;
      small = rw is at small;
      nothing = rw is at nothing;
      bounded = rw is at bounded;
      deep = rw is at deep;
    })

-- what is told of a script that watches, with these actions, is told of the plan that its questions are read by
pub planned : {T : Type 0} (bytes : List ℕ) (caps : Caps) (script watching : Script) (actions given : List Action)
    (labels acts labels' acts' : List (List ℕ)) (asked : List Asked) (watches : List Watch) (d : Data)
    → actions ≡ given → labels' ≡ labels → acts' ≡ acts → tables_of watching ≡ tables_of script
    → watching.watches.items ≡ watches
    → ((plan : IsPlan bytes caps watching (setup_events actions) labels' acts' watching.watches.items)
    → questions_said (nameable caps watching labels' acts') plan.document
    ≡ Ok (record { asked = asked; watches = watching.watches.items }) → T)
    → questions_said (nameable caps script labels acts) d ≡ Ok (record { asked = asked; watches = watches })
    → (plan : IsPlan bytes caps script (setup_events given) labels acts []) → plan.document ≡ d → T
planned bytes caps script watching actions given labels acts labels' acts' asked watches d same l a tables watched told
    said plan is =
    let names : nameable caps watching labels' acts' ≡ nameable caps script labels acts =
    λ i. record {
      labels = l i;
      acts = a i;
      queues = caps.queues;
      clients = length ((tables i).clients);
      administrators = length ((tables i).administrators);
    } in
    told (record {
      document = plan.document;
      actions = plan.actions;
      runnable = plan.runnable;
      events = ap setup_events same ∙ plan.events;
      said = plan.said ∙ ap Ok (sym tables);
      watched = refl;
      entries_called = plan.entries_called ∙ ap Some (sym l);
      acts_called = plan.acts_called ∙ ap Some (sym a);
    })
    (ap (λ n. questions_said n plan.document) names ∙ ap (questions_said (nameable caps script labels acts)) is ∙ said
    ∙ ap (λ (w : List Watch). Ok (record { asked = asked; watches = w })) (sym watched))
