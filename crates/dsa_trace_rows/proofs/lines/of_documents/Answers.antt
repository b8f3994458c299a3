use Rattle.dsa_book.specs.declared.event.Event.TheVariants as event
use Rattle.dsa_trace_rows.proofs.lines.of_documents.Goals as goal
use Rattle.std.proofs.Common.{ℕ, List, [], ◌∷◌, codes, refl, lit≤}
use Rattle.serde_json.proofs.OnLiterals.{serde_json_on_literals}
use Rattle.dsa_scenario.specs.declared.actions.Action.TheVariants.{Ask}
use Rattle.dsa_scenario.specs.Steps.{standing, visits}
use Rattle.dsa_scenario.specs.Worked.{digits_on_literals, poll_text, polled, smallest_caps, stepless_text}
use Rattle.dsa_scenario.proofs.Heads.{document_by}
use Rattle.dsa_trace.specs.declared.form.Trace.{Trace, TheVariants.{Changes, Table}}
use Rattle.dsa_trace.specs.Run.{IsTrace, IsTraceOf}

-- a trace of the document that polls
polled_trace : (form : Trace) (text : List ℕ)
    → IsTraceOf form (visits smallest_caps 9 [] polled) (standing smallest_caps 9 polled) text
    → IsTrace form poll_text text
unfolding serde_json_on_literals digits_on_literals
polled_trace form text is = record {
  caps = smallest_caps;
  capacity = 9;
  actions = Ask event.Poll ∷ [];
  document = document_by poll_text _ smallest_caps 9 _ _ (poll_text, (refl, refl)) refl refl refl;
  opening = record { good = refl; small = lit≤ tt };
  of_run = record { records = polled; last = _; of_actions = (refl, tt); run = refl; replayed = refl; rendered = is };
}

pub returns-clause-poll : goal.returns-clause-poll
unfolding digits_on_literals
returns-clause-poll c = polled_trace Table _ refl

pub returns-clause-poll_changes_nothing : goal.returns-clause-poll_changes_nothing
unfolding digits_on_literals
returns-clause-poll_changes_nothing c = polled_trace Changes _ refl

pub returns-clause-no_steps : goal.returns-clause-no_steps
unfolding serde_json_on_literals
returns-clause-no_steps c =
    let text = stepless_text (codes "9") in
    record {
      caps = smallest_caps;
      capacity = 9;
      actions = [];
      document = document_by text _ smallest_caps 9 _ _ (text, (refl, refl)) refl refl refl;
      opening = record { good = refl; small = lit≤ tt };
      of_run = record { records = []; last = _; of_actions = tt; run = refl; replayed = refl; rendered = refl };
    }
