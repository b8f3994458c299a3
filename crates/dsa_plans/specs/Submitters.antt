-- Clients: what each of their steps submits, with its members.
use Rattle.dsa_scenario.specs.declared.actions.StepKind.TheVariants as kind
use Rattle.std.specs.Prelude.{ℕ, ◌^◌, cond, ◌==◌, List, [], ◌∷◌, ◌++◌, length, codes, Option, Some, None, option_map}
use Rattle.serde_json.specs.{Data.{Data}, Find.{get, as_str}}
use Rattle.dsa_desc.specs.{declared.Descriptor.{Descriptor}, Descriptor.{read, is_batch, is_transfer}}
use Rattle.dsa_book.specs.declared.event.Kind.{Kind, TheVariants.{Enqcmd, Movdir64b}}
use Rattle.dsa_scenario.specs.declared.actions.StepKind.{StepKind}
use Rattle.dsa_scenario.specs.Fields.{◌>>=◌, below_limit, whole_of, truth_of, digits_of, hex_bytes_of}
use Rattle.dsa_scenario.specs.Actions.{kind_of, portal_of_limited}
use Rattle.dsa_parties.specs.declared.script.{ClientScript.{ClientScript}, ScriptEntry.{ScriptEntry}}
use Rattle.dsa_parties.specs.declared.script.Submission.{Submission}
use Rattle.dsa_parties.specs.declared.script.Origin.{Origin, TheVariants.{Submitted, Fetched}}
use Rattle.dsa_parties.specs.declared.script.Outcomes.{Outcomes, TheVariants.{SuccessAlone}}
use Rattle.dsa_parties.specs.declared.script.RetryPolicy.TheVariants.{GiveUp}
use Rattle.dsa_plans.specs.Said.{lacks, read_or, items_in, whole_below, each_onto, read_onto, retry_said, outcomes_said}

-- ---- entries

-- what is said of faults counts for an operation on memory; each other one succeeds
abbrev pub outcomes_for : Descriptor → Outcomes → Outcomes
outcomes_for desc outcomes = cond (is_transfer desc) outcomes SuccessAlone

-- an entry with these 64 bytes
abbrev pub entry_with : List ℕ → Outcomes → Origin → ScriptEntry
entry_with bytes outcomes origin =
    record { desc = read bytes; outcomes = outcomes_for (read bytes) outcomes; origin = origin }

-- ---- members

-- the 64 bytes of a member: a text of digits, or an object with one at `desc`
abbrev pub member_bytes_by : Data → Option (List ℕ) → Option (List ℕ)
member_bytes_by d (Some text) = hex_bytes_of text
member_bytes_by d None = digits_of (codes "desc") d

abbrev pub member_bytes : Data → Option (List ℕ)
member_bytes d = member_bytes_by d (as_str d)

-- a member of the batch with this label, with the batch's outcomes where it says none itself
abbrev pub member_said : ℕ → Outcomes → Data → Option ScriptEntry
member_said batch outcomes d = do
  bytes ← member_bytes d
  own ← read_or outcomes outcomes_said (get (codes "fault") d)
  Some (entry_with bytes own (Fetched batch))

-- ---- steps

-- how an object of the kind submits, where a client does so
abbrev pub submission_kind : StepKind → Data → Option Kind
submission_kind kind.Enqcmd d = option_map Enqcmd (whole_of (2 ^ 32) (codes "pasid") d)
submission_kind kind.Movdir d = Some Movdir64b
submission_kind kind d = None

-- a submission with so many members
abbrev pub submission_of_step : ℕ → Data → Option Submission
submission_of_step members d = do
  kind ← kind_of d
  how ← submission_kind kind d
  queue ← whole_of (2 ^ 16) (codes "queue") d
  limited ← truth_of (codes "limited") d
  retry ← read_or GiveUp retry_said (get (codes "retry") d)
  Some (record {
    queue = queue;
    portal = portal_of_limited limited;
    kind = how;
    retry = retry;
    members = members;
  })

-- a client's step as it is read: its entry, and its members with the outcomes where they say none
pub record StepRead : Type 0 where
  pub entry : ScriptEntry
  pub outcomes : Outcomes
  pub members : List Data

-- such a step with these 64 bytes and so many members, which are these
abbrev pub step_with : List ℕ → ℕ → List Data → Data → Option StepRead
step_with bytes count members d = do
  outcomes ← read_or SuccessAlone outcomes_said (get (codes "fault") d)
  submission ← submission_of_step count d
  Some (record { entry = entry_with bytes outcomes (Submitted submission); outcomes = outcomes; members = members })

-- how many members there have to be: as many as a Batch counts
abbrev pub members_wanted : Descriptor → ℕ
members_wanted desc = cond (is_batch desc) desc.size 0

-- a client's step: it has no condition, and no client of its own
abbrev pub client_step : Data → Option StepRead
client_step d = cond (lacks (codes "when" ∷ codes "if" ∷ codes "client" ∷ []) d)
    (do
      bytes ← digits_of (codes "desc") d
      members ← read_or [] items_in (get (codes "members") d)
      let count = members_wanted (read bytes) in cond (length members == count) (step_with bytes count members d) None)
    None

-- the entries, and behind them that of the step with its members
abbrev pub step_onto : List ScriptEntry → Data → Option (List ScriptEntry)
step_onto entries d = do
  step ← client_step d
  each_onto (read_onto (member_said (length entries) step.outcomes)) (entries ++ step.entry ∷ []) step.members

-- ---- clients

-- what clients submit, and their parts of it
abbrev pub Submitters : Type 0
Submitters = List ScriptEntry × List ClientScript

-- the number of a client: its place among the clients where it says none
abbrev pub client_number : ℕ → Option Data → Option ℕ
client_number place None = below_limit (2 ^ 16) place
client_number place (Some d) = whole_below (2 ^ 16) d

-- one client more
abbrev pub client_onto : Submitters → Data → Option Submitters
client_onto done d = do
  number ← client_number (length done.1) (get (codes "client") d)
  steps ← get (codes "steps") d >>= items_in
  entries ← each_onto step_onto done.0 steps
  Some (
    entries,
    done.1 ++ record {
      number = number;
      part = record { first = length done.0; end = length entries };
    } ∷ [],
  )
