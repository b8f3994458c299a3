-- Parties of documents that the worked rows speak of.
use Rattle.std.specs.Prelude.{ℕ, false, List, [], ◌∷◌, ◌++◌, codes, replicate}
use Rattle.serde_json.specs.{Data.{Data, boolean, string, array}, View.{items_of}}
use Rattle.dsa_desc.specs.declared.Descriptor.{Descriptor}
use Rattle.dsa_book.specs.declared.event.{Kind.TheVariants.{Movdir64b}, Portal.TheVariants.{Unlimited}}
use Rattle.dsa_parties.specs.declared.script.{Act.{Act}, Part.{Part}, ScriptEntry.{ScriptEntry}}
use Rattle.dsa_parties.specs.declared.script.{ClientScript.{ClientScript}, Submission.{Submission}}
use Rattle.dsa_parties.specs.declared.script.Origin.TheVariants.{Submitted, Fetched}
use Rattle.dsa_parties.specs.declared.script.Outcomes.{Outcomes, TheVariants.{SuccessAlone}}
use Rattle.dsa_parties.specs.declared.script.RetryPolicy.{RetryPolicy}
use Rattle.dsa_plans.specs.Plans.{Tables}
use Rattle.dsa_scenario.specs.Worked.{Fields, fill, fill_text, object_of, step_of_kind, whole}

-- an array
abbrev pub listing : List Data → Data
listing ds = array (items_of ds)

-- ---- steps

-- a submission to queue 2, with these further fields
abbrev pub movdir_to : List ℕ → Fields → Data
movdir_to desc more = object_of (step_of_kind (codes "movdir") (
    (codes "queue", whole 2) ∷ (codes "limited", boolean false) ∷ (codes "desc", string desc) ∷ more))

-- that of a Fill
abbrev pub fill_step : Fields → Data
fill_step more = movdir_to fill_text more

-- the 33 bytes of a Batch of two
abbrev pub text_of_batch : List ℕ
text_of_batch = codes "0000000000000001" ++ replicate 48 0x30 ++ codes "02"

-- that of such a Batch
abbrev pub batch_step : Fields → Data
batch_step more = movdir_to text_of_batch more

-- a member that may have a fault
abbrev pub member_that_may_fail : Data
member_that_may_fail = object_of ((codes "desc", string fill_text) ∷ (codes "fault", string (codes "may")) ∷ [])

-- the members of such a Batch
abbrev pub two_members : List ℕ × Data
two_members = (codes "members", listing (string fill_text ∷ member_that_may_fail ∷ []))

-- ---- what they submit

abbrev pub movdir_by : RetryPolicy → ℕ → Submission
movdir_by retry members =
    record { queue = 2; portal = Unlimited; kind = Movdir64b; retry = retry; members = members }

abbrev pub fill_entry : Outcomes → RetryPolicy → ScriptEntry
fill_entry outcomes retry =
    record { desc = fill; outcomes = outcomes; origin = Submitted (movdir_by retry 0) }

abbrev pub batch_of_two : Descriptor
batch_of_two = record { pasid = 0; flags = 0; op = 1; size = 2 }

abbrev pub batch_entry : RetryPolicy → ScriptEntry
batch_entry retry =
    record { desc = batch_of_two; outcomes = SuccessAlone; origin = Submitted (movdir_by retry 2) }

abbrev pub member_entry : ℕ → Outcomes → ScriptEntry
member_entry batch outcomes = record { desc = fill; outcomes = outcomes; origin = Fetched batch }

-- ---- parties

-- a party with these steps, and with these further fields
abbrev pub party_with : List Data → Fields → Data
party_with steps more = object_of ((codes "steps", listing steps) ∷ more)

abbrev pub party : List Data → Data
party steps = party_with steps []

-- a document with such an object `parties`
abbrev pub document_with : Fields → Data
document_with parties = object_of ((codes "parties", object_of parties) ∷ [])

-- a document with these clients and administrators
abbrev pub document_for : List Data → List Data → Data
document_for clients administrators =
    document_with ((codes "clients", listing clients) ∷ (codes "admins", listing administrators) ∷ [])

-- a client with this number and this part
abbrev pub client_between : ℕ → ℕ → ℕ → ClientScript
client_between number first end = record { number = number; part = record { first = first; end = end } }

abbrev pub acts_between : ℕ → ℕ → Part
acts_between first end = record { first = first; end = end }

-- tables with these acts alone
abbrev pub tables_of_acts : List Act → Tables
tables_of_acts acts = record { entries = []; clients = []; acts = acts; administrators = []; engines = [] }
