-- What is wrong with the questions of a document, all of it, in the order in which they are read.
use Rattle.dsa_party_check.specs.declared.rules.Want.TheVariants as want
use Rattle.dsa_party_check.specs.declared.complaint.Subject.TheVariants as subject
use Rattle.dsa_scenario.specs.declared.fields.Form.TheVariants as form
use Rattle.std.specs.Prelude.{ℕ, ◌+◌, Bool, cond, List, [], ◌∷◌, ◌++◌, length, codes, Option, Some, None}
use Rattle.std.specs.Prelude.{Result, Ok, Err}
use Rattle.serde_json.specs.{Data.{Data}, Find.{get}}
use Rattle.dsa_regs.specs.declared.Caps.{Caps}
use Rattle.dsa_scenario.specs.declared.faults.ScenarioFault.{ScenarioFault, TheVariants.{BadQuestion}}
use Rattle.dsa_plans.specs.{Said.{items_in, read_or}, PartyLabels.{act_labels, entry_labels, numbered_from}}
use Rattle.dsa_plans.specs.Plans.{Tables, parties_said}
use Rattle.dsa_questions.specs.declared.question.Kind.{Kind, TheVariants.{Never, Sometimes, Always}}
use Rattle.dsa_questions.specs.{Judging.{is_formed, is_question}, Reading.{key_of, most_nested}, Stating.{Nameable}}
use Rattle.dsa_check.specs.Judgement.{caps_at}
use Rattle.dsa_party_check.specs.declared.complaint.Inside.TheVariants.{All}
use Rattle.dsa_party_check.specs.{Complaints.{Complained, Flawed, flaws_of}, Flaws.{flaws_of_document}}
use Rattle.dsa_party_check.specs.Expectations.{condition_complaint, of_condition}
use Rattle.dsa_party_check.specs.{Rules.{Wanting, of_object, of_rule, of_rules}, Strays.{stray_complaints}}

-- ---- a question

abbrev pub question_rules : List Wanting
question_rules = (codes "name", want.Name) ∷ (codes "that", want.Needed form.Object) ∷ []

abbrev pub question_names : List (List ℕ)
question_names = codes "name" ∷ codes "that" ∷ []

-- what is wrong with its condition, where it is known what may be named
abbrev pub that_complaints : Option Nameable → Option Data → List Complained
that_complaints (Some names) (Some that) = of_condition most_nested names that
that_complaints names that = []

-- something is told of what cannot be read
abbrev pub or_no_condition : List Complained → List Complained
or_no_condition [] = condition_complaint (codes "\"that\" is no condition") ∷ []
or_no_condition (complaint ∷ more) = complaint ∷ more

-- the question can be read; where it is not known what may be named, it has the keys of one
abbrev pub is_readable : Option Nameable → Kind → Data → Bool
is_readable None kind d = is_formed d
is_readable (Some names) kind d = is_question kind names d

-- what is wrong with a question that cannot be read
abbrev pub question_complaints : Option Nameable → Kind → Data → List Complained
question_complaints names kind d = cond (is_readable names kind d) [] (or_no_condition (of_object All d
    (of_rules All d question_rules ++ stray_complaints All question_names d
    ++ that_complaints names (get (codes "that") d))))

-- ---- all questions

-- the question at a place of its list, which begins with this number
abbrev pub question_flaws : Option Nameable → Kind → ℕ → ℕ → Data → List Flawed
question_flaws names kind first place d =
    flaws_of (BadQuestion (first + place)) (subject.Question kind place) (question_complaints names kind d)

-- what stands at the key of a kind: a list of questions, or what is no list
abbrev pub questions_at : Kind → Data → Option (List Data)
questions_at kind document = read_or [] items_in (get (key_of kind) document)

-- what is no list counts as one question
abbrev pub count_of_list : Option (List Data) → ℕ
count_of_list (Some ds) = length ds
count_of_list None = 1

abbrev pub list_flaws : Option Nameable → Kind → ℕ → Data → Option (List Data) → List Flawed
list_flaws names kind first document (Some ds) = numbered_from (question_flaws names kind first) 0 ds
list_flaws names kind first document None = flaws_of (BadQuestion first) subject.Document
    (of_rule All document (key_of kind, want.Allowed form.Array))

-- those of a kind, from this number on
abbrev pub kind_flaws : Option Nameable → Data → Kind → ℕ → List Flawed
kind_flaws names document kind first = list_flaws names kind first document (questions_at kind document)

-- those of `never` come first, those of `always` last
abbrev pub questions_flaws : Option Nameable → Data → List Flawed
questions_flaws names document =
    let nevers = count_of_list (questions_at Never document) in
    kind_flaws names document Never 0 ++ kind_flaws names document Sometimes nevers
    ++ kind_flaws names document Always (nevers + count_of_list (questions_at Sometimes document))

-- ---- what they may name

-- what questions may name where these are the parties, which can be read
abbrev pub names_read : Caps → Data → Result Tables ScenarioFault → Option Nameable
names_read caps d (Err fault) = None
names_read caps d (Ok tables) = Some (record {
  labels = entry_labels d;
  acts = act_labels d;
  queues = caps.queues;
  clients = length tables.clients;
  administrators = length tables.administrators;
})

abbrev pub names_by_caps : Data → Data → Option Caps → Option Nameable
names_by_caps document d None = None
names_by_caps document d (Some caps) = names_read caps d (parties_said caps.engines document)

abbrev pub questions_flaws_at : Data → Option Data → List Flawed
questions_flaws_at document None = []
questions_flaws_at document (Some d) = questions_flaws (names_by_caps document d (caps_at document)) document

-- all that is wrong with the questions of a document; without parties nothing is (profile)
abbrev pub flaws_of_questions : Data → List Flawed
flaws_of_questions document = questions_flaws_at document (get (codes "parties") document)

-- and with its parties, which come first
abbrev pub all_flaws_of : Data → List Flawed
all_flaws_of document = flaws_of_document document ++ flaws_of_questions document
