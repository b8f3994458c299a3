-- What may stand at the keys of a condition, and what is told where something else does.
use Rattle.dsa_party_check.specs.declared.expectations.Expected.TheVariants as expected
use Rattle.dsa_scenario.specs.declared.fields.Form.TheVariants as form
use Rattle.std.specs.Prelude.{ℕ, ◌-◌, ◌^◌, ◌==◌, ◌||◌, Bool, false, cond, is_some, List, [], ◌∷◌, ◌++◌, codes, bytes_eq}
use Rattle.std.specs.Prelude.{zero, suc, flat_map, Option, Some, None}
use Rattle.std.specs.List.{list_any}
use Rattle.serde_json.specs.{Data.{Data}, Find.{get, as_str}}
use Rattle.dsa_scenario.specs.Fields.{◌>>=◌}
use Rattle.dsa_plans.specs.{Said.{whole_below}, PartyLabels.{items_or}}
use Rattle.dsa_questions.specs.{Conditions.{number_called}, Stating.{Nameable}}
use Rattle.dsa_questions.specs.Words.{became_called, being_called, phase_called, replied_called}
use Rattle.dsa_check.specs.{Lines.{named_text, wanted_of}, Reasons.{found_of}}
use Rattle.dsa_check.specs.declared.finding.Aim.TheVariants.{Value}
use Rattle.dsa_party_check.specs.declared.complaint.Inside.TheVariants.{All}
use Rattle.dsa_party_check.specs.declared.expectations.{Expected.{Expected}, Expectation.{Expectation}}
use Rattle.dsa_party_check.specs.{Complaints.{Complained}, Rules.{told_value}}

-- ---- what may stand there

-- a key, and what is expected there
abbrev pub expecting : Expectation → List ℕ × Expected
expecting expectation = (expectation.name.now, expectation.expected)

-- below what a number has to be
abbrev pub range_end : Nameable → Expected → ℕ
range_end names expected.Queue = names.queues
range_end names expected.Client = names.clients
range_end names expected.Administrator = names.administrators
range_end names _ = 2 ^ 16

-- the value is what is expected, where this may be named
abbrev pub is_as_expected : Nameable → Expected → Data → Bool
is_as_expected names expected.Entry d = is_some (as_str d >>= number_called names.labels)
is_as_expected names expected.Act d = is_some (as_str d >>= number_called names.acts)
is_as_expected names expected.Became d = is_some (as_str d >>= became_called) || is_some (as_str d >>= being_called)
is_as_expected names expected.Replied d = is_some (as_str d >>= replied_called)
is_as_expected names expected.Phase d = is_some (as_str d >>= phase_called)
is_as_expected names expected d = is_some (whole_below (range_end names expected) d)

-- the keys of a condition, by whose it is
abbrev pub entry_keys : List (List ℕ × Expected)
entry_keys = (codes "entry", expected.Entry) ∷ (codes "is", expected.Became)
    ∷ (codes "accepted-before", expected.Act) ∷ []

abbrev pub keys_beside_command : List (List ℕ × Expected)
keys_beside_command = (codes "command", expected.Act) ∷ (codes "is", expected.Replied)
    ∷ (codes "waits-for", expected.Entry) ∷ (codes "removes", expected.Entry) ∷ []

abbrev pub other_keys : List (List ℕ × Expected)
other_keys = (codes "queue", expected.Queue) ∷ (codes "phase", expected.Phase)
    ∷ (codes "occupancy", expected.Occupancy) ∷ (codes "device", expected.Phase)
    ∷ (codes "client", expected.Client) ∷ (codes "admin", expected.Administrator) ∷ []

abbrev pub keys_expected : Data → List (List ℕ × Expected)
keys_expected d = cond (is_some (get (codes "entry") d)) entry_keys
    (cond (is_some (get (codes "command") d)) keys_beside_command other_keys)

-- ---- what is told (profile)

-- a label is this text
abbrev pub is_label : List (List ℕ) → Option (List ℕ) → Bool
is_label labels None = false
is_label labels (Some text) = list_any (λ label. bytes_eq label text) labels

-- a label that is there, but that is not expected, is one of several
abbrev pub wanted_label_text : Bool → List ℕ
wanted_label_text there = cond there (codes "a label that one entry alone has") (codes "the label of an entry")

abbrev pub act_text : Bool → List ℕ
act_text there = cond there (codes "a label that one step of an administrator alone has")
    (codes "the label of a step of an administrator")

-- a number below this limit, or where there is none, another condition
abbrev pub below_text : ℕ → Data → List ℕ
below_text limit d = cond (limit == 0) (codes "another condition") (wanted_of (found_of d) (form.Whole 0 (limit - 1)))

-- the words that `is` may have
abbrev pub became_words : List ℕ
became_words = codes "\"accepted\", \"retry\", \"dropped\", \"completed\", \"successful\", \"failed\", "
    ++ codes "\"aborted\", \"abandoned\", \"held\" or \"waiting\""

abbrev pub replied_words : List ℕ
replied_words = codes "\"ended\", \"active\", \"refused\", \"finished\", \"nothing\", "
    ++ codes "\"written\" or \"cleared\""

abbrev pub expected_text : Nameable → Expected → Data → List ℕ
expected_text names expected.Entry d = wanted_label_text (is_label names.labels (as_str d))
expected_text names expected.Act d = act_text (is_label names.acts (as_str d))
expected_text names expected.Became d = became_words
expected_text names expected.Replied d = replied_words
expected_text names expected.Phase d = codes "\"off\", \"on\" or \"stopping\""
expected_text names expected d = below_text (range_end names expected) d

-- the key, what is there, and what is expected
abbrev pub expected_reason : Nameable → List ℕ → Expected → Data → List ℕ
expected_reason names name expected d = named_text name false ++ (codes " is " ++ (told_value d (as_str d)
    ++ (codes ", " ++ (expected_text names expected d ++ codes " is wanted"))))

-- something is wrong with the condition of a question, or with a part of it
abbrev pub condition_complaint : List ℕ → Complained
condition_complaint reason = record { inside = All; aim = Value; name = Some (codes "that"); reason = reason }

abbrev pub of_expected : Nameable → List ℕ → Expected → Option Data → List Complained
of_expected names name expected None = []
of_expected names name expected (Some d) =
    cond (is_as_expected names expected d) [] (condition_complaint (expected_reason names name expected d) ∷ [])

-- what is wrong with one key of a condition, and with some
abbrev pub of_expectation : Nameable → Data → List ℕ × Expected → List Complained
of_expectation names d e = of_expected names e.0 e.1 (get e.0 d)

abbrev pub of_expectations : Nameable → Data → List (List ℕ × Expected) → List Complained
of_expectations names d es = flat_map (of_expectation names d) es

-- of what stands at `not`, or else of the condition itself
abbrev pub of_single : (Data → List Complained) → Nameable → Data → Option Data → List Complained
of_single inner names d (Some negated) = inner negated
of_single inner names d None = of_expectations names d (keys_expected d)

-- of what stands at `all` or `any`, or else of one condition
abbrev pub of_one_key : (Data → List Complained) → Nameable → Data → List Complained
of_one_key inner names d = cond (is_some (get (codes "all") d)) (flat_map inner (items_or (codes "all") d))
    (cond (is_some (get (codes "any") d)) (flat_map inner (items_or (codes "any") d))
    (of_single inner names d (get (codes "not") d)))

-- what is wrong with a condition and with those in it, which are nested so deep at most
abbrev pub of_condition : ℕ → Nameable → Data → List Complained
of_condition zero names d = []
of_condition (suc depth) names d = of_one_key (of_condition depth names) names d
