-- What may stand at the keys of parties and of their steps, and what is told where something else does.
use Rattle.dsa_book.specs.declared.event.Event.TheVariants as event
use Rattle.dsa_party_check.specs.declared.rules.Want.TheVariants as want
use Rattle.dsa_scenario.specs.declared.actions.StepKind.TheVariants as kind
use Rattle.dsa_scenario.specs.declared.fields.Form.TheVariants as form
use Rattle.std.specs.Prelude.{ℕ, ◌+◌, ◌==◌, Bool, true, false, not, cond, ◌||◌, is_some, is_none, nat_lt}
use Rattle.std.specs.Prelude.{if◌then◌else◌, List, [], ◌∷◌, ◌++◌, length, flat_map, codes, decimal, bytes_eq}
use Rattle.std.specs.Prelude.{Option, Some, None}
use Rattle.serde_json.specs.{Data.{Data}, Find.{get, as_str, as_object}}
use Rattle.dsa_event_text.specs.Text.{count_text}
use Rattle.dsa_scenario.specs.declared.{fields.Form.{Form}, actions.StepKind.{StepKind}}
use Rattle.dsa_scenario.specs.declared.actions.Action.{Action, TheVariants.{Ask}}
use Rattle.dsa_scenario.specs.{Fields.{Row}, Actions.{action_of, kind_of}}
use Rattle.dsa_parties.specs.declared.script.{Outcomes.TheVariants.{SuccessAlone}, RetryPolicy.TheVariants.{GiveUp}}
use Rattle.dsa_parties.specs.declared.script.Until.TheVariants.{Once}
use Rattle.dsa_plans.specs.Said.{read_or, retry_said, outcomes_said, busy_said, until_said}
use Rattle.dsa_questions.specs.Reading.{name_by}
use Rattle.dsa_check.specs.Lines.{named_text, found_text, wanted_of, digits_text}
use Rattle.dsa_check.specs.Reasons.{found_of, fits_form, is_of_form, is_plain, first_no_digit}
use Rattle.dsa_check.specs.declared.finding.Aim.{Aim, TheVariants.{Whole, Value}}
use Rattle.dsa_party_check.specs.declared.complaint.Inside.{Inside}
use Rattle.dsa_party_check.specs.declared.rules.{Rule.{Rule}, Want.{Want}}
use Rattle.dsa_party_check.specs.Complaints.{Complained, plain_complaint}

-- ---- what may stand there

-- a key, and what is wanted there
abbrev pub Wanting : Type 0
Wanting = List ℕ × Want

abbrev pub wanting_of : Rule → Wanting
wanting_of rule = (rule.name.now, rule.want)

-- a client makes steps of this kind
abbrev pub is_submitted : Option StepKind → Bool
is_submitted (Some kind.Enqcmd) = true
is_submitted (Some kind.Movdir) = true
is_submitted kind = false

-- an administrator does
abbrev pub is_acted : Option StepKind → Bool
is_acted (Some kind.Queue) = true
is_acted (Some kind.Group) = true
is_acted (Some kind.Command) = true
is_acted (Some kind.Poll) = true
is_acted (Some kind.Clear) = true
is_acted kind = false

-- a command is asked for
abbrev pub is_issued : Option Action → Bool
is_issued (Some (Ask (event.Issue command))) = true
is_issued action = false

-- the object has at the key what is wanted
abbrev pub is_kept : List ℕ → Want → Data → Bool
is_kept name (want.Needed form) d = fits_form form (get name d)
is_kept name (want.Allowed form) d = is_none (get name d) || fits_form form (get name d)
is_kept name want.Nothing d = is_none (get name d)
is_kept name want.Submits d = is_submitted (kind_of d)
is_kept name want.Acts d = is_acted (kind_of d)
is_kept name want.Word d = is_issued (action_of d)
is_kept name want.Retry d = is_some (read_or GiveUp retry_said (get (codes "retry") d))
is_kept name want.Fault d = is_some (read_or SuccessAlone outcomes_said (get (codes "fault") d))
is_kept name want.Busy d = is_some (read_or false busy_said (get (codes "busy") d))
is_kept name want.Until d = is_some (read_or Once until_said (get (codes "until") d))
is_kept name want.Name d = is_some (name_by 0 (get (codes "name") d))

-- ---- what is told (profile)

-- what is wanted, where this is found
abbrev pub want_text : Want → Data → List ℕ
want_text (want.Needed form) d = wanted_of (found_of d) form
want_text (want.Allowed form) d = wanted_of (found_of d) form
want_text want.Submits d = codes "\"enqcmd\" or \"movdir\""
want_text want.Acts d = codes "\"queue\", \"group\", \"command\", \"poll\" or \"clear\""
want_text want.Word d = codes "the word of a command"
want_text want.Retry d = codes "\"give-up\", \"again\" or a whole number from 0 to 4294967295"
want_text want.Fault d = codes "true, false or \"may\""
want_text want.Busy d = codes "\"give-up\" or \"again\""
want_text want.Until d = codes "\"once\", \"finished\" or \"over\""
want_text want.Name d = codes "a text of 1 to 80 printable ASCII characters other than \" and \\"
want_text want.Nothing d = codes "nothing"

-- a value, as it is told: a text as it stands, where that is short and plain
abbrev pub told_value : Data → Option (List ℕ) → List ℕ
told_value d (Some text) = if is_plain text then codes "\"" ++ (text ++ codes "\"") else codes "a text"
told_value d None = found_text (found_of d)

-- how many digits there may be, if there are so many
abbrev pub digits_wanted : ℕ → List ℕ
digits_wanted count =
    if nat_lt 128 count then codes ", at most 128 are wanted" else codes ", an even number is wanted"

-- what is wrong with so many characters, of which the first that is no hexadecimal digit has this place
abbrev pub flaw_of_digits : ℕ → Option ℕ → List ℕ
flaw_of_digits count (Some before) = codes " has no hexadecimal digit at character " ++ decimal (before + 1)
flaw_of_digits count None = digits_text count ++ digits_wanted count

abbrev pub digits_flaw_text : List ℕ → List ℕ
digits_flaw_text text = flaw_of_digits (length text) (first_no_digit text)

-- digits are wanted
abbrev pub wants_digits : Want → Bool
wants_digits (want.Needed form.Digits) = true
wants_digits _ = false

abbrev pub wanted_instead : Want → Data → List ℕ
wanted_instead want d =
    codes " is " ++ (told_value d (as_str d) ++ (codes ", " ++ (want_text want d ++ codes " is wanted")))

-- what is said of a text and of another value that may not stand there
abbrev pub unkept_value : Want → Data → Option (List ℕ) → List ℕ
unkept_value want d (Some text) = if wants_digits want then digits_flaw_text text else wanted_instead want d
unkept_value want d None = wanted_instead want d

abbrev pub unkept_text : Want → Data → List ℕ
unkept_text want.Nothing d = codes " may not stand here"
unkept_text want d = unkept_value want d (as_str d)

-- what is said of a key, where this stands there
abbrev pub reason_at : List ℕ → Want → Option Data → List ℕ
reason_at name want None = named_text name false ++ codes " is missing"
reason_at name want (Some d) = named_text name false ++ unkept_text want d

-- a missing key is told of the whole object
abbrev pub aim_at : Option Data → Aim
aim_at None = Whole
aim_at (Some d) = Value

abbrev pub unkept : Inside → List ℕ → Want → Option Data → Complained
unkept inside name want found =
    record { inside = inside; aim = aim_at found; name = Some name; reason = reason_at name want found }

-- what is told of one rule, and of some
abbrev pub of_rule : Inside → Data → Wanting → List Complained
of_rule inside d rule = if is_kept rule.0 rule.1 d then [] else unkept inside rule.0 rule.1 (get rule.0 d) ∷ []

abbrev pub of_rules : Inside → Data → List Wanting → List Complained
of_rules inside d rules = flat_map (of_rule inside d) rules

-- of the keys of a kind of steps; a party's step has no client of its own, whatever the kind asks for
abbrev pub of_field : Inside → Data → Row → List Complained
of_field inside d row =
    if bytes_eq row.0 (codes "client") then [] else of_rule inside d (row.0, want.Needed row.1)

abbrev pub of_fields : Inside → Data → List Row → List Complained
of_fields inside d rows = flat_map (of_field inside d) rows

-- what is told of a value that is no object
abbrev pub no_object : Inside → Data → List Complained
no_object inside d =
    plain_complaint inside (found_text (found_of d) ++ codes " stands here, an object is wanted") ∷ []

-- what is told of an object, or that the value is none
abbrev pub of_object : Inside → Data → List Complained → List Complained
of_object inside d complaints = cond (is_some (as_object d)) complaints (no_object inside d)
