-- Steps in the strict form: the members of each, in the order in which they are written.
use Rattle.dsa_scenario.specs.declared.actions.StepKind.TheVariants as kind
use Rattle.std.specs.Prelude.{ℕ, Bool, false, not, ◌&&◌, ◌||◌, if◌then◌else◌, List, [], ◌∷◌, ◌++◌, Option, Some, None}
use Rattle.std.specs.Prelude.{option_and_then, option_map, is_some, codes, bytes_eq, filter}
use Rattle.std.specs.List.{list_any}
use Rattle.serde_json.specs.Data.{Data, number, string, array, object, unsigned, Members, no_members, put}
use Rattle.serde_json.specs.Find.{get, as_str, as_array, as_object}
use Rattle.dsa_scenario.specs.declared.actions.StepKind.{StepKind}
use Rattle.dsa_book.specs.declared.answer.Ticket.{Ticket}
use Rattle.dsa_scenario.specs.{declared.run.Record.{Record}, Run.{ticket_given_by}}
use Rattle.dsa_scenario.specs.{Fields.{◌>>=◌, text_of, Row}, Document.{list_of_items}, Actions.{kind_of, kind_text, rows_of_kind, action_of}}
use Rattle.dsa_expand.specs.Values.{set_of, pairs_of}
use Rattle.dsa_expand.specs.{Commands.{word_said}, Descriptors.{descriptor_said, digits_of_descriptor}}

-- a key and what stands there
abbrev pub Pair : Type 0
Pair = List ℕ × Data

-- the members, and these besides; of a key that comes twice the last counts
abbrev pub put_all : List Pair → Members → Members
put_all [] ms = ms
put_all (p ∷ ps) ms = put_all ps (put p.0 p.1 ms)

-- the object with these members
abbrev pub object_with : List Pair → Data
object_with ps = object (put_all ps no_members)

-- ---- own names

-- a text that a step has at `as`, and the name that it gave
abbrev pub Given : Type 0
Given = List ℕ × ℕ

-- the name that was given last under the text, or else this
abbrev pub named_onto : Option ℕ → List Given → List ℕ → Option ℕ
named_onto found [] text = found
named_onto found (given ∷ more) text = named_onto (if bytes_eq given.0 text then Some given.1 else found) more text

abbrev pub given_name : List Given → List ℕ → Option ℕ
given_name given text = named_onto None given text

-- what is known of names: those that were given so far, or where no device can be made nothing
abbrev pub Known : Type 0
Known = Option (List Given)

-- the name that is known under the text; where nothing is known any text has one
abbrev pub known_name : Known → List ℕ → Option ℕ
known_name None text = Some 0
known_name (Some given) text = given_name given text

-- a step with a text at `as`, and the ticket that it was given
abbrev pub given_by : (as_text : Option (List ℕ)) → Option Ticket → List Given
given_by (Some text) (Some ticket) = (text, ticket.name) ∷ []
given_by _ _ = []

-- the names that were given after one step more, with this record
abbrev pub with_given : List Given → Data → Record → List Given
with_given given step entry = given ++ given_by (text_of (codes "as") step) (ticket_given_by entry)

-- and after these steps, with these records
abbrev pub given_onto : List Given → List Data → List Record → List Given
given_onto given (d ∷ ds) (entry ∷ entries) = given_onto (with_given given d entry) ds entries
given_onto given _ _ = given

-- ---- what stands at the keys of a strict step

abbrev pub number_at : ℕ → Data
number_at n = number (unsigned n)

-- a descriptor as its digits (profile)
abbrev pub strict_descriptor : Data → Option Data
strict_descriptor (object ms) = option_map (λ d. string (digits_of_descriptor d)) (descriptor_said (object ms))
strict_descriptor d = Some d

-- a list of the numbers of queues or engines as the set of them (profile)
abbrev pub strict_set : Data → Option Data
strict_set (array ds) = option_map number_at (set_of 0 64 (list_of_items ds))
strict_set d = Some d

-- an own name as the name that was given under it (profile)
abbrev pub strict_name : Known → Data → Option Data
strict_name known (string text) = option_map number_at (known_name known text)
strict_name known d = Some d

-- what stands at the key, in the strict form
abbrev pub strict_value : Known → List ℕ → Data → Option Data
strict_value known key d =
    if bytes_eq key (codes "desc") then strict_descriptor d
    else if bytes_eq key (codes "queues") || bytes_eq key (codes "engines") then strict_set d
    else if bytes_eq key (codes "name") then strict_name known d
    else Some d

-- the command word: what stands at `word`, or that of the command at `command`, but not both (profile)
abbrev pub strict_word : Data → (word command : Option Data) → Option Data
strict_word step (Some word) None = Some word
strict_word step None (Some called) = option_map number_at (word_said step called)
strict_word step _ _ = None

abbrev pub strict_at : Known → Data → List ℕ → Option Data
strict_at known step key =
    if bytes_eq key (codes "word") then strict_word step (get (codes "word") step) (get (codes "command") step)
    else option_and_then (strict_value known key) (get key step)

-- ---- strict steps

-- these members, and those at the keys of the rows
abbrev pub fields_onto : Known → Data → List Pair → List Row → Option (List Pair)
fields_onto known step done [] = Some done
fields_onto known step done (row ∷ rows) =
    strict_at known step row.0 >>= λ d. fields_onto known step (done ++ (row.0, d) ∷ []) rows

-- a command by its name, and keys that say it
abbrev pub says_command : StepKind → Data → Bool
says_command kind.Command step = is_some (get (codes "command") step)
says_command _ step = false

abbrev pub is_said_by : List ℕ → Bool
is_said_by key = bytes_eq key (codes "command") || bytes_eq key (codes "operand") || bytes_eq key (codes "queues")

-- the strict step has it among the keys of its kind, or says it otherwise
abbrev pub is_in_strict : StepKind → Data → List ℕ → Bool
is_in_strict kind step key =
    bytes_eq key (codes "do") || list_any (λ row. bytes_eq row.0 key) (rows_of_kind kind)
    || (says_command kind step && is_said_by key)

-- all other members of the step, as a note
abbrev pub other_members : StepKind → Data → List Pair
other_members kind step = filter (λ pair. not (is_in_strict kind step pair.0)) (pairs_of step)

-- the members of the strict step: its kind, the keys of the kind in their order, and the others
abbrev pub strict_by : Known → StepKind → Data → Option (List Pair)
strict_by known kind step =
    option_map (λ fields. fields ++ other_members kind step)
    (fields_onto known step ((codes "do", string (kind_text kind)) ∷ []) (rows_of_kind kind))

-- where what comes of it is a step object
abbrev pub if_step : List Pair → Option (List Pair)
if_step ps = if is_some (action_of (object_with ps)) then Some ps else None

-- the strict step that a step object means, where so much is known of names (profile)
abbrev pub strict_step : Known → Data → Option (List Pair)
strict_step known step = kind_of step >>= λ kind. strict_by known kind step >>= if_step

-- ---- friendly steps

-- what stands at the key is of the friendly form
abbrev pub is_friendly_value : List ℕ → Data → Bool
is_friendly_value key d =
    if bytes_eq key (codes "desc") then is_some (as_object d)
    else if bytes_eq key (codes "queues") || bytes_eq key (codes "engines") then is_some (as_array d)
    else if bytes_eq key (codes "name") then is_some (as_str d)
    else false

abbrev pub is_friendly_at : Data → List ℕ → Bool
is_friendly_at step key = is_some (get key step >>= λ d. if is_friendly_value key d then Some d else None)

-- a step of this kind has something in the friendly form
abbrev pub is_friendly_by : Data → Option StepKind → Bool
is_friendly_by step None = false
is_friendly_by step (Some kind) =
    says_command kind step || list_any (λ row. is_friendly_at step row.0) (rows_of_kind kind)

abbrev pub is_friendly : Data → Bool
is_friendly step = is_friendly_by step (kind_of step)
