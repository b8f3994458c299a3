-- What is odd in a document, and no fault of it: all of it, in order.
use Rattle.dsa_scenario.specs.declared.actions.StepKind.TheVariants as kind
use Rattle.dsa_scenario.specs.declared.fields.Form.TheVariants as form
use Rattle.std.specs.Prelude.{◌≡◌, ℕ, suc, Bool, false, not, ◌&&◌, is_some, if◌then◌else◌, List, [], ◌∷◌, ◌++◌}
use Rattle.std.specs.Prelude.{map, flat_map, filter, codes, bytes_eq, Option, Some, None, IsSomeAnd, IfSome, slice_get}
use Rattle.std.specs.List.{AllByRecursion, list_any}
use Rattle.serde_json.specs.{Data.{Data}, Find.{get}}
use Rattle.dsa_scenario.specs.declared.faults.ScenarioFault.{ScenarioFault, TheVariants.{BadDocument, BadStep, BadCaps}}
use Rattle.dsa_scenario.specs.{declared.actions.StepKind.{StepKind}, Fields.{Row, text_of}}
use Rattle.dsa_scenario.specs.{Actions.{rows_of_kind, kind_of}, Document.{IsJson, IsNoJson}}
use Rattle.dsa_named.specs.Names.{own_text}
use Rattle.dsa_check.specs.declared.finding.{Finding.{Finding}, Place.{Place}, Reason.{Reason}}
use Rattle.dsa_check.specs.{Findings.{IsNowhere, IsOfOne, IsOfAny}, Judgement.{step_items_of}, Places.{BeginsOnLine}}
use Rattle.dsa_check.specs.Lines.{unfit_text, no_own_name_text, stray_text, twice_text, reason_text}
use Rattle.dsa_check.specs.Reasons.{found_of, is_of_form, is_plain, distance_of, nearest, near_key, keys_of}
use Rattle.dsa_check.specs.Reasons.{calls_command}
use Rattle.dsa_check.specs.Repeats.{keys_written, caps_written, step_written, keys_again}
use Rattle.dsa_check.specs.Tables.{document_rows, caps_rows}
use Rattle.json.specs.Json.{Json, document}

-- ---- keys that are known here

abbrev pub names_of : List Row → List (List ℕ)
names_of rows = map (λ row. row.0) rows

-- a remark, which any object may have and nothing reads
abbrev pub remark_names : List (List ℕ)
remark_names = codes "note" ∷ []

-- what a document may have beside the keys that a run reads: the parties of a search, its questions, and a remark
abbrev pub document_names : List (List ℕ)
document_names = codes "parties" ∷ codes "never" ∷ codes "sometimes" ∷ codes "always" ∷ remark_names

-- what a step may have beside the keys of its kind: the kind, what another device was seen to answer, and a remark
abbrev pub step_names : List (List ℕ)
step_names = codes "do" ∷ codes "answer" ∷ codes "zf" ∷ remark_names

-- the own name that a step may give to its entry
abbrev pub own_names : List (List ℕ)
own_names = codes "as" ∷ []

-- what says a command by its name
abbrev pub command_keys : List (List ℕ)
command_keys = codes "command" ∷ codes "operand" ∷ codes "queues" ∷ []

-- a step has no word, and calls its command by its name
abbrev pub has_no_word : Data → Bool
has_no_word step = not (is_some (get (codes "word") step)) && calls_command step

-- what a step of a kind may have for `expand`: an own name where it gives a name, and in place of a word what says it
abbrev pub friendly_names : StepKind → Data → List (List ℕ)
friendly_names kind.Enqcmd step = own_names
friendly_names kind.Movdir step = own_names
friendly_names kind.Fetch step = own_names
friendly_names kind.Command step = if has_no_word step then command_keys else []
friendly_names _ step = []

abbrev pub is_named : List (List ℕ) → List ℕ → Bool
is_named names key = list_any (λ name. bytes_eq name key) names

-- ---- keys that nothing reads (profile)

abbrev pub list_of : {X : Type 0} → Option X → List X
list_of None = []
list_of (Some x) = x ∷ []

-- the key that a fault tells as the spelling of the one of this name, which is missing
abbrev pub told_for : Data → List Row → List ℕ → List (List ℕ)
told_for d rows name = if is_some (get name d) then [] else list_of (near_key d rows name)

abbrev pub told_keys : Data → List Row → List (List ℕ)
told_keys d rows = flat_map (λ row. told_for d rows row.0) rows

-- nothing reads the key, and no fault tells it
abbrev pub is_stray : (names told : List (List ℕ)) → List ℕ → Bool
is_stray names told key = not (is_named names key) && not (is_named told key)

-- the key, where it can be told as it stands
abbrev pub plain_key : List ℕ → Option (List ℕ)
plain_key key = if is_plain key then Some key else None

-- the known key that is nearest to this one
unfoldable pub near_name : List (List ℕ) → List ℕ → Option (List ℕ)
near_name names key = nearest (λ name. distance_of name key) names

abbrev pub stray_key_text : List (List ℕ) → List ℕ → List ℕ
stray_key_text names key = stray_text (plain_key key) (near_name names key)

-- the keys of an object that nothing reads, where it has these rows and these names besides
abbrev pub stray_texts : Data → List Row → List (List ℕ) → List (List ℕ)
stray_texts d rows more =
    map (stray_key_text (names_of rows ++ more))
    (filter (is_stray (names_of rows ++ more) (told_keys d rows)) (keys_of d))

-- ---- keys that come twice (profile)

abbrev pub twice_key_text : List ℕ → List ℕ
twice_key_text key = twice_text (plain_key key)

-- of the keys of an object in the text; where a key comes more than once the last value counts
abbrev pub twice_texts : List (List ℕ) → List (List ℕ)
twice_texts there = map twice_key_text (keys_again there)

-- ---- what another device was seen to answer

-- it has another form than `conform` reads (profile)
abbrev pub odd_text : Row → Data → List ℕ
odd_text row d = unfit_text row.0 false (found_of d) row.1

abbrev pub odd_value : Row → Option Data → List (List ℕ)
odd_value row None = []
odd_value row (Some d) = if is_of_form row.1 d then [] else odd_text row d ∷ []

abbrev pub odd_at : Data → Row → List (List ℕ)
odd_at step row = odd_value row (get row.0 step)

abbrev pub answer_row : Row
answer_row = (codes "answer", form.Text)

abbrev pub flag_row : Row
flag_row = (codes "zf", form.Truth)

-- ---- own names

abbrev pub name_row : Row
name_row = (codes "as", form.Text)

-- a text stands where a step has its own name, and is none
abbrev pub has_wrong_name : Data → Bool
has_wrong_name step = is_some (text_of (codes "as") step) && not (is_some (own_text step))

-- what stands there is no text, or a text that is no own name (profile)
abbrev pub odd_name : Data → List (List ℕ)
odd_name step = odd_at step name_row ++ (if has_wrong_name step then no_own_name_text ∷ [] else [])

-- the same of a step of a kind that gives a name
abbrev pub odd_name_of_kind : Data → Option StepKind → List (List ℕ)
odd_name_of_kind step (Some kind.Enqcmd) = odd_name step
odd_name_of_kind step (Some kind.Movdir) = odd_name step
odd_name_of_kind step (Some kind.Fetch) = odd_name step
odd_name_of_kind step _ = []

-- ---- the warnings of each part

-- a warning, by its part, the kind of the step, and what is odd there
abbrev pub Warned : Type 0
Warned = ScenarioFault × Option StepKind × List ℕ

abbrev pub warned_in : ScenarioFault → Option StepKind → List (List ℕ) → List Warned
warned_in part kind texts = map (λ text. (part, kind, text)) texts

-- the keys of an object of a kind; of none nobody knows them
abbrev pub stray_texts_of_kind : Data → Option StepKind → List (List ℕ)
stray_texts_of_kind step None = []
stray_texts_of_kind step (Some kind) = stray_texts step (rows_of_kind kind) (step_names ++ friendly_names kind step)

-- what is odd in an item of the steps, which has these keys in the text
abbrev pub step_texts : List (List ℕ) → Data → List (List ℕ)
step_texts there step = odd_at step answer_row ++ odd_at step flag_row ++ odd_name_of_kind step (kind_of step)
    ++ stray_texts_of_kind step (kind_of step) ++ twice_texts there

abbrev pub warnings_of_step : Option Json → ℕ → Data → List Warned
warnings_of_step written i step =
    warned_in (BadStep i) (kind_of step) (step_texts (keys_written (step_written written i)) step)

-- of the items, of which the first has this number
abbrev pub step_warnings : Option Json → ℕ → List Data → List Warned
step_warnings written i [] = []
step_warnings written i (d ∷ ds) = warnings_of_step written i d ++ step_warnings written (suc i) ds

-- what is odd in an object that is no step, with these rows and these names besides
abbrev pub object_texts : List (List ℕ) → Data → List Row → List (List ℕ) → List (List ℕ)
object_texts there d rows more = stray_texts d rows more ++ twice_texts there

abbrev pub document_warnings : Option Json → Data → List Warned
document_warnings written d =
    warned_in BadDocument None (object_texts (keys_written written) d document_rows document_names)

abbrev pub caps_warnings : Option Json → Option Data → List Warned
caps_warnings written None = []
caps_warnings written (Some caps) =
    warned_in BadCaps None (object_texts (keys_written (caps_written written)) caps caps_rows remark_names)

-- ---- the whole

-- all warnings of a JSON value, of a text where this is written
abbrev pub warnings_of_value : Option Json → Data → List Warned
warnings_of_value written d = document_warnings written d ++ caps_warnings written (get (codes "caps") d)
    ++ step_warnings written 0 (step_items_of d)

-- the warnings that findings tell
abbrev pub warned_by : Finding → List Warned
warned_by finding = warned_in finding.fault finding.place.kind (map reason_text finding.reasons.items)

abbrev pub warnings_told : List Finding → List Warned
warnings_told findings = flat_map warned_by findings

-- the line is that on which the step begins
pub record IsStepPlace (bytes : List ℕ) (place : Place) (step : Data) : Type 0 where
  pub line : IfSome place.line (BeginsOnLine bytes step)
  pub column : place.column ≡ None

-- a place is told of a step only, and it is that of the step
abbrev pub IsPlaceIn : List ℕ → Data → Place → ScenarioFault → Type 0
IsPlaceIn bytes d place (BadStep i) = IsSomeAnd (slice_get (step_items_of d) i) (IsStepPlace bytes place)
IsPlaceIn bytes d place _ = IsNowhere place

abbrev pub HasPlace : List ℕ → Data → Finding → Type 0
HasPlace bytes d finding = IsPlaceIn bytes d finding.place finding.fault

-- the findings are the warnings of a document; bytes that are no JSON have none
pub record AreWarningsOf (bytes : List ℕ) (findings : List Finding) : Type 0 where
  pub all : (d : Data) → IsJson bytes d → warnings_told findings ≡ warnings_of_value (document bytes) d
  pub placed : (d : Data) → IsJson bytes d → AllByRecursion (HasPlace bytes d) findings
  pub none : IsNoJson bytes → findings ≡ []

-- ---- what is added to a list

-- the place of the warning is that of the step
abbrev pub IsPlacedAt : List ℕ → Finding → Data → Type 0
IsPlacedAt bytes finding step = IsStepPlace bytes finding.place step

-- the warning is of item i of the steps, which is this
abbrev pub IsOfStep : List ℕ → ℕ → Data → Finding → Type 0
IsOfStep bytes i step finding = IsOfOne (IsPlacedAt bytes) i step finding

-- the warning is of one of the items
abbrev pub IsOfItem : List ℕ → List Data → Finding → Type 0
IsOfItem bytes steps finding = IsOfAny (IsPlacedAt bytes) steps finding

-- the warning is of this part, which has no place
abbrev pub IsOfPart : ScenarioFault → Finding → Type 0
IsOfPart part finding = (finding.fault ≡ part) × IsNowhere finding.place

-- these reasons are told besides
abbrev pub Tells : List Reason → List Reason → List (List ℕ) → Type 0
Tells old new texts = map reason_text new ≡ map reason_text old ++ texts

-- these warnings are told besides
abbrev pub Warns : List Finding → List Finding → List Warned → Type 0
Warns old new warnings = warnings_told new ≡ warnings_told old ++ warnings
