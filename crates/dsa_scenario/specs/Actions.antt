-- Step objects: what each of them asks.
use Rattle.dsa_book.specs.declared.event.Event.TheVariants as event
use Rattle.dsa_scenario.specs.declared.fields.Form.TheVariants as form
use Rattle.dsa_scenario.specs.declared.actions.StepKind.TheVariants as kind
use Rattle.std.specs.Prelude.{ℕ, ◌^◌, Bool, true, false, List, [], ◌∷◌, ◌++◌, codes, bytes_eq, find, Option, Some}
use Rattle.std.specs.Prelude.{option_and_then, Result, Ok, Err}
use Rattle.serde_json.specs.Data.{Data}
use Rattle.dsa_desc.specs.declared.{Outcome.{Outcome, TheVariants.{Success, PageFault}}}
use Rattle.dsa_desc.specs.Descriptor.{read}
use Rattle.dsa_regs.specs.declared.{Caps.{Caps}, Command.{Command}, Fault.{Fault}}
use Rattle.dsa_regs.specs.Command.{command_of}
use Rattle.dsa_book.specs.declared.event.Portal.{Portal, TheVariants.{Limited, Unlimited}}
use Rattle.dsa_book.specs.declared.event.Kind.TheVariants.{Enqcmd, Movdir64b}
use Rattle.dsa_scenario.specs.declared.actions.Action.{Action, TheVariants.{Ask, Finish, Refuse}}
use Rattle.dsa_scenario.specs.declared.actions.StepKind.{StepKind}
use Rattle.dsa_scenario.specs.Fields.{◌>>=◌, whole_of, text_of, Row, bits, Maker, made_of}

-- the object `caps` (profile)
abbrev pub caps_of : Data → Option Caps
caps_of d = do
  queues ← whole_of (2 ^ 16) (codes "queues") d
  groups ← whole_of (2 ^ 16) (codes "groups") d
  engines ← whole_of (2 ^ 16) (codes "engines") d
  total_size ← whole_of (2 ^ 16) (codes "total_size") d
  read_buffers ← whole_of (2 ^ 16) (codes "read_buffers") d
  slots ← whole_of (2 ^ 16) (codes "slots") d
  max_batch_shift ← whole_of (2 ^ 8) (codes "max_batch_shift") d
  max_xfer_shift ← whole_of (2 ^ 8) (codes "max_xfer_shift") d
  Some (record {
    queues = queues;
    groups = groups;
    engines = engines;
    total_size = total_size;
    read_buffers = read_buffers;
    slots = slots;
    max_batch_shift = max_batch_shift;
    max_xfer_shift = max_xfer_shift;
  })

-- the portal that `limited` says (profile)
abbrev pub portal_of_limited : Bool → Portal
portal_of_limited true = Limited
portal_of_limited false = Unlimited

-- the outcome that `fault` says (profile)
abbrev pub outcome_of_fault : Bool → Outcome
outcome_of_fault true = PageFault
outcome_of_fault false = Success

-- what a word asks, by what it is: a command, or refused (profile)
abbrev pub action_of_command : ℕ → Result Command Fault → Action
action_of_command word (Ok command) = Ask (event.Issue command)
action_of_command word (Err fault) = Refuse (record { word = word; fault = fault })

-- what a word of the command register asks
abbrev pub action_of_word : ℕ → Action
action_of_word word = action_of_command word (command_of word)

-- ---- kinds of steps

-- a kind: its name, its keys beside `do`, and what an object of it asks
pub data KindRow : Type 0 where
  kind_row : List ℕ → (rows : List Row) → Maker Action rows → KindRow

-- each kind (profile)
abbrev pub row_of_kind : StepKind → KindRow
-- a write of a queue's configuration
row_of_kind kind.Queue = kind_row (codes "queue") (
    (codes "queue", bits 16) ∷
    (codes "size", bits 16) ∷
    (codes "threshold", bits 16) ∷
    (codes "dedicated", form.Truth) ∷
    (codes "priority", bits 8) ∷
    (codes "pasid", bits 32) ∷
    (codes "batch", bits 8) ∷
    (codes "xfer", bits 8) ∷ [])
    (λ queue size threshold dedicated priority pasid batch xfer. Ask (event.WriteQueue queue (record {
      size = size;
      threshold = threshold;
      dedicated = dedicated;
      priority = priority;
      pasid = pasid;
      max_batch_shift = batch;
      max_xfer_shift = xfer;
    })))
-- a write of a group's configuration
row_of_kind kind.Group = kind_row (codes "group") (
    (codes "group", bits 16) ∷
    (codes "queues", bits 64) ∷
    (codes "engines", bits 64) ∷
    (codes "reserved", bits 16) ∷
    (codes "allowed", bits 16) ∷ [])
    (λ group queues engines reserved allowed. Ask (event.WriteGroup group (record {
      queues = queues;
      engines = engines;
      reserved = reserved;
      allowed = allowed;
    })))
-- a submission by ENQCMD
row_of_kind kind.Enqcmd = kind_row (codes "enqcmd") (
    (codes "client", bits 16) ∷
    (codes "queue", bits 16) ∷
    (codes "limited", form.Truth) ∷
    (codes "pasid", bits 32) ∷
    (codes "desc", form.Digits) ∷ [])
    (λ client queue limited pasid desc.
    Ask (event.Submit client queue (portal_of_limited limited) (Enqcmd pasid) (read desc)))
-- a submission by MOVDIR64B
row_of_kind kind.Movdir = kind_row (codes "movdir") (
    (codes "client", bits 16) ∷
    (codes "queue", bits 16) ∷
    (codes "limited", form.Truth) ∷
    (codes "desc", form.Digits) ∷ [])
    (λ client queue limited desc.
    Ask (event.Submit client queue (portal_of_limited limited) Movdir64b (read desc)))
row_of_kind kind.Dispatch = kind_row (codes "dispatch") ((codes "engine", bits 16) ∷ [])
    (λ engine. Ask (event.Dispatch engine))
row_of_kind kind.Fetch = kind_row (codes "fetch") ((codes "engine", bits 16) ∷ (codes "desc", form.Digits) ∷ [])
    (λ engine desc. Ask (event.Fetch engine (read desc)))
row_of_kind kind.Start = kind_row (codes "start") ((codes "engine", bits 16) ∷ []) (λ engine. Ask (event.Start engine))
-- the end of an entry, which is called by its name
row_of_kind kind.Finish = kind_row (codes "finish") (
    (codes "engine", bits 16) ∷
    (codes "name", bits 32) ∷
    (codes "fault", form.Truth) ∷ [])
    (λ engine name fault. Finish engine name (outcome_of_fault fault))
-- a word for the command register
row_of_kind kind.Command = kind_row (codes "command") ((codes "word", bits 32) ∷ [])
    action_of_word
row_of_kind kind.Poll = kind_row (codes "poll") [] (Ask event.Poll)
row_of_kind kind.Clear = kind_row (codes "clear") [] (Ask event.ClearError)

-- all kinds
abbrev pub kinds : List StepKind
kinds =
    kind.Queue ∷ kind.Group ∷ kind.Enqcmd ∷ kind.Movdir ∷ kind.Dispatch ∷ kind.Fetch ∷ kind.Start ∷ kind.Finish
    ∷ kind.Command ∷ kind.Poll ∷ kind.Clear ∷ []

-- the name of a kind
abbrev pub name_in : KindRow → List ℕ
name_in (kind_row name rows asked) = name

abbrev pub kind_text : StepKind → List ℕ
kind_text kind = name_in (row_of_kind kind)

-- its keys beside `do`
abbrev pub rows_in : KindRow → List Row
rows_in (kind_row name rows asked) = rows

abbrev pub rows_of_kind : StepKind → List Row
rows_of_kind kind = rows_in (row_of_kind kind)

-- the kind of this name
abbrev pub kind_named : List ℕ → Option StepKind
kind_named name = find (λ kind. bytes_eq name (kind_text kind)) kinds

-- between a name and those after it
abbrev pub between_names : List StepKind → List ℕ
between_names [] = codes " and "
between_names (kind ∷ more) = codes ", "

abbrev pub names_after : List StepKind → List ℕ
names_after [] = []
names_after (kind ∷ more) = between_names more ++ (kind_text kind ++ names_after more)

-- the names of some kinds, in words
abbrev pub names_text : List StepKind → List ℕ
names_text [] = []
names_text (kind ∷ more) = kind_text kind ++ names_after more

-- ---- step objects

-- the kind that the text `do` of a step object names (profile)
abbrev pub kind_of : Data → Option StepKind
kind_of d = option_and_then kind_named (text_of (codes "do") d)

-- what an object of this kind asks, where it has each of its keys (profile)
abbrev pub asked_by : KindRow → Data → Option Action
asked_by (kind_row name rows asked) d = made_of rows asked d

abbrev pub action_by : StepKind → Data → Option Action
action_by kind d = asked_by (row_of_kind kind) d

-- what a step object asks (profile)
abbrev pub action_of : Data → Option Action
action_of d = do
  kind ← kind_of d
  action_by kind d
