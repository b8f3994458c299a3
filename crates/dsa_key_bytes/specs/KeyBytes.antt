-- The bytes of a short key.
use Rattle.std.specs.Prelude.{ℕ, ◌+◌, ◌*◌, Bool, cond, List, [], ◌∷◌, ◌++◌, length, flat_map, Option, None, Some}
use Rattle.dsa_regs.specs.declared.{Caps.{Caps}, QueueConfig.{QueueConfig}, GroupConfig.{GroupConfig}}
use Rattle.dsa_regs.specs.declared.{Command.{Command}, Phase.{Phase, TheVariants.{Off, On, Stopping}}}
use Rattle.dsa_regs.specs.declared.Scope.{Scope, TheVariants.{Device, Queue, Queues, Pasid}}
use Rattle.dsa_regs.specs.Command.{number_of_command, scope_of}
use Rattle.dsa_book.specs.declared.answer.{NotedError.{NotedError}}
use Rattle.dsa_book.specs.declared.answer.Cause.{Cause, TheVariants.{AtLimit, NotEnabled, WrongKind}}
use Rattle.dsa_book.specs.declared.note.BatchNote.{BatchNote}
use Rattle.dsa_book.specs.State.{Setup}
use Rattle.dsa_keys.specs.Short.{ShortEntry, ShortKey}
use Rattle.dsa_key_bytes.specs.Numbers.{bytes_of_numbers}

-- ---- lists

-- how many there are, and the numbers of each
abbrev pub with_count : {A : Type 0} → (A → List ℕ) → List A → List ℕ
with_count numbers xs = length xs ∷ flat_map numbers xs

-- the numbers of each, of which the first is not 0, and then 0
abbrev pub with_end : {A : Type 0} → (A → List ℕ) → List A → List ℕ
with_end numbers xs = flat_map numbers xs ++ 0 ∷ []

-- 0, or 1 and the numbers of what there is
abbrev pub optional : {A : Type 0} → (A → List ℕ) → Option A → List ℕ
optional numbers None = 0 ∷ []
optional numbers (Some x) = 1 ∷ numbers x

-- ---- what is configured

abbrev pub number_of_flag : Bool → ℕ
number_of_flag flag = cond flag 1 0

abbrev pub numbers_of_caps : Caps → List ℕ
numbers_of_caps caps =
    caps.queues ∷ caps.groups ∷ caps.engines ∷ caps.total_size ∷ caps.read_buffers ∷ caps.slots
    ∷ caps.max_batch_shift ∷ caps.max_xfer_shift ∷ []

abbrev pub numbers_of_queue : QueueConfig → List ℕ
numbers_of_queue config =
    config.size ∷ config.threshold ∷ number_of_flag config.dedicated ∷ config.priority ∷ config.pasid
    ∷ config.max_batch_shift ∷ config.max_xfer_shift ∷ []

abbrev pub numbers_of_group : GroupConfig → List ℕ
numbers_of_group config = config.queues ∷ config.engines ∷ config.reserved ∷ config.allowed ∷ []

-- capabilities and configurations
abbrev pub configured_numbers : Setup → List ℕ
configured_numbers setup =
    numbers_of_caps setup.caps
    ++ (with_count numbers_of_queue setup.configs ++ with_count numbers_of_group setup.groups)

-- ---- what steps change

abbrev pub number_of_phase : Phase → ℕ
number_of_phase Off = 0
number_of_phase On = 1
number_of_phase Stopping = 2

abbrev pub numbers_of_phase : Phase → List ℕ
numbers_of_phase phase = number_of_phase phase ∷ []

abbrev pub number_of_cause : Cause → ℕ
number_of_cause AtLimit = 0
number_of_cause NotEnabled = 1
number_of_cause WrongKind = 2

abbrev pub numbers_of_noted : NotedError → List ℕ
numbers_of_noted noted = noted.queue ∷ number_of_cause noted.cause ∷ number_of_flag noted.overflow ∷ []

-- the label and whether it runs, in one number that is not 0
abbrev pub numbers_of_entry : ShortEntry → List ℕ
numbers_of_entry entry = (2 * entry.label + number_of_flag entry.running + 1) ∷ []

abbrev pub numbers_of_note : BatchNote → List ℕ
numbers_of_note note =
    note.batch ∷ note.count ∷ note.fetched ∷ number_of_flag note.failed ∷ number_of_flag note.closed ∷ []

-- whether an entry is waited for, in a number that is not 0
abbrev pub numbers_of_wait : Bool → List ℕ
numbers_of_wait waits = (number_of_flag waits + 1) ∷ []

-- for which entries one waits
abbrev pub numbers_of_row : List Bool → List ℕ
numbers_of_row row = 1 ∷ with_end numbers_of_wait row

-- whom a command is about: a queue, a group of queues and its mask, or a PASID
abbrev pub scope_first : Scope → ℕ
scope_first Device = 0
scope_first (Queue queue) = queue
scope_first (Queues queues) = queues.group
scope_first (Pasid pasid) = pasid

abbrev pub scope_second : Scope → ℕ
scope_second (Queues queues) = queues.mask
scope_second _ = 0

abbrev pub numbers_of_command : Command → List ℕ
numbers_of_command command =
    number_of_command command ∷ scope_first (scope_of command) ∷ scope_second (scope_of command) ∷ []

-- phases and the noted error
abbrev pub standing_numbers : Setup → List ℕ
standing_numbers setup =
    numbers_of_phase setup.device ++ (with_count numbers_of_phase setup.phases ++ optional numbers_of_noted setup.noted)

-- entries, notes, what waits and what is waited for
abbrev pub held_numbers : ShortKey → List ℕ
held_numbers k =
    with_count (with_end numbers_of_entry) k.lists ++ (with_count (optional numbers_of_note) k.notes
    ++ (with_end numbers_of_row k.waits
    ++ (optional numbers_of_command k.command ++ with_end numbers_of_wait k.awaited)))

-- ---- the whole

abbrev pub changing_numbers : ShortKey → List ℕ
changing_numbers k = standing_numbers k.setup ++ held_numbers k

-- the bytes of a key but for capabilities and configurations
abbrev pub changing_key_bytes : ShortKey → List ℕ
changing_key_bytes k = bytes_of_numbers (changing_numbers k)

-- the bytes of a key, but for the next name
abbrev pub key_bytes : ShortKey → List ℕ
key_bytes k = bytes_of_numbers (configured_numbers k.setup ++ changing_numbers k)
