-- The numbers of each part of a key say where they end.
use Rattle.std.proofs.Common.{◌≡◌, ℕ, suc, ◌+◌, ◌*◌, ◌==◌, Bool, true, false, [], ◌∷◌, ◌++◌, Option, Some, refl, ap, sym, ◌∙◌, arith}
use Rattle.std.proofs.lemmas.Option.{same_Some}
use Rattle.dsa_base.specs.Rows.{first_row}
use Rattle.dsa_regs.specs.declared.{Command.{Command}, Phase.{Phase, TheVariants.{Off, On, Stopping}}}
use Rattle.dsa_regs.specs.declared.Command.TheVariants.{EnableDevice, DisableDevice, DrainAll, AbortAll, ResetDevice}
use Rattle.dsa_regs.specs.declared.Command.TheVariants.{EnableWq, DisableWq, DrainWq, AbortWq, ResetWq, DrainPasid}
use Rattle.dsa_regs.specs.declared.Command.TheVariants.{AbortPasid}
use Rattle.dsa_regs.specs.Command.{number_of_command, scope_of}
use Rattle.dsa_book.specs.declared.answer.Cause.{Cause, TheVariants.{AtLimit, NotEnabled, WrongKind}}
use Rattle.dsa_key_bytes.specs.KeyBytes.{number_of_flag, numbers_of_caps, numbers_of_queue, numbers_of_group, number_of_phase, numbers_of_phase, number_of_cause, numbers_of_noted, numbers_of_entry, numbers_of_note, numbers_of_wait, numbers_of_row, scope_first, scope_second, numbers_of_command, with_end}
use Rattle.dsa_key_bytes.proofs.SelfEnding.{IsSelfEnding, BeginsAboveZero, with_end-ends}

same-flag : (a b : Bool) → number_of_flag a ≡ number_of_flag b → a ≡ b
same-flag true true e = refl
same-flag false false e = refl
same-flag true false e = absurd (omega arith)
same-flag false true e = absurd (omega arith)

same-phase : (a b : Phase) → number_of_phase a ≡ number_of_phase b → a ≡ b
same-phase Off Off e = refl
same-phase On On e = refl
same-phase Stopping Stopping e = refl
same-phase Off On e = absurd (omega arith)
same-phase Off Stopping e = absurd (omega arith)
same-phase On Off e = absurd (omega arith)
same-phase On Stopping e = absurd (omega arith)
same-phase Stopping Off e = absurd (omega arith)
same-phase Stopping On e = absurd (omega arith)

same-cause : (a b : Cause) → number_of_cause a ≡ number_of_cause b → a ≡ b
same-cause AtLimit AtLimit e = refl
same-cause NotEnabled NotEnabled e = refl
same-cause WrongKind WrongKind e = refl
same-cause AtLimit NotEnabled e = absurd (omega arith)
same-cause AtLimit WrongKind e = absurd (omega arith)
same-cause NotEnabled AtLimit e = absurd (omega arith)
same-cause NotEnabled WrongKind e = absurd (omega arith)
same-cause WrongKind AtLimit e = absurd (omega arith)
same-cause WrongKind NotEnabled e = absurd (omega arith)

-- a label and a flag in one number
same-entry : (l m : ℕ) (a b : Bool) → 2 * l + number_of_flag a + 1 ≡ 2 * m + number_of_flag b + 1 → (l ≡ m) × (a ≡ b)
same-entry l m true true e = (omega arith, refl)
same-entry l m false false e = (omega arith, refl)
same-entry l m true false e = absurd (omega arith)
same-entry l m false true e = absurd (omega arith)

pub caps-end : IsSelfEnding numbers_of_caps
caps-end x y r s e =
    let queues : x.queues ≡ y.queues = cc in let groups : x.groups ≡ y.groups = cc in
    let engines : x.engines ≡ y.engines = cc in let total : x.total_size ≡ y.total_size = cc in
    let buffers : x.read_buffers ≡ y.read_buffers = cc in let slots : x.slots ≡ y.slots = cc in
    let batch : x.max_batch_shift ≡ y.max_batch_shift = cc in let xfer : x.max_xfer_shift ≡ y.max_xfer_shift = cc in
    let rest : r ≡ s = cc in (
      (λ j. record {
        queues = queues j;
        groups = groups j;
        engines = engines j;
        total_size = total j;
        read_buffers = buffers j;
        slots = slots j;
        max_batch_shift = batch j;
        max_xfer_shift = xfer j;
      }),
      rest,
    )

pub queue-ends : IsSelfEnding numbers_of_queue
queue-ends x y r s e =
    let size : x.size ≡ y.size = cc in let threshold : x.threshold ≡ y.threshold = cc in
    let flag : number_of_flag x.dedicated ≡ number_of_flag y.dedicated = cc in
    let priority : x.priority ≡ y.priority = cc in let pasid : x.pasid ≡ y.pasid = cc in
    let batch : x.max_batch_shift ≡ y.max_batch_shift = cc in let xfer : x.max_xfer_shift ≡ y.max_xfer_shift = cc in
    let rest : r ≡ s = cc in (
      (λ j. record {
        size = size j;
        threshold = threshold j;
        dedicated = same-flag x.dedicated y.dedicated flag j;
        priority = priority j;
        pasid = pasid j;
        max_batch_shift = batch j;
        max_xfer_shift = xfer j;
      }),
      rest,
    )

pub group-ends : IsSelfEnding numbers_of_group
group-ends x y r s e =
    let queues : x.queues ≡ y.queues = cc in let engines : x.engines ≡ y.engines = cc in
    let reserved : x.reserved ≡ y.reserved = cc in let allowed : x.allowed ≡ y.allowed = cc in
    let rest : r ≡ s = cc in
    ((λ j. record { queues = queues j; engines = engines j; reserved = reserved j; allowed = allowed j }), rest)

pub phase-ends : IsSelfEnding numbers_of_phase
phase-ends x y r s e = let same : number_of_phase x ≡ number_of_phase y = cc in let rest : r ≡ s = cc in
    (same-phase x y same, rest)

pub noted-ends : IsSelfEnding numbers_of_noted
noted-ends x y r s e =
    let queue : x.queue ≡ y.queue = cc in let cause : number_of_cause x.cause ≡ number_of_cause y.cause = cc in
    let flag : number_of_flag x.overflow ≡ number_of_flag y.overflow = cc in let rest : r ≡ s = cc in (
      (λ j. record {
        queue = queue j;
        cause = same-cause x.cause y.cause cause j;
        overflow = same-flag x.overflow y.overflow flag j;
      }),
      rest,
    )

pub entry-ends : IsSelfEnding numbers_of_entry
entry-ends x y r s e =
    let number : 2 * x.label + number_of_flag x.running + 1 ≡ 2 * y.label + number_of_flag y.running + 1 = cc in
    let rest : r ≡ s = cc in
    let same : (x.label ≡ y.label) × (x.running ≡ y.running) = same-entry x.label y.label x.running y.running number in
    ((λ j. record { label = same.0 j; running = same.1 j }), rest)

pub entry-begins : BeginsAboveZero numbers_of_entry
entry-begins x r = (
  2 * x.label + number_of_flag x.running,
  r,
  let one : 2 * x.label + number_of_flag x.running + 1 ≡ suc (2 * x.label + number_of_flag x.running) = omega arith in
      ap (λ k. k ∷ r) one,
)

pub note-ends : IsSelfEnding numbers_of_note
note-ends x y r s e =
    let batch : x.batch ≡ y.batch = cc in let count : x.count ≡ y.count = cc in
    let fetched : x.fetched ≡ y.fetched = cc in
    let failed : number_of_flag x.failed ≡ number_of_flag y.failed = cc in
    let closed : number_of_flag x.closed ≡ number_of_flag y.closed = cc in let rest : r ≡ s = cc in (
      (λ j. record {
        batch = batch j;
        count = count j;
        fetched = fetched j;
        failed = same-flag x.failed y.failed failed j;
        closed = same-flag x.closed y.closed closed j;
      }),
      rest,
    )

pub wait-ends : IsSelfEnding numbers_of_wait
wait-ends x y r s e =
    let number : number_of_flag x + 1 ≡ number_of_flag y + 1 = cc in let rest : r ≡ s = cc in
    (same-flag x y (omega arith), rest)

pub wait-begins : BeginsAboveZero numbers_of_wait
wait-begins x r = (
  number_of_flag x,
  r,
  let one : number_of_flag x + 1 ≡ suc (number_of_flag x) = omega arith in ap (λ k. k ∷ r) one,
)

pub row-ends : IsSelfEnding numbers_of_row
row-ends x y r s e =
    let all : with_end numbers_of_wait x ++ r ≡ with_end numbers_of_wait y ++ s = cc in
    with_end-ends numbers_of_wait wait-ends wait-begins x y r s all

pub row-begins : BeginsAboveZero numbers_of_row
row-begins x r = (0, with_end numbers_of_wait x ++ r, refl)

-- ---- commands

-- the command that these numbers say
command_said : ℕ → ℕ → ℕ → Option Command
command_said number first second = first_row (
    (number == 1, EnableDevice) ∷
    (number == 2, DisableDevice) ∷
    (number == 3, DrainAll) ∷
    (number == 4, AbortAll) ∷
    (number == 5, ResetDevice) ∷
    (number == 6, EnableWq first) ∷
    (number == 7, DisableWq (record { group = first; mask = second })) ∷
    (number == 8, DrainWq (record { group = first; mask = second })) ∷
    (number == 9, AbortWq (record { group = first; mask = second })) ∷
    (number == 10, ResetWq (record { group = first; mask = second })) ∷
    (number == 11, DrainPasid first) ∷
    (number == 12, AbortPasid first) ∷ [])

said : (command : Command) → command_said (number_of_command command) (scope_first (scope_of command))
    (scope_second (scope_of command)) ≡ Some command
unfolding command_said
said EnableDevice = refl
said DisableDevice = refl
said DrainAll = refl
said AbortAll = refl
said ResetDevice = refl
said (EnableWq queue) = refl
said (DisableWq queues) = refl
said (DrainWq queues) = refl
said (AbortWq queues) = refl
said (ResetWq queues) = refl
said (DrainPasid pasid) = refl
said (AbortPasid pasid) = refl

pub command-ends : IsSelfEnding numbers_of_command
command-ends x y r s e =
    let number : number_of_command x ≡ number_of_command y = cc in
    let first : scope_first (scope_of x) ≡ scope_first (scope_of y) = cc in
    let second : scope_second (scope_of x) ≡ scope_second (scope_of y) = cc in
    let rest : r ≡ s = cc in
    (same_Some x y (sym (said x) ∙ (λ j. command_said (number j) (first j) (second j)) ∙ said y), rest)
