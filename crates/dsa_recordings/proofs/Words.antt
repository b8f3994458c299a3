-- The word of a command is read as the command.
use Rattle.std.proofs.Common.{◌≡◌, ◌<◌, ◌+◌, ◌*◌, ◌/◌, ◌%◌, ◌^◌, ◌∙◌, ℕ, Option, Some, None, Ok, refl, sym, ap}
use Rattle.std.proofs.Common.{arith, nat_lt, subst, inl, inr}
use Rattle.std.proofs.lemmas.Bool.{cases_lt, lt-ltb, le-ltb}
use Rattle.std.specs.Prelude.{unwrap_or}
use Rattle.dsa_base.specs.Rows.{when}
use Rattle.dsa_regs.specs.declared.{Command.{Command}, QueueMask.{QueueMask}}
use Rattle.dsa_regs.specs.declared.Command.TheVariants.{EnableDevice, DisableDevice, DrainAll, AbortAll, ResetDevice}
use Rattle.dsa_regs.specs.declared.Command.TheVariants.{EnableWq, DisableWq, DrainWq, AbortWq, ResetWq, DrainPasid}
use Rattle.dsa_regs.specs.declared.Command.TheVariants.{AbortPasid}
use Rattle.dsa_regs.specs.Command.{command_of, command_numbered, mask_of, word_of}
use Rattle.dsa_recordings.specs.Recordings.{word_or_none}
use Rattle.dsa_recordings.specs.Reading.{FitsCommand}

-- a word of this number and operand is read so
numbered : (n operand : ℕ) → n < 32 → operand < 2 ^ 20
    → command_of (2 ^ 20 * n + operand) ≡ command_numbered n operand
numbered n operand few small =
    let word : ℕ = 2 ^ 20 * n + operand in
    let clear : word / 2 ^ 25 % 2 ^ 6 ≡ 0 = omega arith in
    let number : word / 2 ^ 20 % 2 ^ 5 ≡ n = omega arith in
    let rest : word % 2 ^ 20 ≡ operand = omega arith in
    rw (clear, number, rest) refl

-- a mask with no more bits than it has is read back
masked : (queues : QueueMask) → queues.mask < 2 ^ 16 → mask_of (2 ^ 16 * queues.group + queues.mask) ≡ queues
masked queues small =
    let group : (2 ^ 16 * queues.group + queues.mask) / 2 ^ 16 ≡ queues.group = omega arith in
    let mask : (2 ^ 16 * queues.group + queues.mask) % 2 ^ 16 ≡ queues.mask = omega arith in
    rw (group, mask) refl

none_or_some : (o : Option ℕ) (word : ℕ) → o ≡ None → o ≡ Some word → ⊥
none_or_some o word e f = cc

-- an operand that a word has is below 2^20, and the word is this
operand_small : (operand value word : ℕ) → when (nat_lt operand (2 ^ 20)) value ≡ Some word
    → (operand < 2 ^ 20) × (unwrap_or (when (nat_lt operand (2 ^ 20)) value) 0 ≡ value)
operand_small operand value word is = elim (cases_lt operand (2 ^ 20)) [
  | inl below ↦ (below, ap (λ b. unwrap_or (when b value) 0) (lt-ltb operand (2 ^ 20) below))
  | inr above ↦ absurd (none_or_some (when (nat_lt operand (2 ^ 20)) value) word
      (ap (λ b. when b value) (le-ltb operand (2 ^ 20) above)) is)
]

read_by : (n operand word : ℕ) → n < 32
    → when (nat_lt operand (2 ^ 20)) (2 ^ 20 * n + operand) ≡ Some word
    → command_of (unwrap_or (when (nat_lt operand (2 ^ 20)) (2 ^ 20 * n + operand)) 0) ≡ command_numbered n operand
read_by n operand word few is =
    let small = operand_small operand (2 ^ 20 * n + operand) word is in
    ap command_of small.1 ∙ numbered n operand few small.0

pub words_read : (command : Command) (word : ℕ) → FitsCommand command → word_of command ≡ Some word
    → command_of (word_or_none command) ≡ Ok command
words_read EnableDevice word fits is = refl
words_read DisableDevice word fits is = refl
words_read DrainAll word fits is = refl
words_read AbortAll word fits is = refl
words_read ResetDevice word fits is = refl
words_read (EnableWq queue) word fits is = read_by 6 queue word (omega arith) is
words_read (DisableWq queues) word fits is =
    read_by 7 (2 ^ 16 * queues.group + queues.mask) word (omega arith) is ∙ ap (λ m. Ok (DisableWq m)) (masked queues fits)
words_read (DrainWq queues) word fits is =
    read_by 8 (2 ^ 16 * queues.group + queues.mask) word (omega arith) is ∙ ap (λ m. Ok (DrainWq m)) (masked queues fits)
words_read (AbortWq queues) word fits is =
    read_by 9 (2 ^ 16 * queues.group + queues.mask) word (omega arith) is ∙ ap (λ m. Ok (AbortWq m)) (masked queues fits)
words_read (ResetWq queues) word fits is =
    read_by 10 (2 ^ 16 * queues.group + queues.mask) word (omega arith) is ∙ ap (λ m. Ok (ResetWq m)) (masked queues fits)
words_read (DrainPasid pasid) word fits is = read_by 11 pasid word (omega arith) is
words_read (AbortPasid pasid) word fits is = read_by 12 pasid word (omega arith) is

small_value : (n operand word : ℕ) → n < 32
    → when (nat_lt operand (2 ^ 20)) (2 ^ 20 * n + operand) ≡ Some word
    → unwrap_or (when (nat_lt operand (2 ^ 20)) (2 ^ 20 * n + operand)) 0 < 2 ^ 32
small_value n operand word few is =
    let small = operand_small operand (2 ^ 20 * n + operand) word is in
    let low = small.0 in
    subst (λ w. w < 2 ^ 32) (sym small.1) (omega arith)

pub words_fit : (command : Command) (word : ℕ) → word_of command ≡ Some word → word_or_none command < 2 ^ 32
words_fit EnableDevice word is = omega arith
words_fit DisableDevice word is = omega arith
words_fit DrainAll word is = omega arith
words_fit AbortAll word is = omega arith
words_fit ResetDevice word is = omega arith
words_fit (EnableWq queue) word is = small_value 6 queue word (omega arith) is
words_fit (DisableWq queues) word is = small_value 7 (2 ^ 16 * queues.group + queues.mask) word (omega arith) is
words_fit (DrainWq queues) word is = small_value 8 (2 ^ 16 * queues.group + queues.mask) word (omega arith) is
words_fit (AbortWq queues) word is = small_value 9 (2 ^ 16 * queues.group + queues.mask) word (omega arith) is
words_fit (ResetWq queues) word is = small_value 10 (2 ^ 16 * queues.group + queues.mask) word (omega arith) is
words_fit (DrainPasid pasid) word is = small_value 11 pasid word (omega arith) is
words_fit (AbortPasid pasid) word is = small_value 12 pasid word (omega arith) is
