-- Command words, by the names of commands.
use Rattle.std.specs.Prelude.{ℕ, ◌+◌, ◌*◌, ◌/◌, ◌^◌, List, [], ◌∷◌, Option, Some, None, option_map, codes}
use Rattle.std.specs.Prelude.{bytes_eq, find}
use Rattle.serde_json.specs.{Data.{Data}, Find.{get, as_str, as_array}}
use Rattle.dsa_regs.specs.declared.{Command.{Command}, Scope.{Scope, TheVariants.{Device, Queue, Queues}}}
use Rattle.dsa_regs.specs.Command.{command_label, commands_with, scope_of, word_of}
use Rattle.dsa_scenario.specs.{Fields.{◌>>=◌}, Document.{list_of_items}}
use Rattle.dsa_expand.specs.Values.{number_below, set_of}

-- the command of this name with this operand, which those of the device ignore
abbrev pub command_called : List ℕ → ℕ → Option Command
command_called name operand = find (λ command. bytes_eq name (command_label command)) (commands_with operand)

-- ---- operands

-- the one number that stands there
abbrev pub only_number : List Data → Option ℕ
only_number (d ∷ []) = number_below (2 ^ 20) d
only_number _ = None

-- the group of sixteen of the first queue
abbrev pub group_of : List Data → Option ℕ
group_of [] = Some 0
group_of (d ∷ ds) = option_map (λ queue. queue / 16) (number_below 256 d)

-- the operand with the mask of these queues, which are of one group of sixteen
abbrev pub mask_operand : List Data → Option ℕ
mask_operand ds = group_of ds >>= λ group. option_map (λ mask. 2 ^ 16 * group + mask) (set_of (16 * group) 16 ds)

-- the operand of a command about a queue or the queues of a mask, by their numbers (profile)
abbrev pub queues_operand : Scope → List Data → Option ℕ
queues_operand (Queue queue) ds = only_number ds
queues_operand (Queues queues) ds = mask_operand ds
queues_operand _ ds = None

-- the operand of a command, by what stands at `operand` and at `queues`: one of them, or for the device none (profile)
abbrev pub operand_said : Scope → (operand queues : Option Data) → Option ℕ
operand_said scope (Some operand) None = number_below (2 ^ 20) operand
operand_said scope None (Some queues) = as_array queues >>= λ items. queues_operand scope (list_of_items items)
operand_said Device None None = Some 0
operand_said _ _ _ = None

abbrev pub operand_in : Scope → Data → Option ℕ
operand_in scope step = operand_said scope (get (codes "operand") step) (get (codes "queues") step)

-- the word of the command that is called so (profile)
abbrev pub word_said : Data → Data → Option ℕ
word_said step called = do
  name ← as_str called
  command ← command_called name 0
  operand ← operand_in (scope_of command) step
  command' ← command_called name operand
  word_of command'
