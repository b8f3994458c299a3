-- An event in words.
use Rattle.dsa_book.specs.declared.event.Event.TheVariants as event
use Rattle.dsa_regs.specs.declared.layout.ListUse.TheVariants as list
use Rattle.std.specs.Prelude.{ℕ, Bool, true, false, ◌==◌, if◌then◌else◌, List, [], ◌++◌, option_map, unwrap_or}
use Rattle.std.specs.Prelude.{codes, decimal}
use Rattle.std.specs.Fmt.{digits}
use Rattle.dsa_desc.specs.declared.{Descriptor.{Descriptor}, Outcome.{Outcome, TheVariants.{Success, PageFault}}}
use Rattle.dsa_desc.specs.Descriptor.{is_batch, is_transfer, is_fenced, operation_row, pasid_of}
use Rattle.dsa_regs.specs.declared.{Command.{Command}, layout.ListUse.{ListUse}}
use Rattle.dsa_regs.specs.declared.Phase.{Phase, TheVariants.{Off, On, Stopping}}
use Rattle.dsa_regs.specs.declared.Scope.{Scope, TheVariants.{Device, Queue, Queues, Pasid}}
use Rattle.dsa_regs.specs.Command.{command_label, scope_of, operand_of_scope}
use Rattle.dsa_book.specs.declared.event.{Event.{Event}, Portal.{Portal, TheVariants.{Limited, Unlimited}}}
use Rattle.dsa_book.specs.declared.event.Kind.{Kind, TheVariants.{Enqcmd, Movdir64b}}

-- ---- numbers (profile)

-- `one` after the number 1, and `many` after any other
abbrev pub one_or_many : ℕ → List ℕ → List ℕ → List ℕ
one_or_many n one many = if n == 1 then one else many

-- a text, a number, and what is counted: `1 entry`, `2 entries`
abbrev pub count_text : List ℕ → ℕ → List ℕ → List ℕ → List ℕ
count_text before n one many = before ++ decimal n ++ codes " " ++ one_or_many n one many

-- ---- truth values (profile)

abbrev pub truth_text : Bool → List ℕ
truth_text true = codes "true"
truth_text false = codes "false"

-- ---- descriptors (profile)

-- the word of an operation, or the code where it has none
abbrev pub operation_label : ℕ → List ℕ
operation_label op =
    unwrap_or (option_map (λ row. row.word) (operation_row op)) (codes "operation 0x" ++ digits 16 false op)

-- what a batch or a transfer says of its size
abbrev pub size_text : Descriptor → List ℕ
size_text d =
    if is_batch d then codes " of " ++ decimal d.size
    else (if is_transfer d then count_text (codes " ") d.size (codes "byte") (codes "bytes") else [])

-- a mark on a descriptor with a fence
abbrev pub fence_text : Descriptor → List ℕ
fence_text d = if is_fenced d then codes " fence" else []

abbrev pub descriptor_text : Descriptor → List ℕ
descriptor_text d = operation_label d.op ++ size_text d ++ fence_text d

-- ---- commands (profile)

-- the operand, where there is one: of a mask in hexadecimal
abbrev pub scope_text : Scope → List ℕ
scope_text Device = []
scope_text (Queue queue) = codes " " ++ decimal queue
scope_text (Queues queues) = codes " 0x" ++ digits 16 false (operand_of_scope (Queues queues))
scope_text (Pasid pasid) = codes " " ++ decimal pasid

abbrev pub command_with_operand : Command → List ℕ
command_with_operand command = command_label command ++ scope_text (scope_of command)

-- a word that is no command
abbrev pub bad_word_text : ℕ → List ℕ
bad_word_text word = codes "command 0x" ++ digits 16 false word

-- ---- phases (profile)

abbrev pub phase_word : Phase → List ℕ
phase_word Off = codes "off"
phase_word On = codes "on"
phase_word Stopping = codes "stopping"

-- ---- lists (profile)

-- a queue, an engine for its entries in progress, or the members of the batch that it works on
abbrev pub list_text : ListUse → List ℕ
list_text (list.Queue queue) = codes "q" ++ decimal queue
list_text (list.Progress engine) = codes "e" ++ decimal engine
list_text (list.Members engine) = codes "batch of e" ++ decimal engine

-- ---- events (profile)

abbrev pub portal_label : Portal → List ℕ
portal_label Limited = codes "limited"
portal_label Unlimited = codes "unlimited"

-- the instruction, with the PASID that ENQCMD brings: of the number that the step has, 20 bits
abbrev pub instruction_text : Kind → List ℕ
instruction_text (Enqcmd pasid) = codes "enqcmd pasid " ++ decimal (pasid_of pasid)
instruction_text Movdir64b = codes "movdir"

abbrev pub outcome_label : Outcome → List ℕ
outcome_label Success = codes "success"
outcome_label PageFault = codes "page-fault"

-- what is asked of the device, in one line without its end
abbrev pub event_text : Event → List ℕ
event_text (event.Submit client queue portal kind desc) =
    codes "submit q" ++ decimal queue ++ codes " " ++ portal_label portal ++ codes " " ++ instruction_text kind
    ++ codes " client " ++ decimal client ++ codes " " ++ descriptor_text desc
event_text (event.Dispatch engine) = codes "dispatch e" ++ decimal engine
event_text (event.Fetch engine desc) = codes "fetch e" ++ decimal engine ++ codes " " ++ descriptor_text desc
event_text (event.Start engine) = codes "start e" ++ decimal engine
event_text (event.Finish engine ticket outcome) =
    codes "finish e" ++ decimal engine ++ codes " name " ++ decimal ticket.name ++ codes " " ++ outcome_label outcome
event_text (event.Issue command) = codes "command " ++ command_with_operand command
event_text event.Poll = codes "poll"
event_text (event.WriteQueue queue config) = codes "write queue " ++ decimal queue
event_text (event.WriteGroup group config) = codes "write group " ++ decimal group
event_text event.ClearError = codes "clear"
