-- What the worked rows speak of.
use Rattle.std.specs.Prelude.{ℕ, ⊤}
use Rattle.std.specs.Fmt.{digits}
use Rattle.dsa_desc.specs.declared.Descriptor.{Descriptor}
use Rattle.dsa_regs.specs.declared.QueueMask.{QueueMask}
use Rattle.dsa_book.specs.declared.answer.Ticket.{Ticket}

-- a descriptor by its flags, operation code and size
abbrev pub desc : ℕ → ℕ → ℕ → Descriptor
desc flags op size = record { pasid = 9; flags = flags; op = op; size = size }

-- a Move of 4096 bytes
abbrev pub page_move : Descriptor
page_move = desc 0 3 4096

abbrev pub event_ticket : ℕ → ℕ → Ticket
event_ticket cell name = record { cell = record { 0 = cell }; name = name }

abbrev pub mask : ℕ → ℕ → QueueMask
mask group queues = record { group = group; mask = queues }

-- what a row unfolds to compute the digits of a number
unfoldable pub event_digits_on_literals : ⊤
unfolding digits
event_digits_on_literals = tt
