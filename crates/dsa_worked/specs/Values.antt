-- Values at which single definitions are computed.
use Rattle.std.specs.{Prelude.{ℕ, false, List, [], ◌∷◌, None, ⊤}, Fmt.{digits, padded_integral, char_count}}
use Rattle.dsa_regs.specs.declared.Fault.{Fault, TheVariants.{SizesTooLarge, TwoGroups, ReservedTooMany}}
use Rattle.dsa_regs.specs.declared.Fault.TheVariants.{AllowedOutOfRange, GroupWithoutEngine, GroupWithoutQueue}
use Rattle.dsa_store.specs.{declared.entry.Cell.{Cell}, Content.{HeldEntry, Content}}
use Rattle.dsa_book.specs.declared.note.BatchNote.{BatchNote}
use Rattle.dsa_worked.specs.Setup.{no_op, held_entry}

-- what may be wrong with the numbers of a device and of its groups
abbrev pub faults_of_devices : List Fault
faults_of_devices =
    SizesTooLarge ∷ TwoGroups ∷ ReservedTooMany ∷ AllowedOutOfRange ∷ GroupWithoutEngine ∷ GroupWithoutQueue ∷ []

-- the cell of this number
abbrev pub cell : ℕ → Cell
cell n = record { 0 = n }

-- the cell of this number, with a No-op of that name
abbrev pub of_cell : ℕ → HeldEntry
of_cell n = held_entry n n None no_op 0 false

-- cells 4 and 2, cell 7, and no cell
abbrev pub three_lists : Content
three_lists = (of_cell 4 ∷ of_cell 2 ∷ []) ∷ (of_cell 7 ∷ []) ∷ [] ∷ []

-- a note of batch 0 with two members, none of them fetched
abbrev pub a_note : BatchNote
a_note = record { batch = 0; count = 2; fetched = 0; failed = false; closed = false }

-- what a row unfolds to compute the digits of a number
unfoldable pub digits_in_lines : ⊤
unfolding digits padded_integral char_count
digits_in_lines = tt
