-- Room in the store for one entry more.
use Rattle.std.specs.Prelude.{◌≡◌, true}
use Rattle.dsa_regs.specs.{declared.Caps.{Caps}, Caps.{cell_count}}
use Rattle.dsa_store.specs.{declared.entry.Cell.{Cell}, Content.{is_free}}
use Rattle.dsa_book.specs.State.{Work}

-- one of the store's cells stands in no list (profile)
abbrev pub HasFreeCell : Caps → Work → Type 0
HasFreeCell caps w = (cell : Cell) × (is_free (cell_count caps) w.content cell ≡ true)
