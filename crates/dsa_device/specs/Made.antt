-- What keeps a device from being made.
use Rattle.std.specs.Prelude.{ℕ, ◌^◌, Bool, not, ◌&&◌, ◌==◌, nat_lt, List, [], ◌∷◌, ◌++◌, length, Option}
use Rattle.dsa_base.specs.Rows.{first_row, first_row_or}
use Rattle.dsa_regs.specs.{declared.Caps.{Caps}, Caps.{check_caps, cell_count, list_count}}
use Rattle.dsa_store.specs.Content.{Content, held_count}
use Rattle.dsa_device.specs.declared.faults.MakeFault.{MakeFault}
use Rattle.dsa_device.specs.declared.faults.MakeFault.TheVariants.{BadCaps, BadCapacity, BadStore, OutOfMemory}

-- the store is empty, and has the lists and the cells of such a device (profile)
abbrev pub is_store_of : Caps → ℕ → Content → Bool
is_store_of caps cells content = held_count content == 0 && length content == list_count caps
    && cells == cell_count caps

-- what keeps a device from being made, whatever its store, in this order (profile)
abbrev pub opening_table : Caps → ℕ → List (Bool × MakeFault)
opening_table caps capacity = (not (check_caps caps), BadCaps) ∷ (nat_lt (2 ^ 20) capacity, BadCapacity) ∷ []

-- the same over a store with so many cells, which has to be one of the device's (profile)
abbrev pub make_table : Caps → ℕ → ℕ → Content → List (Bool × MakeFault)
make_table caps capacity cells content =
    opening_table caps capacity ++ (not (is_store_of caps cells content), BadStore) ∷ []

-- the first cause that stands (profile)
abbrev pub make_fault : Caps → ℕ → ℕ → Content → Option MakeFault
make_fault caps capacity cells content = first_row (make_table caps capacity cells content)

-- the fault of a device that was not made, where its store was made for it: the first cause that
-- stands, and where none does it is want of memory (profile)
abbrev pub opening_fault : Caps → ℕ → MakeFault
opening_fault caps capacity = first_row_or (opening_table caps capacity) OutOfMemory

-- the fault of a device that was not made: the first cause that stands, and where none does it is
-- want of memory (profile)
abbrev pub fault_or_memory : Caps → ℕ → ℕ → Content → MakeFault
fault_or_memory caps capacity cells content = first_row_or (make_table caps capacity cells content) OutOfMemory
