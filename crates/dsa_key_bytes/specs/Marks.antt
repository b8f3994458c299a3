-- What is written of the entries of a device.
use Rattle.std.specs.Prelude.{ℕ, ◌+◌, ◌*◌, cond, List, [], ◌∷◌, ◌++◌, flat_map, slice_index}
use Rattle.dsa_desc.specs.Descriptor.{is_drain}
use Rattle.dsa_store.specs.{declared.entry.Entry.{Entry}, Content.{HeldEntry, all_held}}
use Rattle.dsa_book.specs.State.{State}
use Rattle.dsa_admin.specs.Admin.{is_awaited_by}
use Rattle.dsa_keys.specs.{Labels.{Labels}, Key.{waits_as_drain}, Short.{short_entry}}
use Rattle.dsa_key_bytes.specs.declared.entries.Mark.{Mark, TheVariants.{Label, Awaited, WaitedForBy}}
use Rattle.dsa_key_bytes.specs.KeyBytes.{number_of_flag, numbers_of_entry}

-- the number of a mark, which is not 0
abbrev pub mark_number : State → Mark → Entry → ℕ
mark_number s (Label labels) entry = 2 * slice_index labels.now entry.name + number_of_flag entry.running + 1
mark_number s Awaited entry = number_of_flag (is_awaited_by s.active entry) + 1
mark_number s (WaitedForBy drain) entry = number_of_flag (waits_as_drain drain entry) + 1

-- the same of a held entry
abbrev pub mark_numbers : State → Mark → HeldEntry → List ℕ
mark_numbers s mark pair = mark_number s mark pair.1 ∷ []

-- a list by the labels of its entries, and 0
abbrev pub label_numbers : Labels → List HeldEntry → List ℕ
label_numbers labels pairs =
    flat_map (λ (pair : HeldEntry). numbers_of_entry (short_entry labels pair)) pairs ++ 0 ∷ []

-- for which held entries this one waits, if it is a Drain by its operation code
abbrev pub drain_numbers : State → HeldEntry → List ℕ
drain_numbers s pair = cond (is_drain pair.1.desc)
    (1 ∷ (flat_map (mark_numbers s (WaitedForBy pair.1)) (all_held s.work.content) ++ 0 ∷ [])) []
