-- What is read of a device.
use Rattle.std.specs.Prelude.{ℕ, Bool, List, Option, slice_get}
use Rattle.std.specs.{List.{list_any}, Option.{option_map, option_and_then}}
use Rattle.dsa_store.specs.Content.{HeldEntry, Content, all_held, count_where}
use Rattle.dsa_book.specs.{declared.answer.Ticket.{Ticket}, State.{State, is_ticket}}
use Rattle.dsa_admin.specs.Admin.{is_waited_for}

-- whether an entry of that ticket is held, in any list (profile)
abbrev pub is_held : Content → Ticket → Bool
is_held content ticket = list_any (is_ticket ticket) (all_held content)

-- how many held entries the active command waits for (profile)
abbrev pub awaited : State → Option ℕ
awaited s = option_map (λ active. count_where (is_waited_for active) s.work.content) s.active

-- the entry at a place of a list, where there is such a list (profile)
abbrev pub entry_at : Option (List HeldEntry) → ℕ → Option HeldEntry
entry_at list place = option_and_then (λ pairs. slice_get pairs place) list
