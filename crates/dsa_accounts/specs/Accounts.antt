-- Entries that programs submitted and members of batches: how many are held or have a fate.
use Rattle.std.specs.{Prelude.{ℕ, ◌+◌, Bool, true, false, not, ◌||◌, List, count_by, is_some, is_none}, List.{list_all}}
use Rattle.dsa_store.specs.Content.{HeldEntry, all_held}
use Rattle.dsa_book.specs.{declared.fate.{Fate.{Fate, TheVariants.{Abandoned}}, FateRow.{FateRow}}, State.{Work}}

-- the fate of an entry that a program submitted (profile)
abbrev pub is_submitted_row : FateRow → Bool
is_submitted_row row = is_none row.parent

-- the fate of a member of a batch (profile)
abbrev pub is_member_row : FateRow → Bool
is_member_row row = is_some row.parent

-- a held entry that a program submitted (profile)
abbrev pub is_submitted_entry : HeldEntry → Bool
is_submitted_entry pair = is_none pair.1.parent

-- a held member of a batch (profile)
abbrev pub is_member_entry : HeldEntry → Bool
is_member_entry pair = is_some pair.1.parent

-- how many entries that programs submitted have a fate or are held (profile)
abbrev pub submitted_entries : Work → ℕ
submitted_entries w = count_by is_submitted_row w.fates + count_by is_submitted_entry (all_held w.content)

-- how many members of batches have a fate or are held (profile)
abbrev pub member_entries : Work → ℕ
member_entries w = count_by is_member_row w.fates + count_by is_member_entry (all_held w.content)

-- a member behind a fence that a failed member stands before (Intel DSA: fence)
abbrev pub was_abandoned : Fate → Bool
was_abandoned Abandoned = true
was_abandoned _ = false

-- what a program submitted is completed or aborted: only members are abandoned (profile)
abbrev pub only_members_abandoned : List FateRow → Bool
only_members_abandoned fates = list_all (λ row. is_member_row row || not (was_abandoned row.fate)) fates
