-- Scripts: what stands at each label, and when the parts and the members of a script fit.
use Rattle.std.specs.Prelude.{ℕ, ◌+◌, ◌^◌, Bool, true, false, not, ◌&&◌, ◌||◌, ◌==◌, nat_lt, nat_le, List, [], ◌∷◌}
use Rattle.std.specs.Prelude.{length, map, Option, Some, None, slice_get, option_and_then}
use Rattle.std.specs.{List.{list_all}, Option.{option_map_or}}
use Rattle.dsa_base.specs.{Rows.{passes}, Numbers.{numbers_below}}
use Rattle.dsa_desc.specs.{declared.Descriptor.{Descriptor}, Descriptor.{is_batch}}
use Rattle.dsa_parties.specs.declared.script.{Act.{Act}, ClientScript.{ClientScript}, Part.{Part}, ScriptEntry.{ScriptEntry}}
use Rattle.dsa_parties.specs.declared.script.Origin.{Origin, TheVariants.{Submitted, Fetched}}
use Rattle.dsa_parties.specs.declared.script.Submission.{Submission}

-- ---- entries and their labels

-- how a client submits it, if one does
abbrev pub origin_submission : Origin → Option Submission
origin_submission (Submitted submission) = Some submission
origin_submission (Fetched batch) = None

-- the submission with this label
abbrev pub submission_at : List ScriptEntry → ℕ → Option Submission
submission_at entries label =
    option_and_then (λ (entry : ScriptEntry). origin_submission entry.origin) (slice_get entries label)

-- how many members the entry with this label has
abbrev pub member_count : List ScriptEntry → ℕ → ℕ
member_count entries label = option_map_or (λ (s : Submission). s.members) (submission_at entries label) 0

-- the label of member k of the batch with this label
abbrev pub member_label : ℕ → ℕ → ℕ
member_label batch k = batch + 1 + k

-- the label is of a member of the batch with that label
abbrev pub is_member_label : List ScriptEntry → ℕ → ℕ → Bool
is_member_label entries batch label = nat_lt batch label && nat_le label (batch + member_count entries batch)

-- ---- what fits

-- whether it is fetched
abbrev pub is_member_origin : Origin → Bool
is_member_origin (Submitted submission) = false
is_member_origin (Fetched batch) = true

-- whether it is fetched for the batch with this label
abbrev pub is_fetched_for : ℕ → Origin → Bool
is_fetched_for batch (Submitted submission) = false
is_fetched_for batch (Fetched other) = other == batch

-- the entry with this label is a member of the batch with that label
abbrev pub is_member_at : List ScriptEntry → ℕ → ℕ → Bool
is_member_at entries batch label =
    passes (λ (entry : ScriptEntry). is_fetched_for batch entry.origin) (slice_get entries label)

-- it has no members, or it is a Batch that counts as many
abbrev pub counts_members : Descriptor → ℕ → Bool
counts_members desc members = members == 0 || (is_batch desc && members == desc.size)

-- a submission has its members behind it, and a member stands among those of its batch
abbrev pub is_in_order : List ScriptEntry → ℕ → Descriptor → Origin → Bool
is_in_order entries label desc (Submitted s) = counts_members desc s.members
    && list_all (λ k. is_member_at entries label (member_label label k)) (numbers_below s.members)
is_in_order entries label desc (Fetched batch) = is_member_label entries batch label

-- each entry is in order
abbrev pub are_in_order : List ScriptEntry → Bool
are_in_order entries =
    list_all
    (λ label. passes (λ (e : ScriptEntry). is_in_order entries label e.desc e.origin) (slice_get entries label))
    (numbers_below (length entries))

-- the parts stand one behind the other, from the first of these numbers to the second
abbrev pub are_parts : ℕ → ℕ → List Part → Bool
are_parts from end [] = from == end
are_parts from end (part ∷ parts) = part.first == from && nat_le from part.end && are_parts part.end end parts

-- no member stands at this label
abbrev pub is_boundary : List ScriptEntry → ℕ → Bool
is_boundary entries label =
    not (passes (λ (entry : ScriptEntry). is_member_origin entry.origin) (slice_get entries label))

-- the entries are in order, no part ends within a batch, the parts divide entries and acts, and there are not too
-- many for labels and for moves (profile)
abbrev pub is_script : List ScriptEntry → List ClientScript → List Act → List Part → Bool
is_script entries clients acts administrators =
    are_in_order entries
    && list_all (λ (client : ClientScript). is_boundary entries client.part.end) clients
    && are_parts 0 (length entries) (map (λ (client : ClientScript). client.part) clients)
    && are_parts 0 (length acts) administrators
    && nat_lt (length entries) (2 ^ 32)
    && nat_lt (length acts) (2 ^ 32)
    && nat_le (length clients) (2 ^ 16)
    && nat_le (length administrators) (2 ^ 16)
