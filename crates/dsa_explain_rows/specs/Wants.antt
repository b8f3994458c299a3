-- Wants of read buffers in worked histories.
use Rattle.dsa_buffers.specs.declared.want.BufferWant.{BufferWant}

-- a second Move in the first group, where the second uses 12 (`buffers_of_a_batch`)
abbrev pub want_of_the_first : BufferWant
want_of_the_first = record { group = 0; asked = 4; used = 4; allowed = 8; buffers = 16; in_use = 16; kept = 0 }

-- three buffers in the second group, which uses four of the eight that it has reserved, and the first uses eight
abbrev pub want_of_the_second : BufferWant
want_of_the_second = record want_of_the_first { group = 1; asked = 3; allowed = 12; in_use = 12 }

-- a second Move in the second of three groups, where four are kept for the third (`buffers_reserved_for_another`)
abbrev pub kept_want : BufferWant
kept_want = record want_of_the_first { group = 1; in_use = 12; kept = 4 }

-- a third Move as a member in the second group, where the first uses 8 (`buffers_of_a_batch`)
abbrev pub want_of_a_member : BufferWant
want_of_a_member = record want_of_the_first { group = 1; used = 8; allowed = 12 }

-- a Move as a member in the first group, which may use four and uses them (`fence_before_buffers`)
abbrev pub few_wanted : BufferWant
few_wanted = record want_of_the_first { allowed = 4; in_use = 4; kept = 8 }
