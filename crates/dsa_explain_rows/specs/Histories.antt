-- Worked histories of what waits: a Drain for two, and members of the second group for read buffers.
use Rattle.std.specs.Prelude.{List, [], ◌∷◌}
use Rattle.dsa_book.specs.declared.answer.DispatchAnswer.TheVariants.{Taken}
use Rattle.dsa_book.specs.declared.answer.SubmitAnswer.TheVariants.{Accepted}
use Rattle.dsa_book.specs.declared.event.Step.{Step}
use Rattle.dsa_worked.specs.Setup.{no_op, drain, move, batch, ticket, to_shared, to_dedicated, enqcmd_unlimited}
use Rattle.dsa_worked.specs.Setup.{dispatched, step_of_a_take, member, begun, ended}

-- where two engines have one group: one has two No-ops, and the other the Drain behind them; then the first ends
abbrev pub drain_behind_two : List Step
drain_behind_two =
    to_shared no_op 0 0 ∷ to_shared no_op 1 1 ∷ enqcmd_unlimited 5 drain (Accepted (ticket 2 2)) ∷
    step_of_a_take 0 0 0 ∷
    step_of_a_take 0 1 1 ∷ dispatched 1 (Taken (ticket 2 2) 0) ∷ ended 0 0 0 0x01 ∷ []

-- three members run in the second group, which uses all that it may: one more waits, and a Move in the queue
abbrev pub batch_of_the_second_group : List Step
batch_of_the_second_group =
    to_dedicated (batch 4) 0 0 ∷ step_of_a_take 1 0 0 ∷ member 1 (move 16384) 1 1 ∷ member 1 (move 16384) 2 2 ∷
    member 1 (move 16384) 3 3 ∷ member 1 (move 16384) 4 4 ∷ begun 1 1 1 ∷ begun 1 2 2 ∷ begun 1 3 3 ∷
    to_dedicated (move 16384) 5 5 ∷ []

-- of three members, two run that fail: a Move of no bytes and a Batch in a batch
abbrev pub two_members_fail : List Step
two_members_fail =
    to_shared (batch 3) 0 0 ∷ step_of_a_take 0 0 0 ∷ member 0 (move 0) 1 1 ∷ member 0 (batch 2) 2 2 ∷
    member 0 no_op 3 3 ∷ begun 0 1 1 ∷ begun 0 2 2 ∷ begun 0 3 3 ∷ ended 0 1 1 0x13 ∷ ended 0 2 2 0x10 ∷
    ended 0 3 3 0x01 ∷ []
