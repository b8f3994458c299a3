use Rattle.dsa_conform.proofs.rows.ascending.Goals as goal
use Rattle.std.{proofs.{Common.{◌<◌, [], arith}, lemmas.List.Elements.{All-nil, All-head}}}
use Rattle.dsa_conform.specs.{Allowed.{queue_taken}, Worked.{record_of_a_take}}

pub returns-clause-one : goal.returns-clause-one
returns-clause-one c = (All-nil (λ later. 0 < queue_taken later), tt)

pub returns-clause-twice : goal.returns-clause-twice
returns-clause-twice c is =
    let below : 1 < 1 = All-head (λ later. 1 < queue_taken later) (record_of_a_take 1 1) [] is.0 in
    absurd (omega (arith, below))

pub returns-clause-last : goal.returns-clause-last
returns-clause-last c is =
    let below : 2 < 1 = All-head (λ later. 2 < queue_taken later) (record_of_a_take 2 1) []
    is.1.0 in
    absurd (omega (arith, below))
