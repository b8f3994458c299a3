use Rattle.dsa_draw.proofs.bars.Table.end_all.Given as goal
use Rattle.std.proofs.Common.{◌≡◌, drop}
use Rattle.dsa_draw.specs.Bars.{noted_in, with_ends}

abbrev pub invariant-loop-row : goal.invariant-loop-row
invariant-loop-row l =
    with_ends l.step (drop l.row-index l.rows) (noted_in l.self) ≡ with_ends l.step l.rows (noted_in l.initial.self)
