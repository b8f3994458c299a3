use Rattle.dsa_draw.proofs.bars.bars_of.Given as goal
use Rattle.std.proofs.Common.{◌≡◌, [], drop}
use Rattle.dsa_draw.specs.Bars.{noted_in, noted_moments}

abbrev pub invariant-loop-moment : goal.invariant-loop-moment
invariant-loop-moment l =
    noted_moments l.fates l.step l.ended (drop l.moment-index l.moments) (noted_in l.table)
    ≡ noted_moments l.fates 0 0 l.moments (record { bars = []; places = []; clients = [] })
