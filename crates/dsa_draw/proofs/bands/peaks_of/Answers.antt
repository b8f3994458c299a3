use Rattle.dsa_draw.proofs.bands.peaks_of.Goals as goal
use Rattle.std.proofs.Common.{◌≡◌, ◌+◌, drop}
use Rattle.dsa_draw.specs.Bands.{peaks_of, raised_by}
use Rattle.dsa_draw.proofs.Turns.{higher, highest_at_end}

pub loop-moment-preserved : goal.loop-moment-preserved
loop-moment-preserved c =
    let on : raised_by c.args.band c.raised-most.result (drop (c.loop-moment.moment-index + 1) c.args.moments.now)
    ≡ peaks_of c.args.band c.args.moments.now =
    rw (c.raised-most.ensures, c.level_in.ensures)
    (higher c.args.band c.args.moments.now c.loop-moment.moment-index c.moment-item.result c.loop-moment.most
    (peaks_of c.args.band c.args.moments.now) c.loop-moment-test.true c.moment-item.is c.loop-moment.invariant) in
    on

pub returns : goal.returns
returns c = highest_at_end c.args.band c.args.moments.now c.loop-moment.moment-index c.loop-moment.most
    (peaks_of c.args.band c.args.moments.now) c.loop-moment-test.false c.loop-moment.invariant
