use Rattle.dsa_explore.proofs.keys.add_marks.Goals as goal
use Rattle.std.proofs.Common.{false}
use Rattle.dsa_explore.specs.Keys.{mark_bytes}
use Rattle.dsa_explore.proofs.Written.{bytes-more}

pub loop-mark-preserved : goal.loop-mark-preserved
loop-mark-preserved c =
    bytes-more mark_bytes c.args.came.now c.loop-mark.mark-index false c.args.out.now.items c.loop-mark.out.items
    c.add_mark.new.out.items c.loop-mark-test.true c.loop-mark.invariant c.in_ok-add_mark.ensures
