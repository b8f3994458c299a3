use Rattle.dsa_conform.proofs.told.add_told.Goals as goal
use Rattle.dsa_conform.proofs.{Placing.{none_placed}, PartC.{more_told}}

pub loop-entry-init : goal.loop-entry-init
loop-entry-init c = none_placed _ _

pub loop-entry-preserved : goal.loop-entry-preserved
loop-entry-preserved c =
    more_told c.args.lines.now.items c.loop-entry.lines.items c.place.new.lines.items c.args.told.now
    c.deref-entry-items.result.now c.as_str.result.now c.loop-entry.entry-index _ c.in_ok-line.line
    c.deref-entry-items.ensures.value c.as_str.ensures.value c.loop-entry-test.true c.loop-entry.invariant
    c.in_ok-line.ensures.0 c.in_ok-line.ensures.1 c.in_ok-place.ensures
