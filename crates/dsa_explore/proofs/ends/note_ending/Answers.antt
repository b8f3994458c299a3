use Rattle.dsa_explore.proofs.ends.note_ending.Goals as goal
use Rattle.std.proofs.Common.{subst, sym}
use Rattle.dsa_explore.specs.Ends.{IsEndingNoted}
use Rattle.dsa_explore.proofs.Endings.{noted-new, noted-old}

pub returns-in_default : goal.returns-in_default
returns-in_default c =
    subst (IsEndingNoted c.args.endings.now.items c.args.ending) (sym c.in_ok-push.ensures.items)
    (noted-new c.args.endings.now.items c.args.ending (rw (← c.as_slice.ensures.value) c.in_default.ensures.none))

pub returns : goal.returns
returns c =
    subst (IsEndingNoted c.args.endings.now.items c.args.ending) (sym c.lower_steps.ensures)
    (noted-old c.args.endings.now.items c.in-Some.i c.args.ending (rw (← c.as_slice.ensures.value) c.in-Some.ensures.inside)
    (rw (← c.as_slice.ensures.value) c.in-Some.ensures.alike))
