use Rattle.dsa_explain_lines.proofs.keeping.add_keeping.Goals as goal
use Rattle.dsa_explain_lines.specs.Parts.{kept_part}
use Rattle.dsa_explain_lines.proofs.Joining.{told-next}

pub loop-other-preserved : goal.loop-other-preserved
loop-other-preserved g c = told-next (kept_part c.args.device.now.state.work c.args.group)
    c.loop-other.other _ _ _ c.loop-other.invariant c.in_ok-add_kept.ensures
