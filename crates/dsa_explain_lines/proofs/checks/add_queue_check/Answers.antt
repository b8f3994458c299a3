use Rattle.dsa_explain_lines.proofs.checks.add_queue_check.Goals as goal

pub returns-in-ThresholdAboveSize : goal.returns-in-ThresholdAboveSize
returns-in-ThresholdAboveSize c = rw (c.in-ThresholdAboveSize.is, ← c.from-value.ensures, ← c.from-size.ensures)
    c.add_above-in-ThresholdAboveSize.ensures

pub returns-in-BatchTooLarge : goal.returns-in-BatchTooLarge
returns-in-BatchTooLarge c = rw c.in-BatchTooLarge.is c.add_shift.ensures

pub returns-in-NoGroup : goal.returns-in-NoGroup
returns-in-NoGroup c = rw c.in-NoGroup.is c.add_field-in-NoGroup.ensures
