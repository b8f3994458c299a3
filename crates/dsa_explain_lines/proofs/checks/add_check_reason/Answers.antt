use Rattle.dsa_explain_lines.proofs.checks.add_check_reason.Goals as goal

pub returns-in-SizesTooLarge : goal.returns-in-SizesTooLarge
returns-in-SizesTooLarge c = rw (c.in-SizesTooLarge.is, ← c.from.ensures) c.add_counted_twice.ensures
