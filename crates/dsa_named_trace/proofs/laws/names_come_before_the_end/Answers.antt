use Rattle.dsa_named_trace.proofs.laws.names_come_before_the_end.Goals as goal
use Rattle.std.proofs.Common.{◌∷◌}
use Rattle.dsa_trace.specs.{Changes.{told_before_step}, declared.form.Part.TheVariants.{LineEnd}, Marks.{mark}}
use Rattle.dsa_named_trace.specs.Lines.{trace_note}
use Rattle.dsa_named_trace.proofs.Ends.{cut_end, ends}

pub returns : goal.returns
returns c form step own more =
    let end = ends form (told_before_step form step.before) step.number step.entry step.after in
    (end.0, end.1, cut_end (mark form LineEnd) end.0 _ (trace_note form (own ∷ more)) end.1)
