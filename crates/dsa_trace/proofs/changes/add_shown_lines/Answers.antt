use Rattle.dsa_trace.proofs.changes.add_shown_lines.Goals as goal
use Rattle.std.proofs.Common.{◌∙◌, ℕ, ◌+◌, List, ◌++◌, ap}
use Rattle.dsa_trace.specs.Changes.{shown_line, line_texts}
use Rattle.dsa_trace.proofs.Numbers.{below_more}

pub loop-place-preserved : goal.loop-place-preserved
loop-place-preserved c =
    let line : ℕ → List ℕ = λ place. shown_line (line_texts c.args.was.now) (line_texts c.args.now.now) (c.args.first + place) in
    c.in_ok-add_shown_line.ensures
    ∙ ap (λ (text : List ℕ). text ++ line c.loop-place.place) c.loop-place.invariant
    ∙ below_more line c.loop-place.place _
