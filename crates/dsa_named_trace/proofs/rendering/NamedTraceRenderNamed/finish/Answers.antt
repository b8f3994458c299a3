use Rattle.dsa_named_trace.proofs.rendering.NamedTraceRenderNamed.finish.Goals as goal
use Rattle.std.proofs.Common.{◌∙◌, ◌++◌, [], ap, flat_map}
use Rattle.dsa_named_trace.specs.Lines.{named_trace_line}

pub returns : goal.returns
returns g c = λ steps made.
    c.in_ok-push_str.ensures.bytes
    ∙ ap (λ l. l ++ c.deref.result.now) made
    ∙ ap (λ l. flat_map (named_trace_line c.args.self.now.form) steps ++ l)
    (c.deref.ensures ∙ c.in_ok-held.ensures [] c.new.ensures.bytes)
