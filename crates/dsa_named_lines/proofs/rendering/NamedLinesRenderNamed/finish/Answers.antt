use Rattle.dsa_named_lines.proofs.rendering.NamedLinesRenderNamed.finish.Goals as goal
use Rattle.std.proofs.Common.{◌∙◌, ◌++◌, [], ap}
use Rattle.dsa_named_lines.specs.Run.{lines_with_names}

pub returns : goal.returns
returns g c = λ steps made.
    c.in_ok-push_str.ensures.bytes
    ∙ ap (λ l. l ++ c.deref.result.now) made
    ∙ ap (λ l. lines_with_names c.args.self.now.selection steps ++ l)
    (c.deref.ensures ∙ c.in_ok-fates.ensures [] c.new.ensures.bytes)
