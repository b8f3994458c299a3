use Rattle.dsa_named_trace.proofs.rendering.NamedTraceRenderNamed.add_step.Goals as goal
use Rattle.std.proofs.Common.{◌≡◌, ◌∙◌, ◌++◌, [], append-nil, ap, map, string_bytes}
use Rattle.std.proofs.lemmas.{List.{flat_map_more}, Result.{on_ok_weaker}}
use Rattle.dsa_scenario.specs.Steps.{visit}
use Rattle.dsa_named.specs.{Names.{own_of}, Steps.{named_visit}}
use Rattle.dsa_trace.specs.{Changes.{told_before_step}, Lines.{trace_line_of_step}}
use Rattle.dsa_named_trace.specs.Lines.{named_trace_line, noted_line}
use Rattle.dsa_named_trace.proofs.Ends.{ends}

pub returns : goal.returns
returns g c =
    let form = c.args.self.now.form in
    let step = c.args.step.now in
    on_ok_weaker c.add_noted_line.result
    (λ adds steps before told is.
    let here = visit step.number before step.entry.now step.device.now in
    let line : c.deref.result.now ≡ trace_line_of_step form here =
    c.deref.ensures ∙ c.in_ok-add_step.ensures [] before told c.new-line.ensures.bytes
    ∙ append-nil (trace_line_of_step form here) in
    let end = ends form (told_before_step form before) step.number step.entry.now step.device.now in
    adds end.0 (line ∙ end.1)
    ∙ ap (λ l. string_bytes c.args.page.now ++ noted_line form (map own_of c.deref-2.result.now) l) line
    ∙ ap (λ n. string_bytes c.args.page.now ++ noted_line form n (trace_line_of_step form here))
    (ap (map own_of) c.deref-2.ensures.value ∙ c.in_ok-shown.ensures)
    ∙ ap (λ l. l ++ named_trace_line form (named_visit (map own_of c.args.names.now) here)) is
    ∙ flat_map_more (named_trace_line form) [] steps (named_visit (map own_of c.args.names.now) here))
    c.add_noted_line.ensures
