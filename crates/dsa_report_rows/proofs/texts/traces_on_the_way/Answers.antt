use Rattle.dsa_report_rows.proofs.texts.traces_on_the_way.Goals as goal
use Rattle.std.proofs.Common.{◌∙◌, inl, refl, sym, ap}
use Rattle.std.specs.Prelude.{List, flat_map}
use Rattle.dsa_named.specs.Steps.{NamedVisit}
use Rattle.dsa_named_trace.specs.Lines.{named_trace_line}

pub returns-clause-no_steps : goal.returns-clause-no_steps
returns-clause-no_steps c form text names page =
    page.lines ∙ ap (λ (visits : List NamedVisit). flat_map (named_trace_line form) visits) (sym page.split)

pub returns-clause-whole : goal.returns-clause-whole
returns-clause-whole c bytes text is = (refl, inl is)

pub returns-clause-same_writer : goal.returns-clause-same_writer
returns-clause-same_writer c form first now taken has = has.same
