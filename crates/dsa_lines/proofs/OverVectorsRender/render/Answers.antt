use Rattle.dsa_lines.proofs.OverVectorsRender.render.Goals as goal
use Rattle.std.proofs.Common.{string_bytes}
use Rattle.std.proofs.lemmas.Result.{IfOk-weaker}
use Rattle.dsa_scenario.proofs.Plain.{lines_of_document}

pub returns-clause-ok : goal.returns-clause-ok
returns-clause-ok c = IfOk-weaker c.render_over.result _ _
    (λ r h. (h.0, lines_of_document c.args.bytes.now (string_bytes r.text) h.1)) c.render_over.ensures.ok
