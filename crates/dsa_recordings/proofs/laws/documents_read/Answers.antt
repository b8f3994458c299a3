use Rattle.dsa_recordings.proofs.laws.documents_read.Goals as goal
use Rattle.std.proofs.Common.{map, subst, sym}
use Rattle.std.proofs.lemmas.Str.{IsUtf8-string_bytes}
use Rattle.std.specs.Str.{IsUtf8}
use Rattle.dsa_scenario.specs.Document.{IsDocument}
use Rattle.dsa_recordings.specs.Reading.{action_of_step}
use Rattle.dsa_recordings.proofs.ReadBack.{document_reads}

pub returns : goal.returns
returns c = λ is fits small askable.
    let caps = c.args.caps.now in
    let steps = c.args.steps.now in
    let utf8 = subst IsUtf8 is (IsUtf8-string_bytes c.args.document.now) in
    subst (λ text. IsDocument text caps c.args.capacity (map action_of_step steps)) (sym is)
    (document_reads caps c.args.capacity steps fits small askable utf8)
