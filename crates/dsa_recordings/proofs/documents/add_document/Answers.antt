use Rattle.dsa_recordings.proofs.documents.add_document.Goals as goal
use Rattle.std.proofs.Common.{codes, string_bytes}
use Rattle.std.proofs.lemmas.Result.{on_ok_weaker}
use Rattle.dsa_recordings.proofs.{Adding.{pushed}, Lines.{document_of}}

pub returns : goal.returns
returns c = on_ok_weaker c.push_str-3.result
    (document_of c.args.caps.now c.args.capacity c.args.steps.now (string_bytes c.args.text.now)
    c.in_ok-push_str.ensures.bytes c.in_ok-add_caps.ensures c.in_ok-add_number_at.ensures
    c.in_ok-push_str-2.ensures.bytes c.in_ok-add_steps.ensures)
    (pushed c.push_str-3.result (string_bytes c.add_steps.new.text) (codes "\n]}") (string_bytes c.push_str-3.new.self)
    c.push_str-3.ensures.bytes)
