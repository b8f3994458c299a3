use Rattle.dsa_check.proofs.report.add_no_object.Goals as goal
use Rattle.std.proofs.Common.{codes, string_bytes}
use Rattle.dsa_check.specs.Lines.{found_text}
use Rattle.dsa_check.proofs.Texts.{pushed, behind}

pub returns : goal.returns
returns c =
    behind _ (string_bytes c.args.text.now) (found_text c.args.found) _ (codes " stands here, an object is wanted") _
    c.in_ok-add_found.ensures
    (pushed _ (string_bytes c.add_found.new.text) (codes " stands here, an object is wanted") _ c.push_str.ensures.bytes)
