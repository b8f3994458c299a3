use Rattle.dsa_party_check.proofs.pointing.spot_of.Goals as goal
use Rattle.std.proofs.Common.{sym, subst}
use Rattle.serde_json.proofs.Nesting.{depth-read}
use Rattle.serde_json.specs.View.{view}
use Rattle.dsa_check.proofs.Shallow.{AtMost}
use Rattle.dsa_party_check.proofs.Deep.{told-deep}

pub is_text_at-requires : goal.is_text_at-requires
is_text_at-requires c =
    let document = view c.args.document.now in
    subst (AtMost 127) (sym c.in-Some.ensures)
    (told-deep 127 document c.args.subject c.args.complaint.now.inside
    (depth-read c.args.bytes.now document c.requires.value))
