use Rattle.dsa_check.proofs.remarks.holder_of.Goals as goal
use Rattle.serde_json.proofs.Nesting.{depth-read}
use Rattle.serde_json.specs.View.{view}

pub part_at-requires : goal.part_at-requires
part_at-requires c = depth-read c.args.bytes.now (view c.args.walked.now.document.now) c.requires.json.value
