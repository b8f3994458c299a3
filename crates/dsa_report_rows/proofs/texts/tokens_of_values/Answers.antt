use Rattle.dsa_report_rows.proofs.texts.tokens_of_values.Goals as goal
use Rattle.std.proofs.Common.{lit≤, refl}
use Rattle.json.specs.Json.{no_members}

pub returns-clause-shallow : goal.returns-clause-shallow
returns-clause-shallow c old new d reads = reads.shallow

pub returns-clause-value : goal.returns-clause-value
returns-clause-value c old new d reads = reads.is

pub returns-clause-no_members : goal.returns-clause-no_members
returns-clause-no_members c new found =
    record { ms = no_members; spelled = refl; shallow = lit≤ tt; are = refl }
