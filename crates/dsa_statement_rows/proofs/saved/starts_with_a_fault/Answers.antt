use Rattle.dsa_statement_rows.proofs.saved.starts_with_a_fault.Goals as goal
use Rattle.std.proofs.Common.{arith}

pub returns-clause-capacity : goal.returns-clause-capacity
returns-clause-capacity c bytes long magic version size checksum caps is =
    (long, magic, version, size, checksum, caps, λ few. absurd (omega (arith, few, is)))

pub returns-clause-too_large : goal.returns-clause-too_large
returns-clause-too_large c bytes is start = absurd (omega (arith, start.capacity, is))
