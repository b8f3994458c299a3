use Rattle.dsa_scenario.proofs.rows.lengths_of_documents.Goals as goal
use Rattle.std.proofs.Common.{[], ap, append-nil, arith, length, length-append, sym}

pub returns-clause-longest : goal.returns-clause-longest
returns-clause-longest c bytes long = (tt, tt, omega (arith, long))

pub returns-clause-longer : goal.returns-clause-longer
returns-clause-longer c bytes long is = omega (arith, long, is.2)

pub returns-clause-longest_read : goal.returns-clause-longest_read
returns-clause-longest_read c bytes long = (bytes, sym (append-nil bytes), omega (arith, long))

pub returns-clause-longer_read : goal.returns-clause-longer_read
returns-clause-longer_read c bytes long is =
    omega (arith, long, ap length is.1, length-append is.0 [], is.2)

pub returns-clause-not_too_long : goal.returns-clause-not_too_long
returns-clause-not_too_long c bytes long is =
    omega (arith, long, ap length is.1, length-append is.0 [], is.2)

pub returns-clause-too_long : goal.returns-clause-too_long
returns-clause-too_long c bytes long = (bytes, sym (append-nil bytes), omega (arith, long))
