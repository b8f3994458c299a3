use Rattle.dsa_explore.proofs.laws.searches_find_all_that_may_come.Goals as goal
use Rattle.std.proofs.Common.{length, arith}
use Rattle.dsa_explore.proofs.Whole.{all-found}

pub returns : goal.returns
returns c space first keys levels front rows table lawful fine is rows_are expanded =
    all-found space lawful first keys levels front (length keys) rows table fine is rows_are (omega arith)
    (λ i x below at. expanded i x at)
