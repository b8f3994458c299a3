use Rattle.dsa_named_trace.proofs.laws.nothing_named_traces_the_same.Goals as goal
use Rattle.dsa_named_trace.proofs.Ends.{nameless_trace}

pub returns : goal.returns
returns c = nameless_trace
