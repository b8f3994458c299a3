use Rattle.dsa_explore.proofs.ends.note_at.Goals as goal
use Rattle.std.proofs.Common.{subst, inl, inr, refl}
use Rattle.dsa_parties.specs.Offers.{parties_of}
use Rattle.dsa_explore.specs.Ends.{IsDecided, IsLastWorld}

pub returns-clause-noted : goal.returns-clause-noted
returns-clause-noted c = λ goes_on first table x begun is at room.
    let script = c.args.plan.now.script.now in
    let decided = (rw c.in-Some.is at c.in_ok-is_end.ensures.decided) first table x begun is at room in
    let ending = (rw c.in-Some-2.is at c.in_ok-ending.ensures.ending) first table x begun is at in
    inl (record {
      ending = c.in-Some-2.ending;
      end = subst (IsDecided (IsLastWorld (parties_of script) x.world)) c.if-not-is_end.false decided;
      is = ending.0;
      steps = ending.1;
      noted = c.in_ok-note_ending.ensures;
    })

pub returns-then-not-is_end-clause-noted : goal.returns-then-not-is_end-clause-noted
returns-then-not-is_end-clause-noted c = λ goes_on first table x begun is at room.
    let script = c.args.plan.now.script.now in
    let decided = (rw c.in-Some.is at c.in_ok-is_end.ensures.decided) first table x begun is at room in
    inr (refl, subst (IsDecided (IsLastWorld (parties_of script) x.world)) c.if-not-is_end.true decided)
