use Rattle.dsa_parties.specs.Standing.{stand_of}
use Rattle.dsa_parties.proofs.Watched.{IsMarked}
use Rattle.dsa_parties.proofs.script.Script.remember.Given as goal

-- the watches so far are marked
abbrev pub invariant-loop-number : goal.invariant-loop-number
invariant-loop-number l =
    IsMarked l.self (stand_of l.fn.places) l.shown.made l.shown.reply l.shown.ends.now l.number l.places
