use Rattle.std.proofs.Common.{◌≡◌, [], drop, get_or, reverse}
use Rattle.dsa_keys.specs.Key.{key}
use Rattle.dsa_parties.specs.Standing.{stand_of}
use Rattle.dsa_formulas.specs.{Facts.{is_so}, Formulas.{truths_of}}
use Rattle.dsa_formulas.proofs.meeting.is_met.Given as goal

-- the truths so far and the terms that are left come to those of all terms
abbrev pub invariant-loop-term : goal.invariant-loop-term
invariant-loop-term g l =
    truths_of (is_so l.script (stand_of l.places) (key (λ name. get_or l.labels name 0) l.device.state))
    (reverse l.truths.items) (drop l.term-index l.terms)
    ≡ truths_of (is_so l.script (stand_of l.places) (key (λ name. get_or l.labels name 0) l.device.state)) [] l.terms
