use Rattle.dsa_scenario.proofs.rows.reads.Goals as goal
use Rattle.std.proofs.Common.{◌≡◌, ◌+◌, Some, codes, refl, ap, arith, length, length-append}
use Rattle.dsa_scenario.specs.Counted.{HasGiven}

pub returns-clause-asked_for_a_byte : goal.returns-clause-asked_for_a_byte
returns-clause-asked_for_a_byte c old new had left given =
    let before : old.reader.now ≡ codes "12" = cc in
    let after : new.reader.now ≡ codes "2" = cc in
    let gave : HasGiven Some old new (codes "1") = (rw (before, after) refl, given) in (
      λ asked. (codes "1", gave, omega (arith, asked)),
      λ asked. (codes "1", gave, omega (arith, asked)),
    )

pub returns-clause-asked_twice_for_it : goal.returns-clause-asked_twice_for_it
returns-clause-asked_twice_for_it c old new given asked is = omega (arith, given, asked, is.1.1, is.2)

pub returns-clause-given_uncounted : goal.returns-clause-given_uncounted
returns-clause-given_uncounted c old new given is =
    let counted : new.given ≡ old.given + 1 = is.1 in
    omega (arith, given, counted)

pub returns-clause-more_than_it_had : goal.returns-clause-more_than_it_had
returns-clause-more_than_it_had c old new had left is =
    let before : old.reader.now ≡ codes "1" = cc in
    omega (arith, ap length is.0, ap length before, length-append (codes "12") new.reader.now)

pub returns-clause-error_untold : goal.returns-clause-error_untold
returns-clause-error_untold c old new well failed is =
    let same = is.failed.1 in
    absurd cc

pub returns-clause-long_enough : goal.returns-clause-long_enough
returns-clause-long_enough c old new given is =
    let long = is.too_long refl in
    omega (arith, given, long)
