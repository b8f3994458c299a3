use Rattle.dsa_scenario.proofs.rows.calls_of_readers.Goals as goal
use Rattle.std.proofs.Common.{◌≡◌, ◌+◌, ℕ, List, None, arith, codes, refl, replicate}
use Rattle.std.proofs.lemmas.List.{length-replicate}
use Rattle.dsa_scenario.specs.Counted.{IsAskedFor, asked_of, given_of}
use Rattle.dsa_scenario.specs.declared.counted.CountedReader.{CountedReader}

pub returns-clause-error : goal.returns-clause-error
returns-clause-error c old new same had left given asked well failed =
    let before : old.reader.now ≡ codes "12" = cc in
    let after : new.reader.now ≡ codes "2" = cc in
    record {
      same = same;
      asked = (codes "1", (rw (before, after) refl, given), omega (arith, asked));
      failed = (λ told. failed, tt, λ other. absurd (other refl));
      too_long = λ told. absurd cc;
    }

-- so many bytes, of a reader of which none is known
unknown : (old new : CountedReader (List ℕ)) (n : ℕ) → given_of new ≡ given_of old + n
    → asked_of new ≡ asked_of old + 1 → IsAskedFor (λ reader. None) old new 1
unknown old new n given asked =
    let long = length-replicate {A = ℕ} n 0 in
    (replicate n 0, (tt, omega (arith, given, long)), omega (arith, asked, long))

pub returns-clause-too_long : goal.returns-clause-too_long
returns-clause-too_long c old new same given asked failed = record {
  same = same;
  asked = unknown old new 1_048_577 given asked;
  failed = (λ told. absurd cc, tt, λ other. failed);
  too_long = λ told. omega (arith, given);
}

pub returns-clause-another_reader : goal.returns-clause-another_reader
returns-clause-another_reader c old new other is = other is.same

pub returns-clause-asked_too_often : goal.returns-clause-asked_too_often
returns-clause-asked_too_often c old new given asked is =
    omega (arith, given, asked, is.asked.1.1, is.asked.2)

pub returns-clause-failed : goal.returns-clause-failed
returns-clause-failed c counted failed = failed
