-- What calls one after the other did to a reader and to a writer.
use Rattle.std.proofs.Common.{◌≡◌, ◌≢◌, ◌⊎◌, ◌+◌, ℕ, Bool, List, ◌++◌, Option, Result, Ok, Err, IfErr, arith}
use Rattle.std.proofs.Common.{length-append, inl, inr, refl, ap, ◌∙◌}
use Rattle.dsa_scenario.specs.declared.counted.CountedReader.{CountedReader}
use Rattle.dsa_scenario.specs.declared.faults.ScenarioFault.{ScenarioFault}
use Rattle.dsa_scenario.specs.declared.faults.ScenarioFault.{TheVariants.{Read, TooLong, Write}}
use Rattle.dsa_scenario.specs.declared.faults.ScenarioFault.{TheVariants.{OutOfMemory}}
use Rattle.dsa_scenario.specs.declared.watched.WatchedWriter.{WatchedWriter}
use Rattle.dsa_scenario.specs.{Faults.{IsFaultNoted}, Watched.{has_refused, IsSameWriter, IsWrittenFor}}
use Rattle.dsa_scenario.specs.Counted.{has_reader_failed, IsSameReader, IsAskedFor, IsReadFor}
use Rattle.dsa_scenario.proofs.GivenBytes.{HasGiven-trans}
use Rattle.dsa_serve.specs.Dialogue.{IsLate}

-- a reader that is asked, and then asked again
pub asked_on : {R : Type 0} (remaining : R → Option (List ℕ)) (a b c : CountedReader R) (m n : ℕ)
    → IsAskedFor remaining a b m → IsAskedFor remaining b c n → IsAskedFor remaining a c (m + n)
asked_on remaining a b c m n first more = (
  first.0 ++ more.0,
  HasGiven-trans remaining a b c first.0 more.0 first.1 more.1,
  omega (arith, first.2, more.2, length-append first.0 more.0),
)

-- the reader was asked so often, and no error is noted of it that was not before
pub record HasRead {R : Type 0} (remaining : R → Option (List ℕ)) (besides : ℕ)
    (old new : CountedReader R) : Type 0 where
  pub same : IsSameReader old new
  pub asked : IsAskedFor remaining old new besides
  pub well : has_reader_failed new ≡ has_reader_failed old

-- what is noted from a start where the same was noted
noted_on : {T : Type 0} (fault : ScenarioFault) (result : Result T ScenarioFault) (a b c : Bool) → b ≡ a
    → IsFaultNoted fault result b c → IsFaultNoted fault result a c
noted_on fault (Ok x) a b c same h = (h.0, h.1 ∙ same, tt)
noted_on fault (Err e) a b c same h = (h.0, tt, λ other. h.2 other ∙ same)

-- and then a call was made with it
pub read_then : {T R : Type 0} (remaining : R → Option (List ℕ)) (result : Result T ScenarioFault)
    (a b c : CountedReader R)
    → HasRead remaining 0 a b → IsReadFor remaining result b c → IsReadFor remaining result a c
read_then remaining result a b c first more = record {
  same = more.same ∙ first.same;
  asked = asked_on remaining a b c 0 1 first.asked more.asked;
  failed = noted_on Read result _ _ _ first.well more.failed;
  too_long = λ is.
      let long = more.too_long is in
      let given = first.asked.1.1 in
      omega (arith, long, given);
}

-- and then it was not asked any more
pub read_done : {T R : Type 0} (remaining : R → Option (List ℕ)) (result : Result T ScenarioFault)
    (a b : CountedReader R)
    → IfErr result IsLate → IfErr result (λ e. e ≢ Read) → HasRead remaining 1 a b
    → IsReadFor remaining result a b
read_done remaining (Ok x) a b late other h = record {
  same = h.same;
  asked = h.asked;
  failed = (λ is. absurd cc, h.well, tt);
  too_long = λ is. absurd cc;
}
read_done remaining (Err e) a b late other h = record {
  same = h.same;
  asked = h.asked;
  failed = (λ is. absurd (other cc), tt, λ _. h.well);
  too_long = λ is. let long : e ≡ TooLong = cc in elim late [
    | inl read ↦ absurd (other read)
    | inr (inl write) ↦ absurd cc
    | inr (inr memory) ↦ absurd cc
  ];
}

-- what was told is told on
pub read_told : {T U R : Type 0} (remaining : R → Option (List ℕ)) (e : ScenarioFault) (a b : CountedReader R)
    → IsReadFor {T = T} remaining (Err e) a b → IsReadFor {T = U} remaining (Err e) a b
read_told remaining e a b h = record {
  same = h.same;
  asked = h.asked;
  failed = (λ is. let same : e ≡ Read = cc in h.failed.0 (ap Err same), tt, h.failed.2);
  too_long = λ is. let same : e ≡ TooLong = cc in h.too_long (ap Err same);
}

pub written_told : {T U W : Type 0} (e : ScenarioFault) (a b : WatchedWriter W)
    → IsWrittenFor {T = T} (Err e) a b
    → IsWrittenFor {T = U} (Err e) a b
written_told e a b h = record {
  same = h.same;
  refused = (λ is. let same : e ≡ Write = cc in h.refused.0 (ap Err same), tt, h.refused.2);
}

of_no_write : (e : ScenarioFault) → (e ≡ Read) ⊎ (e ≡ TooLong) ⊎ (e ≡ OutOfMemory) → e ≢ Write
of_no_write e (inl is) same = absurd cc
of_no_write e (inr (inl is)) same = absurd cc
of_no_write e (inr (inr is)) same = absurd cc

-- a fault of the first line is none of writing, and the writer is as it was
pub not_written : {T W : Type 0} (result : Result T ScenarioFault) (writer : WatchedWriter W)
    → IfErr result (λ e. (e ≡ Read) ⊎ (e ≡ TooLong) ⊎ (e ≡ OutOfMemory)) → IsWrittenFor result writer writer
not_written (Ok x) writer fault = record { same = refl; refused = (λ is. absurd cc, refl, tt) }
not_written (Err e) writer fault =
    record { same = refl; refused = (λ is. absurd (of_no_write e fault cc), tt, λ _. refl) }

-- a writer that had taken all, and then a call was made with it
pub written_then : {T W : Type 0} (result : Result T ScenarioFault) (a b c : WatchedWriter W)
    → IsSameWriter a b × (has_refused b ≡ has_refused a) → IsWrittenFor result b c → IsWrittenFor result a c
written_then result a b c first more =
    record { same = more.same ∙ first.0; refused = noted_on Write result _ _ _ first.1 more.refused }
