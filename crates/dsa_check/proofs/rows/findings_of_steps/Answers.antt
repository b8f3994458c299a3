use Rattle.dsa_check.proofs.rows.findings_of_steps.Goals as goal
use Rattle.std.proofs.Common.{◌≡◌, ℕ, [], ◌∷◌, zero, suc, refl}
use Rattle.std.specs.Prelude.{slice_get, IsSomeAnd, None}
use Rattle.serde_json.specs.Data.{null}
use Rattle.dsa_check.specs.declared.finding.Finding.{Finding}
use Rattle.dsa_check.specs.Findings.{TellsStep}

-- the one item is the first, and of no kind
first : (i : ℕ) (finding : Finding) → IsSomeAnd (slice_get (null ∷ []) i) (TellsStep [] finding)
    → (i ≡ 0) × (finding.place.kind ≡ None)
first zero finding tells = (refl, tells.kind)
first (suc i) finding tells = absurd tells

pub returns : goal.returns
returns c = record {
  of_the_item = λ finding fault kind nowhere told.
      (fault, record { kind = kind; reasons = told; line = rw nowhere.no_line tt; column = nowhere.no_column });
  of_another = λ finding fault is. let other = is.0 in absurd cc;
  of_a_kind = λ finding kind is. let none = is.1.kind in absurd cc;
  of_one = λ finding fault kind nowhere told.
      (0, fault, record { kind = kind; reasons = told; line = rw nowhere.no_line tt; column = nowhere.no_column });
  of_none = λ finding fault is.
      let zeroth = (first is.0 finding is.2).0 in
      let other = is.1 in
      absurd cc;
  of_one_of_a_kind = λ finding kind is. let none = (first is.0 finding is.2).1 in absurd cc;
}
