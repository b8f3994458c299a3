use Rattle.dsa_trace.proofs.laws.lines_are_shown_where_they_differ.Goals as goal
use Rattle.std.proofs.Common.{[], inl, inr, ap, get_or}
use Rattle.std.specs.Prelude.{bytes_eq, if◌then◌else◌}
use Rattle.std.proofs.lemmas.{Bool.{cases_Bool}, Slice.Eq.{bytes_eq-Decides}}

pub returns-clause-same : goal.returns-clause-same
returns-clause-same c was now number same =
    ap (λ is. if is then [] else get_or now number []) ((bytes_eq-Decides _ (get_or was number [])).1 same)

pub returns-clause-other : goal.returns-clause-other
returns-clause-other c was now number apart =
    let line = get_or now number [] in
    let old = get_or was number [] in
    elim (cases_Bool (bytes_eq line old)) [
      | inl same ↦ absurd (apart ((bytes_eq-Decides line old).0 same))
      | inr differ ↦ ap (λ is. if is then [] else line) differ
    ]
