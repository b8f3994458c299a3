use Rattle.dsa_check.proofs.rows.reasons_of_keys.Goals as goal
use Rattle.std.proofs.Common.{◌≡◌, List, [], ◌∷◌, false, length, length-append, codes, ap, arith, refl}
use Rattle.serde_json.specs.Find.{get}
use Rattle.dsa_check.specs.declared.finding.Reason.{Reason, TheVariants.{Missing}}
use Rattle.dsa_check.specs.{Findings.{AreInCaps}, Reasons.{AreReasonsOf}, Tables.{document_rows}}
use Rattle.dsa_check.specs.Worked.{document_without_slots}

-- there is one reason of the document, and one of its caps
one_own : (own : List Reason) → AreReasonsOf document_without_slots document_rows false own → length own ≡ 1
one_own [] each = absurd each
one_own (r ∷ []) each = refl
one_own (r ∷ s ∷ own) each = absurd each.1

one_inside : (inside : List Reason) → AreInCaps (get (codes "caps") document_without_slots) inside
    → length inside ≡ 1
one_inside [] each = absurd each
one_inside (r ∷ []) each = refl
one_inside (r ∷ s ∷ inside) each = absurd each.1

pub returns : goal.returns
returns c = record {
  document = λ steps slots of_steps no_caps of_slots in_caps. record {
    own = Missing steps ∷ [];
    inside = Missing slots ∷ [];
    both = refl;
    of_document = (record { key = steps; named = of_steps; holder = no_caps; so = refl; stray = tt; near = (refl, refl) }, tt);
    of_caps = (record { key = slots; named = of_slots; holder = in_caps; so = refl; stray = tt; near = (refl, refl) }, tt);
  };
  alone = λ reason are. omega (
    arith,
    ap length are.both,
    length-append are.own are.inside,
    one_own are.own are.of_document,
    one_inside are.inside are.of_caps,
  );
  step = λ key name holder.
      (record { key = key; named = name; holder = holder; so = refl; stray = tt; near = (refl, refl) }, tt);
  step_in_caps = λ key holder are.
      let same = are.0.so in
      let own = are.0.holder in
      absurd cc;
  other_key = λ key name are.
      let same = are.0.so in
      let own = are.0.named in
      absurd cc;
  other_reason = λ are. are.0.so;
  no_kind = λ key name holder.
      (refl, record { key = key; named = name; holder = holder; so = refl; stray = tt; near = (refl, refl) });
  misspelled_kind = λ key text are. let inside = are.1.stray.inside in absurd cc;
}
