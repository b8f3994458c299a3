use Rattle.dsa_cli.proofs.rows.documents_too_long.Goals as goal
use Rattle.std.proofs.Common.{◌≡◌, ◌∙◌, ℕ, List, [], length, inl, inr, refl, sym, ap, arith, append-nil}
use Rattle.dsa_check.specs.declared.checking.CheckForm.TheVariants.{Lines}
use Rattle.dsa_check.specs.Check.{too_long_text}

pub returns-clause-told : goal.returns-clause-told
returns-clause-told c bytes long =
    inr (refl, (too_long_text Lines, refl, (bytes, sym (append-nil bytes), long), refl))

pub returns-clause-nothing_else_told : goal.returns-clause-nothing_else_told
returns-clause-nothing_else_told c had left held holds is =
    elim is [
      | inl all ↦ all
      | inr long ↦ let other = long.0 in absurd cc
    ]

pub returns-clause-no_totals : goal.returns-clause-no_totals
returns-clause-no_totals c had left held holds is =
    elim is [
      | inl all ↦ let none = all.3.0 in cc
      | inr long ↦ let none = long.1.1 in cc
    ]

pub returns-clause-cut : goal.returns-clause-cut
returns-clause-cut c bytes long =
    inr (too_long_text Lines, 3, refl, (bytes, sym (append-nil bytes), long), omega arith, refl)

pub returns-clause-not_cut : goal.returns-clause-not_cut
returns-clause-not_cut c had left held holds is =
    let empty : [] ≡ is.0 = cc in
    omega (arith, ap (λ (l : List ℕ). length l) empty, is.4)

pub returns-clause-no_byte : goal.returns-clause-no_byte
returns-clause-no_byte c is =
    omega (arith, ap (λ (l : List ℕ). length l) (is.2.1 ∙ append-nil is.2.0), is.2.2)
