-- Findings that compare as equal are the same.
use Rattle.dsa_book.specs.contracts.fate.FatePartialEq.TheImpl as fate_eq
use Rattle.dsa_book.specs.declared.fate.Fate.TheVariants as fate
use Rattle.dsa_explore.specs.contracts.found.AskPartialEq.TheImpl as ask_eq
use Rattle.dsa_explore.specs.contracts.found.FindingPartialEq.TheImpl as finding_eq
use Rattle.std.proofs.Common.{◌≡◌, true, refl, ap}
use Rattle.dsa_book.specs.declared.fate.Fate.{Fate}
use Rattle.dsa_book.proofs.{EqualParts.{never, same-number, field}, EqualReplies.{same-reply}}
use Rattle.dsa_explore.specs.declared.found.Ask.{Ask, TheVariants.{Submission, Act}}
use Rattle.dsa_explore.specs.declared.found.Finding.{Finding, TheVariants.{Answer, End, Wait, Removal}}

pub same-ask : (a b : Ask) → ask_eq.eq-value.it a b ≡ true → a ≡ b
same-ask (Submission x) (Submission y) h = ap Submission (same-number x y h)
same-ask (Act x) (Act y) h = ap Act (same-number x y h)
same-ask _ _ h = never h

same-fate : (a b : Fate) → fate_eq.eq-value.it a b ≡ true → a ≡ b
same-fate (fate.Completed x) (fate.Completed y) h = ap fate.Completed (same-number x y h)
same-fate (fate.Aborted x) (fate.Aborted y) h = ap fate.Aborted (same-number x y h)
same-fate fate.Abandoned fate.Abandoned h = refl
same-fate _ _ h = never h

pub same-finding : (a b : Finding) → finding_eq.eq-value.it a b ≡ true → a ≡ b
same-finding (Answer x0 x1) (Answer y0 y1) h =
    let p = field same-ask x0 y0 _ h in
    λ i. Answer (p.0 i) (same-reply x1 y1 p.1 i)
same-finding (End x0 x1) (End y0 y1) h =
    let p = field same-number x0 y0 _ h in
    λ i. End (p.0 i) (same-fate x1 y1 p.1 i)
same-finding (Wait x0 x1) (Wait y0 y1) h =
    let p = field same-number x0 y0 _ h in
    λ i. Wait (p.0 i) (same-number x1 y1 p.1 i)
same-finding (Removal x0 x1) (Removal y0 y1) h =
    let p = field same-number x0 y0 _ h in
    λ i. Removal (p.0 i) (same-number x1 y1 p.1 i)
same-finding _ _ h = never h
