-- What is remarked, one finding or one reason more.
use Rattle.std.proofs.Common.{◌≡◌, ◌≢◌, ◌<◌, ◌+◌, ℕ, List, [], ◌∷◌, ◌++◌, map, flat_map, length, take, get_or}
use Rattle.std.proofs.Common.{refl, ap, ◌∙◌}
use Rattle.std.proofs.lemmas.List.{append_assoc, append-nil, take_more, map-append}
use Rattle.std.specs.Prelude.{Bool, false, Option, Some}
use Rattle.dsa_check.specs.declared.{finding.Finding.{Finding}, finding.Reason.{Reason}, remarks.Remark.{Remark}}
use Rattle.dsa_check.specs.Remarks.{Said, said, reasons_or_none, said_of_fault, said_of_reasons}
use Rattle.dsa_check.specs.Remarks.{Says}

pub says_both : (old mid new : List Remark) (xs ys : List Said) → Says old mid xs → Says mid new ys
    → Says old new (xs ++ ys)
says_both old mid new xs ys h k = k ∙ ap (λ all. all ++ ys) h ∙ append_assoc (map said old) xs ys

-- what is remarked in all, where nothing was before
pub says_first : (old mid new : List Remark) (xs ys : List Said) → old ≡ [] → Says old mid xs → Says mid new ys
    → map said new ≡ xs ++ ys
says_first old mid new xs ys none h k = rw none at (says_both old mid new xs ys h k)

flat_map-append : {A : Type 0} (f : A → List Said) (xs ys : List A)
    → flat_map f (xs ++ ys) ≡ flat_map f xs ++ flat_map f ys
flat_map-append f [] ys = refl
flat_map-append f (x ∷ xs) ys = rw (flat_map-append f xs ys, append_assoc) refl

-- one finding more
pub findings_more : (f : Finding → List Said) (findings : List Finding) (i : ℕ) (finding : Finding)
    (old mid new : List Remark) → i < length findings → finding ≡ get_or findings i finding
    → Says old mid (flat_map f (take i findings)) → Says mid new (f finding)
    → Says old new (flat_map f (take (i + 1) findings))
findings_more f findings i finding old mid new inside is h k =
    rw (take_more findings i finding inside, ← is, flat_map-append f (take i findings) (finding ∷ []), append-nil (f finding))
    (says_both old mid new (flat_map f (take i findings)) (f finding) h k)

-- one reason more
pub reasons_more : (is_warning : Bool) (finding : Finding) (reasons : List Reason) (i : ℕ) (reason : Reason)
    (old mid new : List Remark) → i < length reasons → reason ≡ get_or reasons i reason
    → Says old mid (said_of_reasons is_warning finding (take i reasons))
    → Says mid new ((is_warning, finding, Some reason) ∷ [])
    → Says old new (said_of_reasons is_warning finding (take (i + 1) reasons))
reasons_more is_warning finding reasons i reason old mid new inside is h k =
    rw (take_more reasons i reason inside, ← is, map-append)
    (says_both old mid new (said_of_reasons is_warning finding (take i reasons)) ((is_warning, finding, Some reason) ∷ [])
    h k)

-- a fault with reasons
said_each : (finding : Finding) (reasons : List Reason)
    → map (λ (r : Option Reason). (false, finding, r)) (map Some reasons) ≡ said_of_reasons false finding reasons
said_each finding [] = refl
said_each finding (r ∷ rs) = rw (said_each finding rs) refl

said_some : (finding : Finding) (reasons : List Reason) → reasons ≢ []
    → map (λ (r : Option Reason). (false, finding, r)) (reasons_or_none reasons) ≡ said_of_reasons false finding reasons
said_some finding [] some = absurd (some refl)
said_some finding (r ∷ rs) some = said_each finding (r ∷ rs)

pub said_with_reasons : (finding : Finding) → finding.reasons.items ≢ []
    → said_of_fault finding ≡ said_of_reasons false finding finding.reasons.items
said_with_reasons finding some = said_some finding finding.reasons.items some
