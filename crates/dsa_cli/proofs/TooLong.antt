-- What is written of a document that is too long.
use Rattle.std.proofs.Common.{◌≡◌, ◌⊎◌, ◌<◌, ◌∙◌, inl, inr, ℕ, List, Option, Some, None, length, take, ap, subst, sym}
use Rattle.std.specs.Io.KnownBytes.{Appends}
use Rattle.dsa_scenario.specs.declared.faults.ScenarioFault.{ScenarioFault, TheVariants.{TooLong, Write}}
use Rattle.dsa_scenario.specs.Scenario.{HasFault}
use Rattle.dsa_cli.specs.{Endings.{IsStoppedBy}, Reports.{IsTextOrTooLong, IsTextOrTooLongCut}}

-- the text was written, by a writer that had nothing of the document, or a write was refused
pub told_too_long : {W : Type 0} (is_of : List ℕ → Option ScenarioFault → List ℕ → Type 0) (told : Option (List ℕ))
    (text : List ℕ) (had left : Option (List ℕ)) (contents : W → Option (List ℕ)) (old mid new : W) (Refused : Type 0)
    (Told : ScenarioFault → Type 0) → told ≡ Some text → HasFault had left TooLong → mid ≡ old
    → (fault : ScenarioFault)
    × ((fault ≡ TooLong) × Appends (contents mid) (contents new) text
    ⊎ (fault ≡ Write) × Refused
    × ((count : ℕ) × (count < length text) × Appends (contents mid) (contents new) (take count text)))
    × Told fault
    → (fault : ScenarioFault)
    × (IsTextOrTooLong is_of told (Some fault) had left (contents old) (contents new)
    ⊎ IsStoppedBy fault (IsTextOrTooLongCut is_of told) had left contents old new
    × (fault ≡ TooLong → told ≡ None) × (fault ≡ Write → Refused))
    × Told fault
told_too_long is_of told text had left contents old mid new Refused Told is long kept (fault, inl whole, line) = (
  fault,
  inl (inr (
    ap Some whole.0,
    (text, is, long, subst (λ w. Appends (contents w) (contents new) text) kept whole.1),
  )),
  line,
)
told_too_long is_of told text had left contents old mid new Refused Told is long kept (fault, inr cut, line) = (
  fault,
  inr (
    (
      subst (λ f. HasFault had left f) (sym cut.0) tt,
      (λ other. absurd (other cut.0)),
      λ e. inr (
        text,
        cut.2.0,
        is,
        long,
        cut.2.1,
        subst (λ w. Appends (contents w) (contents new) (take cut.2.0 text)) kept cut.2.2,
      ),
    ),
    (λ other. let both : TooLong ≡ Write = sym other ∙ cut.0 in absurd cc),
    λ e. cut.1,
  ),
  line,
)
