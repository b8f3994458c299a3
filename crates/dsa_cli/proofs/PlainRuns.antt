-- What a plain run writes.
use Rattle.std.proofs.Common.{◌≡◌, ◌⊎◌, inl, inr, ℕ, List, Option, Some, None}
use Rattle.dsa_scenario.specs.declared.faults.ScenarioFault.{ScenarioFault}
use Rattle.dsa_scenario.specs.Scenario.{IsRenderingOf, IsTextWritten, IsCutShort}
use Rattle.dsa_cli.specs.{Endings.{IsStoppedBy}, Reports.{IsTextOrTooLongCut, IsTextOrTooLong}}

-- what a plain run makes of a document, and the fault that is told after it: none
abbrev pub IsPlain : List ℕ → Option ScenarioFault → List ℕ → Type 0
IsPlain bytes fault text = (fault ≡ None) × IsRenderingOf bytes text

pub plain_written : (had left held holds : Option (List ℕ))
    → IsTextWritten (λ bytes text. IsPlain bytes None text) had left held holds
    → IsTextWritten IsRenderingOf had left held holds
plain_written had left held holds all = (all.0, all.1, all.2, all.3.1, all.4)

-- only the first bytes of what it makes
plain_cut : (had left held holds : Option (List ℕ)) → IsTextOrTooLongCut IsPlain None had left held holds
    → IsCutShort had left held holds
plain_cut had left held holds (inl cut) = (cut.0, cut.1, cut.3, cut.4, cut.5.1, cut.6, cut.7)
plain_cut had left held holds (inr long) = let none = long.2 in absurd cc

pub plain_stopped : {W : Type 0} (fault : ScenarioFault) (had left : Option (List ℕ)) (contents : W → Option (List ℕ))
    (old new : W) (Untold Noted : Type 0)
    → IsTextOrTooLong IsPlain None (Some fault) had left (contents old) (contents new)
    ⊎ IsStoppedBy fault (IsTextOrTooLongCut IsPlain None) had left contents old new × Untold × Noted
    → IsStoppedBy fault IsCutShort had left contents old new × Noted
plain_stopped fault had left contents old new Untold Noted (inl (inl all)) = let none = all.3.0 in absurd cc
plain_stopped fault had left contents old new Untold Noted (inl (inr long)) = let none = long.1.1 in absurd cc
plain_stopped fault had left contents old new Untold Noted (inr (stopped, untold, noted)) =
    ((stopped.0, stopped.1, λ e. plain_cut had left (contents old) (contents new) (stopped.2 e)), noted)
