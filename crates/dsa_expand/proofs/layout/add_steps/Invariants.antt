use Rattle.std.proofs.Common.{◌≡◌, ◌++◌, ℕ, List, drop, map, string_bytes}
use denote.Text.{Utf8}
use denote.Shadow.{shadow}
use Rattle.dsa_expand.specs.{Layout.{AreObjectsTexts}, Members.{pairs_of_step}}
use Rattle.dsa_expand.proofs.layout.add_steps.Given as goal

abbrev pub invariant-loop-step : goal.invariant-loop-step
invariant-loop-step l = shadow (Utf8 l.before)
    × ((rest : List ℕ) → AreObjectsTexts l.before l.next (map pairs_of_step (drop l.step-index l.steps)) rest
    → (added : List ℕ) × AreObjectsTexts l.first l.next (map pairs_of_step l.steps) added
    × (string_bytes l.text ++ rest ≡ string_bytes l.initial.text ++ added))
