use Rattle.std.proofs.Common.{◌≡◌, ◌++◌, ℕ, List, drop, map, string_bytes}
use denote.Text.{Utf8}
use denote.Shadow.{shadow}
use Rattle.dsa_family.specs.{Family.{AreChosenTexts}, Told.{chosen_as}}
use Rattle.dsa_family.proofs.headings.add_choices.Given as goal

abbrev pub invariant-loop-choice : goal.invariant-loop-choice
invariant-loop-choice l = shadow (Utf8 l.before)
    × ((rest : List ℕ)
    → AreChosenTexts l.heading l.before l.next (map chosen_as (drop l.choice-index l.choices)) rest
    → (added : List ℕ) × AreChosenTexts l.heading l.first l.next (map chosen_as l.choices) added
    × (string_bytes l.text ++ rest ≡ string_bytes l.initial.text ++ added))
