-- A run without a step asks for nothing.
use Rattle.std.proofs.Common.{◌≡◌, [], ◌∷◌, List, map}
use Rattle.dsa_book.specs.declared.event.Step.{Step}
use Rattle.dsa_book.specs.declared.event.Event.TheVariants as event

pub asks_nothing : (steps : List Step) → [] ≡ steps → map (λ step. step.event) steps ≡ event.Poll ∷ [] → ⊥
asks_nothing [] none asked = absurd cc
asks_nothing (step ∷ steps) none asked = absurd cc
