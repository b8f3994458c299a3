use Rattle.dsa_keys_rows.proofs.parties.worlds_with_equal_keys.Goals as goal
use Rattle.std.proofs.Common.{◌≡◌, ℕ, ◌≤◌, ap, arith, inl, inr, refl}
use Rattle.dsa_base.specs.Lists.{In}
use Rattle.dsa_regs.specs.declared.Phase.TheVariants.{Off, On}
use Rattle.dsa_book.specs.declared.answer.{Reply.TheVariants.{Poll}, PollAnswer.TheVariants.{Nothing}}
use Rattle.dsa_keys.specs.Parties.{Stored}
use Rattle.dsa_keys_rows.specs.Parties.{at_first, two_worlds, world_before}

pub returns-clause-places : goal.returns-clause-places
returns-clause-places c equal = omega (arith, equal.places)

pub returns-clause-states : goal.returns-clause-states
returns-clause-states c equal = let phases : Off ≡ On = ap (λ key. key.setup.device) equal.keys in absurd cc

pub returns-clause-at_level : goal.returns-clause-at_level
returns-clause-at_level c = record {
  at = record { level = 0; world = world_before at_first };
  within = inl refl;
  soon = omega arith;
  keys = record { places = refl; keys = refl };
}

pub returns-clause-too_soon : goal.returns-clause-too_soon
returns-clause-too_soon c stored = go stored.at stored.within stored.soon stored.keys.places
  where
    go : (x : Stored ℕ) → In x (two_worlds at_first (Poll Nothing) at_first)
        → x.level ≤ 0 → 1 ≡ x.world.places → ⊥
    go x (inl is) soon places = omega (arith, places, ap (λ (y : Stored ℕ). y.world.places) is)
    go x (inr (inl is)) soon places = omega (arith, soon, ap (λ (y : Stored ℕ). y.level) is)
    go x (inr (inr none)) soon places = none
