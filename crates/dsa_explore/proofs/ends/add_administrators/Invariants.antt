use Rattle.dsa_parties.specs.declared.places.Move.TheVariants as move
use Rattle.std.proofs.Common.{◌≡◌, ◌++◌}
use Rattle.std.specs.Prelude.{flat_map}
use Rattle.dsa_base.specs.Numbers.{numbers_below}
use Rattle.dsa_parties.specs.Standing.{stand_of}
use Rattle.dsa_explore.specs.Asks.{ask_of, asked}
use Rattle.dsa_explore.proofs.ends.add_administrators.Given as goal

-- those before were asked
abbrev pub invariant-loop-administrator : goal.invariant-loop-administrator
invariant-loop-administrator l = l.left.items
    ≡ l.fn.left.items
    ++ flat_map (λ n. asked (ask_of l.plan.script.now (stand_of l.walked.places) (move.Administrator n))) (numbers_below l.administrator)
