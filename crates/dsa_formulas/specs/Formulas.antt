-- When a formula holds.
use Rattle.std.specs.Prelude.{Bool, false, not, ◌&&◌, ◌||◌, List, [], ◌∷◌}
use Rattle.dsa_keys.specs.{Key.{key}, Parties.{World}}
use Rattle.dsa_parties.specs.{declared.script.Script.{Script}, Standing.{Standing}}
use Rattle.dsa_formulas.specs.declared.formula.Fact.{Fact}
use Rattle.dsa_formulas.specs.declared.formula.Term.{Term, TheVariants.{Is, Known, Not, Both, Either}}
use Rattle.dsa_formulas.specs.Facts.{is_so}

-- the truths so far, the last one first, after one more term: what joins truths stands behind what comes to them
abbrev pub truths_after : (Fact → Bool) → List Bool → Term → List Bool
truths_after so truths (Is fact) = so fact ∷ truths
truths_after so truths (Known truth) = truth ∷ truths
truths_after so (a ∷ truths) Not = not a ∷ truths
truths_after so (b ∷ a ∷ truths) Both = (a && b) ∷ truths
truths_after so (b ∷ a ∷ truths) Either = (a || b) ∷ truths
truths_after so truths term = truths

-- the truths after all these terms
abbrev pub truths_of : (Fact → Bool) → List Bool → List Term → List Bool
truths_of so truths [] = truths
truths_of so truths (term ∷ terms) = truths_of so (truths_after so truths term) terms

-- the last truth
abbrev pub last_truth : List Bool → Bool
last_truth [] = false
last_truth (truth ∷ truths) = truth

-- the formula of these terms holds, where this is so
abbrev pub holds_there : (Fact → Bool) → List Term → Bool
holds_there so terms = last_truth (truths_of so [] terms)

-- it holds in the world, by where the parties stand and by the key of the state
abbrev pub holds_in_world : Script → List Term → World Standing → Bool
holds_in_world script terms w = holds_there (is_so script w.places (key w.labels w.state)) terms
