use Rattle.std.proofs.Common.{◌≡◌, List, map, take}
use Rattle.dsa_base.specs.Lists.{In}
use Rattle.dsa_regs.specs.declared.Caps.{Caps}
use Rattle.dsa_keys.specs.Parties.{World, Stored}
use Rattle.dsa_parties.specs.{Standing.{Standing}, declared.script.Script.{Script}}
use Rattle.dsa_explore.specs.declared.trials.Trial.{Trial}
use Rattle.dsa_explore.specs.{Trials.{IsTrial}, Trying.{AreTried, IsAt}, Walked.{space_of}}
use Rattle.dsa_explore.proofs.expanding.note_trials.Given as goal

-- those before were noted
abbrev pub invariant-loop-trial : goal.invariant-loop-trial
invariant-loop-trial l = ((caps : Caps) → (script : Script) → (first : World Standing)
    → (table : List (Stored Standing)) → (x : Stored Standing)
    → IsAt (space_of caps script) first l.fn.search table l.number x
    → ((trial : Trial) → In trial l.trials → IsTrial (space_of caps script) x trial)
    → AreTried (space_of caps script) first l.fn.search table l.number x
    (map (λ (trial : Trial). trial.tried) (take l.trial-index l.trials)) l.search)
    × ((l.search.seen.most ≡ l.fn.search.seen.most)
    × ((l.search.seen.width ≡ l.fn.search.seen.width) × (l.search.front ≡ l.fn.search.front)))
