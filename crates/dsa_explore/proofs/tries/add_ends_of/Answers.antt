use Rattle.dsa_explore.proofs.tries.add_ends_of.Goals as goal
use Rattle.dsa_parties.specs.declared.places.Move.TheVariants as move
use Rattle.std.proofs.Common.{List}
use Rattle.dsa_desc.specs.declared.Outcome.{Outcome, TheVariants.{Success, PageFault}}
use Rattle.dsa_parties.specs.declared.script.Script.{Script}
use Rattle.dsa_explore.specs.declared.{stored.Try.{Try}, walked.Walked.{Walked}}
use Rattle.dsa_explore.specs.Tries.{ListsMove}
use Rattle.std.proofs.Common.{ℕ}
use Rattle.dsa_explore.proofs.Listing.{lists-more}

each : (script : Script) (walked : Walked) (tries : List Try) (e label : ℕ)
    → ListsMove script walked tries (move.Finish e label Success)
    → ListsMove script walked tries (move.Finish e label PageFault)
    → (outcome : Outcome) → ListsMove script walked tries (move.Finish e label outcome)
each script walked tries e label s f Success = s
each script walked tries e label s f PageFault = f

pub returns-clause-kept : goal.returns-clause-kept
returns-clause-kept c = λ t i. c.in_ok-add_move-2.ensures.kept t (c.in_ok-add_move.ensures.kept t i)

pub returns-clause-lists : goal.returns-clause-lists
returns-clause-lists c =
    each c.args.plan.now.script.now c.args.walked.now c.add_move-2.new.tries.items c.args.engine c.args.label
    (lists-more c.args.plan.now.script.now c.args.walked.now c.add_move.new.tries.items c.add_move-2.new.tries.items _
    c.in_ok-add_move-2.ensures.kept c.in_ok-add_move.ensures.lists) c.in_ok-add_move-2.ensures.lists
