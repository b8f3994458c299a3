use Rattle.dsa_statement_rows.proofs.ways.tries_from_worlds.Goals as goal
use Rattle.std.proofs.Common.{◌∙◌, ◌∷◌, ◌++◌, [], List, ap, arith, inl, refl, sym}
use Rattle.dsa_explore.specs.declared.stored.Node.{Node}
use Rattle.dsa_statement_rows.specs.Searches.{node_from}
use Rattle.std.proofs.lemmas.{Bool.{false≢true}, Option.{none-some}}

pub returns-clause-not_back : goal.returns-clause-not_back
returns-clause-not_back c space first w old new table more x tried further noted =
    record { more = more; further = further; tried = noted; there = λ back. absurd (false≢true back) }

pub returns-clause-later : goal.returns-clause-later
returns-clause-later c space first w old new table tried are = are.tried tried (inl refl)

pub returns-clause-told : goal.returns-clause-told
returns-clause-told c asks table rows w v move reply finding noted within = noted.told finding within

pub returns-clause-new_node : goal.returns-clause-new_node
returns-clause-new_node c old new tried none front is =
    is.nodes ∙ ap (λ (nodes : List Node). nodes ++ node_from 3 tried old.front ∷ []) none
    ∙ ap (λ n. node_from 3 tried n ∷ []) front

pub returns-clause-front : goal.returns-clause-front
returns-clause-front c old is = record { before = omega (arith, is); changed = refl }

pub returns-clause-front_behind : goal.returns-clause-front_behind
returns-clause-front_behind c old new is advanced = absurd (omega (arith, is, advanced.before))

pub returns-clause-stands : goal.returns-clause-stands
returns-clause-stands c space first old new table more x further = further.is_at

pub returns-clause-nowhere : goal.returns-clause-nowhere
returns-clause-nowhere c space x by none = λ v told leads taken. none v told leads

pub returns-clause-other_queue : goal.returns-clause-other_queue
returns-clause-other_queue c script w by only v reply leads taken =
    absurd (none-some 3 (sym (only v reply leads) ∙ taken))
