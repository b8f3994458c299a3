use Rattle.dsa_expand.proofs.walk.make_step.Goals as goal
use Rattle.std.proofs.Common.{◌≡◌, [], ◌∷◌, ◌++◌, map, sym, ap, ◌∙◌, subst}
use Rattle.std.proofs.lemmas.List.{map-append}
use Rattle.serde_json.specs.View.{view}
use Rattle.dsa_expand.specs.{Members.{given_as, pairs_of_step}, Walk.{IsWalkedOver}}
use Rattle.dsa_expand.proofs.Walked.{walked_more}

pub returns : goal.returns
returns c caps capacity steps h =
    let one = c.args.strict in
    let all : map pairs_of_step c.push.new.self.items
    ≡ map pairs_of_step c.args.walk.now.strict.items ++ pairs_of_step one ∷ [] =
    ap (map pairs_of_step) c.in_ok-push.ensures.items
    ∙ map-append pairs_of_step c.args.walk.now.strict.items (one ∷ []) in
    subst (λ pss. IsWalkedOver caps capacity (steps ++ view c.args.step.now ∷ []) c.ask-entry.new.device
    c.note_ticket.new.tickets.items (map given_as c.note_name.new.given.items) pss) (sym all)
    (walked_more caps capacity steps _ _ _ _ _ _ _ (view c.args.step.now) (pairs_of_step one) one.action
    c.ask-entry.result c.event_for-asked.result
    (λ before t. c.event_for-asked.ensures before (rw c.deref.ensures.value t)) c.ask-entry.ensures.answers
    c.ask-entry.ensures.leads c.in_ok-note_ticket.ensures c.in_ok-note_name.ensures c.requires.form c.requires.asks h)
