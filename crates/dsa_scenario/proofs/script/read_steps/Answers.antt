use Rattle.dsa_scenario.proofs.script.read_steps.Goals as goal
use Rattle.std.proofs.Common.{◌∙◌, [], ◌∷◌, ◌++◌, ap, append-nil, append_assoc, subst, sym}
use Rattle.serde_json.specs.Data.{object, no_members}
use Rattle.dsa_scenario.specs.{Actions.{action_of}, Tokens.{put_all, ReadsSteps}}
use Rattle.dsa_scenario.proofs.Tokens.{no_step_more, one_step_more, reads_object, token_read}

pub returns-in-Some-EndArray : goal.returns-in-Some-EndArray
returns-in-Some-EndArray c =
    subst (λ done. ReadsSteps c.args.reader.now done c.next.new.self) (append-nil c.loop-actions.actions.items)
    (c.loop-actions.invariant [] c.next.new.self (no_step_more c.loop-actions.reader c.next.new.self
    (token_read c.loop-actions.reader c.next.new.self _ _ c.in-Some-EndArray.ensures.value c.in-Some-EndArray.field-0-is)))

pub loop-actions-preserved : goal.loop-actions-preserved
loop-actions-preserved c more new h =
    let all = put_all c.read_members.new.members.items no_members in
    let done = c.loop-actions.actions.items in
    let behind = c.read_members.new.reader in
    let read' = reads_object 0 c.loop-actions.reader c.next.new.self behind all
    (token_read c.loop-actions.reader c.next.new.self _ _ c.in-Some-BeginObject.ensures.value
    c.in-Some-BeginObject.field-0-is)
    (c.in_ok-read_members-in-Some-BeginObject.ensures c.if-not-branch.false) in
    let asks = c.in-Some.ensures
    ∙ ap (λ ms. action_of (object (put_all ms no_members))) c.deref.ensures.value in
    subst (λ actions. ReadsSteps c.args.reader.now actions new)
    (sym (ap (λ actions. actions ++ more) c.in_ok-push-in-Some-BeginObject.ensures.items
    ∙ append_assoc done (c.in-Some.action ∷ []) more))
    (c.loop-actions.invariant (c.in-Some.action ∷ more) new
    (one_step_more c.loop-actions.reader behind new (object all) c.in-Some.action more read' asks h))
