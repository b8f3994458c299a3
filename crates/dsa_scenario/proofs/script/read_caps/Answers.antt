use Rattle.dsa_scenario.proofs.script.read_caps.Goals as goal
use Rattle.std.proofs.Common.{◌∙◌, ap}
use Rattle.serde_json.specs.Data.{object, no_members}
use Rattle.dsa_scenario.specs.{Actions.{caps_of}, Tokens.{put_all}}
use Rattle.dsa_scenario.proofs.Tokens.{caps_read, reads_object, token_read}

pub returns : goal.returns
returns c =
    let all = put_all c.read_members.new.members.items no_members in
    let behind = c.read_members.new.reader in
    caps_read c.args.reader.now behind (object all) c.caps_at.result
    (c.caps_at.ensures ∙ ap (λ ms. caps_of (object (put_all ms no_members))) c.deref.ensures.value)
    (reads_object 0 c.args.reader.now c.next.new.self behind all
    (token_read c.args.reader.now c.next.new.self _ _ c.in-Some-BeginObject.ensures.value
    c.in-Some-BeginObject.field-0-is)
    (c.in_ok-read_members.ensures c.if-not-branch.false))
