use Rattle.dsa_scenario.proofs.members.read_members.Goals as goal
use Rattle.serde_json.specs.Data.{no_members}
use Rattle.dsa_scenario.specs.Tokens.{put_all}
use Rattle.dsa_scenario.proofs.Tokens.{end_read, key_read, no_member_more, one_leaf_more}

pub returns-in_default-next : goal.returns-in_default-next
returns-in_default-next c good =
    c.loop-next.invariant (put_all c.loop-next.members.items no_members) c.next_key.new.self
    (no_member_more 0 c.loop-next.reader c.next_key.new.self _
    (end_read c.loop-next.reader c.next_key.new.self c.in-Ok.next c.in-Ok.ensures.value c.in_default-next.is))

pub loop-next-preserved : goal.loop-next-preserved
loop-next-preserved c all new h =
    c.loop-next.invariant all new
    (one_leaf_more c.loop-next.members.items c.push.new.self.items c.in-Some.key c.in-Some-read_leaf.leaf
    c.loop-next.reader c.next_key.new.self c.read_leaf.new.reader c.in_ok-push.ensures.items
    (key_read c.loop-next.reader c.next_key.new.self c.in-Ok.next c.in-Some.key c.in-Ok.ensures.value c.in-Some.is)
    c.in-Some-read_leaf.ensures all new h)
