use Rattle.dsa_scenario.proofs.script.read_parts.Goals as goal
use Rattle.serde_json.specs.Data.{no_members, put}
use Rattle.dsa_scenario.proofs.Tokens.{end_read, key_read, no_member_more, one_member_more}

pub loop-next-init : goal.loop-next-init
loop-next-init c = (no_members, λ all new h. h, λ h. h)

pub returns-in_default-next : goal.returns-in_default-next
returns-in_default-next c good =
    let (found, reads, has) = c.loop-next.invariant in (
      found,
      reads found c.next_key.new.self (no_member_more 2 c.loop-next.reader c.next_key.new.self found
          (end_read c.loop-next.reader c.next_key.new.self c.in-Ok.next c.in-Ok.ensures.value c.in_default-next.is)),
      has,
    )

pub loop-next-preserved : goal.loop-next-preserved
loop-next-preserved c =
    let (found, reads, has) = c.loop-next.invariant in
    let (d, here, grows) = c.in_ok-read_part.ensures c.if-not-branch.false in (
      put c.in-Some.key.now d found,
      λ all new h. reads all new (one_member_more 2 c.in-Some.key.now d c.loop-next.reader c.next_key.new.self
          c.read_part.new.reader new found all
          (key_read c.loop-next.reader c.next_key.new.self c.in-Ok.next c.in-Some.key c.in-Ok.ensures.value c.in-Some.is)
          here h),
      λ h. grows found (has h),
    )
