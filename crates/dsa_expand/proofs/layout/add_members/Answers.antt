use Rattle.dsa_expand.proofs.layout.add_members.Goals as goal
use Rattle.std.proofs.Common.{refl, string_bytes}
use Rattle.dsa_expand.specs.{Layout.{AreMembersTexts}, Members.{pair_of}}
use Rattle.dsa_expand.proofs.Texts.{item_more, items_end, IsMemberText, no_members_text, member_before}

pub loop-member-preserved : goal.loop-member-preserved
loop-member-preserved c =
    let made = c.in_ok-add_member.ensures in (
      c.utf8.next,
      item_more pair_of IsMemberText AreMembersTexts no_members_text member_before c.args.first.now c.args.next.now
          c.args.members.now (string_bytes c.args.text.now) c.loop-member.before.now c.loop-member.member-index
          c.member-item.result (string_bytes c.loop-member.text) (string_bytes c.add_member.new.text) _
          c.loop-member-test.true c.member-item.is (made.0, made.1, refl) made.2 c.loop-member.invariant.1,
    )

pub returns : goal.returns
returns c =
    items_end pair_of IsMemberText AreMembersTexts no_members_text member_before c.args.first.now c.args.next.now
    c.args.members.now (string_bytes c.args.text.now) c.loop-member.before.now c.loop-member.member-index
    (string_bytes c.loop-member.text) c.loop-member-test.false c.loop-member.invariant.1
