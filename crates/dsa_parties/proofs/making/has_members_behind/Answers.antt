use Rattle.dsa_parties.proofs.making.has_members_behind.Goals as goal
use Rattle.std.proofs.Common.{◌≡◌, ℕ, false, sym, arith}
use Rattle.std.proofs.lemmas.Grind.{common_steps}
use Rattle.dsa_parties.specs.Scripts.{is_member_at, member_label}
use Rattle.dsa_parties.proofs.Tested.{all-miss}

pub returns-then-not-is_member_at : goal.returns-then-not-is_member_at
returns-then-not-is_member_at c =
    let p = λ (k : ℕ). is_member_at c.args.entries.now c.args.label (member_label c.args.label k) in
    let e : p c.loop-k.k ≡ false = grind (arith, common_steps, c.is_member_at.ensures, c.if-not-is_member_at.true) in
    sym (all-miss p c.args.members c.loop-k.k c.loop-k-test.true e)
