use Rattle.dsa_regs.proofs.groups.group_naming.Goals as goal
use Rattle.std.proofs.Common.{length, unwrap_or, ap, ◌∙◌}
use Rattle.dsa_regs.{specs.Config.{names}, proofs.Places.{place-or-length}}

pub returns : goal.returns
returns c =
    c.unwrap_or.ensures ∙ ap (λ o. unwrap_or o (length c.args.groups.now)) c.first_naming.ensures
    ∙ place-or-length (names c.args.named) c.args.groups.now
