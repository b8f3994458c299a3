use Rattle.dsa_regs.proofs.groups.group_after.Goals as goal
use Rattle.std.proofs.Common.{◌≡◌, ◌<◌, ◌&&◌, true, false, nat_lt, length, sym, refl, subst, arith}
use Rattle.std.proofs.lemmas.Grind.{common_steps}
use Rattle.std.specs.List.{list_any}
use Rattle.dsa_base.specs.Numbers.{numbers_below}
use Rattle.dsa_regs.{specs.Config.{names, group_at}, proofs.Places.{first-below, none-below}}

pub returns-then-names : goal.returns-then-names
returns-then-names c =
    let there : c.loop-group.group < length c.args.groups.now = omega arith in
    let here : (nat_lt c.args.first c.loop-group.group
    && names c.args.named (group_at c.args.groups.now c.loop-group.group)) ≡ true = grind (arith, common_steps) in
    sym (first-below (λ g. nat_lt c.args.first g && names c.args.named (group_at c.args.groups.now g))
    (length c.args.groups.now) c.loop-group.group there c.loop-group.invariant here)

pub returns : goal.returns
returns c =
    let all : c.loop-group.group ≡ length c.args.groups.now = omega arith in
    rw (none-below (λ g. nat_lt c.args.first g && names c.args.named (group_at c.args.groups.now g))
    (length c.args.groups.now) (subst (λ n. list_any
    (λ g. nat_lt c.args.first g && names c.args.named (group_at c.args.groups.now g)) (numbers_below n) ≡ false) all
    c.loop-group.invariant)) refl
