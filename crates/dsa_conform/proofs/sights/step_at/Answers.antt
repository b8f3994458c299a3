use Rattle.dsa_conform.proofs.sights.step_at.Goals as goal
use Rattle.std.proofs.Common.{◌≡◌, ◌∙◌, Some, None, sym, ap, get_or}
use Rattle.dsa_conform.proofs.Bare.{read_bare, read_whole}

pub returns-then-not-is_marked : goal.returns-then-not-is_marked
returns-then-not-is_marked c =
    let vs = c.args.sights.now.head.now.steps.now in
    let v = get_or vs c.args.number c.index-sights-number.result in
    let is : v ≡ get_or vs c.args.number v = ap (get_or vs c.args.number) c.index-sights-number.is in
    read_whole c.args.sights.now.left_out.now vs c.args.number v _ c.requires is
    (sym c.is_marked.ensures ∙ c.if-not-is_marked.true) c.parse_step.ensures

pub returns-in_default : goal.returns-in_default
returns-in_default c =
    let vs = c.args.sights.now.head.now.steps.now in
    let v = get_or vs c.args.number c.index-sights-number.result in
    let is : v ≡ get_or vs c.args.number v = ap (get_or vs c.args.number) c.index-sights-number.is in
    read_bare c.args.sights.now.left_out.now vs c.args.number v None c.requires is
    (sym c.is_marked.ensures ∙ c.if-not-is_marked.false) c.in_default.ensures

pub returns : goal.returns
returns c =
    let vs = c.args.sights.now.head.now.steps.now in
    let v = get_or vs c.args.number c.index-sights-number.result in
    let is : v ≡ get_or vs c.args.number v = ap (get_or vs c.args.number) c.index-sights-number.is in
    read_bare c.args.sights.now.left_out.now vs c.args.number v (Some c.in-Some.action) c.requires is
    (sym c.is_marked.ensures ∙ c.if-not-is_marked.false) c.in-Some.ensures
