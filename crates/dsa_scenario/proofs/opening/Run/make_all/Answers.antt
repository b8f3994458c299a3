use Rattle.dsa_scenario.proofs.opening.Run.make_all.Goals as goal
use Rattle.std.proofs.Common.{length, [], refl, subst, sym, take_all}
use Rattle.dsa_scenario.specs.{Steps.{IsWalkTo}, Streams.{IsPageBehind}}
use Rattle.dsa_scenario.proofs.{Walks.{counted}, Streams.{other_page}}

pub returns : goal.returns
returns g c caps capacity h =
    let is_page = g.D.RenderSteps.is_page c.args.what.now in
    let actions = c.args.actions.now in
    let all = take_all c.loop-i.i actions c.loop-i-test.false in
    other_page (IsPageBehind [] is_page) is_page caps capacity actions (length actions) _ _ _ _
    (λ steps made. subst (λ s. is_page s c.loop-i.page) (sym made.1) made.2)
    (counted (IsPageBehind [] is_page) caps capacity actions c.loop-i.i _ _ _
    (subst (λ done. IsWalkTo (IsPageBehind [] is_page) caps capacity done c.loop-i.i c.loop-i.self.device
    c.loop-i.self.tickets.items c.loop-i.page) all
    (c.loop-i.invariant caps capacity (other_page is_page (IsPageBehind [] is_page) caps capacity [] 0 _ _ _ _
    (λ steps made. (steps, refl, made)) h))))
