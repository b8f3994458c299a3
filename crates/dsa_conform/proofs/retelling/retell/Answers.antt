use Rattle.dsa_conform.proofs.retelling.retell.Goals as goal
use Rattle.std.proofs.lemmas.Result.{IfOk-weaker}
use Rattle.dsa_conform.specs.Seen.{seen_as}
use Rattle.dsa_conform.proofs.Steps.{reads_value}
use Rattle.dsa_conform.proofs.ToldAgain.{page_none, told_on, told_text}

pub loop-i-init : goal.loop-i-init
loop-i-init g c = λ observed read.
    page_none (g.D.RenderSteps.is_page c.args.what.now) _ _ _ _ _ c.in_ok-way.ensures c.open-page.ensures

pub unreachable-requires : goal.unreachable-requires
unreachable-requires g c = reads_value c.args.head.now.steps.now c.requires.0 c.loop-i.i c.step-item.result
    c.requires.1 c.loop-i-test.true c.step-item.is c.in_default.ensures

pub loop-i-preserved : goal.loop-i-preserved
loop-i-preserved g c = λ observed read.
    told_on (g.D.RenderSteps.is_page c.args.what.now) c.args.head.now.steps.now observed c.loop-i.i c.step-item.result
    (c.in-Some.action, seen_as c.in-Some.all) (seen_as c.seen_of_first-seen.result) c.args.count _ _ _ _ _ _ _ _ read
    c.loop-i-test.true c.step-item.is c.in-Some.ensures
    c.seen_of_first-seen.ensures.first c.seen_of_first-seen.ensures.other
    c.in_ok-entry.ensures (c.loop-i.invariant observed read)

pub returns : goal.returns
returns g c =
    IfOk-weaker c.finish.result _ _ (λ text ends observed read.
    told_text (g.D.RenderSteps.is_page c.args.what.now) (g.D.RenderSteps.is_text c.args.what.now)
    c.args.head.now.steps.now observed c.loop-i.i c.args.count _ _ _ _ _ _ read c.loop-i-test.false ends
    (c.loop-i.invariant observed read))
    c.finish.ensures
