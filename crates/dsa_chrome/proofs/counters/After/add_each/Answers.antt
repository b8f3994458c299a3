use Rattle.dsa_chrome.proofs.counters.After.add_each.Goals as goal
use Rattle.std.proofs.Common.{◌∙◌, ◌++◌, ap}
use Rattle.dsa_chrome.specs.Counters.{counter_part}
use Rattle.dsa_chrome.proofs.Texts.{below_more}

pub loop-index-preserved : goal.loop-index-preserved
loop-index-preserved g c =
    let each = counter_part c.args.self.now.device.now c.args.gauge c.args.self.now.number in
    c.in_ok-add_counter.ensures ∙ ap (λ text. text ++ each c.loop-index.index) c.loop-index.invariant
    ∙ below_more each c.loop-index.index _
