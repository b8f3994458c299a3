use Rattle.dsa_cli.proofs.threads.scripts_for.Goals as goal
use Rattle.std.proofs.Common.{◌≡◌, ◌+◌, ◌<◌, ℕ, List, length, get_or, rules, sym, subst}
use Rattle.std.specs.Global.{Vec}
use Rattle.dsa_workers.specs.declared.scripts.ClientStep.{ClientStep}
use Rattle.dsa_cli.{specs.Threads.{IsClientScript}, proofs.Pushes.{each-pushed}}

pub loop-client-preserved : goal.loop-client-preserved
loop-client-preserved c =
    let each = c.args.load.now.each in
    let len : length c.loop-client.clients.items ≡ c.loop-client.client = search rules in
    let grown = each-pushed (λ k script. IsClientScript (k + 1) each script) c.loop-client.clients.items
    c.loop-client.client c.in_ok-client_script.field-0 len
    c.loop-client.invariant.scripts (search rules) in
    record {
      count = search rules;
      scripts = subst (λ (xs : List (Vec ClientStep)). (k : ℕ) (d : Vec ClientStep) → k < c.loop-client.client + 1
          → IsClientScript (k + 1) each (get_or xs k d))
          (sym c.in_ok-push.ensures.items) grown;
    }
