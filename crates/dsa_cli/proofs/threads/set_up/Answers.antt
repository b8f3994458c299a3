use Rattle.dsa_cli.proofs.threads.set_up.Goals as goal
use Rattle.std.proofs.Common.{◌≡◌, true}
use Rattle.dsa_cli.proofs.Setup.{were_done}

pub returns-clause-not_done : goal.returns-clause-not_done
returns-clause-not_done g c failed same =
    let all = were_done c.args.load.now c.args.admin.now _ _ _ _ c.write_queue-first.result
    c.write_group-second.result c.issue-third.result c.issue-last.result _ _ _ _
    c.write_queue-first.ensures.receipts c.write_group-second.ensures.receipts
    c.issue-third.ensures.receipts c.issue-last.ensures.receipts same in
    let yes : c.all_done.result ≡ true = c.all_done.ensures.1 all in
    absurd cc
