use Rattle.dsa_chrome.proofs.page.Page.end_all.Given as goal
use Rattle.std.proofs.Common.{◌≡◌, drop}
use Rattle.dsa_chrome.specs.Pages.{after_ends, made_in}

abbrev pub invariant-loop-row : goal.invariant-loop-row
invariant-loop-row l =
    after_ends l.number (drop l.row-index l.rows) (made_in l.self)
    ≡ after_ends l.number l.rows (made_in l.initial.self)
