use Rattle.dsa_explore.proofs.ending_rows.ends_and_others.Goals as goal
use Rattle.dsa_book.specs.declared.answer.PollAnswer.TheVariants as poll
use Rattle.dsa_book.specs.declared.answer.Reply.TheVariants as reply
use Rattle.std.proofs.Common.{◌≡◌, None, Some, arith, refl}

pub returns-clause-idle : goal.returns-clause-idle
returns-clause-idle c = λ w move reply step. let none : None ≡ Some w = step in absurd cc

pub returns-clause-polling : goal.returns-clause-polling
returns-clause-polling c end =
    let k = end _ 0 (reply.Poll poll.Nothing) refl in
    absurd (omega (arith, k.places))
