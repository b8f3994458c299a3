use Rattle.dsa_answers.proofs.laws.replies_differ_in_free_choices.Goals as goal
use Rattle.std.proofs.Common.{sym, ap, ◌∙◌}
use Rattle.dsa_book.{specs.{declared.answer.Reply.{Reply}, State.{State}, Machine.{reply_of}}, proofs.Nexts.{next-is}}
use Rattle.dsa_answers.proofs.Choices.{replies-alike}

pub returns-clause-alike : goal.returns-clause-alike
returns-clause-alike c = replies-alike

-- where the same is chosen, the machine's reply is the same
pub returns-clause-decided : goal.returns-clause-decided
returns-clause-decided c s s' s'' event a b h k same =
    let e = sym (next-is s s' event a h).1 ∙ ap (reply_of s event) same ∙ (next-is s s'' event b k).1 in
    (ap (λ (r : Reply × State). r.0) e, ap (λ (r : Reply × State). r.1) e)
