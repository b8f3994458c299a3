use Rattle.dsa_conform.proofs.closest.follow_closest.Goals as goal
use Rattle.std.proofs.Common.{◌∙◌, sym}
use Rattle.std.proofs.lemmas.Result.{IfOk-weaker}
use Rattle.dsa_conform.proofs.{Choices.{full_answer, other_answer}, ClosestAnswers.{only_closest, unseen_closest}}

pub returns-then-not-is_seen-clause-closest : goal.returns-then-not-is_seen-clause-closest
returns-then-not-is_seen-clause-closest g c =
    IfOk-weaker c.ask_closest.result _ _ (λ it gone. unseen_closest _ _ _ _ it.entry gone.0 gone.1
    (sym c.is_seen.ensures ∙ c.if-not-is_seen.true)) c.ask_closest.ensures.gone

pub returns-in_default-clause-closest : goal.returns-in_default-clause-closest
returns-in_default-clause-closest g c =
    IfOk-weaker c.ask_closest-in_default.result _ _ (λ it gone. only_closest _ _ _ _ it.entry gone.0 gone.1
    (other_answer _ _ (rw c.in_default.is at c.asked_engine.ensures))) c.ask_closest-in_default.ensures.gone

pub returns-then-is_full-clause-closest : goal.returns-then-is_full-clause-closest
returns-then-is_full-clause-closest g c =
    IfOk-weaker c.ask_closest-then-is_full.result _ _ (λ it gone. only_closest _ _ _ _ it.entry gone.0 gone.1
    (full_answer _ _ (sym c.is_full.ensures ∙ c.if-is_full.true))) c.ask_closest-then-is_full.ensures.gone
