use Rattle.dsa_draw.proofs.active.add_wait_words.Goals as goal
use Rattle.std.proofs.Common.{◌∙◌, append_assoc}
use Rattle.std.proofs.lemmas.Result.{on_ok_weaker}
use Rattle.dsa_draw.specs.Active.{wait_words}

pub returns : goal.returns
unfolding wait_words
returns c =
    on_ok_weaker c.add_wait_phrase.result
    (λ added. added ∙ rw (c.in_ok-add_number.ensures, c.in_ok-add_command.ensures) (simp append_assoc))
    c.add_wait_phrase.ensures
