use Rattle.dsa_conform.proofs.following.follow.Goals as goal
use Rattle.dsa_conform.proofs.Choices.{other_answer}

pub follow_only-requires : goal.follow_only-requires
follow_only-requires g c = other_answer _ _ (rw c.in_default.is at c.asked_engine.ensures)
