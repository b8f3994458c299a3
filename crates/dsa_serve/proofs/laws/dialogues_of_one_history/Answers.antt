use Rattle.dsa_serve.proofs.laws.dialogues_of_one_history.Goals as goal
use Rattle.dsa_serve.proofs.Histories.{all_of_one}

pub returns : goal.returns
returns c caps capacity requests steps opening none led =
    all_of_one caps capacity requests steps opening none led
