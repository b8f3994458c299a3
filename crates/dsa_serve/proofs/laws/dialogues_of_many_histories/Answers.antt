use Rattle.dsa_serve.proofs.laws.dialogues_of_many_histories.Goals as goal
use Rattle.dsa_serve.proofs.Histories.{all_histories}

pub returns : goal.returns
returns c caps capacity requests steps led = all_histories caps capacity requests steps led
