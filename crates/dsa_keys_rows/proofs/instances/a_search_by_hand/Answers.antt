use Rattle.dsa_keys_rows.proofs.instances.a_search_by_hand.Goals as goal
use Rattle.dsa_keys_rows.proofs.OneClient.{lawful, searched, in_table}

pub returns-clause-lawful : goal.returns-clause-lawful
returns-clause-lawful c = lawful

pub returns-clause-searched : goal.returns-clause-searched
returns-clause-searched c = searched

pub returns-clause-in_table : goal.returns-clause-in_table
returns-clause-in_table c caps history s s' reply other w' reaches none leads after =
    in_table caps history s s' reply reaches none leads other w' after
