use Rattle.dsa_keys.proofs.laws.closed_tables_have_all_that_may_come.Goals as goal
use Rattle.dsa_keys.proofs.Parties.{closed-tells-all}

pub returns : goal.returns
returns c caps parties good table first w w' moves move reply lawful closed is_good stored leads leads' =
    closed-tells-all caps parties good lawful table closed first is_good stored moves w w' move reply leads leads'
