use Rattle.dsa_statement_rows.proofs.begins.nodes_of_worlds.Goals as goal

pub returns-clause-levels : goal.returns-clause-levels
returns-clause-levels c space first nodes table x tell node at there = tell.levels 2 node x at there

pub returns-clause-begin : goal.returns-clause-begin
returns-clause-begin c space first nodes table x tell there front = tell.begin 2 x there front

pub returns-clause-told : goal.returns-clause-told
returns-clause-told c space first nodes table x tell = tell.told
