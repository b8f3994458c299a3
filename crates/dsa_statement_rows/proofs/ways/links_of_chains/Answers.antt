use Rattle.dsa_statement_rows.proofs.ways.links_of_chains.Goals as goal

pub returns-clause-linked : goal.returns-clause-linked
returns-clause-linked c chains chained = chained.linked

pub returns-clause-nexts : goal.returns-clause-nexts
returns-clause-nexts c chains room = room.nexts

pub returns-clause-bytes : goal.returns-clause-bytes
returns-clause-bytes c chains room = room.bytes
