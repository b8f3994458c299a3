use Rattle.dsa_statement_rows.proofs.sampled.parts_of_a_walk.Goals as goal

pub returns-clause-made : goal.returns-clause-made
returns-clause-made c space first rows walk = walk.made

pub returns-clause-count : goal.returns-clause-count
returns-clause-count c space first rows walk = walk.count

pub returns-clause-stops : goal.returns-clause-stops
returns-clause-stops c space first rows walk = walk.stops

pub returns-clause-each : goal.returns-clause-each
returns-clause-each c space first rows n walks within = walks.each n within

pub returns-clause-counted : goal.returns-clause-counted
returns-clause-counted c space first rows walks = walks.count_is

pub returns-clause-in_all : goal.returns-clause-in_all
returns-clause-in_all c space first rows walks = walks.in_all

pub returns-clause-at_most : goal.returns-clause-at_most
returns-clause-at_most c space first rows walks = walks.at_most
