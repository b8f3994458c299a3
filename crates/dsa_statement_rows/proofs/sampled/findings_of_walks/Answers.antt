use Rattle.dsa_statement_rows.proofs.sampled.findings_of_walks.Goals as goal

pub returns-clause-begun : goal.returns-clause-begun
returns-clause-begun c caps script events walks sampled is = is.begun

pub returns-clause-count : goal.returns-clause-count
returns-clause-count c caps script events walks sampled is = is.count

pub returns-clause-made : goal.returns-clause-made
returns-clause-made c caps script events walks sampled is = is.made

pub returns-clause-sound : goal.returns-clause-sound
returns-clause-sound c caps script events walks sampled row is within = is.sound row within

pub returns-clause-soon : goal.returns-clause-soon
returns-clause-soon c caps script events walks sampled row is within = is.soon row within

pub returns-clause-once : goal.returns-clause-once
returns-clause-once c caps script events walks sampled is = is.once

pub returns-clause-no_states : goal.returns-clause-no_states
returns-clause-no_states c caps script events walks sampled is = is.no_states

pub returns-clause-no_ends : goal.returns-clause-no_ends
returns-clause-no_ends c caps script events walks sampled is = is.no_ends

pub returns-clause-not_all : goal.returns-clause-not_all
returns-clause-not_all c caps script events walks sampled is = is.is_complete
