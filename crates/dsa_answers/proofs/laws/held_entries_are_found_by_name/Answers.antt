use Rattle.dsa_answers.proofs.laws.held_entries_are_found_by_name.Goals as goal
use Rattle.dsa_answers.proofs.Given.{given-opening, given-next, name-of_named, ticket-of_named, asked-by_name}

pub returns-clause-opening : goal.returns-clause-opening
returns-clause-opening c = given-opening

pub returns-clause-next : goal.returns-clause-next
returns-clause-next c = given-next

pub returns-clause-name : goal.returns-clause-name
returns-clause-name c = name-of_named

pub returns-clause-ticket : goal.returns-clause-ticket
returns-clause-ticket c = ticket-of_named

pub returns-clause-asked : goal.returns-clause-asked
returns-clause-asked c = asked-by_name
