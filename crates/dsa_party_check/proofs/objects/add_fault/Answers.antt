use Rattle.dsa_party_check.proofs.objects.add_fault.Goals as goal

pub returns-in-BadQuestion-clause-tokens : goal.returns-in-BadQuestion-clause-tokens
returns-in-BadQuestion-clause-tokens c = rw c.in-BadQuestion.is c.add_numbered-in-BadQuestion.ensures.tokens
