use Rattle.dsa_party_check.proofs.expectations.add_expected.Goals as goal
use Rattle.std.proofs.Common.{rules}

pub returns-in-Became : goal.returns-in-Became
returns-in-Became c = rw c.in-Became.is c.add_became_words.ensures

pub returns-in-Replied : goal.returns-in-Replied
returns-in-Replied c = rw c.in-Replied.is c.add_replied_words.ensures

pub returns-in-Phase : goal.returns-in-Phase
returns-in-Phase c = rw c.in-Phase.is (search rules)
