use Rattle.dsa_event_text.proofs.lists.add_list.Goals as goal

pub returns-in-Members : goal.returns-in-Members
returns-in-Members c = rw (c.in-Members.is, ← c.from-in-Members.ensures) c.add_number-in-Members.ensures
