use Rattle.dsa_event_text.proofs.events.add_event.Goals as goal

pub returns-in-WriteGroup : goal.returns-in-WriteGroup
returns-in-WriteGroup c =
    rw (c.in-WriteGroup.is, ← c.from-in-WriteGroup.ensures) c.add_number-in-WriteGroup.ensures
