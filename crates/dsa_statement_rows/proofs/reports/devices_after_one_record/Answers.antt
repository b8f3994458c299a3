use Rattle.dsa_statement_rows.proofs.reports.devices_after_one_record.Goals as goal

pub returns-clause-history : goal.returns-clause-history
returns-clause-history c said old new made = made.history

pub returns-clause-bytes : goal.returns-clause-bytes
returns-clause-bytes c said old new made = made.bytes

pub returns-clause-read : goal.returns-clause-read
returns-clause-read c said old new made = made.read

pub returns-clause-caps : goal.returns-clause-caps
returns-clause-caps c said old new made = made.caps

pub returns-clause-capacity : goal.returns-clause-capacity
returns-clause-capacity c said old new made = made.capacity

pub returns-clause-room : goal.returns-clause-room
returns-clause-room c said old new made = made.room

pub returns-clause-anew : goal.returns-clause-anew
returns-clause-anew c said old new made = made.anew
