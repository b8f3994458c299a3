use Rattle.dsa_statement_rows.proofs.load_faults.starts_that_lack_one_thing.Goals as goal

pub returns-clause-truncated : goal.returns-clause-truncated
returns-clause-truncated c bytes is = is

pub returns-clause-magic : goal.returns-clause-magic
returns-clause-magic c bytes is = (is.0, is.1)

pub returns-clause-version : goal.returns-clause-version
returns-clause-version c bytes is = (is.0, is.1, is.2)

pub returns-clause-size : goal.returns-clause-size
returns-clause-size c bytes is = (is.0, is.1, is.2, is.3)

pub returns-clause-checksum : goal.returns-clause-checksum
returns-clause-checksum c bytes is = (is.0, is.1, is.2, is.3, is.4)

pub returns-clause-caps : goal.returns-clause-caps
returns-clause-caps c bytes is = (is.0, is.1, is.2, is.3, is.4, is.5)

pub returns-clause-capacity : goal.returns-clause-capacity
returns-clause-capacity c bytes is = (is.0, is.1, is.2, is.3, is.4, is.5, is.6)
