use Rattle.dsa_saved.proofs.loading.make_steps.Goals as goal
use Rattle.dsa_saved.proofs.Faulty.{of-result, made-of}

pub returns-clause-made : goal.returns-clause-made
returns-clause-made g c =
    made-of c.make_records-made.result c.args.bytes.now c.records_of-records.result.now c.args.device.now
    c.make_records-made.new.device c.records_of-records.ensures c.requires.first c.make_records-made.ensures.made

pub returns-clause-fault : goal.returns-clause-fault
returns-clause-fault g c =
    of-result c.make_records-made.result c.args.bytes.now c.records_of-records.result.now c.args.device.now
    c.requires.start c.records_of-records.ensures c.requires.first c.make_records-made.ensures.fault
