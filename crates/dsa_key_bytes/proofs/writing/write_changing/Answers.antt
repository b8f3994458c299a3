use Rattle.dsa_key_bytes.proofs.Lines.{written-more}
use Rattle.dsa_key_bytes.proofs.writing.write_changing.Goals as goal

pub returns : goal.returns
returns g c = written-more c.args.line.now c.write_standing.new.line c.write_held.new.line _ _
    c.write_standing.ensures c.write_held.ensures
