use Rattle.std.proofs.Common.{[], ◌∷◌}
use Rattle.dsa_key_bytes.proofs.Lines.{written-more}
use Rattle.dsa_key_bytes.proofs.entries.write_labels.Goals as goal

pub returns : goal.returns
returns g c = written-more c.args.line.now c.write_list.new.line c.write_number.new.self _ (0 ∷ [])
    c.write_list.ensures c.write_number.ensures
