use Rattle.dsa_scenario.proofs.reading.read_document.Goals as goal
use Rattle.std.proofs.Common.{rules}
use Rattle.dsa_scenario.proofs.GivenBytes.{asked_once_more}

pub returns-in_err-extend_from_slice-clause-reader : goal.returns-in_err-extend_from_slice-clause-reader
returns-in_err-extend_from_slice-clause-reader g c =
    let it = c.in_ok-count.ensures in
    let before = c.reads.invariant in
    record {
      same = search rules;
      asked = asked_once_more g.R.Read.remaining c.args.reader.now c.reads.reader c.read_once.new.self c.reads.bytes.items
          c.in_ok-count.count c.read_once.new.chunk (before.taken, before.given) before.each it.bound.0 it.bytes.0 it.given
          it.counted;
      failed = search rules;
      too_long = search rules;
    }
