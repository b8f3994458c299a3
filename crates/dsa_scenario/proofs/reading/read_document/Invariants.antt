use Rattle.dsa_scenario.proofs.reading.read_document.Given as goal
use Rattle.std.{proofs.Common.{◌≡◌, ◌-◌, ◌+◌, ◌≤◌, length, vec_len}, specs.Io.KnownBytes.{Consumes}}
use Rattle.dsa_scenario.specs.Counted.{counted_remaining, asked_of, given_of, has_reader_failed, IsSameReader}

abbrev pub invariant-reads : goal.invariant-reads
invariant-reads g l = record {
  same_reader : IsSameReader l.initial.reader l.reader;
  each : asked_of l.reader ≤ asked_of l.initial.reader + length l.bytes.items;
  most : asked_of l.reader ≤ asked_of l.initial.reader + 1_048_577;
  well : has_reader_failed l.reader ≡ has_reader_failed l.initial.reader;
  taken : Consumes (counted_remaining g.R.Read.remaining l.initial.reader)
      (counted_remaining g.R.Read.remaining l.reader) l.bytes.items;
  given : given_of l.reader ≡ given_of l.initial.reader + length l.bytes.items;
}

abbrev pub decreases-reads : goal.decreases-reads
decreases-reads g l = 1_048_577 - vec_len l.bytes
