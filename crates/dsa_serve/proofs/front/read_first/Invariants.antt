use Rattle.dsa_serve.proofs.front.read_first.Given as goal
use Rattle.std.{proofs.Common.{◌≡◌, ◌-◌, ◌+◌, ◌^◌, ◌<◌, ◌≤◌, length, vec_len}, specs.Io.KnownBytes.{Consumes}}
use Rattle.dsa_scenario.specs.Counted.{counted_remaining, asked_of, given_of, has_reader_failed, IsSameReader}
use Rattle.dsa_serve.specs.declared.ending.Inside.TheVariants.{Brackets}
use Rattle.dsa_serve.specs.Input.{IsUnended, inside_after}

abbrev pub invariant-reads : goal.invariant-reads
invariant-reads g l = record {
  room : 0 < length l.chunk;
  same_reader : IsSameReader l.initial.reader l.reader;
  asked : asked_of l.reader ≤ asked_of l.initial.reader + length l.first.items;
  well : has_reader_failed l.reader ≡ has_reader_failed l.initial.reader;
  taken : Consumes (counted_remaining g.R.Read.remaining l.initial.reader)
      (counted_remaining g.R.Read.remaining l.reader) l.first.items;
  given : given_of l.reader ≡ given_of l.initial.reader + length l.first.items;
  unended : IsUnended l.first.items;
  so_far : l.inside ≡ inside_after (Brackets 0) l.first.items;
  few : length l.first.items ≤ 2 ^ 20 + length l.initial.chunk;
}

abbrev pub decreases-reads : goal.decreases-reads
decreases-reads g l = 1_048_577 - vec_len l.first
