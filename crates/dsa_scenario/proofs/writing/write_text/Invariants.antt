use Rattle.dsa_scenario.proofs.writing.write_text.Given as goal
use Rattle.std.{proofs.Common.{◌≡◌, ◌-◌, ◌≤◌, length, take}, specs.Io.KnownBytes.{Appends}}
use Rattle.dsa_scenario.specs.Watched.{watched_contents, has_refused, IsSameWriter}

abbrev pub invariant-writes : goal.invariant-writes
invariant-writes g l = record {
  bound : l.written ≤ length l.text;
  bytes : Appends (watched_contents g.W.Write.contents l.initial.writer)
      (watched_contents g.W.Write.contents l.writer) (take l.written l.text);
  same_writer : IsSameWriter l.initial.writer l.writer;
  taken : has_refused l.writer ≡ has_refused l.initial.writer;
}

abbrev pub decreases-writes : goal.decreases-writes
decreases-writes g l = length l.text - l.written
