use Rattle.dsa_serve.proofs.serving.serve_lines.Given as goal
use Rattle.std.proofs.Common.{◌≡◌, ◌<◌, ◌-◌, ◌^◌, ℕ, Bool, List, Option, false, length}
use Rattle.dsa_scenario.specs.Counted.{counted_remaining, asked_of, has_reader_failed, IsSameReader}
use Rattle.dsa_scenario.specs.Counted.{IsAskedFor}
use Rattle.dsa_scenario.specs.Watched.{watched_contents, has_refused, IsSameWriter}
use Rattle.dsa_serve.specs.Dialogue.{IsInCourse}

abbrev pub invariant-turns : goal.invariant-turns
invariant-turns g l = record {
  room : 0 < length l.chunk;
  same_reader : IsSameReader l.initial.reader l.reader;
  same_writer : IsSameWriter l.initial.writer l.writer;
  well : has_reader_failed l.reader ≡ has_reader_failed l.initial.reader;
  taken : has_refused l.writer ≡ has_refused l.initial.writer;
  asked : IsAskedFor g.R.Read.remaining l.initial.reader l.reader 0;
  course : (is_friendly : Bool) → (had : Option (List ℕ)) → (held : Option (List ℕ))
      → IsInCourse is_friendly false had (counted_remaining g.R.Read.remaining l.initial.reader) held
      (watched_contents g.W.Write.contents l.initial.writer) l.initial.dialogue
      → IsInCourse is_friendly false had (counted_remaining g.R.Read.remaining l.reader) held
      (watched_contents g.W.Write.contents l.writer) l.dialogue;
}

abbrev pub decreases-turns : goal.decreases-turns
decreases-turns g l = 2 ^ 64 - asked_of l.reader
