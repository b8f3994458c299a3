-- What a step adds, by its reply.
use Rattle.std.proofs.Common.{ℕ}
use Rattle.dsa_book.specs.declared.answer.Reply.{Reply, TheVariants.{Submit, Fetch, Start, Finish, Issue}}
use Rattle.dsa_book.specs.declared.answer.{FetchAnswer.TheVariants.{Fetched}, FinishAnswer.TheVariants.{Done}}
use Rattle.dsa_book.specs.declared.answer.{SubmitAnswer.TheVariants.{Accepted}, StartAnswer.TheVariants.{Abandoned}}
use Rattle.dsa_book.specs.declared.answer.IssueAnswer.TheVariants.{Ended}

-- how many names the step gave
abbrev pub named_by : Reply → ℕ
named_by (Submit (Accepted ticket)) = 1
named_by (Fetch (Fetched ticket)) = 1
named_by _ = 0

-- how many fate rows the step added
abbrev pub ended_by : Reply → ℕ
ended_by (Finish (Done status)) = 1
ended_by (Start (Abandoned k)) = k
ended_by (Issue (Ended aborted)) = aborted
ended_by _ = 0
