-- What is free in an answer: the cell of an entry that comes in, and the queue that an entry is taken from.
use Rattle.std.specs.Prelude.{◌≡◌}
use Rattle.dsa_book.specs.declared.answer.{SubmitAnswer.TheVariants.{Accepted}, DispatchAnswer.TheVariants.{Taken}}
use Rattle.dsa_book.specs.declared.answer.FetchAnswer.TheVariants.{Fetched}
use Rattle.dsa_book.specs.declared.answer.Reply.{Reply, TheVariants.{Submit, Dispatch, Fetch}}

-- two replies that differ in what is free alone: an entry that comes in has the same name, and of
-- one queue the same entry is taken (profile)
abbrev pub AreAlike : Reply → Reply → Type 0
AreAlike (Submit (Accepted a)) (Submit (Accepted b)) = a.name ≡ b.name
AreAlike (Fetch (Fetched a)) (Fetch (Fetched b)) = a.name ≡ b.name
AreAlike (Dispatch (Taken a q)) (Dispatch (Taken b p)) = q ≡ p → a ≡ b
AreAlike a b = a ≡ b
