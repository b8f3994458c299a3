-- Findings in words.
use Rattle.dsa_book.specs.declared.answer.Reply.TheVariants as reply
use Rattle.std.specs.Prelude.{ℕ, List, [], ◌++◌, codes, decimal, slice_get, unwrap_or}
use Rattle.dsa_book.specs.declared.answer.{Reply.{Reply}, SubmitAnswer.TheVariants.{Accepted}}
use Rattle.dsa_scenario.specs.Lines.{fate_text, reply_text}
use Rattle.dsa_explore.specs.declared.found.Finding.{Finding, TheVariants.{Answer, End, Wait, Removal}}
use Rattle.dsa_explore.specs.declared.found.Found.{Found}

-- the name of a label or of an act, or its number where it has no name
abbrev pub label_name : List (List ℕ) → ℕ → List ℕ
label_name names number = unwrap_or (slice_get names number) (decimal number)

-- an answer as a run prints it; of one that gives a name, which a label stands for, the word alone
abbrev pub told_answer : Reply → List ℕ
told_answer (reply.Submit (Accepted ticket)) = codes "accepted"
told_answer answer = reply_text answer

-- the answer, how the entry ended, or the entry that the act waits for or removed
abbrev pub finding_words : List (List ℕ) → Finding → List ℕ
finding_words labels (Answer ask answer) = told_answer answer
finding_words labels (End label fate) = fate_text fate
finding_words labels (Wait act label) = label_name labels label
finding_words labels (Removal act label) = label_name labels label

-- what the act does to the entry, which it waits for or removed
abbrev pub waits_words : List ℕ
waits_words = codes "waits for "

abbrev pub removes_words : List ℕ
removes_words = codes "removes "

abbrev pub deed_words : Finding → List ℕ
deed_words (Wait act label) = waits_words
deed_words (Removal act label) = removes_words
deed_words finding = []

-- all that is said of the entry or the act that the finding is about
abbrev pub what_words : List (List ℕ) → Finding → List ℕ
what_words labels finding = deed_words finding ++ finding_words labels finding

-- the finding, and with how many steps it may come
abbrev pub row_words : List (List ℕ) → Found → List ℕ
row_words labels row = finding_words labels row.finding ++ codes " [" ++ decimal row.steps ++ codes "]"
