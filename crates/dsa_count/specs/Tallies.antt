-- The lines of submissions.
use Rattle.dsa_book.specs.declared.answer.SubmitAnswer.TheVariants as submit
use Rattle.std.specs.Prelude.{ℕ, ◌==◌, cond, List, [], ◌∷◌, ◌++◌, codes, decimal, flat_map, filter_map}
use Rattle.dsa_base.specs.Numbers.{numbers_below}
use Rattle.dsa_book.specs.declared.answer.Cause.TheVariants.{AtLimit, NotEnabled, WrongKind}
use Rattle.dsa_book.specs.declared.answer.SubmitAnswer.{SubmitAnswer}
use Rattle.dsa_scenario.specs.{declared.run.Record.{Record}, Lines.{submit_text}}
use Rattle.dsa_count.specs.declared.submissions.Submission.{Submission}
use Rattle.dsa_count.specs.declared.submissions.Party.{Party, TheVariants.{All, Client, Queue}}
use Rattle.dsa_count.specs.Submissions.{above, accepted_of, is_party_named, submission_in, turned_away_of}

-- what a line is about
abbrev pub party_text : Party → ℕ → List ℕ
party_text All number = codes "submissions"
party_text Client number = codes "client " ++ decimal number
party_text Queue number = codes "queue " ++ decimal number

-- each way in which a submission is turned away, in the order of a line
abbrev pub ways : List SubmitAnswer
ways =
    submit.Retry AtLimit ∷ submit.Retry NotEnabled ∷ submit.Retry WrongKind ∷ submit.Dropped AtLimit
    ∷ submit.Dropped NotEnabled ∷ submit.Dropped WrongKind ∷ submit.Full ∷ []

-- how many, and how they were answered; nothing where there are none
abbrev pub counted_part : ℕ → List ℕ → List ℕ
counted_part count words = cond (count == 0) [] (codes ", " ++ decimal count ++ codes " " ++ words)

abbrev pub turned_part : Party → ℕ → List Submission → SubmitAnswer → List ℕ
turned_part party number submissions answer =
    counted_part (turned_away_of party number answer submissions) (submit_text answer)

-- how many were turned away, by cause
unfoldable pub ways_part : Party → ℕ → List Submission → List ℕ
ways_part party number submissions = flat_map (turned_part party number submissions) ways

-- how many were accepted, and how many were turned away
unfoldable pub tally_line : Party → ℕ → List Submission → List ℕ
tally_line party number submissions =
    party_text party number ++ codes ": " ++ decimal (accepted_of party number submissions) ++ codes " accepted"
    ++ ways_part party number submissions ++ codes "\n"

-- the line of a client or of a queue that a submission names
abbrev pub named_line : Party → List Submission → ℕ → List ℕ
named_line party submissions number =
    cond (is_party_named party number submissions) (tally_line party number submissions) []

-- a line for each client that submitted, or for each queue that was named, in ascending order
abbrev pub named_lines : Party → List Submission → List ℕ
named_lines party submissions = flat_map (named_line party submissions) (numbers_below (above party submissions))

-- all submissions, those of each client, and those to each queue
unfoldable pub tallies_of : List Submission → List ℕ
tallies_of submissions =
    tally_line All 0 submissions ++ named_lines Client submissions ++ named_lines Queue submissions

abbrev pub tallies_text : List Record → List ℕ
tallies_text records = tallies_of (filter_map submission_in records)
