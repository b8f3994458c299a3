-- Findings that the worked rows speak of: two clients with a submission each, and an administrator who drains their
-- queue, polls and resets it.
use Rattle.dsa_book.specs.declared.answer.Reply.TheVariants as reply
use Rattle.dsa_book.specs.declared.answer.IssueAnswer.TheVariants as issue
use Rattle.dsa_book.specs.declared.answer.PollAnswer.TheVariants as poll
use Rattle.std.proofs.Common.{arith}
use Rattle.std.specs.Prelude.{ℕ, ⊤, true, false, List, [], ◌∷◌, ◌++◌, codes, Some, None}
use Rattle.std.specs.declared.alloc.Global.{Global}
use Rattle.dsa_book.specs.declared.answer.{Reply.{Reply}, Cause.TheVariants.{AtLimit}}
use Rattle.dsa_book.specs.declared.answer.SubmitAnswer.{SubmitAnswer, TheVariants.{Accepted, Retry}}
use Rattle.dsa_book.specs.declared.fate.Fate.{Fate, TheVariants.{Completed, Aborted}}
use Rattle.dsa_scenario.specs.Worked.{digits_on_literals}
use Rattle.dsa_parties.specs.{Offers.{label_ticket}, Worked.{vector_in}}
use Rattle.dsa_explore.specs.declared.found.{Ask.TheVariants.{Submission, Act}, Ending.{Ending}}
use Rattle.dsa_explore.specs.declared.found.{Explored.{Explored}, Found.{Found}}
use Rattle.dsa_explore.specs.declared.found.Finding.TheVariants.{Answer, End, Wait, Removal}
use Rattle.dsa_explore.specs.WorkedEnds.{ending_through}
use Rattle.dsa_tables.specs.{Lines.{entry_line, act_line}, Ends.{ends_line}, Objects.{row_object, end_object}}

-- what a row unfolds to compute its lines
unfoldable pub tables_on_literals : ⊤
unfolding digits_on_literals entry_line act_line ends_line row_object end_object
tables_on_literals = tt

-- the submission with this label is answered so, after so many steps
abbrev pub submission_found : ℕ → SubmitAnswer → ℕ → Found
submission_found label answer steps =
    record { finding = Answer (Submission label) (reply.Submit answer); steps = steps }

-- the act with this number is answered so
abbrev pub act_found : ℕ → Reply → ℕ → Found
act_found act answer steps = record { finding = Answer (Act act) answer; steps = steps }

-- the entry with this label ends so
abbrev pub end_found : ℕ → Fate → ℕ → Found
end_found label fate steps = record { finding = End label fate; steps = steps }

-- the act waits for the entry with this label, or removed it
abbrev pub wait_found : ℕ → ℕ → ℕ → Found
wait_found act label steps = record { finding = Wait act label; steps = steps }

abbrev pub removal_found : ℕ → ℕ → ℕ → Found
removal_found act label steps = record { finding = Removal act label; steps = steps }

-- names of labels and of acts
abbrev pub two_labels : List (List ℕ)
two_labels = codes "x0" ∷ codes "y0" ∷ []

abbrev pub three_acts : List (List ℕ)
three_acts = codes "drain" ∷ codes "poll" ∷ codes "reset" ∷ []

-- what is found first, and all of it
abbrev pub first_rows : List Found
first_rows =
    submission_found 1 (Accepted (label_ticket 1)) 1 ∷ submission_found 0 (Accepted (label_ticket 0)) 1
    ∷ act_found 0 (reply.Issue (issue.Ended 0)) 1 ∷ act_found 0 (reply.Issue issue.Active) 2 ∷ wait_found 0 1 2
    ∷ submission_found 0 (Retry AtLimit) 2 ∷ end_found 0 (Completed 1) 3 ∷ []

abbrev pub all_rows : List Found
all_rows =
    first_rows
    ++ (act_found 1 (reply.Poll poll.Finished) 4 ∷ act_found 2 (reply.Issue (issue.Ended 1)) 4
    ∷ end_found 1 (Aborted 10) 4 ∷ removal_found 2 1 4 ∷ wait_found 0 0 5 ∷ removal_found 2 0 6 ∷ [])

-- a search that found the first ones and met a bound
abbrev pub first_explored : Global → Explored
first_explored memory = record {
  rows = vector_in memory first_rows (omega arith);
  states = 3045;
  tried = 11590;
  depth = 15;
  is_complete = false;
  ends = None;
}

-- a client and an administrator are stuck, after seven steps
abbrev pub stuck_twice : Global → Ending
stuck_twice memory = record {
  left = vector_in memory (Submission 0 ∷ Act 1 ∷ []) (omega arith);
  holds_entries = false;
  steps = 7;
}

-- a search that found how runs end, and one row
abbrev pub ended_explored : Global → Explored
ended_explored memory = record (first_explored memory) {
  rows = vector_in memory (end_found 1 (Aborted 10) 4 ∷ []) (omega arith);
  is_complete = true;
  ends = Some (vector_in memory (ending_through memory 9 ∷ []) (omega arith));
}
