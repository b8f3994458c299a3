-- Sentences about a device, each of which speaks against an answer that was seen.
use Rattle.std.specs.Prelude.{ℕ, List, ◌++◌, codes, decimal}
use Rattle.dsa_event_text.specs.Text.{count_text}
use Rattle.dsa_explain_lines.specs.Sentences.{counted}

-- a step of this kind never has such an answer
abbrev pub never_words : List ℕ → List ℕ
never_words kind = codes "no " ++ kind ++ codes " is answered so"

-- for how many steps the history has room, and how many it has
abbrev pub room_words : ℕ → ℕ → List ℕ
room_words capacity made =
    count_text (codes "the history has room for ") capacity (codes "step") (codes "steps")
    ++ (codes ", and has " ++ decimal made)

abbrev pub next_name_words : ℕ → List ℕ
next_name_words name = codes "the next name is " ++ decimal name

-- ---- engines

abbrev pub queue_count_words : ℕ → List ℕ
queue_count_words queues = count_text (codes "the device has ") queues (codes "queue") (codes "queues")

-- the queue is not one of the engine's group
abbrev pub not_of_group_words : ℕ → ℕ → List ℕ
not_of_group_words q g = codes "q" ++ decimal q ++ (codes " is not in group " ++ decimal g)

-- the front of the queue, by its name
abbrev pub front_is_words : ℕ → ℕ → List ℕ
front_is_words q name = codes "q" ++ decimal q ++ (codes "'s front is " ++ decimal name)

-- the engine may take the front of the queue, which has this name
abbrev pub may_take_words : ℕ → ℕ → ℕ → List ℕ
may_take_words e name q =
    codes "e" ++ decimal e ++ (codes " may take " ++ decimal name) ++ (codes " from q" ++ decimal q)

abbrev pub may_start_words : ℕ → List ℕ
may_start_words e = counted (codes "e") e (codes " has a member that may start")

-- ---- entries

abbrev pub waits_for_nothing_words : ℕ → List ℕ
waits_for_nothing_words name = decimal name ++ codes " waits for nothing"

abbrev pub no_failure_words : ℕ → List ℕ
no_failure_words name = counted (codes "nothing of ") name (codes " failed")

-- ---- commands and configurations

abbrev pub removes_nothing_words : List ℕ
removes_nothing_words = codes "the command removes no entry"

abbrev pub unlocked_words : List ℕ
unlocked_words = codes "the device has it, and nothing locks it"

abbrev pub noted_words : ℕ → List ℕ
noted_words q = counted (codes "an error of q") q (codes " is noted")
