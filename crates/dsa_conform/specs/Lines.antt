-- What is told of a document whose steps say what was seen.
use Rattle.std.specs.Prelude.{ℕ, Bool, true, false, List, [], ◌∷◌, ◌++◌, count_by, flat_map, codes, decimal}
use Rattle.std.specs.Prelude.{Option, Some, None, ◌≡◌, ◌≤◌, ⊤}
use Rattle.dsa_base.specs.Lists.{In}
use Rattle.dsa_event_text.specs.Text.{count_text}
use Rattle.dsa_scenario.specs.declared.{actions.Action.{Action}, run.Record.{Record}}
use Rattle.dsa_scenario.specs.Lines.{record_text}
use Rattle.dsa_explain_lines.specs.Lines.{asked_words, shown}
use Rattle.dsa_conform.specs.{Allowed.{queue_taken}, Quoted.{seen_text}, Seen.{Seen, is_seen}}

-- how many steps there are, and of how many something was seen (profile)
abbrev pub conforms_text : ℕ → ℕ → List ℕ
conforms_text steps seen =
    count_text (codes "conforms: ") steps (codes "step") (codes "steps")
    ++ count_text (codes ", ") seen (codes "answer") (codes "answers") ++ codes " seen\n"

abbrev pub seen_count : List (Action × Seen) → ℕ
seen_count observed = count_by (λ o. is_seen o.1) observed

abbrev pub flag_text : Bool → List ℕ
flag_text true = codes "zf true"
flag_text false = codes "zf false"

-- what was seen: the answer, then the zero flag (profile)
abbrev pub seen_words : Option (List ℕ) → Option Bool → List ℕ
seen_words (Some text) (Some flag) = seen_text text ++ codes ", " ++ flag_text flag
seen_words (Some text) None = seen_text text
seen_words None (Some flag) = flag_text flag
seen_words None None = []

abbrev pub seen_line : Seen → List ℕ
seen_line seen = codes "seen: " ++ seen_words seen.answer seen.zf ++ codes "\n"

-- a fact that speaks against it (profile)
abbrev pub against_line : List ℕ → List ℕ
against_line fact = codes "against: " ++ fact ++ codes "\n"

-- an answer that is allowed, and why it comes, where no entry is taken (profile)
abbrev pub allowed_line : List ℕ → Record → List ℕ
allowed_line told entry = codes "allowed: " ++ record_text entry ++ (shown told entry ++ codes "\n")

-- the step of this number, by what one of its answers tells of it
abbrev pub asked_step_line : ℕ → Record → List ℕ
asked_step_line number entry = codes "step " ++ decimal number ++ codes ": " ++ asked_words entry ++ codes "\n"

-- the step, what was seen of it, a fact against that, and the lines of what was allowed (profile)
abbrev pub difference_text : ℕ → Seen → List ℕ → List (Record × List ℕ) → List ℕ
difference_text number seen fact [] = []
difference_text number seen fact (line ∷ lines) =
    asked_step_line number line.0 ++ seen_line seen ++ against_line fact ++ flat_map (λ l. l.1) (line ∷ lines)

-- each element is so related to every later one
abbrev pub IsPairwise : {X : Type 0} → (X → X → Type 0) → List X → Type 0
IsPairwise R [] = ⊤
IsPairwise R (x ∷ xs) = ((later : _) → In later xs → R x later) × IsPairwise R xs

-- no line tells of a higher queue to take from than a later one
abbrev pub AreInOrder : List (Record × List ℕ) → Type 0
AreInOrder lines = IsPairwise (λ line later. queue_taken line.0 ≤ queue_taken later.0) lines

-- no two lines have the same text
abbrev pub AreDifferent : List (Record × List ℕ) → Type 0
AreDifferent lines = IsPairwise (λ line later. ¬ (line.1 ≡ later.1)) lines

-- the lines are in ascending order of the queue taken from, and none comes twice (profile)
pub record AreListed (lines : List (Record × List ℕ)) : Type 0 where
  pub order : AreInOrder lines
  pub once : AreDifferent lines
