-- Words with which answers begin.
use Rattle.std.specs.Prelude.{ℕ, ◌==◌, Bool, not, List, [], ◌∷◌, Option, codes, bytes_eq, find}
use Rattle.std.specs.List.{before_first, list_any, slice_split}
use Rattle.dsa_scenario.specs.{declared.run.Record.{Record}, Lines.{record_text}}

-- what stands before the first space of a text
abbrev pub first_word : List ℕ → List ℕ
first_word text = before_first (λ b. b == 32) text

-- the words of a text that has commas between them
abbrev pub words_in : List ℕ → List (List ℕ)
words_in text = slice_split (λ b. b == 44) text

-- the answer begins with one of these words (profile)
abbrev pub is_answered : List ℕ → Record → Bool
is_answered words entry = list_any (λ word. bytes_eq word (first_word (record_text entry))) (words_in words)

-- the words with which answers begin
abbrev pub answer_words : List (List ℕ)
answer_words =
    codes "accepted" ∷ codes "retry" ∷ codes "dropped" ∷ codes "taken" ∷ codes "idle" ∷ codes "fetched" ∷
    codes "no-batch" ∷ codes "all-fetched" ∷ codes "started" ∷ codes "fence-wait" ∷ codes "no-buffers" ∷
    codes "abandoned" ∷ codes "done" ∷ codes "not-ready" ∷ codes "gone" ∷ codes "ended" ∷ codes "active" ∷
    codes "refused" ∷ codes "finished" ∷ codes "nothing" ∷ codes "written" ∷ codes "cleared" ∷ codes "full" ∷ []

abbrev pub is_answer_word : List ℕ → Bool
is_answer_word word = list_any (bytes_eq word) answer_words

-- the first word of the text with which no answer begins
abbrev pub unknown_word : List ℕ → Option (List ℕ)
unknown_word text = find (λ word. not (is_answer_word word)) (words_in text)
