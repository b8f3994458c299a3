use Rattle.dsa_conform.proofs.rows.reports.Goals as goal
use Rattle.std.proofs.Common.{◌≡◌, ℕ, suc, List, [], ◌∷◌, ◌++◌, flat_map, refl, codes, ap}
use Rattle.std.specs.Prelude.{bytes_eq, replicate}
use Rattle.dsa_conform.specs.Forms.{words_of_difference}
use Rattle.std.proofs.lemmas.Bool.{false≢true}
use Rattle.dsa_conform.proofs.RowForms.{front, after_feed, inside_line, line_before, single_line, word_of_lines}
use Rattle.dsa_conform.proofs.RowForms.{word_of_step, word_of_seen, word_of_against, word_of_allowed}

pub returns-clause-conforms : goal.returns-clause-conforms
returns-clause-conforms c = line_before (codes "conforms: ") (codes "1 step, 0 answers seen") [] [] refl refl

pub returns-clause-one_line : goal.returns-clause-one_line
unfolding front
returns-clause-one_line c = λ h.
    let text = codes "conforms: 1 step, 0 answers seen\nallowed: nothing\n" in
    false≢true (inside_line (codes "conforms: ") text (single_line (codes "conforms: ") text h))

pub returns-clause-nothing : goal.returns-clause-nothing
returns-clause-nothing c = λ h.
    let word : [] ≡ codes "conforms: " = word_of_lines (codes "conforms: ") [] [] h in
    absurd cc

pub returns-clause-differs : goal.returns-clause-differs
returns-clause-differs c = (
  0,
  line_before (codes "step ") (codes "0: poll") (codes "seen: " ∷ codes "against: " ∷ codes "allowed: " ∷ [])
      (codes "seen: full\nagainst: a\nallowed: nothing\n") refl
      (line_before (codes "seen: ") (codes "full") (codes "against: " ∷ codes "allowed: " ∷ [])
      (codes "against: a\nallowed: nothing\n") refl
      (line_before (codes "against: ") (codes "a") (codes "allowed: " ∷ []) (codes "allowed: nothing\n") refl
      (line_before (codes "allowed: ") (codes "nothing") [] [] refl refl))),
)

pub returns-clause-more : goal.returns-clause-more
returns-clause-more c = (
  1,
  line_before (codes "step ") (codes "4: dispatch e0")
      (codes "seen: " ∷ codes "against: " ∷ codes "allowed: " ∷ codes "allowed: " ∷ [])
      (codes "seen: full\nagainst: a\nallowed: taken 7 from 0\nallowed: taken 9 from 2\n") refl
      (line_before (codes "seen: ") (codes "full") (codes "against: " ∷ codes "allowed: " ∷ codes "allowed: " ∷ [])
      (codes "against: a\nallowed: taken 7 from 0\nallowed: taken 9 from 2\n") refl
      (line_before (codes "against: ") (codes "a") (codes "allowed: " ∷ codes "allowed: " ∷ [])
      (codes "allowed: taken 7 from 0\nallowed: taken 9 from 2\n") refl
      (line_before (codes "allowed: ") (codes "taken 7 from 0") (codes "allowed: " ∷ [])
      (codes "allowed: taken 9 from 2\n") refl
      (line_before (codes "allowed: ") (codes "taken 9 from 2") [] [] refl refl)))),
)

pub returns-clause-none_allowed : goal.returns-clause-none_allowed
unfolding after_feed
returns-clause-none_allowed c = λ h.
    let word : [] ≡ codes "allowed: " = word_of_allowed h.0 (codes "step 0: poll\nseen: full\nagainst: a\n") h.1 in
    absurd cc

pub returns-clause-none_against : goal.returns-clause-none_against
unfolding after_feed
returns-clause-none_against c = λ h. false≢true
    (ap (λ l. bytes_eq l (codes "against: "))
    (word_of_against h.0 (codes "step 0: poll\nseen: full\nallowed: nothing\nallowed: nothing\n") h.1))

pub returns-clause-not_seen : goal.returns-clause-not_seen
unfolding after_feed
returns-clause-not_seen c = λ h. false≢true
    (ap (λ l. bytes_eq l (codes "seen: "))
    (word_of_seen h.0 (codes "step 0: poll\nallowed: nothing\nallowed: nothing\n") h.1))

pub returns-clause-no_step : goal.returns-clause-no_step
returns-clause-no_step c = λ h. false≢true
    (ap (λ l. bytes_eq l (codes "step ")) (word_of_step h.0 (codes "conforms: 1 step, 0 answers seen\n") h.1))

pub returns-clause-no_blanks : goal.returns-clause-no_blanks
unfolding after_feed
returns-clause-no_blanks c = (
  λ h. false≢true (ap (λ l. bytes_eq l (codes "step "))
      (word_of_step h.0 (codes "step0: poll\nseen: full\nagainst: a\nallowed: nothing\n") h.1)),
  λ h. false≢true (ap (λ l. bytes_eq l (codes "seen: "))
      (word_of_seen h.0 (codes "step 0: poll\nseen:full\nagainst: a\nallowed: nothing\n") h.1)),
  λ h. false≢true (ap (λ l. bytes_eq l (codes "against: "))
      (word_of_against h.0 (codes "step 0: poll\nseen: full\nagainst:a\nallowed: nothing\n") h.1)),
  λ h. false≢true (ap (λ l. bytes_eq l (codes "allowed: "))
      (word_of_allowed h.0 (codes "step 0: poll\nseen: full\nagainst: a\nallowed:nothing\n") h.1)),
)

pub returns-clause-bad_step : goal.returns-clause-bad_step
returns-clause-bad_step c = refl

pub returns-clause-before_bad_step : goal.returns-clause-before_bad_step
returns-clause-before_bad_step c = λ h. false≢true (ap (λ l. bytes_eq l []) h)

pub returns-clause-not_json : goal.returns-clause-not_json
returns-clause-not_json c = λ h. h

-- the last line of a document with one step that differs
abbrev one_differs : List ℕ
one_differs = codes "differs: 1 step of 1, 1 answer seen\n"

pub returns-clause-all : goal.returns-clause-all
returns-clause-all c = (
  0,
  [],
  line_before (codes "step ") (codes "0: poll")
      (codes "seen: " ∷ codes "against: " ∷ codes "allowed: " ∷ codes "differs: " ∷ [])
      (codes "seen: full\nagainst: a\nallowed: nothing\n" ++ one_differs) refl
      (line_before (codes "seen: ") (codes "full") (codes "against: " ∷ codes "allowed: " ∷ codes "differs: " ∷ [])
      (codes "against: a\nallowed: nothing\n" ++ one_differs) refl
      (line_before (codes "against: ") (codes "a") (codes "allowed: " ∷ codes "differs: " ∷ [])
      (codes "allowed: nothing\n" ++ one_differs) refl
      (line_before (codes "allowed: ") (codes "nothing") (codes "differs: " ∷ []) one_differs refl
      (line_before (codes "differs: ") (codes "1 step of 1, 1 answer seen") [] [] refl refl)))),
)

pub returns-clause-all_conform : goal.returns-clause-all_conform
returns-clause-all_conform c = line_before (codes "conforms: ") (codes "1 step, 0 answers seen") [] [] refl refl

pub returns-clause-no_differences : goal.returns-clause-no_differences
returns-clause-no_differences c = λ h. false≢true
    (ap (λ l. bytes_eq l (codes "step ")) (word_of_lines (codes "step ")
    (codes "seen: " ∷ codes "against: " ∷ (replicate (suc h.0) (codes "allowed: ")
    ++ flat_map (λ allowed. words_of_difference (suc allowed)) h.1 ++ codes "differs: " ∷ []))
    one_differs h.2))
