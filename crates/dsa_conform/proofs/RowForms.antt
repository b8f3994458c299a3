-- What a line and a report must have, which worked rows compute.
use Rattle.std.proofs.Common.{◌≡◌, ◌∙◌, ◌==◌, ℕ, suc, List, [], ◌∷◌, ◌++◌, true, cond, refl, sym, ap, subst}
use Rattle.std.proofs.Common.{append_assoc, append-nil, length, take, codes}
use Rattle.std.proofs.lemmas.Bool.{and_parts, ne_eqb, false≢true}
use Rattle.std.specs.{Prelude.{replicate}, List.{list_all}}
use Rattle.dsa_conform.specs.{Quoted.{is_printable}, Forms.{IsLineWith, AreLinesWith, words_of_difference}}

-- a line of this word and what follows it, and the lines behind it
pub line_before : (word rest : List ℕ) (words : List (List ℕ)) (more : List ℕ)
    → list_all is_printable (word ++ rest) ≡ true → AreLinesWith words more
    → AreLinesWith (word ∷ words) ((word ++ rest ++ codes "\n") ++ more)
line_before word rest words more printable next =
    (word ++ rest ++ codes "\n", more, record { rest = rest; is = refl; printable = printable }, next, refl)

-- a text without its last byte, and that byte
unfoldable pub front : List ℕ → List ℕ
front [] = []
front (x ∷ []) = []
front (x ∷ y ∷ more) = x ∷ front (y ∷ more)

unfoldable pub end : List ℕ → ℕ
end [] = 0
end (x ∷ []) = x
end (x ∷ y ∷ more) = end (y ∷ more)

front_of : (text : List ℕ) (last : ℕ) → front (text ++ last ∷ []) ≡ text
unfolding front
front_of [] last = refl
front_of (x ∷ []) last = refl
front_of (x ∷ y ∷ more) last = ap (λ l. x ∷ l) (front_of (y ∷ more) last)

end_of : (text : List ℕ) (last : ℕ) → end (text ++ last ∷ []) ≡ last
unfolding end
end_of [] last = refl
end_of (x ∷ []) last = refl
end_of (x ∷ y ∷ more) last = end_of (y ∷ more) last

begins_with : (word rest : List ℕ) → take (length word) (word ++ rest) ≡ word
begins_with [] rest = refl
begins_with (x ∷ word) rest = ap (λ l. x ∷ l) (begins_with word rest)

pub inside_line : (word line : List ℕ) → IsLineWith word line → list_all is_printable (front line) ≡ true
inside_line word line h =
    subst (λ l. list_all is_printable l ≡ true) (sym (ap front h.is ∙ front_of (word ++ h.rest) 10)) h.printable

pub end_of_line : (word line : List ℕ) → IsLineWith word line → end line ≡ 10
end_of_line word line h = ap end h.is ∙ end_of (word ++ h.rest) 10

pub word_of_line : (word line : List ℕ) → IsLineWith word line → take (length word) line ≡ word
word_of_line word line h =
    ap (take (length word)) (h.is ∙ append_assoc word h.rest (codes "\n")) ∙ begins_with word (h.rest ++ codes "\n")

pub word_of_lines : (word : List ℕ) (words : List (List ℕ)) (text : List ℕ) → AreLinesWith (word ∷ words) text
    → take (length word) text ≡ word
word_of_lines word words text h =
    ap (take (length word))
    (h.4 ∙ ap (λ l. l ++ h.1) (h.2.is ∙ append_assoc word h.2.rest (codes "\n"))
    ∙ append_assoc word (h.2.rest ++ codes "\n") h.1)
    ∙ begins_with word ((h.2.rest ++ codes "\n") ++ h.1)

-- a single line is the text
pub single_line : (word text : List ℕ) → AreLinesWith (word ∷ []) text → IsLineWith word text
single_line word text h = subst (IsLineWith word) (sym (h.4 ∙ ap (λ l. h.0 ++ l) h.3 ∙ append-nil h.0)) h.2

-- what follows the first line feed
unfoldable pub after_feed : List ℕ → List ℕ
after_feed [] = []
after_feed (x ∷ more) = cond (x == 10) more (after_feed more)

passed : (text more : List ℕ) → list_all is_printable text ≡ true → after_feed (text ++ 10 ∷ more) ≡ more
unfolding after_feed
passed [] more inside = refl
passed (x ∷ text) more inside =
    let parts = and_parts (is_printable x) (list_all is_printable text) inside in
    let no_feed : ¬ (x ≡ 10) = λ e. false≢true (ap is_printable (sym e) ∙ parts.0) in
    rw (ne_eqb x 10 no_feed) (passed text more parts.1)

pub next_lines : (word : List ℕ) (words : List (List ℕ)) (text : List ℕ) → AreLinesWith (word ∷ words) text
    → AreLinesWith words (after_feed text)
next_lines word words text h =
    subst (AreLinesWith words)
    (sym (ap after_feed (h.4 ∙ ap (λ l. l ++ h.1) h.2.is ∙ append_assoc (word ++ h.2.rest) (codes "\n") h.1)
    ∙ passed (word ++ h.2.rest) h.1 h.2.printable))
    h.3

-- the words of the lines of a difference, in turn
module _ (allowed : ℕ) (text : List ℕ) (h : AreLinesWith (words_of_difference (suc allowed)) text) where
  abbrev all_allowed : List (List ℕ)
  all_allowed = replicate (suc allowed) (codes "allowed: ")

  abbrev all_told : List (List ℕ)
  all_told = codes "against: " ∷ all_allowed

  after_step : AreLinesWith (codes "seen: " ∷ all_told) (after_feed text)
  after_step = next_lines (codes "step ") (codes "seen: " ∷ all_told) text h

  after_seen : AreLinesWith all_told (after_feed (after_feed text))
  after_seen = next_lines (codes "seen: ") all_told (after_feed text) after_step

  after_fact : AreLinesWith all_allowed (after_feed (after_feed (after_feed text)))
  after_fact = next_lines (codes "against: ") all_allowed (after_feed (after_feed text)) after_seen

  pub word_of_step : take 5 text ≡ codes "step "
  word_of_step = word_of_lines (codes "step ") (codes "seen: " ∷ all_told) text h

  pub word_of_seen : take 6 (after_feed text) ≡ codes "seen: "
  word_of_seen = word_of_lines (codes "seen: ") all_told (after_feed text) after_step

  pub word_of_against : take 9 (after_feed (after_feed text)) ≡ codes "against: "
  word_of_against = word_of_lines (codes "against: ") all_allowed (after_feed (after_feed text)) after_seen

  pub word_of_allowed : take 9 (after_feed (after_feed (after_feed text))) ≡ codes "allowed: "
  word_of_allowed =
      word_of_lines (codes "allowed: ") (replicate allowed (codes "allowed: "))
      (after_feed (after_feed (after_feed text))) after_fact
