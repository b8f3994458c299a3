use Rattle.dsa_conform.proofs.rows.lines_of_forms.Goals as goal
use Rattle.std.proofs.Common.{◌++◌, ◌==◌, [], ◌∷◌, refl, codes, ap}
use Rattle.std.specs.Prelude.{bytes_eq}
use Rattle.std.proofs.lemmas.Bool.{false≢true}
use Rattle.dsa_conform.proofs.RowForms.{front, end, inside_line, end_of_line, word_of_line}

pub returns-clause-seen : goal.returns-clause-seen
returns-clause-seen c = record { rest = codes "idle"; is = refl; printable = refl }

pub returns-clause-empty : goal.returns-clause-empty
returns-clause-empty c = record { rest = []; is = refl; printable = refl }

pub returns-clause-another_word : goal.returns-clause-another_word
returns-clause-another_word c = λ h. false≢true
    (ap (λ l. bytes_eq l (codes "seen: ")) (word_of_line (codes "seen: ") (codes "step 0: poll\n") h))

pub returns-clause-no_end : goal.returns-clause-no_end
unfolding end
returns-clause-no_end c = λ h. false≢true
    (ap (λ x. x == 10) (end_of_line (codes "seen: ") (codes "seen: idle") h))

pub returns-clause-two : goal.returns-clause-two
unfolding front
returns-clause-two c = λ h. false≢true (inside_line (codes "seen: ") (codes "seen: a\nallowed: b\n") h)

pub returns-clause-delete : goal.returns-clause-delete
unfolding front
returns-clause-delete c =
    λ h. false≢true (inside_line (codes "seen: ") (codes "seen: " ++ 127 ∷ codes "\n") h)

pub returns-clause-escape : goal.returns-clause-escape
unfolding front
returns-clause-escape c = λ h. false≢true
    (inside_line (codes "allowed: ") (codes "allowed: " ++ 27 ∷ codes "\n") h)

pub returns-clause-two_allowed : goal.returns-clause-two_allowed
unfolding front
returns-clause-two_allowed c = λ h. false≢true
    (inside_line (codes "allowed: ") (codes "allowed: a\nallowed: b\n") h)
