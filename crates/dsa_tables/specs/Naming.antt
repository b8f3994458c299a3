-- What stands before the steps of a finding in the table, and the first row of the table that is called so.
use Rattle.std.specs.Prelude.{◌≡◌, ℕ, List, ◌∷◌, ◌++◌, codes, filter, flat_map, length}
use Rattle.dsa_base.specs.{Lists.{In}, Numbers.{numbers_below}}
use Rattle.dsa_explore.specs.declared.found.{Ask.TheVariants.{Submission, Act}, Found.{Found}}
use Rattle.dsa_explore.specs.declared.found.Finding.{Finding, TheVariants.{Answer, End, Wait, Removal}}
use Rattle.dsa_tables.specs.declared.parts.Part.{Part, TheVariants.{Entry, Answers, Waits, Removals}}
use Rattle.dsa_tables.specs.{Words.{label_name, what_words}, Lines.{is_in_part}}

-- the name of the entry or the act that the finding is about
abbrev pub row_subject : (labels acts : List (List ℕ)) → Finding → List ℕ
row_subject labels acts (Answer (Submission label) answer) = label_name labels label
row_subject labels acts (Answer (Act act) answer) = label_name acts act
row_subject labels acts (End label fate) = label_name labels label
row_subject labels acts (Wait act label) = label_name acts act
row_subject labels acts (Removal act label) = label_name acts act

-- how a row is called: by the name of its entry or act, and what is said of that
unfoldable pub row_name : (labels acts : List (List ℕ)) → Finding → List ℕ
row_name labels acts finding = row_subject labels acts finding ++ codes ": " ++ what_words labels finding

-- the rows of a part
abbrev pub rows_of_part : List Found → Part → List Found
rows_of_part rows part = filter (λ row. is_in_part part row.finding) rows

-- the rows of an act, in the order of its line
unfoldable pub rows_of_act : List Found → ℕ → List Found
rows_of_act rows act =
    rows_of_part rows (Answers act) ++ rows_of_part rows (Waits act) ++ rows_of_part rows (Removals act)

-- the rows in the order of the table, which has these names of entries and of acts
abbrev pub table_rows : (labels acts : List (List ℕ)) → List Found → List Found
table_rows labels acts rows =
    flat_map (λ number. rows_of_part rows (Entry number)) (numbers_below (length labels))
    ++ flat_map (rows_of_act rows) (numbers_below (length acts))

-- this row is called so, and none before it
pub record IsFirstNamed (labels acts : List (List ℕ)) (rows : List Found) (name : List ℕ) (row : Found) : Type 0 where
  pub before : List Found
  pub after : List Found
  pub parts : rows ≡ before ++ row ∷ after
  pub named : row_name labels acts row.finding ≡ name
  pub others : (other : Found) → In other before → row_name labels acts other.finding ≡ name → ⊥

-- no row is called so
abbrev pub HasNoRowNamed : (labels acts : List (List ℕ)) → List Found → List ℕ → Type 0
HasNoRowNamed labels acts rows name = (row : Found) → In row rows → row_name labels acts row.finding ≡ name → ⊥
