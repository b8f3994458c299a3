-- What holds in every order of parties' steps.
use Rattle.std.specs.Prelude.{◌≡◌, ℕ, true, List}
use Rattle.dsa_keys.specs.Parties.{Parties, World}
use Rattle.dsa_explore.specs.declared.found.Finding.{Finding}
use Rattle.dsa_explore.specs.Explored.{AskOf, MayCome}
use Rattle.dsa_questions.specs.declared.question.Condition.{Condition}
use Rattle.dsa_questions.specs.Asked.{is_row_asked}

-- no number of moves leads to something that is asked for: it comes in no order
abbrev pub NeverComes : {P M : Type 0} → Parties P M → AskOf P M → World P → List Condition → Type 0
NeverComes {P} {M} parties asks first conditions = (steps : ℕ) (finding : Finding)
    → is_row_asked conditions finding ≡ true → MayCome parties asks first steps finding → ⊥

-- in some order, so many moves lead to something that is asked for
pub record ComesWith {P M : Type 0} (parties : Parties P M) (asks : AskOf P M) (first : World P)
    (conditions : List Condition) (steps : ℕ) : Type 0 where
  pub finding : Finding
  pub asked : is_row_asked conditions finding ≡ true
  pub may : MayCome parties asks first steps finding
