-- Faults of parties, and what is told of them.
use Rattle.std.proofs.Common.{◌≡◌, ◌+◌, inl, inr, ap, ℕ, List, [], ◌∷◌, Bool, true, false, cond, length, Option, Some}
use Rattle.std.proofs.Common.{None, Ok, Err, subst}
use Rattle.std.specs.Prelude.{◌⊎◌, Result, codes, ok_or}
use Rattle.serde_json.specs.{Data.{Data}, Find.{get}}
use Rattle.dsa_scenario.specs.declared.faults.ScenarioFault.{ScenarioFault}
use Rattle.dsa_scenario.specs.declared.faults.ScenarioFault.TheVariants.{NoParties, BadParties, BadParty, TooManyParties}
use Rattle.dsa_scenario.specs.declared.faults.ScenarioFault.TheVariants.{BadQuestion}
use Rattle.dsa_plans.specs.Acting.{administrator_onto}
use Rattle.dsa_plans.specs.{Said.{items_in, read_or}, Submitters.{client_onto}}
use Rattle.dsa_plans.specs.Plans.{Tables, PartyLists, are_few, few_tables, ok_and_then, parties_onto, parties_said}
use Rattle.dsa_plans.specs.Plans.{party_lists, script_said, tables_said, tables_with}
use Rattle.dsa_explore.specs.declared.search.Bounds.{Bounds}
use Rattle.dsa_questions.specs.declared.question.Kind.{Kind, TheVariants.{Never, Sometimes, Always}}
use Rattle.dsa_questions.specs.Reading.{Inquiry, key_of, list_onto, question_onto, questions_onto, questions_said}
use Rattle.dsa_questions.specs.Stating.{Nameable, nameable}
use Rattle.dsa_exploration.specs.declared.exploration.Form.{Form}
use Rattle.dsa_exploration.specs.Exploration.{HasBadParties, HasBadQuestion, IsExplorationOf}

-- what holds of the fault of the first step, or of the second's
module _ (P : ScenarioFault → Type 0) where
  either : {A B : Type 0} (f : A → Result B ScenarioFault) (r : Result A ScenarioFault) (e : ScenarioFault)
      → ((e : ScenarioFault) → r ≡ Err e → P e) → ((x : A) → f x ≡ Err e → P e) → ok_and_then f r ≡ Err e → P e
  either f (Ok x) e first next h = next x h
  either f (Err fault) e first next h =
      let same : fault ≡ e = cc in
      first e (ap Err same)

  missing : {A : Type 0} (o : Option A) (fault e : ScenarioFault) → P fault → ok_or o fault ≡ Err e → P e
  missing (Some x) fault e p h = absurd cc
  missing None fault e p h =
      let same : fault ≡ e = cc in
      subst P same p

  unless : {A : Type 0} (b : Bool) (x : A) (fault e : ScenarioFault) → P fault → cond b (Ok x) (Err fault) ≡ Err e
      → P e
  unless true x fault e p h = absurd cc
  unless false x fault e p h =
      let same : fault ≡ e = cc in
      subst P same p

-- what holds of each fault of parties holds of the one that is said
module _ (P : ScenarioFault → Type 0) (none : P NoParties) (bad : P BadParties) (party : (i : ℕ) → P (BadParty i))
    (many : P TooManyParties) where
  one_party : {A : Type 0} (onto : A → Data → Option A) (number : ℕ) (done : A) (ds : List Data) (e : ScenarioFault)
      → parties_onto onto number done ds ≡ Err e → P e
  one_party onto number done [] e h = absurd cc
  one_party onto number done (d ∷ ds) e h =
      either P (λ more. parties_onto onto (number + 1) more ds) (ok_or (onto done d) (BadParty number)) e
      (λ e. missing P (onto done d) (BadParty number) e (party number))
      (λ more. one_party onto (number + 1) more ds e) h

  of_tables : (lists : PartyLists) (e : ScenarioFault) → tables_said lists ≡ Err e → P e
  of_tables lists e h =
      either P (λ submitters. ok_and_then (λ acting. few_tables (tables_with lists.engines submitters acting))
      (parties_onto administrator_onto _ ([], []) lists.administrators)) _ e
      (λ e. one_party client_onto 0 ([], []) lists.clients e)
      (λ submitters. either P (λ acting. few_tables (tables_with lists.engines submitters acting)) _ e
      (λ e. one_party administrator_onto _ ([], []) lists.administrators e)
      (λ acting. let t = tables_with lists.engines submitters acting in
      unless P (are_few t) t TooManyParties e many)) h

  pub of_parties : (count : ℕ) (document : Data) (e : ScenarioFault) → parties_said count document ≡ Err e → P e
  of_parties count document e h =
      either P (script_said count) (ok_or (get (codes "parties") document) NoParties) e
      (λ e. missing P (get (codes "parties") document) NoParties e none)
      (λ d. either P tables_said (ok_or (party_lists count d) BadParties) e
      (λ e. missing P (party_lists count d) BadParties e bad)
      (λ lists. of_tables lists e)) h

-- and so of each fault of questions
module _ (P : ScenarioFault → Type 0) (question : (i : ℕ) → P (BadQuestion i)) where
  in_turn : (kind : Kind) (names : Nameable) (done : Inquiry) (ds : List Data) (e : ScenarioFault)
      → questions_onto kind names done ds ≡ Err e → P e
  in_turn kind names done [] e h = absurd cc
  in_turn kind names done (d ∷ ds) e h =
      either P (λ more. questions_onto kind names more ds)
      (ok_or (question_onto kind names done d) (BadQuestion (length done.asked))) e
      (λ e. missing P (question_onto kind names done d) (BadQuestion (length done.asked)) e
      (question (length done.asked)))
      (λ more. in_turn kind names more ds e) h

  in_list : (kind : Kind) (names : Nameable) (d : Data) (done : Inquiry) (e : ScenarioFault)
      → list_onto kind names d done ≡ Err e → P e
  in_list kind names d done e h =
      either P (questions_onto kind names done)
      (ok_or (read_or [] items_in (get (key_of kind) d)) (BadQuestion (length done.asked))) e
      (λ e. missing P (read_or [] items_in (get (key_of kind) d)) (BadQuestion (length done.asked)) e
      (question (length done.asked)))
      (λ ds. in_turn kind names done ds e) h

  pub of_questions : (names : Nameable) (d : Data) (e : ScenarioFault) → questions_said names d ≡ Err e → P e
  of_questions names d e h =
      either P (list_onto Always names d)
      (ok_and_then (list_onto Sometimes names d) (list_onto Never names d (record { asked = []; watches = [] }))) e
      (λ e. either P (list_onto Sometimes names d) (list_onto Never names d (record { asked = []; watches = [] })) e
      (λ e. in_list Never names d (record { asked = []; watches = [] }) e)
      (λ nevers. in_list Sometimes names d nevers e))
      (λ done. in_list Always names d done e) h

-- a fault of the parties is told without a text
told_of_parties : (form : Form) (bounds : Bounds) (bytes text : List ℕ) (e : ScenarioFault) → HasBadParties bytes e
    → text ≡ [] → IsExplorationOf form bounds bytes (Some e) text
told_of_parties form bounds bytes text e has empty =
    of_parties (λ e. HasBadParties bytes e → IsExplorationOf form bounds bytes (Some e) text)
    (λ has. (empty, has)) (λ has. (empty, has)) (λ i has. (empty, has)) (λ has. (empty, has))
    has.caps.engines has.document e has.said has

pub told_alone : (form : Form) (bounds : Bounds) (bytes text : List ℕ) (fault : Option ScenarioFault)
    (e : ScenarioFault) → HasBadParties bytes e → text ≡ [] → fault ≡ Some e
    → IsExplorationOf form bounds bytes fault text
told_alone form bounds bytes text fault e has empty is = rw is (told_of_parties form bounds bytes text e has empty)

-- and so is a fault of the questions
told_of_questions : (form : Form) (bounds : Bounds) (bytes text : List ℕ) (e : ScenarioFault) → HasBadQuestion bytes e
    → text ≡ [] → IsExplorationOf form bounds bytes (Some e) text
told_of_questions form bounds bytes text e has empty =
    of_questions (λ e. HasBadQuestion bytes e → IsExplorationOf form bounds bytes (Some e) text) (λ i has. (empty, has))
    (nameable has.caps has.script has.labels has.acts) has.plan.document e has.said has

pub questions_alone : (form : Form) (bounds : Bounds) (bytes text : List ℕ) (fault : Option ScenarioFault)
    (e : ScenarioFault) → HasBadQuestion bytes e → text ≡ [] → fault ≡ Some e
    → IsExplorationOf form bounds bytes fault text
questions_alone form bounds bytes text fault e has empty is =
    rw is (told_of_questions form bounds bytes text e has empty)

pub other_than : {A B : Type 0} → ¬ A → A ⊎ B → B
other_than differs (inl a) = absurd (differs a)
other_than differs (inr b) = b
