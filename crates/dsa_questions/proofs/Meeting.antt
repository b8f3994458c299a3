-- States in which formulas hold.
use Rattle.std.proofs.Common.{◌≡◌, ◌<◌, ◌≤◌, ◌∙◌, ℕ, Bool, true, false, List, [], ◌∷◌, ◌++◌, Option, Some, None, IfSome, sym, ap, subst}
use Rattle.std.proofs.Common.{length, take, map, get_or, arith, refl, zero, suc, ◌+◌, ⊎_elim}
use Rattle.std.specs.Prelude.{slice_get}
use Rattle.std.proofs.lemmas.{Bool.{cases_lt}, List.{map-append, take_more}}
use Rattle.dsa_base.specs.Lists.{In}
use Rattle.dsa_regs.specs.declared.Caps.{Caps}
use Rattle.dsa_book.specs.declared.event.Event.{Event}
use Rattle.dsa_keys.specs.Parties.{World, Stored, HaveEqualKeys}
use Rattle.dsa_keys.specs.Key.{Key, key}
use Rattle.dsa_parties.specs.{declared.script.Script.{Script}, Standing.{Standing}}
use Rattle.dsa_formulas.specs.{declared.formula.Term.{Term}, Facts.{is_so}, Formulas.{holds_in_world, holds_there}}
use Rattle.dsa_explore.specs.{declared.search.Searched.{Searched}, Kept.{KeepsWays}}
use Rattle.dsa_explore.proofs.Growth.{In-get, get-below}
use Rattle.dsa_explore.proofs.Whole.{In-place}
use Rattle.dsa_explore.specs.declared.found.Explored.{Explored}
use Rattle.dsa_questions.specs.Answers.{AreAnswers, CanHold, IsAnswer, IsFirstMet}
use Rattle.dsa_questions.specs.declared.{question.Question.{Question}, verdicts.Answered.{Answered}}
use Rattle.dsa_questions.specs.{Reading.{Asked, question_asked}, Told.{as_answer}, Verdicts.{Answer}}

-- a formula holds in both of two worlds with equal keys, or in neither
pub holds-alike : (script : Script) (terms : List Term) (w v : World Standing) → HaveEqualKeys w v
    → holds_in_world script terms w ≡ holds_in_world script terms v
holds-alike script terms w v k = λ i. holds_there (is_so script (k.places i) (k.keys i)) terms

module _ {caps : Caps} {script : Script} {setup : List Event} {searched : Searched}
    (keeps : KeepsWays caps script setup searched) (terms : List Term) where
  -- it does not hold in the stored worlds before this number
  abbrev pub NoneBefore : ℕ → Type 0
  NoneBefore number = (i : ℕ) (x : Stored Standing) → i < number → slice_get keeps.table i ≡ Some x
      → holds_in_world script terms x.world ≡ false

  -- a world with this number is stored
  pub one-at : (number : ℕ) → number < searched.explored.states
      → (x : Stored Standing) × (slice_get keeps.table number ≡ Some x)
  one-at number below = get-at keeps.table number (omega (arith, below, keeps.count))
    where
      get-at : (xs : List (Stored Standing)) (n : ℕ) → n < length xs → (x : Stored Standing) × (slice_get xs n ≡ Some x)
      get-at [] n h = absurd (omega (arith, h))
      get-at (x ∷ xs) zero h = (x, refl)
      get-at (x ∷ xs) (suc n) h = get-at xs n (omega (arith, h))

  -- it holds in none
  pub met-none : (number : ℕ) → searched.explored.states ≤ number → NoneBefore number
      → IsFirstMet caps script setup searched.explored terms None
  met-none number all none = record {
    first = keeps.first;
    begun = keeps.begun;
    sound = tt;
    complete = λ complete steps can.
        let stored = keeps.all complete steps can.world can.reached in
        let place = In-place stored.at keeps.table stored.within in
        let below = get-below keeps.table place.0 stored.at place.1 in
        let no : false ≡ true =
        sym (none place.0 stored.at (omega (arith, below, keeps.count, all)) place.1)
        ∙ sym (holds-alike script terms can.world stored.at.world stored.keys) ∙ can.holds in
        absurd cc;
  }

  -- it holds in the world of this number, and in none before
  pub met-first : (number level : ℕ) (x : Stored Standing) → slice_get keeps.table number ≡ Some x → level ≡ x.level
      → holds_in_world script terms x.world ≡ true → NoneBefore number
      → IsFirstMet caps script setup searched.explored terms (Some level)
  met-first number level x at same holds none = record {
    first = keeps.first;
    begun = keeps.begun;
    sound = subst (CanHold script keeps.first terms) (sym same) (record {
      world = x.world;
      reached = keeps.worlds x (In-get keeps.table number x at);
      holds = holds;
    });
    complete = λ complete steps can.
        let stored = keeps.all complete steps can.world can.reached in
        let place = In-place stored.at keeps.table stored.within in
        let later = ⊎_elim
        (λ (before : place.0 < number).
        let clash : false ≡ true = sym (none place.0 stored.at before place.1)
        ∙ sym (holds-alike script terms can.world stored.at.world stored.keys) ∙ can.holds in
        absurd cc)
        (λ (behind : number ≤ place.0). keeps.by_level.rising number place.0 x stored.at behind at place.1)
        (cases_lt place.0 number) in
        (level, (refl, omega (arith, same, later, stored.soon)));
  }

module _ (caps : Caps) (script : Script) (setup : List Event) (explored : Explored) where
  -- one answer more
  answers-more : (qs : List Asked) (answers : List Answer) (q : Asked) (answer : Answer)
      → AreAnswers caps script setup explored qs answers → IsAnswer caps script setup explored q answer
      → AreAnswers caps script setup explored (qs ++ q ∷ []) (answers ++ answer ∷ [])
  answers-more [] [] q answer all one = (one, tt)
  answers-more [] (a ∷ answers) q answer all one = absurd all
  answers-more (p ∷ qs) [] q answer all one = absurd all
  answers-more (p ∷ qs) (a ∷ answers) q answer all one = (all.0, answers-more qs answers q answer all.1 one)

  pub answered-more : (qs : List Question) (i : ℕ) (q : Question) (old new : List Answered) (a : Answered)
      → i < length qs → q ≡ get_or qs i q → new ≡ old ++ a ∷ []
      → AreAnswers caps script setup explored (map question_asked (take i qs)) (map as_answer old)
      → IsAnswer caps script setup explored (question_asked q) (as_answer a)
      → AreAnswers caps script setup explored (map question_asked (take (i + 1) qs)) (map as_answer new)
  answered-more qs i q old new a within is more all one =
      let asked : map question_asked (take (i + 1) qs) ≡ map question_asked (take i qs) ++ question_asked q ∷ [] =
      ap (map question_asked) (take_more qs i q within ∙ ap (λ y. take i qs ++ y ∷ []) (sym is))
      ∙ map-append question_asked (take i qs) (q ∷ []) in
      let told : map as_answer new ≡ map as_answer old ++ as_answer a ∷ [] =
      ap (map as_answer) more ∙ map-append as_answer old (a ∷ []) in
      subst (λ (l : List Asked). AreAnswers caps script setup explored l (map as_answer new)) (sym asked)
      (subst (λ (l : List Answer). AreAnswers caps script setup explored
      (map question_asked (take i qs) ++ question_asked q ∷ []) l) (sym told)
      (answers-more (map question_asked (take i qs)) (map as_answer old) (question_asked q) (as_answer a) all one))
