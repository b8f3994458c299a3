-- A row that is asked for, with the fewest steps, and the answer that it gives.
use Rattle.std.proofs.Common.{◌≡◌, ◌∙◌, ◌&&◌, ℕ, Bool, true, false, cond, List, [], ◌∷◌, Option, Some, None, IfNone, IfSome, refl, sym, ap, inl, inr}
use Rattle.std.proofs.Common.{⊎_elim, subst}
use Rattle.std.specs.Prelude.{◌==◌, find}
use Rattle.std.proofs.lemmas.Bool.{and_from, and_parts, eqb-true, eq-eqb}
use Rattle.dsa_base.{specs.Lists.{In}, proofs.Lists.{In-find}}
use Rattle.dsa_regs.specs.declared.Caps.{Caps}
use Rattle.dsa_book.specs.declared.event.{Event.{Event}, Step.{Step}}
use Rattle.dsa_parties.specs.declared.script.Script.{Script}
use Rattle.dsa_explore.specs.declared.found.{Explored.{Explored}, Found.{Found}}
use Rattle.dsa_explore.specs.Schedules.{IsSchedule}
use Rattle.dsa_formulas.specs.declared.formula.Term.{Term}
use Rattle.dsa_questions.specs.declared.question.{Condition.{Condition}, Kind.{Kind}}
use Rattle.dsa_questions.specs.{Asked.{is_row_asked}, Answers.{IsFirstMet}, Reading.{Asked, rows, states}}
use Rattle.dsa_questions.specs.Shown.{HasNoneToShow, IsAnswerShown, IsSoonest, IsStateShown}
use Rattle.dsa_questions.specs.Verdicts.{answer_with, comes_by, fewest_from}
use Rattle.dsa_questions.proofs.Fewest.{IsOne, one-of}

-- where one passes, some is found
find-passing : {X : Type 0} (p : X → Bool) (x : X) (xs : List X) → In x xs → p x ≡ true → find p xs ≡ None → ⊥
find-passing p x [] i t none = absurd i
find-passing p x (y ∷ ys) i t none = go (λ j n. find-passing p x ys j t n) (p y) refl i none
  where
    go : (In x ys → find p ys ≡ None → ⊥) → (b : Bool) → p y ≡ b → In x (y ∷ ys)
        → cond b (Some y) (find p ys) ≡ None → ⊥
    go more true q i none = absurd cc
    go more false q (inl e) none = let clash : false ≡ true = sym q ∙ ap p e ∙ t in absurd cc
    go more false q (inr j) none = more j none

module _ (conditions : List Condition) (found : List Found) (steps : ℕ)
    (fewest : fewest_from conditions None found ≡ Some steps) where
  abbrev pub is-soon : Found → Bool
  is-soon row = is_row_asked conditions row.finding && row.steps == steps

  pub soonest : (row : Found) → find is-soon found ≡ Some row → IsSoonest conditions found row
  soonest row is =
      let r = In-find is-soon row found is in
      let parts = and_parts (is_row_asked conditions row.finding) (row.steps == steps) r.1 in
      record {
        within = r.0;
        asked = parts.0;
        fewest = fewest ∙ ap Some (sym (eqb-true row.steps steps parts.1));
      }

  -- there is one
  pub some-soonest : find is-soon found ≡ None → ⊥
  some-soonest none = ⊎_elim
      (λ no. let clash : None ≡ Some steps = no in absurd cc)
      (λ (r : IsOne conditions found steps).
      find-passing is-soon r.row found r.within
      (and_from (is_row_asked conditions r.row.finding) (r.row.steps == steps) r.asked (eq-eqb r.row.steps steps r.same))
      none)
      (one-of conditions None found steps fewest)

  -- what is found is it
  pub soonest-found : (o : Option Found) → o ≡ find is-soon found → IfSome o (IsSoonest conditions found)
  soonest-found None is = tt
  soonest-found (Some row) is = soonest row (sym is)

  pub soonest-none : (o : Option Found) → o ≡ find is-soon found → IfNone o (fewest_from conditions None found ≡ None)
  soonest-none None is = absurd (some-soonest (sym is))
  soonest-none (Some row) is = tt

module _ (caps : Caps) (script : Script) (setup : List Event) (explored : Explored) (kind : Kind) (name : List ℕ) where
  module _ (conditions : List Condition) where
    abbrev about-rows : Asked
    about-rows = record { kind = kind; name = name; wanted = rows conditions }

    -- the schedule of such a row shows the answer
    pub row-answers : (row : Found) (steps : List Step) → IsSoonest conditions explored.rows.items row
        → IsSchedule caps script setup row.steps row.finding steps
        → IsAnswerShown caps script setup explored about-rows steps
    row-answers row steps soon schedule = record {
      answer = answer_with explored about-rows None;
      answered = (None, (refl, refl));
      count = row.steps;
      comes = ap (comes_by explored.is_complete) soon.fewest;
      shown = record { finding = row.finding; asked = soon.asked; schedule = schedule };
    }

    pub no-row-answers : fewest_from conditions None explored.rows.items ≡ None
        → HasNoneToShow caps script setup explored about-rows
    no-row-answers none = record {
      answer = answer_with explored about-rows None;
      answered = (None, (refl, refl));
      none = ap (comes_by explored.is_complete) none;
    }

  module _ (terms : List Term) where
    abbrev about-states : Asked
    about-states = record { kind = kind; name = name; wanted = states terms }

    -- and so does that of the first state that is asked for
    pub state-answers : (level : ℕ) (steps : List Step) → IsFirstMet caps script setup explored terms (Some level)
        → IsStateShown caps script setup terms level steps
        → IsAnswerShown caps script setup explored about-states steps
    state-answers level steps met shown = record {
      answer = answer_with explored about-states (Some level);
      answered = (Some level, (met, refl));
      count = level;
      comes = refl;
      shown = shown;
    }

    pub no-state-answers : IsFirstMet caps script setup explored terms None
        → HasNoneToShow caps script setup explored about-states
    no-state-answers met = record {
      answer = answer_with explored about-states None;
      answered = (None, (met, refl));
      none = refl;
    }
