-- Whether a question can be read does not depend on those before it.
use Rattle.std.proofs.Common.{◌≡◌, ◌∙◌, ℕ, zero, suc, Bool, true, false, cond, List, [], ◌∷◌, refl, ap, sym}
use Rattle.std.proofs.Common.{◌&&◌, Option, Some, None, codes, length, option_map, is_some}
use Rattle.std.specs.Prelude.{◌++◌, option_and_then}
use Rattle.std.proofs.lemmas.Option.{same_Some}
use Rattle.serde_json.specs.{Data.{Data}, Find.{get, as_str}}
use Rattle.dsa_scenario.specs.Fields.{◌>>=◌}
use Rattle.dsa_formulas.specs.declared.formula.Term.{Term, TheVariants.{Known, Not, Both, Either}}
use Rattle.dsa_plans.specs.Said.{each_onto, items_in}
use Rattle.dsa_questions.specs.declared.question.{Condition.{Condition}, Kind.{Kind}}
use Rattle.dsa_questions.specs.Conditions.{has_keys}
use Rattle.dsa_questions.specs.Judging.{is_formed, is_question, no_questions}
use Rattle.dsa_questions.specs.Reading.{Inquiry, keys_wanted, most_nested, name_by, question_onto, rows_wanted}
use Rattle.dsa_questions.specs.Reading.{states, terms_for, wanted_onto, with_question}
use Rattle.dsa_questions.specs.Stating.{FormulaSoFar, Nameable, formula_onto, joined_onto, one_key_onto, pair_stated}
use Rattle.dsa_questions.specs.Stating.{part_onto, single_stated, with_stated, with_term}

-- ---- both or none

pub map-some : {A B : Type 0} (f : A → B) (o : Option A) → is_some (option_map f o) ≡ is_some o
map-some f None = refl
map-some f (Some x) = refl

map-alike : {A B : Type 0} (f g : A → B) (o : Option A) → is_some (option_map f o) ≡ is_some (option_map g o)
map-alike f g o = map-some f o ∙ sym (map-some g o)

pub then-alike : {A B C : Type 0} (f : A → Option C) (g : B → Option C) (o : Option A) (p : Option B)
    → is_some o ≡ is_some p → ((x : A) (y : B) → is_some (f x) ≡ is_some (g y))
    → is_some (option_and_then f o) ≡ is_some (option_and_then g p)
then-alike f g None None same next = refl
then-alike f g None (Some y) same next = absurd cc
then-alike f g (Some x) None same next = absurd cc
then-alike f g (Some x) (Some y) same next = next x y

cond-alike : {A : Type 0} (b : Bool) (x x' y y' : Option A) → is_some x ≡ is_some x' → is_some y ≡ is_some y'
    → is_some (cond b x y) ≡ is_some (cond b x' y')
cond-alike true x x' y y' s t = s
cond-alike false x x' y y' s t = t

-- ---- formulas

-- this can be read onto any formula so far, or onto none
abbrev IsAlike : (FormulaSoFar → Data → Option FormulaSoFar) → Type 0
IsAlike f = (v w : FormulaSoFar) (d : Data) → is_some (f v d) ≡ is_some (f w d)

each-alike : (f : FormulaSoFar → Data → Option FormulaSoFar) → IsAlike f → (v w : FormulaSoFar) (ds : List Data)
    → is_some (each_onto f v ds) ≡ is_some (each_onto f w ds)
each-alike f alike v w [] = refl
each-alike f alike v w (d ∷ ds) = then-alike (λ more. each_onto f more ds) (λ more. each_onto f more ds) (f v d) (f w d)
    (alike v w d) (λ x y. each-alike f alike x y ds)

part-alike : (join : Term) (f : FormulaSoFar → Data → Option FormulaSoFar) → IsAlike f → IsAlike (part_onto join f)
part-alike join f alike v w d =
    map-some (with_term join) (f v d) ∙ alike v w d ∙ sym (map-some (with_term join) (f w d))

joined-alike : (join : Term) (none : Bool) (f : FormulaSoFar → Data → Option FormulaSoFar) → IsAlike f
    → IsAlike (joined_onto join none f)
joined-alike join none f alike v w d = go (items_in d)
  where
    go : (items : Option (List Data))
        → is_some (items >>= λ items. each_onto (part_onto join f) (with_term (Known none) v) items)
        ≡ is_some (items >>= λ items. each_onto (part_onto join f) (with_term (Known none) w) items)
    go None = refl
    go (Some ds) = each-alike (part_onto join f) (part-alike join f alike) (with_term (Known none) v)
        (with_term (Known none) w) ds

one-alike : (names : Nameable) (f : FormulaSoFar → Data → Option FormulaSoFar) → IsAlike f → (v w : FormulaSoFar)
    (d : Data) (all any negated : Option Data)
    → is_some (one_key_onto f names v d all any negated) ≡ is_some (one_key_onto f names w d all any negated)
one-alike names f alike v w d (Some all) any negated = joined-alike Both true f alike v w all
one-alike names f alike v w d None (Some any) negated = joined-alike Either false f alike v w any
one-alike names f alike v w d None None (Some negated) = part-alike Not f alike v w negated
one-alike names f alike v w d None None None = map-alike (with_stated v) (with_stated w) (single_stated names d)

formula-alike : (names : Nameable) (depth : ℕ) → IsAlike (formula_onto depth names)
formula-alike names zero v w d = refl
formula-alike names (suc depth) v w d = cond-alike (has_keys 1 d) _ _ _ _
    (one-alike names (formula_onto depth names) (formula-alike names depth) v w d (get (codes "all") d)
    (get (codes "any") d) (get (codes "not") d))
    (map-alike (with_stated v) (with_stated w) (cond (has_keys 2 d) (pair_stated names d) None))

-- ---- questions

wanted-alike : (kind : Kind) (names : Nameable) (done more : Inquiry) (name other : List ℕ) (that : Data)
    (rows : Option (List Condition))
    → is_some (wanted_onto kind names done name that rows) ≡ is_some (wanted_onto kind names more other that rows)
wanted-alike kind names done more name other that (Some conditions) = refl
wanted-alike kind names done more name other that None =
    map-some _ (formula_onto most_nested names (record { terms = []; watches = done.watches }) that)
    ∙ formula-alike names most_nested (record { terms = []; watches = done.watches })
    (record { terms = []; watches = more.watches }) that
    ∙ sym (map-some _ (formula_onto most_nested names (record { terms = []; watches = more.watches }) that))

name-alike : (m n : ℕ) (o : Option Data) → is_some (name_by m o) ≡ is_some (name_by n o)
name-alike m n None = refl
name-alike m n (Some d) = refl

pub question-alike : (kind : Kind) (names : Nameable) (done more : Inquiry) (d : Data)
    → is_some (question_onto kind names done d) ≡ is_some (question_onto kind names more d)
question-alike kind names done more d = cond-alike (has_keys (keys_wanted d) d) _ _ None None
    (then-alike _ _ (name_by (length done.asked) (get (codes "name") d))
    (name_by (length more.asked) (get (codes "name") d))
    (name-alike (length done.asked) (length more.asked) (get (codes "name") d)) that-alike) refl
  where
    that-alike : (name other : List ℕ)
        → is_some (get (codes "that") d >>= λ that. wanted_onto kind names done name that (rows_wanted kind names that))
        ≡ is_some
        (get (codes "that") d >>= λ that. wanted_onto kind names more other that (rows_wanted kind names that))
    that-alike name other = go (get (codes "that") d)
      where
        go : (that : Option Data)
            → is_some (that >>= λ that. wanted_onto kind names done name that (rows_wanted kind names that))
            ≡ is_some (that >>= λ that. wanted_onto kind names more other that (rows_wanted kind names that))
        go None = refl
        go (Some that) = wanted-alike kind names done more name other that (rows_wanted kind names that)

-- what can be read is formed as a question is
pub formed-question : (kind : Kind) (names : Nameable) (d : Data) → is_question kind names d ≡ true
    → is_formed d ≡ true
formed-question kind names d is =
    go (has_keys (keys_wanted d) d) (name_by 0 (get (codes "name") d)) (get (codes "that") d) is
  where
    go : (keys : Bool) (name : Option (List ℕ)) (that : Option Data)
        → is_some (cond keys
        (name >>= λ name. that >>= λ that. wanted_onto kind names no_questions name that (rows_wanted kind names that))
        None) ≡ true
        → (keys && (is_some name && is_some that)) ≡ true
    go true (Some name) (Some that) h = refl
    go true (Some name) None h = absurd cc
    go true None that h = absurd cc
    go false name that h = absurd cc

-- ---- how many there are

longer : {A : Type 0} (xs : List A) (x : A) → length (xs ++ x ∷ []) ≡ suc (length xs)
longer [] x = refl
longer (y ∷ xs) x = ap suc (longer xs x)

wanted-adds : (kind : Kind) (names : Nameable) (done more : Inquiry) (name : List ℕ) (that : Data)
    (rows : Option (List Condition)) → wanted_onto kind names done name that rows ≡ Some more
    → length more.asked ≡ suc (length done.asked)
wanted-adds kind names done more name that (Some conditions) e =
    sym (ap (λ (i : Inquiry). length i.asked) (same_Some _ more e)) ∙ longer done.asked _
wanted-adds kind names done more name that None e =
    go (formula_onto most_nested names (record { terms = []; watches = done.watches }) that) e
  where
    go : (formula : Option FormulaSoFar)
        → option_map (λ (w : FormulaSoFar). with_question done kind name (states (terms_for kind w.terms)) w.watches)
        formula ≡ Some more
        → length more.asked ≡ suc (length done.asked)
    go None h = absurd cc
    go (Some w) h = sym (ap (λ (i : Inquiry). length i.asked) (same_Some _ more h)) ∙ longer done.asked _

-- a question that is read is one more
pub question-adds : (kind : Kind) (names : Nameable) (done more : Inquiry) (d : Data)
    → question_onto kind names done d ≡ Some more → length more.asked ≡ suc (length done.asked)
question-adds kind names done more d e =
    go (has_keys (keys_wanted d) d) (name_by (length done.asked) (get (codes "name") d)) (get (codes "that") d) e
  where
    go : (keys : Bool) (name : Option (List ℕ)) (that : Option Data)
        → cond keys
        (name >>= λ name. that >>= λ that. wanted_onto kind names done name that (rows_wanted kind names that))
        None ≡ Some more
        → length more.asked ≡ suc (length done.asked)
    go true (Some name) (Some that) h =
        wanted-adds kind names done more name that (rows_wanted kind names that) h
    go true (Some name) None h = absurd cc
    go true None that h = absurd cc
    go false name that h = absurd cc
