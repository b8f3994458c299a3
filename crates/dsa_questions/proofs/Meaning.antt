-- What formulas say that are read from a document.
use Rattle.std.proofs.Common.{◌≡◌, ◌∙◌, ℕ, zero, suc, Bool, true, false, cond, ◌&&◌, ◌||◌, List, [], ◌∷◌, ◌++◌, Option, Some, None}
use Rattle.std.proofs.Common.{append_assoc, ap, codes, length, not, option_map, refl, subst, sym}
use Rattle.std.specs.Prelude.{option_and_then, slice_get}
use Rattle.std.specs.List.{list_all, list_any}
use Rattle.std.proofs.lemmas.{List.{append-nil}, Option.{same_Some}}
use Rattle.serde_json.specs.{Data.{Data}, Find.{get}}
use Rattle.dsa_base.specs.Rows.{passes}
use Rattle.dsa_parties.specs.declared.watches.Watch.{Watch}
use Rattle.dsa_formulas.specs.declared.formula.Fact.{Fact, TheVariants.{Came}}
use Rattle.dsa_formulas.specs.declared.formula.Term.{Term, TheVariants.{Is, Known, Not, Both, Either}}
use Rattle.dsa_formulas.specs.Formulas.{truths_after, truths_of}
use Rattle.dsa_plans.specs.Said.{each_onto, items_in}
use Rattle.dsa_questions.specs.Conditions.{has_keys}
use Rattle.dsa_questions.specs.declared.stating.Stated.{Stated, TheVariants.{Watched, Stands}}
use Rattle.dsa_questions.specs.Meaning.{KnowsWatches, condition_says, condition_says_by, stated_so}
use Rattle.dsa_questions.specs.Stating.{FormulaSoFar, Nameable, formula_onto, joined_onto, one_key_onto, pair_stated}
use Rattle.dsa_questions.specs.Stating.{part_onto, single_stated, with_stated, with_term}

truths-append : (facts : Fact → Bool) (ts : List Bool) (xs ys : List Term)
    → truths_of facts ts (xs ++ ys) ≡ truths_of facts (truths_of facts ts xs) ys
truths-append facts ts [] ys = refl
truths-append facts ts (x ∷ xs) ys = truths-append facts (truths_after facts ts x) xs ys

get-front : {X : Type 0} (xs ys : List X) (n : ℕ) (x : X) → slice_get xs n ≡ Some x → slice_get (xs ++ ys) n ≡ Some x
get-front [] ys n x e = absurd cc
get-front (y ∷ xs) ys zero x e = e
get-front (y ∷ xs) ys (suc n) x e = get-front xs ys n x e

get-last : {X : Type 0} (xs : List X) (x : X) → slice_get (xs ++ x ∷ []) (length xs) ≡ Some x
get-last [] x = refl
get-last (y ∷ xs) x = get-last xs x

and-more : (a b c : Bool) → ((a && b) && c) ≡ (a && (b && c))
and-more true b c = refl
and-more false b c = refl

or-more : (a b c : Bool) → ((a || b) || c) ≡ (a || (b || c))
or-more true b c = refl
or-more false b c = refl

and-all : (a : Bool) → (a && true) ≡ a
and-all true = refl
and-all false = refl

or-none : (a : Bool) → (a || false) ≡ a
or-none true = refl
or-none false = refl

module _ (names : Nameable) (facts : Fact → Bool) (came : Watch → Bool) where
  abbrev so : Stated → Bool
  so = stated_so facts came

  abbrev Knows : List Watch → Type 0
  Knows = KnowsWatches facts came

  knows-front : (xs ys all : List Watch) → all ≡ xs ++ ys → Knows all → Knows xs
  knows-front xs ys all e knows =
      λ n watch at. knows n watch
      (subst (λ (l : List Watch). slice_get l n ≡ Some watch) (sym e) (get-front xs ys n watch at))

  -- terms were added that come to this truth, and watches
  pub record Adds (w w' : FormulaSoFar) (truth : Bool) : Type 0 where
    pub own : List Term
    pub terms : w'.terms ≡ w.terms ++ own
    pub more : List Watch
    pub watches : w'.watches ≡ w.watches ++ more
    pub truths : Knows w'.watches → (ts : List Bool) → truths_of facts ts own ≡ truth ∷ ts

  -- so they were, behind a truth
  pub record AddsTo (w w' : FormulaSoFar) (onto : Bool → Bool) : Type 0 where
    pub own : List Term
    pub terms : w'.terms ≡ w.terms ++ own
    pub more : List Watch
    pub watches : w'.watches ≡ w.watches ++ more
    pub truths : Knows w'.watches → (acc : Bool) (ts : List Bool) → truths_of facts (acc ∷ ts) own ≡ onto acc ∷ ts

  stated-adds : (w : FormulaSoFar) (s : Stated) → Adds w (with_stated w s) (so s)
  stated-adds w (Stands fact) = record {
    own = Is fact ∷ [];
    terms = refl;
    more = [];
    watches = sym (append-nil w.watches);
    truths = λ knows ts. refl;
  }
  stated-adds w (Watched watch) = record {
    own = Is (Came (length w.watches)) ∷ [];
    terms = refl;
    more = watch ∷ [];
    watches = refl;
    truths = λ knows ts. ap (λ b. b ∷ ts) (knows (length w.watches) watch (get-last w.watches watch));
  }

  as-adds : (w v w' : FormulaSoFar) (truth : Bool) → v ≡ w' → Adds w v truth → Adds w w' truth
  as-adds w v w' truth e a = subst (λ (x : FormulaSoFar). Adds w x truth) e a

  fact-adds : (w w' : FormulaSoFar) (stated : Option Stated) → option_map (with_stated w) stated ≡ Some w'
      → Adds w w' (passes so stated)
  fact-adds w w' None e = absurd cc
  fact-adds w w' (Some s) e = as-adds w (with_stated w s) w' (so s) (same_Some (with_stated w s) w' e) (stated-adds w s)

  module _ (inner : FormulaSoFar → Data → Option FormulaSoFar) (truth : Data → Bool)
      (adds : (w w' : FormulaSoFar) (d : Data) → inner w d ≡ Some w' → Adds w w' (truth d)) where
    -- a part, and what joins it with the truth before
    module _ (join : Term) (op : Bool → Bool → Bool) (all : List Data → Bool)
        (joins : (a b : Bool) (ts : List Bool) → truths_after facts (b ∷ a ∷ ts) join ≡ op a b ∷ ts)
        (unit : (a : Bool) → op a (all []) ≡ a)
        (step : (a : Bool) (d : Data) (ds : List Data) → op (op a (truth d)) (all ds) ≡ op a (all (d ∷ ds))) where
      parts-add : (ds : List Data) (w w' : FormulaSoFar) → each_onto (part_onto join inner) w ds ≡ Some w'
          → AddsTo w w' (λ a. op a (all ds))
      parts-add [] w w' e = subst (λ (x : FormulaSoFar). AddsTo w x (λ a. op a (all []))) (same_Some w w' e) (record {
        own = [];
        terms = sym (append-nil w.terms);
        more = [];
        watches = sym (append-nil w.watches);
        truths = λ knows acc ts. ap (λ b. b ∷ ts) (sym (unit acc));
      })
      parts-add (d ∷ ds) w w' e = go (λ v e. parts-add ds (with_term join v) w' e) (inner w d) refl e
        where
          go : ((v : FormulaSoFar) → each_onto (part_onto join inner) (with_term join v) ds ≡ Some w'
              → AddsTo (with_term join v) w' (λ a. op a (all ds)))
              → (o : Option FormulaSoFar) → inner w d ≡ o
              → option_and_then (λ more. each_onto (part_onto join inner) more ds) (option_map (with_term join) o)
              ≡ Some w'
              → AddsTo w w' (λ a. op a (all (d ∷ ds)))
          go others None is e = absurd cc
          go others (Some v) is e =
              let one = adds w v d is in
              let rest = others v e in
              let front = rest.watches ∙ ap (λ l. l ++ rest.more) one.watches
              ∙ append_assoc w.watches one.more rest.more in
              record {
                own = one.own ++ join ∷ rest.own;
                terms = rest.terms ∙ append_assoc v.terms (join ∷ []) rest.own
                    ∙ ap (λ l. l ++ join ∷ rest.own) one.terms ∙ append_assoc w.terms one.own (join ∷ rest.own);
                more = one.more ++ rest.more;
                watches = front;
                truths = λ knows acc ts. truths-append facts (acc ∷ ts) one.own (join ∷ rest.own)
                    ∙ ap (λ l. truths_of facts l (join ∷ rest.own))
                    (one.truths (knows-front v.watches rest.more w'.watches rest.watches knows) (acc ∷ ts))
                    ∙ ap (λ l. truths_of facts l rest.own) (joins acc (truth d) ts)
                    ∙ rest.truths knows (op acc (truth d)) ts ∙ ap (λ b. b ∷ ts) (step acc d ds);
              }

      joined-add : (none : Bool) (w w' : FormulaSoFar) (d : Data) → ((b : Bool) → op none b ≡ b)
          → joined_onto join none inner w d ≡ Some w' → Adds w w' (passes all (items_in d))
      joined-add none w w' d begins e = go (items_in d) e
        where
          go : (o : Option (List Data)) → option_and_then
              (λ items. each_onto (part_onto join inner) (with_term (Known none) w) items) o ≡ Some w'
              → Adds w w' (passes all o)
          go None e = absurd cc
          go (Some items) e =
              let rest = parts-add items (with_term (Known none) w) w' e in
              record {
                own = Known none ∷ rest.own;
                terms = rest.terms ∙ append_assoc w.terms (Known none ∷ []) rest.own;
                more = rest.more;
                watches = rest.watches;
                truths = λ knows ts. rest.truths knows none ts ∙ ap (λ b. b ∷ ts) (begins (all items));
              }

    negated-adds : (w w' : FormulaSoFar) (d : Data) → part_onto Not inner w d ≡ Some w' → Adds w w' (not (truth d))
    negated-adds w w' d e = go (inner w d) refl e
      where
        go : (o : Option FormulaSoFar) → inner w d ≡ o → option_map (with_term Not) o ≡ Some w'
            → Adds w w' (not (truth d))
        go None is e = absurd cc
        go (Some v) is e =
            let one = adds w v d is in
            as-adds w (with_term Not v) w' (not (truth d)) (same_Some (with_term Not v) w' e) (record {
              own = one.own ++ Not ∷ [];
              terms = ap (λ l. l ++ Not ∷ []) one.terms ∙ append_assoc w.terms one.own (Not ∷ []);
              more = one.more;
              watches = one.watches;
              truths = λ knows ts. truths-append facts ts one.own (Not ∷ [])
                  ∙ ap (λ l. truths_of facts l (Not ∷ [])) (one.truths knows ts);
            })

    one-key-adds : (w w' : FormulaSoFar) (d : Data) (all any negated : Option Data)
        → one_key_onto inner names w d all any negated ≡ Some w'
        → Adds w w' (condition_says_by truth so (single_stated names d) all any negated)
    one-key-adds w w' d (Some all) any negated e =
        joined-add Both (λ a b. a && b) (list_all truth) (λ a b ts. refl) and-all
        (λ a d ds. and-more a (truth d) (list_all truth ds)) true w w' all (λ b. refl) e
    one-key-adds w w' d None (Some any) negated e =
        joined-add Either (λ a b. a || b) (list_any truth) (λ a b ts. refl) or-none
        (λ a d ds. or-more a (truth d) (list_any truth ds)) false w w' any (λ b. refl) e
    one-key-adds w w' d None None (Some negated) e = negated-adds w w' negated e
    one-key-adds w w' d None None None e = fact-adds w w' (single_stated names d) e

  pub formula-adds : (depth : ℕ) (w w' : FormulaSoFar) (d : Data) → formula_onto depth names w d ≡ Some w'
      → Adds w w' (condition_says depth names so d)
  formula-adds zero w w' d e = absurd cc
  formula-adds (suc depth) w w' d e = go (λ w w' d e. formula-adds depth w w' d e) (has_keys 1 d) e
    where
      go : ((w w' : FormulaSoFar) (d : Data) → formula_onto depth names w d ≡ Some w'
          → Adds w w' (condition_says depth names so d))
          → (one : Bool) → cond one (one_key_onto (formula_onto depth names) names w d (get (codes "all") d)
          (get (codes "any") d) (get (codes "not") d))
          (option_map (with_stated w) (cond (has_keys 2 d) (pair_stated names d) None)) ≡ Some w'
          → Adds w w' (cond one (condition_says_by (condition_says depth names so) so (single_stated names d)
          (get (codes "all") d) (get (codes "any") d) (get (codes "not") d))
          (passes so (cond (has_keys 2 d) (pair_stated names d) None)))
      go inner true e = one-key-adds (formula_onto depth names) (condition_says depth names so) inner w w' d
          (get (codes "all") d) (get (codes "any") d) (get (codes "not") d) e
      go inner false e = fact-adds w w' (cond (has_keys 2 d) (pair_stated names d) None) e
