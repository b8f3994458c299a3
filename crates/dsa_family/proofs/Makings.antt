-- What is made of worlds, one after the other.
use Rattle.std.proofs.Common.{◌≡◌, ◌<◌, ◌≤◌, ◌+◌, ℕ, List, [], ◌∷◌, ◌++◌, Option, Some, None, drop, get_or, length, refl, sym, ap, zero, suc, arith}
use Rattle.std.proofs.Common.{◌∙◌, subst, append_assoc, append-nil}
use Rattle.std.proofs.lemmas.List.{drop_all}
use Rattle.std.specs.Option.{option_or}
use Rattle.serde_json.specs.Data.{Data}
use Rattle.dsa_scenario.specs.declared.faults.ScenarioFault.{ScenarioFault}
use Rattle.dsa_family.specs.declared.headings.Heading.{Heading}
use Rattle.dsa_family.specs.Axes.{Varied}
use Rattle.dsa_family.specs.Family.{AreMadeOfWorlds, IsWorldMade, Making}
use Rattle.dsa_family.proofs.Texts.{next_item}

or_assoc : {A : Type 0} (a b c : Option A) → option_or (option_or a b) c ≡ option_or a (option_or b c)
or_assoc None b c = refl
or_assoc (Some x) b c = refl

or_none : {A : Type 0} (a : Option A) → option_or a None ≡ a
or_none None = refl
or_none (Some x) = refl

pub same-default : (xs : List ℕ) (i d e : ℕ) → i < length xs → get_or xs i d ≡ get_or xs i e
same-default [] i d e inside = absurd (omega arith)
same-default (x ∷ xs) zero d e inside = refl
same-default (x ∷ xs) (suc i) d e inside = same-default xs i d e (omega arith)

module _ (makes : Making) (heading : Heading) (base : Data) (axes : List Varied) (numbers : List ℕ) where
  -- with what is made of all worlds from this one on, it is that of all
  abbrev pub Makes : ℕ → Option ScenarioFault → List ℕ → Type 0
  Makes i fault text =
      (later : Option ScenarioFault) (rest : List ℕ) → AreMadeOfWorlds makes heading base axes (drop i numbers) later rest
      → AreMadeOfWorlds makes heading base axes numbers (option_or fault later) (text ++ rest)

  pub world_more : (i k : ℕ) (old new here : Option ScenarioFault) (before after own : List ℕ) → i < length numbers
      → k ≡ get_or numbers i k → IsWorldMade makes heading base axes k here own → new ≡ option_or old here
      → after ≡ before ++ own → Makes i old before → Makes (i + 1) new after
  world_more i k old new here before after own inside is made faults texts h later rest worlds =
      let all = h (option_or here later) (own ++ rest)
      (subst (λ ks. AreMadeOfWorlds makes heading base axes ks (option_or here later) (own ++ rest))
      (sym (next_item numbers i k inside is)) (own, rest, here, later, made, worlds, refl, refl)) in
      subst (λ (f : Option ScenarioFault). AreMadeOfWorlds makes heading base axes numbers f (after ++ rest))
      (sym (or_assoc old here later) ∙ ap (λ f. option_or f later) (sym faults))
      (subst (AreMadeOfWorlds makes heading base axes numbers (option_or old (option_or here later)))
      (sym (append_assoc before own rest) ∙ ap (λ x. x ++ rest) (sym texts)) all)

  pub worlds_end : (i : ℕ) (fault : Option ScenarioFault) (text : List ℕ) → length numbers ≤ i → Makes i fault text
      → AreMadeOfWorlds makes heading base axes numbers fault text
  worlds_end i fault text past h =
      let all = h None [] (subst (λ ks. AreMadeOfWorlds makes heading base axes ks None [])
      (sym (drop_all i numbers past)) (refl, refl)) in
      subst (λ (f : Option ScenarioFault). AreMadeOfWorlds makes heading base axes numbers f text) (or_none fault)
      (subst (AreMadeOfWorlds makes heading base axes numbers (option_or fault None)) (append-nil text) all)
