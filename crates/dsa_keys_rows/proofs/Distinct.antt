-- Labels that are listed, of states that worked histories lead to.
use Rattle.std.proofs.Common.{◌≡◌, ℕ, zero, suc, ◌+◌, ◌<◌, List, [], ◌∷◌, Some, refl, sym, ap, ◌∙◌, inl, inr, arith}
use Rattle.std.proofs.Common.{lit≤}
use Rattle.std.specs.Prelude.{option_map, unwrap_or}
use Rattle.dsa_base.specs.Lists.{In}
use Rattle.dsa_book.specs.{declared.event.Step.{Step}, State.{State}, Machine.{replay, Reaches}}
use Rattle.dsa_worked.specs.Uneven.{three_two_one}
use Rattle.dsa_worked.proofs.Bounded.{below_two}
use Rattle.dsa_keys.specs.{Labels.{Labels, IsFreshLabel}, Key.{key}, Steps.{IsLabelled}}
use Rattle.dsa_keys.specs.{Replays.{AreInUse, AreFreshLabels}}
use Rattle.dsa_keys.proofs.Labelled.{histories-labelled}
use Rattle.dsa_keys_rows.specs.{Holding.{listed}, Histories.{key_there, two_ends}}

-- how many names a history gives
pub name_count : (steps : List Step) (s : State) (count : ℕ) → Reaches three_two_one steps s
    → option_map (λ (t : State). t.work.setup.next_name) (replay three_two_one steps) ≡ Some count
    → s.work.setup.next_name ≡ count
name_count steps s count reaches names =
    ap (λ o. unwrap_or o 0) (sym (ap (option_map (λ (t : State). t.work.setup.next_name)) reaches) ∙ names)

-- keys of states, by those of their histories
pub keys_of : (labels others : Labels) (steps more : List Step) (s t : State) → Reaches three_two_one steps s
    → Reaches three_two_one more t → key_there labels steps ≡ key_there others more → key labels s ≡ key others t
keys_of labels others steps more s t reaches reached equal =
    ap (λ o. unwrap_or o (key labels s))
    (sym (ap (option_map (key labels)) reaches) ∙ equal ∙ ap (option_map (key others)) reached)

-- two labels that differ tell two names apart
pub two : (x y : ℕ) → (x ≡ y → ⊥) → (a b : ℕ) → a < 2 → b < 2 → listed (x ∷ y ∷ []) a ≡ listed (x ∷ y ∷ []) b → a ≡ b
two x y other zero zero low low' e = refl
two x y other zero (suc zero) low low' e = absurd (other e)
two x y other (suc zero) zero low low' e = absurd (other (sym e))
two x y other (suc zero) (suc zero) low low' e = refl
two x y other (suc (suc a)) b low low' e = absurd (omega (arith, low))
two x y other zero (suc (suc b)) low low' e = absurd (omega (arith, low'))
two x y other (suc zero) (suc (suc b)) low low' e = absurd (omega (arith, low'))

pub labelled_two : (x y : ℕ) → (x ≡ y → ⊥) → (steps : List Step) (s : State) → Reaches three_two_one steps s
    → option_map (λ (t : State). t.work.setup.next_name) (replay three_two_one steps) ≡ Some 2
    → IsLabelled three_two_one (listed (x ∷ y ∷ [])) s
labelled_two x y other steps s reaches names =
    let next = name_count steps s 2 reaches names in
    histories-labelled three_two_one (listed (x ∷ y ∷ [])) steps s reaches
    (λ a b low low' e. two x y other a b (omega (arith, low, next)) (omega (arith, low', next)) e)

-- labels 4, 5 and 6 tell three names apart
three : (a : ℕ) → a < 3 → listed (4 ∷ 5 ∷ 6 ∷ []) a ≡ 4 + a
three zero low = refl
three (suc zero) low = refl
three (suc (suc zero)) low = refl
three (suc (suc (suc a))) low = absurd (omega (arith, low))

pub labelled_three : (steps : List Step) (s : State) → Reaches three_two_one steps s
    → option_map (λ (t : State). t.work.setup.next_name) (replay three_two_one steps) ≡ Some 3
    → IsLabelled three_two_one (listed (4 ∷ 5 ∷ 6 ∷ [])) s
labelled_three steps s reaches names =
    let next = name_count steps s 3 reaches names in
    histories-labelled three_two_one (listed (4 ∷ 5 ∷ 6 ∷ [])) steps s reaches
    (λ a b low low' e. omega (arith, e, three a (omega (arith, low, next)), three b (omega (arith, low', next))))

-- label 7 is fresh
pub fresh_of_two : (s : State) → s.work.setup.next_name ≡ 2 → IsFreshLabel (listed (5 ∷ 6 ∷ [])) s 7
fresh_of_two s next a low e =
    below_two (λ k. listed (5 ∷ 6 ∷ []) k ≡ 7 → ⊥) (λ f. omega (arith, f)) (λ f. omega (arith, f)) a
    (omega (arith, low, next)) e

pub fresh_of_three : (s : State) → s.work.setup.next_name ≡ 3 → IsFreshLabel (listed (4 ∷ 5 ∷ 6 ∷ [])) s 7
fresh_of_three s next a low e = omega (arith, low, next, e, three a (omega (arith, low, next)))

-- labels 4, 5 and 6 are in use
pub in_use_of_two : (s : State) → s.work.setup.next_name ≡ 2 → AreInUse (4 ∷ 5 ∷ 6 ∷ []) (listed (5 ∷ 6 ∷ [])) s
in_use_of_two s next a low =
    below_two (λ k. In (listed (5 ∷ 6 ∷ []) k) (4 ∷ 5 ∷ 6 ∷ [])) (inr (inl refl)) (inr (inr (inl refl))) a
    (omega (arith, low, next))

used : (a : ℕ) → a < 3 → In (listed (4 ∷ 5 ∷ 6 ∷ []) a) (4 ∷ 5 ∷ 6 ∷ [])
used zero low = inl refl
used (suc zero) low = inr (inl refl)
used (suc (suc zero)) low = inr (inr (inl refl))
used (suc (suc (suc a))) low = absurd (omega (arith, low))

pub in_use_of_three : (s : State) → s.work.setup.next_name ≡ 3 → AreInUse (4 ∷ 5 ∷ 6 ∷ []) (listed (4 ∷ 5 ∷ 6 ∷ [])) s
in_use_of_three s next a low = used a (omega (arith, low, next))

-- and labels above them are not
unused : (label : ℕ) → 6 < label → In label (4 ∷ 5 ∷ 6 ∷ []) → ⊥
unused label high (inl e) = omega (arith, high, e)
unused label high (inr (inl e)) = omega (arith, high, e)
unused label high (inr (inr (inl e))) = omega (arith, high, e)
unused label high (inr (inr (inr none))) = none

pub fresh_ends : AreFreshLabels (4 ∷ 5 ∷ 6 ∷ []) two_ends
fresh_ends = (unused 7 (lit≤ tt), (unused 8 (lit≤ tt), tt))
