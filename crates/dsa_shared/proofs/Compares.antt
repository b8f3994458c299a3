-- Where a list and a filtered list first differ.
use Rattle.std.proofs.Common.{◌≡◌, ◌≢◌, ℕ, zero, suc, ◌+◌, ◌<◌, ◌≤◌, List, [], ◌∷◌, ◌++◌, Bool, true, false, cond}
use Rattle.std.proofs.Common.{length, take, drop, get_or, Some, None, refl, sym, ap, ◌∙◌, arith}
use Rattle.std.proofs.lemmas.List.{take-append-drop, take_at, take_all, drop_more, length-take-le}
use Rattle.std.proofs.lemmas.List.Elements.{filter-append}
use Rattle.std.proofs.lemmas.Option.{slice_get_past, slice_get-get_or}
use Rattle.std.specs.Prelude.{filter, slice_get, IsTrue}
use Rattle.dsa_book.specs.declared.event.Step.{Step}
use Rattle.dsa_shared.specs.Compare.{DiffersFirstAt}

get_here : (xs ys : List Step) (x : Step) → slice_get (xs ++ x ∷ ys) (length xs) ≡ Some x
get_here [] ys x = refl
get_here (y ∷ xs) ys x = get_here xs ys x

get_at : (xs ys : List Step) (x : Step) (n : ℕ) → length xs ≡ n → slice_get (xs ++ x ∷ ys) n ≡ Some x
get_at xs ys x n len = ap (λ k. slice_get (xs ++ x ∷ ys) k) (sym len) ∙ get_here xs ys x

split : (p : Step → Bool) (h : List Step) (i : ℕ) → filter p h ≡ filter p (take i h) ++ filter p (drop i h)
split p h i = ap (filter p) (sym (take-append-drop i h)) ∙ filter-append p (take i h) (drop i h)

pub differs_here : (p : Step → Bool) (h r : List Step) (i at : ℕ) (d : Step) → at ≤ length r
    → take at r ≡ filter p (take i h) → i < length h → p (get_or h i d) ≡ true
    → (slice_get r at ≢ Some (get_or h i d)) → DiffersFirstAt r (filter p h) at
differs_here p h r i at d le same in_h passes other =
    let front = filter p (take i h) in
    let x = get_or h i d in
    let len : length front ≡ at = sym (ap length same) ∙ length-take-le at r le in
    let tail : filter p (drop i h) ≡ x ∷ filter p (drop (i + 1) h) = ap (filter p) (drop_more h i d in_h)
    ∙ ap (λ b. cond b (x ∷ filter p (drop (i + 1) h)) (filter p (drop (i + 1) h))) passes in
    let whole : filter p h ≡ front ++ x ∷ filter p (drop (i + 1) h) = split p h i ∙ ap (λ z. front ++ z) tail in (
      same ∙ sym (ap (take at) whole ∙ take_at front (x ∷ filter p (drop (i + 1) h)) at len),
      λ e. other (e ∙ ap (λ z. slice_get z at) whole ∙ get_at front (filter p (drop (i + 1) h)) x at len),
    )

none_within : (xs : List Step) (k : ℕ) → k < length xs → slice_get xs k ≡ None → ⊥
none_within [] k lt none = absurd (omega arith)
none_within (x ∷ xs) zero lt none = cc
none_within (x ∷ xs) (suc k) lt none = none_within xs k (omega arith) none

pub differs_end : (p : Step → Bool) (h r : List Step) (i at : ℕ) → at < length r
    → take at r ≡ filter p (take i h) → length h ≤ i → DiffersFirstAt r (filter p h) at
differs_end p h r i at lt same past =
    let whole : take at r ≡ filter p h = same ∙ ap (filter p) (take_all i h past) in
    let len : length (filter p h) ≡ at = sym (ap length whole) ∙ length-take-le at r (omega arith) in (
      whole ∙ sym (take_all at (filter p h) (omega arith)),
      λ e. none_within r at lt (e ∙ slice_get_past (filter p h) at (omega arith)),
    )

pub never_same : (r o : List Step) (i : ℕ) → DiffersFirstAt r o i → r ≢ o
never_same r o i d e = d.1 (ap (λ z. slice_get z i) e)

pub past_other : (r : List Step) (at : ℕ) (x : Step) → length r ≤ at → slice_get r at ≢ Some x
past_other r at x past e = let none = slice_get_past r at past in cc

pub other_within : (r : List Step) (at : ℕ) (d x : Step) → at < length r → get_or r at d ≢ x → slice_get r at ≢ Some x
other_within r at d x lt other e = let here = slice_get-get_or r at d lt in let same : get_or r at d ≡ x = cc in
    other same

pub fails : {A : Type 0} (b : Bool) → b ≡ false → (A → IsTrue b) → A → ⊥
fails true e goes a = cc
fails false e goes a = let t = goes a in cc
