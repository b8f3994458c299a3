-- A line more, in its place.
use Rattle.std.proofs.Common.{◌≡◌, ◌∙◌, ◌≤◌, ◌<◌, ℕ, List, [], ◌∷◌, ◌++◌, inl, inr, map, take, drop, Some, None}
use Rattle.std.proofs.Common.{arith, zero, suc, ◌+◌, length, get_or, refl, sym, ap, subst, string_bytes}
use Rattle.std.proofs.Math.Seq.{drop-nil}
use Rattle.std.proofs.lemmas.{List.{map-append, take-append-drop, take_more, take_all}, Option.{slice_get_past}}
use Rattle.std.specs.Prelude.{insert, slice_get}
use Rattle.dsa_base.{specs.Lists.{In}, proofs.Lists.{In-append, In-push, In-left, In-right}}
use Rattle.dsa_scenario.specs.declared.run.Record.{Record}
use Rattle.dsa_conform.specs.declared.told.Line.{Line}
use Rattle.dsa_conform.specs.{Allowed.{queue_taken}, Lines.{IsPairwise, AreInOrder, AreListed}}
use Rattle.dsa_conform.specs.ToldLines.{HasText, IsPlaceOf, line_as}
use Rattle.dsa_conform.proofs.Choices.{in_map, map_in}

-- ---- pairs

-- those of the end
rest_pairs : {X : Type 0} (R : X → X → Type 0) (pre post : List X) → IsPairwise R (pre ++ post) → IsPairwise R post
rest_pairs R [] post h = h
rest_pairs R (x ∷ pre) post h = rest_pairs R pre post h.1

-- between two parts of a list
more_pairs : {X : Type 0} (R : X → X → Type 0) (pre post : List X) (x : X) → IsPairwise R (pre ++ post)
    → ((y : X) → In y pre → R y x) → ((y : X) → In y post → R x y) → IsPairwise R (pre ++ x ∷ post)
more_pairs R [] post x h before after = (after, h)
more_pairs R (z ∷ pre) post x h before after = (
  λ y i. elim (In-append y pre (x ∷ post) i) [
    | inl first ↦ h.0 y (In-left y pre post first)
    | inr last ↦ elim last [
      | inl same ↦ subst (R z) same (before z (inl refl))
      | inr last ↦ h.0 y (In-right y pre post last)
    ]
  ],
  more_pairs R pre post x h.1 (λ y i. before y (inr i)) after,
)

-- the same of lines
line_pairs : (R : Record × List ℕ → Record × List ℕ → Type 0) (old new : List Line) (i : ℕ) (line : Line)
    → new ≡ insert old i line → IsPairwise R (map line_as old)
    → ((y : Line) → In y (take i old) → R (line_as y) (line_as line))
    → ((y : Line) → In y (drop i old) → R (line_as line) (line_as y)) → IsPairwise R (map line_as new)
line_pairs R old new i line is h before after =
    let pre = take i old in
    let post = drop i old in
    subst (IsPairwise R) (sym (ap (map line_as) is ∙ map-append line_as pre (line ∷ post)))
    (more_pairs R (map line_as pre) (map line_as post) (line_as line)
    (subst (IsPairwise R) (ap (map line_as) (sym (take-append-drop i old)) ∙ map-append line_as pre post) h)
    (λ y k. let x = in_map line_as pre y k in subst (λ z. R z (line_as line)) x.2 (before x.0 x.1))
    (λ y k. let x = in_map line_as post y k in subst (R (line_as line)) x.2 (after x.0 x.1)))

-- ---- the place of a line

-- what the rest begins with
front_at : {X : Type 0} (xs : List X) (i : ℕ) (y : X) (ys : List X) → drop i xs ≡ y ∷ ys → slice_get xs i ≡ Some y
front_at [] i y ys h = let none : [] ≡ y ∷ ys = sym (drop-nil i) ∙ h in absurd cc
front_at (x ∷ xs) zero y ys h = cc
front_at (x ∷ xs) (suc i) y ys h = front_at xs i y ys h

abbrev OfQueues : Record × List ℕ → Record × List ℕ → Type 0
OfQueues line later = queue_taken line.0 ≤ queue_taken later.0

-- no line from there on is of a lower queue
not_lower : (old : List Line) (queue i : ℕ) → IsPlaceOf old queue i → AreInOrder (map line_as old) → (y : Line)
    → In y (drop i old) → queue ≤ queue_taken y.entry
not_lower old queue i place order = at (drop i old) refl
  where
    at : (rest : List Line) → drop i old ≡ rest → (y : Line) → In y rest → queue ≤ queue_taken y.entry
    at [] is y k = absurd k
    at (z ∷ zs) is y k =
        let first : queue < queue_taken z.entry = place.here z (front_at old i z zs is) in
        let whole : take i old ++ z ∷ zs ≡ old = ap (λ l. take i old ++ l) (sym is) ∙ take-append-drop i old in
        let all = rest_pairs OfQueues (map line_as (take i old)) (map line_as (z ∷ zs))
        (subst (IsPairwise OfQueues) (ap (map line_as) (sym whole) ∙ map-append line_as (take i old) (z ∷ zs)) order) in
        elim k [
          | inl same ↦ subst (λ (l : Line). queue ≤ queue_taken l.entry) same (omega (arith, first))
          | inr later ↦
              let next : queue_taken z.entry ≤ queue_taken y.entry = all.0 (line_as y) (map_in line_as zs y later) in
              omega (arith, first, next)
        ]

-- what holds of the first elements holds of one more
pub one_more : {X : Type 0} (P : X → Type 0) (xs : List X) (i : ℕ) (x : X) → i < length xs
    → ((y : X) → In y (take i xs) → P y) → P (get_or xs i x) → (y : X) → In y (take (i + 1) xs) → P y
one_more P xs i x inside before here y k =
    elim (In-push y (take i xs) (get_or xs i x) (subst (In y) (take_more xs i x inside) k)) [
      | inl earlier ↦ before y earlier
      | inr same ↦ subst P same here
    ]

-- where no line is of a higher queue, the place is after all
pub place_at_end : (lines : List Line) (i queue : ℕ) → length lines ≤ i
    → ((y : Line) → In y (take i lines) → queue_taken y.entry ≤ queue) → IsPlaceOf lines queue (length lines)
place_at_end lines i queue all before = record {
  inside = omega arith;
  before = λ y k. before y (subst (In y) (take_all (length lines) lines (omega arith) ∙ sym (take_all i lines all)) k);
  here = λ y at.
      let none : None ≡ Some y = sym (slice_get_past lines (length lines) (omega arith)) ∙ at in absurd cc;
}

-- the lines are listed with one more in its place
pub listed_more : (old new : List Line) (i queue : ℕ) (line : Line) → new ≡ insert old i line → IsPlaceOf old queue i
    → queue ≡ queue_taken line.entry → ¬ HasText old (string_bytes line.text) → AreListed (map line_as old)
    → AreListed (map line_as new)
listed_more old new i queue line is place taken none h = record {
  order = line_pairs OfQueues old new i line is h.order
      (λ y k. subst (λ q. queue_taken y.entry ≤ q) taken (place.before y k))
      (λ y k. subst (λ q. q ≤ queue_taken y.entry) taken (not_lower old queue i place h.order y k));
  once = line_pairs (λ first later. ¬ (first.1 ≡ later.1)) old new i line is h.once
      (λ y k same. none (y, subst (In y) (take-append-drop i old) (In-left y (take i old) (drop i old) k), same))
      (λ y k same. none (y, subst (In y) (take-append-drop i old) (In-right y (take i old) (drop i old) k), sym same));
}
