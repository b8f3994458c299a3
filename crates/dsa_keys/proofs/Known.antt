-- What labels tell of the entries of a well-formed state, and of two that are alike.
use Rattle.std.proofs.Common.{◌≡◌, ℕ, ◌<◌, ◌≤◌, ◌==◌, Bool, true, false, List, Some, refl, sym}
use Rattle.std.proofs.Common.{ap, ◌∙◌, subst, arith, eq-eqb, ⊎_elim, inl, inr, [], ◌∷◌}
use Rattle.std.{proofs.lemmas.Bool.{eqb-true, cases_lt}}
use Rattle.dsa_base.{specs.Lists.{In}, proofs.Counts.{In-same, In-counted, counted-In}}
use Rattle.dsa_regs.specs.declared.Caps.{Caps}
use Rattle.dsa_store.specs.{Content.{HeldEntry, is_cell, all_held}}
use Rattle.dsa_store.proofs.Sums.{uses-counted}
use Rattle.dsa_book.specs.{declared.note.BatchNote.{BatchNote}, State.{Work, State}}
use Rattle.dsa_book.specs.{Work.{in_progress, members, note_at}}
use Rattle.dsa_laws.specs.{WellFormed.{IsWellFormed, held_named}, Engines.{IsLawfulEngine, holds_batch}}
use Rattle.dsa_keys.proofs.Alike.{Same, Both, Like, IsLabelledNext}
use Rattle.dsa_keys.specs.Labels.{Labels, HasDistinctLabels}
use Rattle.dsa_keys.proofs.Both.{both-held, both-within}

-- ---- one state

-- an entry is known by its label, by its name and by its cell, and each note is of a batch that is in progress
pub record IsKnown (m : Labels) (w : Work) : Type 0 where
  pub labels : (x y : HeldEntry) → In x (all_held w.content) → In y (all_held w.content) → m x.1.name ≡ m y.1.name
      → x ≡ y
  pub cells : (x y : HeldEntry) → In x (all_held w.content) → In y (all_held w.content) → is_cell x.0 y ≡ true → x ≡ y
  pub below : (x : HeldEntry) → In x (all_held w.content) → x.1.name < w.setup.next_name
  pub batches : (e : ℕ) (note : BatchNote) → note_at w e ≡ Some note
      → (b : HeldEntry) × (In b (in_progress w e) × (note.batch ≡ b.1.name))

known-names : (caps : Caps) (s : State) → IsWellFormed caps s → (name : ℕ) → held_named s.work name ≤ 1
known-names caps s h name = ⊎_elim
    (λ l. omega (arith, h.names.given name l))
    (λ l. omega (arith, h.names.not_given name l))
    (cases_lt name s.work.setup.next_name)

pub known-below : (caps : Caps) (s : State) → IsWellFormed caps s → (x : HeldEntry) → In x (all_held s.work.content)
    → x.1.name < s.work.setup.next_name
known-below caps s h x i = ⊎_elim
    (λ l. l)
    (λ l. absurd (omega (
      arith,
      h.names.not_given x.1.name l,
      In-counted (λ slot. slot.1.name == x.1.name) x (all_held s.work.content) i (eq-eqb x.1.name x.1.name refl),
    )))
    (cases_lt x.1.name s.work.setup.next_name)

pub apart : (m : Labels) (s : State) → IsLabelledNext m s → HasDistinctLabels m s
apart m s h a b la lb e = h a b (omega (arith, la)) (omega (arith, lb)) e

pub known : (caps : Caps) (m : Labels) (s : State) → IsWellFormed caps s → HasDistinctLabels m s → IsKnown m s.work
known caps m s h distinct = record {
  labels = λ x y i j e.
      let below = known-below caps s h in
      let name = distinct x.1.name y.1.name (below x i) (below y j) e in
      In-same (λ slot. slot.1.name == x.1.name) x y (all_held s.work.content) (known-names caps s h x.1.name) i j
      (eq-eqb x.1.name x.1.name refl) (eq-eqb y.1.name x.1.name (sym name));
  cells = λ x y i j t.
      In-same (is_cell x.0) x y (all_held s.work.content)
      (omega (arith, h.cells.once x.0, uses-counted s.work.content x.0)) i j
      (eq-eqb x.0.0 x.0.0 refl) t;
  below = known-below caps s h;
  batches = λ e note n. noted e note (subst (IsLawfulEngine s.work.setup (in_progress s.work e) (members s.work e)) n
      (h.engines e));
}
  where
    noted : (e : ℕ) (note : BatchNote)
        → IsLawfulEngine s.work.setup (in_progress s.work e) (members s.work e) (Some note)
        → (b : HeldEntry) × (In b (in_progress s.work e) × (note.batch ≡ b.1.name))
    noted e note on =
        let one = counted-In (holds_batch s.work.setup) (in_progress s.work e) (omega (arith, on.one_batch)) in
        (one.0, (one.1.0, (on.noted one.0 one.1.0 one.1.1).name))

-- ---- two states

-- two that are alike, and whose entries are known
pub record Twins (m n : Labels) (w v : Work) : Type 0 where
  pub like : Like m n w v
  pub left : IsKnown m w
  pub right : IsKnown n v

-- two held entries that are one by their labels
abbrev pub Match : (m n : Labels) → Work → Work → HeldEntry → HeldEntry → Type 0
Match m n w v x y = Same m n x y × (In x (all_held w.content) × In y (all_held v.content))

-- two tests that mean the same
pub same-tests : (a b : Bool) → (a ≡ true → b ≡ true) → (b ≡ true → a ≡ true) → a ≡ b
same-tests true true f g = refl
same-tests false false f g = refl
same-tests true false f g = sym (f refl)
same-tests false true f g = g refl

-- each has its partner
pub both-partner : {X Y : Type 0} (R : X → Y → Type 0) (xs : List X) (ys : List Y) (x : X) → Both R xs ys → In x xs
    → (y : Y) × (R x y × In y ys)
both-partner R [] [] x b i = absurd i
both-partner {X} {Y} R (z ∷ xs) (z' ∷ ys) x b (inl e) = (z', (subst (λ (u : X). R u z') e b.0, inl refl))
both-partner R (z ∷ xs) (z' ∷ ys) x b (inr i) = let r = both-partner R xs ys x b.1 i in (r.0, (r.1.0, inr r.1.1))
both-partner R [] (z' ∷ ys) x b i = absurd b
both-partner R (z ∷ xs) [] x b i = absurd b

module _ {m n : Labels} {w v : Work} (t : Twins m n w v) where
  pub matches : Both (Both (Match m n w v)) w.content v.content
  matches = both-within (Same m n) w.content v.content t.like.content

  pub held-matches : Both (Match m n w v) (all_held w.content) (all_held v.content)
  held-matches = both-held (Match m n w v) w.content v.content matches

  -- held entries with one label match
  pub match-of : (x y : HeldEntry) → In x (all_held w.content) → In y (all_held v.content) → m x.1.name ≡ n y.1.name
      → Match m n w v x y
  match-of x y i j e =
      let r = both-partner (Match m n w v) (all_held w.content) (all_held v.content) x held-matches i in
      let same = t.right.labels r.0 y r.1.1 j (sym (ap (λ f. f.label) r.1.0.0) ∙ e) in
      subst (Match m n w v x) same r.1.0

  pub same-right : (a b x y : HeldEntry) → Match m n w v a b → Match m n w v x y → a ≡ x → b ≡ y
  same-right a b x y p q e = t.right.labels b y p.1.1 q.1.1
      (sym (ap (λ f. f.label) p.0) ∙ ap (λ (s : HeldEntry). m s.1.name) e ∙ ap (λ f. f.label) q.0)

  pub same-left : (a b x y : HeldEntry) → Match m n w v a b → Match m n w v x y → b ≡ y → a ≡ x
  same-left a b x y p q e = t.left.labels a x p.1.0 q.1.0
      (ap (λ f. f.label) p.0 ∙ ap (λ (s : HeldEntry). n s.1.name) e ∙ sym (ap (λ f. f.label) q.0))

  -- cells compare alike
  pub same-cell : (a b x y : HeldEntry) → Match m n w v a b → Match m n w v x y → is_cell a.0 x ≡ is_cell b.0 y
  same-cell a b x y p q = same-tests (is_cell a.0 x) (is_cell b.0 y)
      (λ h. let e = same-right a b x y p q (t.left.cells a x p.1.0 q.1.0 h) in
      eq-eqb y.0.0 b.0.0 (ap (λ (s : HeldEntry). s.0.0) (sym e)))
      (λ h. let e = same-left a b x y p q (t.right.cells b y p.1.1 q.1.1 h) in
      eq-eqb x.0.0 a.0.0 (ap (λ (s : HeldEntry). s.0.0) (sym e)))

  -- and so do names
  pub same-name : (a b x y : HeldEntry) → Match m n w v a b → Match m n w v x y
      → (x.1.name == a.1.name) ≡ (y.1.name == b.1.name)
  same-name a b x y p q = same-tests (x.1.name == a.1.name) (y.1.name == b.1.name)
      (λ h. let e = same-right x y a b q p (t.left.labels x a q.1.0 p.1.0
      (ap m (eqb-true x.1.name a.1.name h))) in
      eq-eqb y.1.name b.1.name (ap (λ (s : HeldEntry). s.1.name) e))
      (λ h. let e = same-left x y a b q p (t.right.labels y b q.1.1 p.1.1
      (ap n (eqb-true y.1.name b.1.name h))) in
      eq-eqb x.1.name a.1.name (ap (λ (s : HeldEntry). s.1.name) e))
