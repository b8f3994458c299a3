-- One list of linked cells: what a write does to it.
use Rattle.std.proofs.Common.{◌≡◌, ℕ, suc, ◌+◌, ◌<◌, ◌≤◌, inl, inr, List, [], ◌∷◌, ◌++◌, length, map, Option, None}
use Rattle.std.proofs.Common.{Some, get_or, refl, sym, ap, ◌∙◌, subst, arith, length-set}
use Rattle.std.proofs.lemmas.{Bool.Decides.{eqb_tells, nat_tests}, List.{get_or-set_same, get_or-set_other}}
use Rattle.std.proofs.Math.{Seq.{map-set_same}, ListN.{get_or-map}}
use Rattle.dsa_cells.specs.{declared.links.Node.{Node}, Array.{node_at, no_node}}
use Rattle.dsa_cells.specs.Partition.{first_or, last_or, Linked, walk, times}
use Rattle.dsa_cells.specs.Writes.{InRange, AreInside, after_change, after_join}

-- lists

-- the first of two lists together
pub first_or-append : (xs ys : List ℕ) (q : Option ℕ) → first_or (xs ++ ys) q ≡ first_or xs (first_or ys q)
first_or-append [] ys q = refl
first_or-append (x ∷ xs) ys q = refl

-- the last of two lists together
pub last_or-append : (xs ys : List ℕ) (p : Option ℕ) → last_or (xs ++ ys) p ≡ last_or ys (last_or xs p)
last_or-append [] ys p = refl
last_or-append (x ∷ xs) ys p = last_or-append xs ys (Some x)

-- how often two lists together name a cell
pub times-append : (c : ℕ) (xs ys : List ℕ) → times c (xs ++ ys) ≡ times c xs + times c ys
times-append c [] ys = omega arith
times-append c (x ∷ xs) ys = grind (arith, nat_tests, times-append c xs ys)

-- a list names its first cell
pub times-head : (c : ℕ) (xs : List ℕ) → times c (c ∷ xs) ≡ suc (times c xs)
times-head c xs = grind (arith, nat_tests)

-- a longer list names no cell less often
pub times-tail : (x c : ℕ) (zs : List ℕ) → times x zs ≤ times x (c ∷ zs)
times-tail x c zs = grind (arith, nat_tests)

-- no cell is named twice
abbrev pub Once : List ℕ → Type 0
Once xs = (x : ℕ) → times x xs ≤ 1

-- the list names this cell, if there is one
abbrev pub Names : List ℕ → Option ℕ → Type 0
Names xs None = Unit {0}
Names xs (Some e) = 0 < times e xs

-- and so does a list that has all its cells
pub Names-more : (xs ys : List ℕ) (o : Option ℕ) → ((x : ℕ) → times x xs ≤ times x ys) → Names xs o → Names ys o
Names-more xs ys None h n = tt
Names-more xs ys (Some e) h n = omega (arith, n, h e)

-- a list names its first cell, if it has one
pub Names-first : (xs : List ℕ) → Names xs (first_or xs None)
Names-first [] = tt
Names-first (x ∷ xs) = omega (arith, times-head x xs)

Names-last-from : (x : ℕ) (xs : List ℕ) → Names (x ∷ xs) (last_or xs (Some x))
Names-last-from x [] = omega (arith, times-head x [])
Names-last-from x (y ∷ ys) =
    Names-more (y ∷ ys) (x ∷ y ∷ ys) (last_or ys (Some y)) (λ z. times-tail z x (y ∷ ys)) (Names-last-from y ys)

-- a list names its last cell, if it has one
pub Names-last : (xs : List ℕ) → Names xs (last_or xs None)
Names-last [] = tt
Names-last (x ∷ xs) = Names-last-from x xs

-- such a cell is one of the array
pub InRange-of : (s : List Node) (xs : List ℕ) {o p : Option ℕ} → AreInside s xs → Names xs o → p ≡ o → InRange s p
InRange-of s xs {o = None} w n e = rw e tt
InRange-of s xs {o = Some c} w n e = rw e (w c n)

-- linked cells

-- two lists of linked cells, of which the one goes on with the other
pub Linked-append : (s : List Node) (p : Option ℕ) (xs ys : List ℕ) (q : Option ℕ) → Linked s p xs (first_or ys q)
    → Linked s (last_or xs p) ys q → Linked s p (xs ++ ys) q
Linked-append s p [] ys q a b = b
Linked-append s p (x ∷ xs) ys q a b = (
  a.0,
  (a.1 ∙ sym (first_or-append xs ys q)),
  Linked-append s (Some x) xs ys q
      a.2 b,
)

-- the first part of linked cells
pub Linked-left : (s : List Node) (p : Option ℕ) (xs ys : List ℕ) (q : Option ℕ) → Linked s p (xs ++ ys) q →
    Linked s p xs (first_or ys q)
Linked-left s p [] ys q a = tt
Linked-left s p (x ∷ xs) ys q a = (a.0, (a.1 ∙ first_or-append xs ys q), Linked-left s (Some x) xs ys q a.2)

-- the second part
pub Linked-right : (s : List Node) (p : Option ℕ) (xs ys : List ℕ) (q : Option ℕ) → Linked s p (xs ++ ys) q →
    Linked s (last_or xs p) ys q
Linked-right s p [] ys q a = a
Linked-right s p (x ∷ xs) ys q a = Linked-right s (Some x) xs ys q a.2

-- two arrays have the same links at a cell
pub record SameLinks (s t : List Node) (x : ℕ) : Type 0 where
  pub next : (node_at t x).next ≡ (node_at s x).next
  pub previous : (node_at t x).previous ≡ (node_at s x).previous

-- cells stay linked where no link of theirs changes
pub Linked-agree : (s t : List Node) (p : Option ℕ) (xs : List ℕ) (q : Option ℕ) → ((x : ℕ) → 0 < times x xs →
    SameLinks s t x)
    → Linked s p xs q → Linked t p xs q
Linked-agree s t p [] q same a = tt
Linked-agree s t p (x ∷ xs) q same a =
    let here = same x (omega (arith, times-head x xs)) in (
      here.previous ∙ a.0,
      here.next
          ∙ a.1,
      Linked-agree s t (Some x) xs q (λ y h. same y (omega (arith, h, times-tail y x xs))) a.2,
    )

-- following next from the first cell gives the list back
pub walk_is : (s : List Node) (p : Option ℕ) (xs : List ℕ) → Linked s p xs None →
    walk s (length xs) (first_or xs None) ≡ xs
walk_is s p [] l = refl
walk_is s p (x ∷ xs) l = rw (l.1, walk_is s (Some x) xs l.2) refl

-- a list that names a cell has it between two parts
pub split_at : (c : ℕ) (xs : List ℕ) → 0 < times c xs → (ys : List ℕ) × (zs : List ℕ) × (xs ≡ ys ++ c ∷ zs)
split_at c [] h = absurd (omega arith)
split_at c (x ∷ xs) h = elim (eqb_tells x c) [
  | inl w ↦ ([], xs, ap (λ y. y ∷ xs) w.1)
  | inr w ↦
      let rest = split_at c xs (let ne = w.1 in grind (arith, nat_tests)) in
      (x ∷ rest.0, rest.1, ap (λ l. x ∷ l) rest.2)
]

-- a node is changed

-- no node comes or goes
pub length-changed : (f : Node → Node) (s : List Node) (o : Option ℕ) → length (after_change f s o) ≡ length s
length-changed f s None = refl
length-changed f s (Some c) = length-set s c (f (node_at s c))

-- what the change leaves in a node is left in all
pub map-changed : {X : Type 0} (g : Node → X) (f : Node → Node) (s : List Node) (o : Option ℕ) →
    ((t : Node) → g (f t) ≡ g t)
    → map g (after_change f s o) ≡ map g s
map-changed g f s None h = refl
map-changed g f s (Some c) h = map-set_same g s c (f (node_at s c)) no_node (h (node_at s c))

-- the node that is changed
pub changed-here : (f : Node → Node) (s : List Node) (c : ℕ) → c < length s → node_at (after_change f s (Some c)) c ≡
    f (node_at s c)
changed-here f s c lt = get_or-set_same s c (f (node_at s c)) no_node lt

-- another node
pub changed-other : (f : Node → Node) (s : List Node) (o : Option ℕ) (xs : List ℕ) (x : ℕ) → Names xs o → times x xs ≡ 0
    → node_at (after_change f s o) x ≡ node_at s x
changed-other f s None xs x n h = refl
changed-other f s (Some c) xs x n h =
    get_or-set_other s c x (f (node_at s c)) no_node (λ e. omega (arith, n, subst (λ y. times y xs ≡ 0) e h))

-- cells stay linked while a cell of other lists changes
pub Linked-other : (f : Node → Node) (s : List Node) (o : Option ℕ) (ys : List ℕ) (p : Option ℕ) (xs : List ℕ)
    (q : Option ℕ)
    → Names ys o → ((x : ℕ) → times x ys + times x xs ≤ 1) → Linked s p xs q → Linked (after_change f s o) p xs q
Linked-other f s o ys p xs q n d l = Linked-agree s (after_change f s o) p xs q (λ x h.
    let e = changed-other f s o ys x n (omega (arith, h, d x)) in
    record { next = ap (λ (t : Node). t.next) e; previous = ap (λ (t : Node). t.previous) e }) l

-- the last cell of a list gets another next
relink_tail : (s : List Node) (p : Option ℕ) (x : ℕ) (xs : List ℕ) (q r : Option ℕ) → Once (x ∷ xs) →
    AreInside s (x ∷ xs)
    → Linked s p (x ∷ xs) q → Linked (after_change (λ t. record t { next = r }) s (last_or xs (Some x))) p (x ∷ xs) r
relink_tail s p x [] q r o w l =
    let e = changed-here (λ t. record t { next = r }) s x (w x (omega (arith, times-head x []))) in
    (ap (λ (t : Node). t.previous) e ∙ l.0, ap (λ (t : Node). t.next) e, tt)
relink_tail s p x (y ∷ ys) q r o w l =
    let e = changed-other (λ t. record t { next = r }) s (last_or ys (Some y)) (y ∷ ys) x (Names-last-from y ys)
    (omega (arith, o x, times-head x (y ∷ ys))) in (
      ap (λ (t : Node). t.previous) e ∙ l.0,
      ap (λ (t : Node). t.next) e ∙ l.1,
      relink_tail s (Some x) y ys q r (λ z. omega (arith, o z, times-tail z x (y ∷ ys)))
          (λ z h. w z (omega (arith, h, times-tail z x (y ∷ ys)))) l.2,
    )

relink_last : (s : List Node) (xs : List ℕ) (q r : Option ℕ) → Once xs → AreInside s xs → Linked s None xs q
    → Linked (after_change (λ t. record t { next = r }) s (last_or xs None)) None xs r
relink_last s [] q r o w l = tt
relink_last s (x ∷ xs) q r o w l = relink_tail s None x xs q r o w l

-- the first cell of a list gets another previous
relink_first : (s : List Node) (p r : Option ℕ) (xs : List ℕ) → Once xs → AreInside s xs → Linked s p xs None
    → Linked (after_change (λ t. record t { previous = r }) s (first_or xs None)) r xs None
relink_first s p r [] o w l = tt
relink_first s p r (x ∷ xs) o w l =
    let f : Node → Node = λ t. record t { previous = r } in
    let e = changed-here f s x (w x (omega (arith, times-head x xs))) in (
      ap (λ (t : Node). t.previous) e,
      ap (λ (t : Node). t.next) e ∙ l.1,
      Linked-other f s (Some x) (x ∷ []) (Some x) xs None (omega (arith, times-head x []))
          (λ z. grind (arith, nat_tests, o z)) l.2,
    )

-- two lists of linked cells become one by their ends
pub Linked-join : (s : List Node) (ys xs : List ℕ) (q p : Option ℕ) → Once (ys ++ xs) → AreInside s (ys ++ xs) →
    Linked s None ys q
    → Linked s p xs None → Linked (after_join s (last_or ys None) (first_or xs None)) None (ys ++ xs) None
Linked-join s ys xs q p o w k l =
    let b = last_or ys None in
    let e = first_or xs None in
    let f : Node → Node = λ t. record t { next = e } in
    let g : Node → Node = λ t. record t { previous = b } in
    let s1 = after_change f s b in
    let left = relink_last s ys q e (λ x. omega (arith, o x, times-append x ys xs))
    (λ x h. w x (omega (arith, h, times-append x ys xs))) k in
    let right = Linked-other f s b ys p xs None (Names-last ys) (λ x. omega (arith, o x, times-append x ys xs)) l in
    Linked-append (after_join s b e) None ys xs None
    (Linked-other g s1 e xs None ys e (Names-first xs) (λ x. omega (arith, o x, times-append x ys xs)) left)
    (relink_first s1 p b xs (λ x. omega (arith, o x, times-append x ys xs))
    (λ x h. omega (arith, w x (omega (arith, h, times-append x ys xs)), length-changed f s b)) right)

-- a third list stays as it is
pub Linked-join_other : (s : List Node) (ys xs zs : List ℕ) → ((x : ℕ) → times x ys + times x xs + times x zs ≤ 1)
    → Linked s None zs None → Linked (after_join s (last_or ys None) (first_or xs None)) None zs None
Linked-join_other s ys xs zs d l =
    let b = last_or ys None in
    let e = first_or xs None in
    let f : Node → Node = λ t. record t { next = e } in
    Linked-other (λ t. record t { previous = b }) (after_change f s b) e xs None zs None (Names-first xs)
    (λ x. omega (arith, d x))
    (Linked-other f s b ys None zs None (Names-last ys) (λ x. omega (arith, d x)) l)

-- what a change leaves in a node it leaves in that of each cell
pub changed-keeps : {X : Type 0} (g : Node → X) (f : Node → Node) (s : List Node) (o : Option ℕ) (x : ℕ)
    → ((t : Node) → g (f t) ≡ g t) → g (node_at (after_change f s o) x) ≡ g (node_at s x)
changed-keeps g f s o x h = sym (get_or-map g (after_change f s o) x no_node)
    ∙ ap (λ l. get_or l x (g no_node)) (map-changed g f s o h) ∙ get_or-map g s x no_node

-- so a change that leaves the links leaves them at each cell
pub changed-links : (f : Node → Node) (s : List Node) (o : Option ℕ) (x : ℕ) → ((t : Node) → (f t).next ≡ t.next)
    → ((t : Node) → (f t).previous ≡ t.previous) → SameLinks s (after_change f s o) x
changed-links f s o x n p = record {
  next = changed-keeps (λ t. t.next) f s o x n;
  previous = changed-keeps (λ t. t.previous) f s o x p;
}
