-- What holds of the headers and the lists of a store when cells go from one list to another.
use Rattle.std.proofs.Common.{◌≡◌, ℕ, suc, ◌+◌, ◌<◌, ◌≤◌, ◌≢◌, inl, inr, List, [], ◌∷◌, ◌++◌, length, map, Option}
use Rattle.std.proofs.Common.{None, Some, set, cond, ◌==◌, refl, sym, ◌∙◌, subst, arith, length-append}
use Rattle.std.proofs.Common.{length-set, ext_get_or}
use Rattle.std.proofs.lemmas.{Bool.Decides.{eqb_tells, leb_tells, nat_tests}, Grind.{common_steps}}
use Rattle.std.proofs.lemmas.List.{get_or_past, get_or-set_same, get_or-set_other}
use Rattle.std.proofs.Math.ListN.{get_or-map, length-map}
use Rattle.std.specs.Option.{option_or}
use Rattle.dsa_cells.specs.{declared.links.{Node.{Node}, Header.{Header}}, Array.{node_at, header_at, no_header}}
use Rattle.dsa_cells.specs.Partition.{first_or, last_or, Linked, cells_of, times, IsHeader, AreHeaders, list_at}
use Rattle.dsa_cells.specs.Partition.{lists_of}
use Rattle.dsa_cells.specs.Writes.{AreInside, after_change, after_join, after_detach, or_else, header_without}
use Rattle.dsa_cells.specs.Writes.{header_after_join}
use Rattle.dsa_cells.specs.{Invariant.{IsStore}, Owners.{owner_is, length-owners}}
use Rattle.dsa_cells.proofs.Chain.{first_or-append, last_or-append, times-append, times-tail, Once, Linked-left}
use Rattle.dsa_cells.proofs.Chain.{Linked-right, Linked-join, Linked-join_other, walk_is, map-changed, length-changed}

-- ---- a write of links

-- what a write of links leaves in a node it leaves in all
pub map-joined : {X : Type 0} (g : Node → X) (s : List Node) (b e : Option ℕ) → ((t : Node) (o : Option ℕ) →
    g (record t { next = o }) ≡ g t)
    → ((t : Node) (o : Option ℕ) → g (record t { previous = o }) ≡ g t) → map g (after_join s b e) ≡ map g s
map-joined g s b e n p =
    map-changed g (λ t. record t { previous = b }) (after_change (λ t. record t { next = e }) s b) e (λ t. p t b)
    ∙ map-changed g (λ t. record t { next = e }) s b (λ t. n t e)

-- no node comes or goes
pub length-joined : (s : List Node) (b e : Option ℕ) → length (after_join s b e) ≡ length s
length-joined s b e =
    length-changed (λ t. record t { previous = b }) (after_change (λ t. record t { next = e }) s b) e
    ∙ length-changed (λ t. record t { next = e }) s b

-- ---- one of the lists is written

-- the list of a number
pub list_at-set : (lists : List (List ℕ)) (l m : ℕ) (ys : List ℕ) → l < length lists → list_at (set lists l ys) m ≡
    cond (m == l) ys (list_at lists m)
list_at-set lists l m ys lt = grind (arith, common_steps)

-- past the last there is none
pub list_at-in : (lists : List (List ℕ)) (l x : ℕ) → 0 < times x (list_at lists l) → l < length lists
list_at-in lists l x h = elim (leb_tells (length lists) l) [
  | inl w ↦ let k = rw (get_or_past lists l [] w.1) at h in absurd (omega (arith, k))
  | inr w ↦ w.1
]

-- the others keep their headers and cells
pub AreHeaders-set : (s t : List Node) (r : List Header) (lists : List (List ℕ)) (l : ℕ) (v : Header) (ys : List ℕ) →
    AreHeaders s r lists → IsHeader t v ys
    → ((m : ℕ) → m ≢ l → Linked s None (list_at lists m) None → Linked t None (list_at lists m) None) →
    AreHeaders t (set r l v) (set lists l ys)
AreHeaders-set s t r lists l v ys a i frame = record {
  sizes = length-set r l v ∙ a.sizes ∙ sym (length-set lists l ys);
  each = λ m lt.
      let lt2 : m < length lists = omega (arith, lt, length-set lists l ys) in
      elim (eqb_tells m l) [
        | inl w ↦
            let lt3 : l < length lists = omega (arith, lt2, w.1) in
            let lt4 : l < length r = omega (arith, lt3, a.sizes) in
            rw (w.1, get_or-set_same r l v no_header lt4, get_or-set_same lists l ys [] lt3) i
        | inr w ↦
            let old = a.each m lt2 in
            rw (get_or-set_other r l m v no_header w.1, get_or-set_other lists l m ys [] w.1)
            (record { head = old.head; tail = old.tail; count = old.count; links = frame m w.1 old.links })
      ];
}

-- the headers stay where no link of a listed cell changes
pub AreHeaders-agree : (s t : List Node) (r : List Header) (lists : List (List ℕ))
    → ((m : ℕ) → Linked s None (list_at lists m) None → Linked t None (list_at lists m) None) → AreHeaders s r lists →
    AreHeaders t r lists
AreHeaders-agree s t r lists same a = record {
  sizes = a.sizes;
  each = λ m lt. let old = a.each m lt in
      record { head = old.head; tail = old.tail; count = old.count; links = same m old.links };
}

-- ---- cells come behind a list

-- the header of some cells, before the first of which another may still be named
pub record Comes (s : List Node) (given : Header) (p : Option ℕ) (xs : List ℕ) : Type 0 where
  pub head : given.head ≡ first_or xs None
  pub tail : given.tail ≡ last_or xs None
  pub count : given.count ≡ length xs
  pub links : Linked s p xs None

or-first : (xs : List ℕ) (o : Option ℕ) → option_or (first_or xs None) o ≡ first_or xs o
or-first [] o = refl
or-first (x ∷ xs) o = refl

or-last : (xs : List ℕ) (o : Option ℕ) → option_or (last_or xs None) o ≡ last_or xs o
or-last [] o = refl
or-last (x ∷ xs) o = some xs x o
  where
    some : (xs : List ℕ) (x : ℕ) (o : Option ℕ) → option_or (last_or xs (Some x)) o ≡ last_or xs (Some x)
    some [] x o = refl
    some (y ∷ xs) x o = some xs y o

IsHeader-joined : (s : List Node) (kept given : Header) (ys xs : List ℕ) (p : Option ℕ) → Once (ys ++ xs) →
    AreInside s (ys ++ xs) → IsHeader s kept ys
    → Comes s given p xs → IsHeader (after_join s kept.tail given.head) (header_after_join kept given) (ys ++ xs)
IsHeader-joined s kept given ys xs p o w k g = record {
  head = rw (k.head, g.head) (or-first ys (first_or xs None) ∙ sym (first_or-append ys xs None));
  tail = rw (g.tail, k.tail) (or-last xs (last_or ys None) ∙ sym (last_or-append ys xs None));
  count = omega (arith, k.count, g.count, length-append ys xs);
  links = rw (k.tail, g.head) (Linked-join s ys xs None p o w k.links g.links);
}

-- cells that stand in no list come behind one
pub ends-joined : (s : List Node) (r : List Header) (lists : List (List ℕ)) (to : ℕ) (given : Header) (p : Option ℕ)
    (xs : List ℕ) → AreHeaders s r lists
    → to < length lists → Comes s given p xs → AreInside s (list_at lists to ++ xs)
    → ((m x : ℕ) → m ≢ to → times x (list_at lists to) + times x xs + times x (list_at lists m) ≤ 1)
    → AreHeaders (after_join s (header_at r to).tail given.head) (set r to (header_after_join (header_at r to) given))
    (set lists to (list_at lists to ++ xs))
ends-joined s r lists to given p xs a lt g w d =
    let ys = list_at lists to in
    let kept = a.each to lt in
    AreHeaders-set s (after_join s (header_at r to).tail given.head) r lists to
    (header_after_join (header_at r to) given) (ys ++ xs) a
    (IsHeader-joined s (header_at r to) given ys xs p
    (λ x. omega (arith, d (suc to) x (λ e. omega (arith, e)), times-append x ys xs)) w kept g)
    (λ m ne k. rw (kept.tail, g.head) (Linked-join_other s ys xs (list_at lists m) (λ x. d m x ne) k))

-- ---- a cell leaves its list

-- a list with a cell has a last one
pub or_else-last : (xs : List ℕ) (x : ℕ) (a b : Option ℕ) → or_else (last_or xs (Some x)) a b ≡ b
or_else-last [] x a b = refl
or_else-last (y ∷ xs) x a b = or_else-last xs y a b

head-left : (xs zs : List ℕ) (c : ℕ) → or_else (last_or xs None) (first_or zs None) (first_or (xs ++ c ∷ zs) None) ≡
    first_or (xs ++ zs) None
head-left [] zs c = refl
head-left (x ∷ xs) zs c = or_else-last xs x (first_or zs None) (Some x)

tail-left : (xs zs : List ℕ) (c : ℕ) → or_else (first_or zs None) (last_or xs None) (last_or (xs ++ c ∷ zs) None) ≡
    last_or (xs ++ zs) None
tail-left xs [] c = sym (last_or-append xs [] None)
tail-left xs (z ∷ zs) c = last_or-append xs (c ∷ z ∷ zs) None ∙ sym (last_or-append xs (z ∷ zs) None)

-- the header and the links of the list that it leaves
pub ends-left : (s : List Node) (r : List Header) (lists : List (List ℕ)) (from c : ℕ) (xs zs : List ℕ) →
    AreHeaders s r lists → from < length lists
    → list_at lists from ≡ xs ++ c ∷ zs → AreInside s (xs ++ c ∷ zs) →
    ((m x : ℕ) → m ≢ from → times x (xs ++ c ∷ zs) + times x (list_at lists m) ≤ 1)
    → AreHeaders (after_detach s c) (set r from (header_without (header_at r from) (node_at s c)))
    (set lists from (xs ++ zs))
ends-left s r lists from c xs zs a lt is w d =
    let h : IsHeader s (header_at r from) (xs ++ c ∷ zs) = subst (IsHeader s (header_at r from)) is (a.each from lt) in
    let here = Linked-right s None xs (c ∷ zs) None h.links in
    let fewer : (x : ℕ) → times x xs + times x zs ≤ times x (xs ++ c ∷ zs) = λ x. omega (
      arith,
      times-append x xs (c ∷ zs),
      times-tail x c zs,
    ) in
    let once = λ (x : ℕ). d (suc from) x (λ e. omega (arith, e)) in
    AreHeaders-set s (after_detach s c) r lists from (header_without (header_at r from) (node_at s c)) (xs ++ zs) a
    (record {
      head = rw (here.0, here.1, h.head) (head-left xs zs c);
      tail = rw (here.0, here.1, h.tail) (tail-left xs zs c);
      count = omega (arith, h.count, length-append xs (c ∷ zs), length-append xs zs);
      links = rw (here.0, here.1) (Linked-join s xs zs (Some c) (Some c) (λ x. omega (
        arith,
        once x,
        fewer x,
        times-append x xs zs,
      ))
          (λ x k. w x (omega (arith, k, fewer x, times-append x xs zs))) (Linked-left s None xs (c ∷ zs) None h.links)
          here.2);
    })
    (λ m ne k. rw (here.0, here.1) (Linked-join_other s xs zs (list_at lists m)
    (λ x. omega (arith, d m x ne, fewer x)) k))

-- ---- what a store's numbers say

-- a cell stands once in the list that it names
pub stands_in : (s : List Node) (r : List Header) (lists : List (List ℕ)) (c : ℕ) → IsStore s r lists → c < length s
    → times c (list_at lists (node_at s c).owner) ≡ 1
stands_in s r lists c st lt = grind (arith, nat_tests, st.placed (node_at s c).owner c, owner_is s c, length-owners s)

-- a list names cells of the array that name it
pub names_in : (s : List Node) (r : List Header) (lists : List (List ℕ)) (l c : ℕ) → IsStore s r lists →
    0 < times c (list_at lists l)
    → (c < length s) × ((node_at s c).owner ≡ l)
names_in s r lists l c st h =
    let p = st.placed l c in (grind (arith, nat_tests, p, length-owners s), grind (arith, nat_tests, p, owner_is s c))

-- no cell stands in two lists, or twice in one
pub distinct : (s : List Node) (r : List Header) (lists : List (List ℕ)) (l m x : ℕ) → IsStore s r lists → m ≢ l
    → times x (list_at lists l) + times x (list_at lists m) ≤ 1
distinct s r lists l m x st ne = grind (arith, nat_tests, st.placed l x, st.placed m x)

-- the cells of a header are its list
pub cells_are : (s : List Node) (r : Header) (xs : List ℕ) → IsHeader s r xs → cells_of s r ≡ xs
cells_are s r xs i = rw (i.count, i.head) (walk_is s None xs i.links)

-- the lists are those that following next finds
pub lists_is : (s : List Node) (r : List Header) (lists : List (List ℕ)) → AreHeaders s r lists → lists_of s r ≡ lists
lists_is s r lists a =
    ext_get_or [] (lists_of s r) lists (length-map r (cells_of s) ∙ a.sizes)
    (λ i lt. get_or-map (cells_of s) r i no_header
    ∙ cells_are s (header_at r i) (list_at lists i)
    (a.each i (omega (arith, lt, length-map r (cells_of s), a.sizes))))

-- so they may be said of the array
pub store_found : (s : List Node) (r : List Header) (lists : List (List ℕ)) → IsStore s r lists →
    IsStore s r (lists_of s r)
store_found s r lists st = subst (IsStore s r) (sym (lists_is s r lists st.ends)) st

-- and so is what a call leaves
pub record IsLeft (s : List Node) (r : List Header) (left : List (List ℕ)) : Type 0 where
  pub store : IsStore s r (lists_of s r)
  pub lists : lists_of s r ≡ left

pub is_left : {s : List Node} {r : List Header} {lists : List (List ℕ)} → IsStore s r lists → IsLeft s r lists
is_left {s} {r} {lists} st = record { store = store_found s r lists st; lists = lists_is s r lists st.ends }
