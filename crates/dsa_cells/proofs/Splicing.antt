-- All cells of a list go behind those of another, by the ends of the two.
use Rattle.std.proofs.Common.{◌≡◌, ℕ, zero, suc, ◌+◌, ◌-◌, ◌<◌, ◌≤◌, ◌≢◌, List, [], ◌∷◌, ◌++◌, length, Option, None}
use Rattle.std.proofs.Common.{Some, get_or, set, cond, ◌==◌, ltb, sum_by, refl, sym, ap, ◌∙◌, subst, arith}
use Rattle.std.proofs.Common.{length-append, length-set, ◌^◌}
use Rattle.std.proofs.lemmas.{Bool.Decides.{nat_tests}, Grind.{common_steps}}
use Rattle.std.proofs.lemmas.List.{map-set, get_or-set_other, Sums.{sum_by-set, get_or-le-sum_by}}
use Rattle.dsa_cells.specs.declared.links.{Node.{Node}, Header.{Header}}
use Rattle.dsa_cells.specs.Array.{node_at, header_at, no_header, owners_of, entries_of}
use Rattle.dsa_cells.specs.Partition.{walk, cells_of, times, IsHeader, AreHeaders, list_at}
use Rattle.dsa_cells.specs.Writes.{InRange, AreInside, after_change, after_join, header_after_join, after_mark}
use Rattle.dsa_cells.specs.Writes.{after_splice}
use Rattle.dsa_cells.specs.{Invariant.{place_by_owner, IsStore}, Owners.{length-owners}}
use Rattle.dsa_cells.proofs.Chain.{times-append, times-head, times-tail, Names-first, Names-last, InRange-of}
use Rattle.dsa_cells.proofs.Chain.{SameLinks, Linked-agree, map-changed, length-changed, changed-links}
use Rattle.dsa_cells.proofs.Joining.{map-joined, length-joined, list_at-set, AreHeaders-set, AreHeaders-agree}
use Rattle.dsa_cells.proofs.Joining.{ends-joined, names_in, cells_are, IsLeft, is_left}

-- ---- cells get another list's number

-- the cell with that list's number
abbrev pub renumbered : List Node → ℕ → ℕ → List Node
renumbered s c owner = after_change (λ node. record node { owner = owner }) s (Some c)

-- no node comes or goes
pub length-marked : (s : List Node) (xs : List ℕ) (owner : ℕ) → length (after_mark s xs owner) ≡ length s
length-marked s [] owner = refl
length-marked s (x ∷ xs) owner =
    length-marked (renumbered s x owner) xs owner ∙ length-changed (λ t. record t { owner = owner }) s (Some x)

-- the entries stay
entries-marked : (s : List Node) (xs : List ℕ) (owner : ℕ) → entries_of (after_mark s xs owner) ≡ entries_of s
entries-marked s [] owner = refl
entries-marked s (x ∷ xs) owner =
    entries-marked (renumbered s x owner) xs owner ∙ map-changed (λ t. t.entry) (λ t. record t { owner = owner }) s
    (Some x) (λ t. refl)

links-marked : (s : List Node) (xs : List ℕ) (owner x : ℕ) → SameLinks s (after_mark s xs owner) x
links-marked s [] owner x = record { next = refl; previous = refl }
links-marked s (y ∷ xs) owner x =
    let one = changed-links (λ t. record t { owner = owner }) s (Some y) x (λ t. refl) (λ t. refl) in
    let rest = links-marked (renumbered s y owner) xs owner x in
    record { next = rest.next ∙ one.next; previous = rest.previous ∙ one.previous }

owner-marked : (s : List Node) (xs : List ℕ) (owner x : ℕ) → x < length s
    → get_or (owners_of (after_mark s xs owner)) x 0 ≡ cond (ltb 0 (times x xs)) owner (get_or (owners_of s) x 0)
owner-marked s [] owner x lt = grind (arith, nat_tests)
owner-marked s (y ∷ xs) owner x lt =
    let e = map-set (λ (t : Node). t.owner) s y (record (node_at s y) { owner = owner }) in
    let at : get_or (owners_of (renumbered s y owner)) x 0 ≡ cond (x == y) owner (get_or (owners_of s) x 0) =
    ap (λ os. get_or os x 0) e ∙ owner-set (owners_of s) y owner x (omega (arith, lt, length-owners s)) in
    let rest = owner-marked (renumbered s y owner) xs owner x
    (omega (arith, lt, length-changed (λ t. record t { owner = owner }) s (Some y))) in
    rest ∙ ap (cond (ltb 0 (times x xs)) owner) at ∙ grind (arith, nat_tests)
  where
    owner-set : (os : List ℕ) (y owner x : ℕ) → x < length os → get_or (set os y owner) x 0 ≡
        cond (x == y) owner (get_or os x 0)
    owner-set os y owner x lt = grind (arith, common_steps)

-- ---- one step of the loop that does so

walk-agree : (s t : List Node) (k : ℕ) (o : Option ℕ) → ((x : ℕ) → SameLinks s t x) → walk t k o ≡ walk s k o
walk-agree s t zero o same = refl
walk-agree s t (suc k) None same = refl
walk-agree s t (suc k) (Some c) same =
    rw ((same c).next, walk-agree s t k (node_at s c).next same) refl

-- what is left to mark, of n cells of which i have been, makes that array
pub record Marking (s : List Node) (k : ℕ) (o : Option ℕ) (owner : ℕ) (target : List Node) : Type 0 where
  pub rest : after_mark s (walk s k o) owner ≡ target
  pub inside : AreInside s (walk s k o)

-- there is a cell to mark
pub mark-some : (s : List Node) (n i c owner : ℕ) (o : Option ℕ) (target : List Node) → i < n → o ≡ Some c →
    Marking s (n - i) o owner target
    → (c < length s) × ((t : List Node) (p : Option ℕ) → t ≡ renumbered s c owner → p ≡ (node_at s c).next →
    Marking t (n - (i + 1)) p owner target)
mark-some s n i c owner o target lt is m =
    let less : n - i ≡ suc (n - (i + 1)) = omega arith in
    let made = go (n - (i + 1)) (rw (less, is) at m) in
    (made.0, λ t p e f. rw (e, f) made.1)
  where
    go : (k : ℕ) → Marking s (suc k) (Some c) owner target → (c < length s) × Marking (renumbered s c owner) k
        (node_at s c).next owner target
    go k a =
        let t = renumbered s c owner in
        let o = (node_at s c).next in
        let same = walk-agree s t k o (λ x. changed-links (λ u. record u { owner = owner }) s (Some c) x (λ u. refl)
        (λ u. refl)) in (
          a.inside c (omega (arith, times-head c (walk s k o))),
          record {
            rest = ap (λ xs. after_mark t xs owner) same ∙ a.rest;
            inside = λ x h. let later = subst (λ xs. 0 < times x xs) same h in
                omega (
                  arith,
                  a.inside x (omega (arith, later, times-tail x c (walk s k o))),
                  length-changed (λ u. record u { owner = owner }) s (Some c),
                );
          },
        )

-- there is none
pub mark-none : (s t : List Node) (n i owner : ℕ) (o p : Option ℕ) (target : List Node) → i < n → o ≡ None → t ≡ s →
    p ≡ o → Marking s (n - i) o owner target
    → Marking t (n - (i + 1)) p owner target
mark-none s t n i owner o p target lt is e f m =
    let less : n - i ≡ suc (n - (i + 1)) = omega arith in rw (e, f, is) (go (n - (i + 1)) (rw (less, is) at m))
  where
    go : (k : ℕ) → Marking s (suc k) None owner target → Marking s k None owner target
    go zero a = record { rest = a.rest; inside = a.inside }
    go (suc k) a = record { rest = a.rest; inside = a.inside }

-- ---- a splice as a whole

-- what a splice asks
abbrev pub MaySplice : List Node → List Header → List (List ℕ) → ℕ → ℕ → Type 0
MaySplice s r lists from to = record {
  store : IsStore s r lists;
  from_in : from < length r;
  to_in : to < length r;
  apart : from ≢ to;
  few : length s < 2 ^ 32;
}

-- what its steps ask for, with the cells of the list that goes, and what it leaves
pub record Splice (s : List Node) (r : List Header) (lists : List (List ℕ)) (from to : ℕ) (cells : List ℕ)
    : Type 0 where
  pub inside : AreInside s cells
  pub tail : InRange (after_mark s cells to) (header_at r to).tail
  pub head : InRange (after_mark s cells to) (header_at r from).head
  pub fits : (header_at r to).count + (header_at r from).count < 2 ^ 32
  pub entries : entries_of (after_join (after_mark s cells to) (header_at r to).tail (header_at r from).head)
      ≡ entries_of s
  pub left : IsLeft (after_join (after_mark s cells to) (header_at r to).tail (header_at r from).head)
      (set (set r from no_header) to (header_after_join (header_at r to) (header_at r from)))
      (after_splice lists from to)

pub splice : (s : List Node) (r : List Header) (lists : List (List ℕ)) (from to : ℕ) → MaySplice s r lists from to
    → Splice s r lists from to (cells_of s (header_at r from))
splice s r lists from to may = subst (Splice s r lists from to)
    (sym (cells_are s (header_at r from) xs (st.ends.each from in_from))) (record {
      inside = inside from;
      tail = InRange-of s1 (list_at lists to) (inside1 to)
          (Names-last (list_at lists to)) (st.ends.each to in_to).tail;
      head = InRange-of s1 xs (inside1 from) (Names-first xs)
          (st.ends.each from in_from).head;
      fits = omega (
        arith,
        few,
        st.total,
        (st.ends.each to in_to).count,
        (st.ends.each from in_from).count,
        total1,
        ap length kept,
        get_or-le-sum_by length rest to [] to_rest,
      );
      entries = map-joined (λ t. t.entry) s1 (header_at r to).tail (header_at r from).head (λ t o. refl) (λ t o. refl)
          ∙ entries-marked s xs to;
      left = is_left (record {
        ends = rw (← get_or-set_other r from to no_header no_header (λ e. ne (sym e)))
            (ends-joined s1 (set r from no_header) rest to (header_at r from) None xs
            (AreHeaders-set s1 s1 r lists from no_header [] ends1
            (record { head = refl; tail = refl; count = refl; links = tt }) (λ m other k. k))
            to_rest (record { head = given.head; tail = given.tail; count = given.count; links = given.links })
            (λ x h.
            let k = inside1 to x in
            grind (arith, h, times-append x (list_at rest to) xs, k, inside1 from x, ap (times x) kept))
            (λ m x other.
            omega (arith, at m x, ap (times x) kept, apart m x other)));
        placed = λ m x. placed m x
            ∙ sym (ap (λ os. place_by_owner os m x) (map-joined (λ t. t.owner) s1 (header_at r to).tail
            (header_at r from).head (λ t o. refl) (λ t o. refl)));
        total = omega (
          arith,
          total1,
          length-joined s1 (header_at r to).tail (header_at r from).head,
          length-marked s xs to,
          length-append (list_at rest to) xs,
          sum_by-set length rest to (list_at rest to ++ xs) [] to_rest,
        );
      });
    })
  where
    open may use {store as st, from_in as from_r, to_in as to_r, apart as ne, few}

    xs : List ℕ
    xs = list_at lists from

    rest : List (List ℕ)
    rest = set lists from []

    s1 : List Node
    s1 = after_mark s xs to

    in_from : from < length lists
    in_from = omega (arith, from_r, st.ends.sizes)

    in_to : to < length lists
    in_to = omega (arith, to_r, st.ends.sizes)

    none : List ℕ
    none = []

    to_rest : to < length rest
    to_rest = omega (arith, in_to, length-set lists from none)

    kept : list_at rest to ≡ list_at lists to
    kept = get_or-set_other lists from to none none (λ e. ne (sym e))

    inside : (l : ℕ) → AreInside s (list_at lists l)
    inside l x h = (names_in s r lists l x st h).0

    inside1 : (l : ℕ) → AreInside s1 (list_at lists l)
    inside1 l x h = omega (arith, inside l x h, length-marked s xs to)

    total1 : sum_by length rest + length xs ≡ length s
    total1 = omega (arith, st.total, sum_by-set length lists from none none in_from)

    ends1 : AreHeaders s1 r lists
    ends1 = AreHeaders-agree s s1 r lists (λ m k. Linked-agree s s1 None (list_at lists m) None
        (λ x h. links-marked s xs to x) k) st.ends

    given : IsHeader s1 (header_at r from) xs
    given = ends1.each from in_from

    at : (m x : ℕ) → times x (list_at rest m) ≡ cond (m == from) 0 (times x (list_at lists m))
    at m x = let e = list_at-set lists from m none in_from in grind (arith, nat_tests, e)

    apart : (m x : ℕ) → m ≢ to → times x (list_at lists to) + times x xs + cond (m == from) 0
        (times x (list_at lists m)) ≤ 1
    apart m x other =
        let p = st.placed from x in
        let q = st.placed to x in
        let k = st.placed m x in
        grind (arith, nat_tests, p, q, k)

    placed : (m x : ℕ) → times x (list_at (after_splice lists from to) m) ≡ place_by_owner (owners_of s1) m x
    placed m x = grind (
      arith,
      nat_tests,
      list_at-set rest to m (list_at rest to ++ xs) to_rest,
      times-append x (list_at rest to) xs,
      ap (times x) kept,
      at m x,
      length-owners s1,
      length-owners s,
      length-marked s xs to,
      owner-marked s xs to x,
      st.placed from x,
      st.placed to x,
      st.placed m x,
    )
