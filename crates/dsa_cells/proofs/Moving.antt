-- A cell goes from its list to the end of another.
use Rattle.std.proofs.Common.{◌≡◌, ℕ, suc, ◌+◌, ◌<◌, ◌≢◌, List, [], ◌∷◌, ◌++◌, length, None, Some, set}
use Rattle.std.proofs.Common.{cond, ◌==◌, sum_by, refl, sym, ap, ◌∙◌, arith, length-append, length-set}
use Rattle.std.proofs.Common.{◌^◌}
use Rattle.std.proofs.lemmas.{Bool.Decides.{nat_tests}, Grind.{common_steps}}
use Rattle.std.proofs.lemmas.List.{map-set, Sums.{sum_by-set, get_or-le-sum_by}}
use Rattle.std.specs.Option.{option_or}
use Rattle.dsa_cells.specs.declared.links.{Node.{Node}, Header.{Header}}
use Rattle.dsa_cells.specs.Array.{node_at, header_at, owners_of, entries_of}
use Rattle.dsa_cells.specs.Partition.{first_or, last_or, times, IsHeader, AreHeaders, list_at}
use Rattle.dsa_cells.specs.Writes.{InRange, AreInside, after_join, header_after_join, after_detach, header_without}
use Rattle.dsa_cells.specs.Writes.{cells_without, as_last, with_last, or_else, after_transfer}
use Rattle.dsa_cells.specs.{Invariant.{place_by_owner, IsStore}, Owners.{owner_is, length-owners}}
use Rattle.dsa_cells.proofs.Chain.{times-append, times-head, times-tail, Names-more, Names-first, Names-last}
use Rattle.dsa_cells.proofs.Chain.{InRange-of, Linked-right, Linked-other, split_at, changed-here, map-changed}
use Rattle.dsa_cells.proofs.Chain.{length-changed}
use Rattle.dsa_cells.proofs.Joining.{is_left, map-joined, length-joined, list_at-set, list_at-in, AreHeaders-agree}
use Rattle.dsa_cells.proofs.Joining.{or_else-last, ends-joined, ends-left, stands_in, names_in, distinct, IsLeft}

-- a list without a cell that it does not name
pub lacking-none : (c : ℕ) (xs : List ℕ) → times c xs ≡ 0 → cells_without c xs ≡ xs
lacking-none c [] h = refl
lacking-none c (x ∷ xs) h = grind (arith, nat_tests, lacking-none c xs)

-- a list without a cell that it names once
pub lacking-split : (c : ℕ) (xs zs : List ℕ) → times c xs + times c zs ≡ 0 → cells_without c (xs ++ c ∷ zs) ≡ xs ++ zs
lacking-split c [] zs h = grind (arith, nat_tests, lacking-none c zs)
lacking-split c (x ∷ xs) zs h = grind (arith, nat_tests, lacking-split c xs zs)

times-lacking : (c x : ℕ) (xs : List ℕ) → times x (cells_without c xs) ≡ cond (x == c) 0 (times x xs)
times-lacking c x [] = grind arith
times-lacking c x (y ∷ xs) = grind (arith, nat_tests, times-lacking c x xs)

length-lacking : (c : ℕ) (xs : List ℕ) → times c xs + length (cells_without c xs) ≡ length xs
length-lacking c [] = refl
length-lacking c (x ∷ xs) = grind (arith, nat_tests, length-lacking c xs)

times-last : (x c : ℕ) (ys : List ℕ) → times x (ys ++ c ∷ []) ≡ times x ys + cond (c == x) 1 0
times-last x c ys = grind (arith, nat_tests, times-append x ys (c ∷ []))

place-set : (os : List ℕ) (c to l x : ℕ) → c < length os → place_by_owner (set os c to) l x ≡
    cond (x == c) (cond (to == l) 1 0) (place_by_owner os l x)
place-set os c to l x lt = grind (arith, common_steps)

-- the lists once the cell has left its own
abbrev pub left : List (List ℕ) → ℕ → ℕ → List (List ℕ)
left lists from c = set lists from (cells_without c (list_at lists from))

-- the headers then
abbrev pub headers_left : List Node → List Header → ℕ → List Header
headers_left s r c = let from = (node_at s c).owner in set r from (header_without (header_at r from) (node_at s c))

-- the array after a transfer
abbrev pub transferred : List Node → List Header → ℕ → ℕ → List Node
transferred s r c to = after_join (as_last (after_detach s c) c to) (header_at (headers_left s r c) to).tail (Some c)

-- the header of a list of one cell
abbrev pub one_cell : ℕ → Header
one_cell c = record { head = Some c; tail = Some c; count = 1 }

-- behind which that list comes
with_last-is : (s : List Node) (h : Header) (ys : List ℕ) (c : ℕ) → IsHeader s h ys
    → header_after_join h (one_cell c) ≡ with_last h c
with_last-is s h ys c i =
    let head : option_or h.head (Some c) ≡ or_else h.tail (Some c) h.head = rw (i.head, i.tail) (go ys) in
    ap (λ o. let header : Header = record { head = o; tail = Some c; count = h.count + 1 } in header) head
  where
    go : (ys : List ℕ) → option_or (first_or ys None) (Some c) ≡ or_else (last_or ys None) (Some c) (first_or ys None)
    go [] = refl
    go (y ∷ ys) = sym (or_else-last ys y (Some c) (Some y))

-- what a transfer asks
abbrev pub MayMove : List Node → List Header → List (List ℕ) → ℕ → ℕ → Type 0
MayMove s r lists c to = record {
  store : IsStore s r lists;
  cell_in : c < length s;
  to_in : to < length r;
  apart : (node_at s c).owner ≢ to;
  few : length s < 2 ^ 32;
}

-- what its two steps ask for, and what it leaves
pub record Transfer (s : List Node) (r : List Header) (lists : List (List ℕ)) (c to : ℕ) : Type 0 where
  pub next : InRange s (node_at s c).next
  pub previous : InRange s (node_at s c).previous
  pub owner : (node_at s c).owner < length r
  pub counted : 0 < (header_at r (node_at s c).owner).count
  pub tail : InRange (after_detach s c) (header_at (headers_left s r c) to).tail
  pub room : (header_at (headers_left s r c) to).count + 1 < 2 ^ 32
  pub entries : entries_of (transferred s r c to) ≡ entries_of s
  pub left : IsLeft (transferred s r c to)
      (set (headers_left s r c) to (with_last (header_at (headers_left s r c) to) c))
      (after_transfer lists c (node_at s c).owner to)

pub transfer : (s : List Node) (r : List Header) (lists : List (List ℕ)) (c to : ℕ) → MayMove s r lists c to
    → Transfer s r lists c to
transfer s r lists c to may = go parts.0 parts.1 parts.2
  where
    open may use {store as st, cell_in as lt, to_in as to_r, apart as ne, few}

    from : ℕ
    from = (node_at s c).owner

    one : times c (list_at lists from) ≡ 1
    one = stands_in s r lists c st lt

    parts : (xs : List ℕ) × (zs : List ℕ) × (list_at lists from ≡ xs ++ c ∷ zs)
    parts = split_at c (list_at lists from) (omega (arith, one))

    in_lists : from < length lists
    in_lists = list_at-in lists from c (omega (arith, one))

    fewer : (m x : ℕ) → times x (list_at (left lists from c) m) ≡ cond (x == c) 0 (times x (list_at lists m))
    fewer m x = grind (
      arith,
      nat_tests,
      list_at-set lists from m (cells_without c (list_at lists from)) in_lists,
      times-lacking c x (list_at lists from),
      st.placed m x,
      owner_is s c,
    )

    to_left : to < length (left lists from c)
    to_left = omega (arith, to_r, st.ends.sizes, length-set lists from (cells_without c (list_at lists from)))

    size1 : length (after_detach s c) ≡ length s
    size1 = length-joined s (node_at s c).previous (node_at s c).next

    total1 : suc (sum_by length (left lists from c)) ≡ length s
    total1 = omega (
      arith,
      one,
      st.total,
      length-lacking c (list_at lists from),
      sum_by-set length lists from (cells_without c (list_at lists from)) [] in_lists,
    )

    owners : owners_of (transferred s r c to) ≡ set (owners_of s) c to
    owners =
        map-joined (λ t. t.owner) (as_last (after_detach s c) c to) (header_at (headers_left s r c) to).tail (Some c)
        (λ t o. refl) (λ t o. refl)
        ∙ map-set (λ t. t.owner) (after_detach s c) c
        (record (node_at (after_detach s c) c) { next = None; owner = to })
        ∙ ap (λ os. set os c to) (map-joined (λ t. t.owner) s (node_at s c).previous (node_at s c).next
        (λ t o. refl) (λ t o. refl))

    placed : (m x : ℕ) → times x (list_at (after_transfer lists c from to) m)
        ≡ place_by_owner (set (owners_of s) c to) m x
    placed m x =
        let e = list_at-set (left lists from c) to m (list_at (left lists from c) to ++ c ∷ []) to_left in
        let k = times-last x c (list_at (left lists from c) to) in
        let q = st.placed to x in
        grind (
          arith,
          nat_tests,
          e,
          k,
          fewer to x,
          fewer m x,
          st.placed m x,
          q,
          place-set (owners_of s) c to m x (omega (arith, lt, length-owners s)),
        )

    go : (xs zs : List ℕ) → list_at lists from ≡ xs ++ c ∷ zs → Transfer s r lists c to
    go xs zs is =
        let s1 = after_detach s c in
        let r1 = headers_left s r c in
        let lists1 = left lists from c in
        let inside : AreInside s (xs ++ c ∷ zs) = λ x h. (names_in s r lists from x st (rw is h)).0 in
        let once = ap (times c) (sym is) ∙ one in
        let less = ap (cells_without c) is
        ∙ lacking-split c xs zs (omega (arith, once, times-append c xs (c ∷ zs), times-head c zs)) in
        let ends1 : AreHeaders s1 r1 lists1 = rw less
        (ends-left s r lists from c xs zs st.ends in_lists is inside (λ m x other.
        omega (arith, ap (times x) is, distinct s r lists from m x st other))) in
        let f : Node → Node = λ t. record t { next = None; owner = to } in
        let s2 = as_last s1 c to in
        let ends2 = AreHeaders-agree s1 s2 r1 lists1 (λ m k.
        Linked-other f s1 (Some c) (c ∷ []) None (list_at lists1 m) None (omega (arith, times-head c []))
        (λ x. let d = distinct s r lists m (suc m) x st (λ q. omega (arith, q)) in
        grind (arith, nat_tests, fewer m x, d)) k) ends1 in
        let at = changed-here f s1 c (omega (arith, lt, size1)) in
        let h = Linked-right s None xs (c ∷ zs) None (rw is at (st.ends.each from in_lists).links) in
        let end = ends1.each to to_left in
        let listed : AreInside s1 (list_at lists1 to) = λ x k.
        let some : 0 < times x (list_at lists to) = grind (arith, nat_tests, fewer to x, k) in
        omega (arith, size1, (names_in s r lists to x st some).0) in
        record {
          next = InRange-of s (xs ++ c ∷ zs) inside (Names-more zs (xs ++ c ∷ zs) (first_or zs None)
              (λ x. omega (arith, times-append x xs (c ∷ zs), times-tail x c zs)) (Names-first zs)) h.1;
          previous = InRange-of s (xs ++ c ∷ zs) inside
              (Names-more xs (xs ++ c ∷ zs) (last_or xs None) (λ x. omega (arith, times-append x xs (c ∷ zs)))
              (Names-last xs)) h.0;
          owner = omega (arith, in_lists, st.ends.sizes);
          counted = omega (arith, (st.ends.each from in_lists).count, one, length-lacking c (list_at lists from));
          tail = InRange-of s1 (list_at lists1 to) listed (Names-last (list_at lists1 to)) end.tail;
          room = omega (arith, few, end.count, total1, get_or-le-sum_by length lists1 to [] to_left);
          entries =
              map-joined (λ t. t.entry) s2 (header_at r1 to).tail (Some c) (λ t o. refl) (λ t o. refl)
              ∙ map-changed (λ t. t.entry) f s1 (Some c) (λ t. refl)
              ∙ map-joined (λ t. t.entry) s (node_at s c).previous (node_at s c).next (λ t o. refl) (λ t o. refl);
          left = is_left (record {
            ends = rw (← with_last-is s2 (header_at r1 to) (list_at lists1 to) c (ends2.each to to_left))
                (ends-joined s2 r1 lists1 to (one_cell c) (node_at s2 c).previous (c ∷ []) ends2 to_left
                (record { head = refl; tail = refl; count = refl; links = (refl, ap (λ (t : Node). t.next) at, tt) })
                (λ x k.
                let e = times-last x c (list_at lists1 to) in
                let big : length s2 ≡ length s = omega (arith, length-changed f s1 (Some c), size1) in
                grind (arith, nat_tests, e, k, listed x, lt, big, size1))
                (λ m x other. grind (arith, nat_tests, fewer m x, fewer to x, distinct s r lists to m x st other)));
            placed = λ m x. placed m x ∙ sym (ap (λ os. place_by_owner os m x) owners);
            total = omega (
              arith,
              total1,
              size1,
              length-append (list_at lists1 to) (c ∷ []),
              sum_by-set length lists1 to (list_at lists1 to ++ c ∷ []) [] to_left,
              length-joined s2 (header_at r1 to).tail (Some c),
              length-changed f s1 (Some c),
            );
          });
        }
