-- What callers see of a store: the lists of cells with their entries, and what each write makes of them.
use Rattle.std.proofs.Common.{◌≡◌, ℕ, ◌+◌, ◌-◌, ◌<◌, ◌≤◌, ◌≢◌, inl, inr, Bool, true, false, List, [], ◌∷◌, ◌++◌}
use Rattle.std.proofs.Common.{length, map, take, None, Some, get_or, set, cond, ◌==◌, sum_by, refl, sym, ap}
use Rattle.std.proofs.Common.{◌∙◌, arith, take_all, length-set}
use Rattle.std.proofs.lemmas.{Bool.Decides.{leb_tells}, Grind.{common_steps}}
use Rattle.std.proofs.lemmas.List.{length-map, map-set, map-append, get_or-take, get_or-set_same, get_or-set_other}
use Rattle.std.proofs.lemmas.List.{length-take-le, take-set-le, Sums.{sum_by_more, sum_by-take-le}}
use Rattle.std.proofs.Math.{Seq.{take-set-lt}, ListN.{get_or-map}, Path.{fun_ext}}
use Rattle.std.proofs.lemmas.Simd.{map-map}
use Rattle.dsa_store.specs.declared.entry.{Cell.{Cell}, Entry.{Entry}}
use Rattle.dsa_store.specs.Content.{HeldEntry, is_cell, chain, use_count, held_count, first_cell, after_push}
use Rattle.dsa_store.specs.Content.{after_move as move, after_unlink, after_set, after_give_back}
use Rattle.dsa_store.proofs.Finding.{uses-stands, entry_of-at, list_of-at, unlinked-none, replaced-none, entry_of-none}
use Rattle.dsa_store.proofs.{Finding.{list_of-none, next_of-none}, Turns.{Seam, seam}}
use Rattle.dsa_cells.specs.declared.links.{Node.{Node}, Header.{Header}}
use Rattle.dsa_cells.specs.Array.{no_entry, node_at, no_node, header_at, entries_of, owners_of}
use Rattle.dsa_cells.specs.Partition.{first_or, times, lists_in_use, cells_of, list_at, lists_of}
use Rattle.dsa_cells.specs.Writes.{cells_without, after_append, after_transfer, after_splice, after_change}
use Rattle.dsa_cells.specs.Invariant.{place_by_owner, IsStore, IsWholeArray}
use Rattle.dsa_cells.specs.Content.{held_entry_of_number, contents_of_cells, content_at, cell_of_number, IsUnused}
use Rattle.dsa_cells.specs.Content.{IsUsed}
use Rattle.dsa_cells.specs.{Owners.{is_partition}, Naming.{uses-entries, held-entries, IsSound-from_whole}}
use Rattle.dsa_cells.proofs.Chain.{times-append, times-head, Linked-right, Linked-agree, split_at, map-changed}
use Rattle.dsa_cells.proofs.Chain.{length-changed, changed-links, changed-keeps}
use Rattle.dsa_cells.proofs.Joining.{list_at-in, AreHeaders-agree, stands_in, names_in, lists_is, store_found}
use Rattle.dsa_cells.proofs.Moving.{lacking-split}

-- ---- one list

-- the entry that is read of a cell
pub entry_is : (s : List Node) (x : ℕ) → get_or (entries_of s) x no_entry ≡ (node_at s x).entry
entry_is s x = get_or-map (λ (t : Node). t.entry) s x no_node

-- the front is the first cell
pub first-entries : (es : List Entry) (xs : List ℕ) → first_cell (map (held_entry_of_number es) xs)
    ≡ cell_of_number (first_or xs None)
first-entries es [] = refl
first-entries es (x ∷ xs) = refl

-- an entry is written
pair-set : (es : List Entry) (c : ℕ) (e : Entry) (x : ℕ) → c < length es →
    held_entry_of_number (set es c e) x ≡ cond (x == c) (record { 0 = x }, e) (held_entry_of_number es x)
pair-set es c e x lt =
    let entry : get_or (set es c e) x no_entry ≡ cond (x == c) e (get_or es x no_entry) = grind (arith, common_steps) in
    ap (λ f. let s : HeldEntry = (record { 0 = x }, f) in s) entry ∙ choose (x == c)
  where
    choose : (b : Bool) → ◌≡◌ {A = HeldEntry} (record { 0 = x }, cond b e (get_or es x no_entry))
        (cond b (record { 0 = x }, e) (held_entry_of_number es x))
    choose true = refl
    choose false = refl

lists-set : (es : List Entry) (c : ℕ) (e : Entry) (lists : List (List ℕ)) → c < length es
    → map (map (held_entry_of_number (set es c e))) lists
    ≡ after_set (map (map (held_entry_of_number es)) lists) (record { 0 = c }) e
lists-set es c e lists lt =
    let change : HeldEntry → HeldEntry = λ s. cond (is_cell (record { 0 = c }) s) (s.0, e) s in
    ap (λ (f : ℕ → HeldEntry). map (map f) lists) (fun_ext (λ x. pair-set es c e x lt))
    ∙ ap (λ (f : List ℕ → List HeldEntry). map f lists) (fun_ext (λ xs. sym (map-map change (held_entry_of_number es) xs)))
    ∙ sym (map-map (map change) (map (held_entry_of_number es)) lists)

-- ---- all lists

-- all but the last are seen
pub length-contents : (es : List Entry) (lists : List (List ℕ)) → length (contents_of_cells es lists) ≡ length lists - 1
length-contents es lists = length-map (take (length lists - 1) lists) (map (held_entry_of_number es))
    ∙ length-take-le (length lists - 1) lists (omega arith)

-- a list that is seen
pub chain-contents : (es : List Entry) (lists : List (List ℕ)) (l : ℕ) → l < length lists - 1 →
    chain (contents_of_cells es lists) l ≡ map (held_entry_of_number es) (list_at lists l)
chain-contents es lists l lt =
    get_or-map (map (held_entry_of_number es)) (take (length lists - 1) lists) l []
    ∙ ap (map (held_entry_of_number es)) (get_or-take (length lists - 1) lists l [] lt)

-- a sum over all lists, the last of which is not seen
pub sum-in_use : (f : List ℕ → ℕ) (lists : List (List ℕ)) → 0 < length lists
    → sum_by f (lists_in_use lists) + f (list_at lists (length lists - 1)) ≡ sum_by f lists
sum-in_use f lists lt =
    let n = length lists - 1 in
    omega (
      arith,
      sum_by_more f lists n [] (omega (arith, lt)),
      ap (sum_by f) (take_all (n + 1) lists (omega (arith, lt))),
    )

-- a list is written that is seen
pub contents-set : (es : List Entry) (lists : List (List ℕ)) (l : ℕ) (ys : List ℕ) → l < length lists - 1
    → contents_of_cells es (set lists l ys) ≡ set (contents_of_cells es lists) l (map (held_entry_of_number es) ys)
contents-set es lists l ys lt =
    rw (length-set lists l ys, take-set-lt (length lists - 1) lists l ys lt)
    (map-set (map (held_entry_of_number es)) (lists_in_use lists) l ys)

-- the free list is written
pub contents-set_free : (es : List Entry) (lists : List (List ℕ)) (l : ℕ) (ys : List ℕ) → length lists - 1 ≤ l
    → contents_of_cells es (set lists l ys) ≡ contents_of_cells es lists
contents-set_free es lists l ys le =
    rw (length-set lists l ys, take-set-le (length lists - 1) lists l ys le) refl

-- a cell comes behind a list that is seen
contents-appended : (es : List Entry) (lists : List (List ℕ)) (l c : ℕ) → l < length lists - 1
    → contents_of_cells es (after_append lists l (c ∷ []))
    ≡ after_push (contents_of_cells es lists) l (record { 0 = c }) (get_or es c no_entry)
contents-appended es lists l c lt =
    contents-set es lists l (list_at lists l ++ c ∷ []) lt
    ∙ rw (map-append (held_entry_of_number es) (list_at lists l) (c ∷ []), chain-contents es lists l lt) refl

-- ---- what a whole store tells of a cell

-- the lists are as many as their headers
pub length-lists : (s : List Node) (r : List Header) → length (lists_of s r) ≡ length r
length-lists s r = length-map r (cells_of s)

-- the place of a cell that names a list in use
record Standing (s : List Node) (r : List Header) (cell : Cell) : Type 0 where
  before : List ℕ
  behind : List ℕ
  listed : (node_at s cell.0).owner < length (lists_of s r) - 1
  is : list_at (lists_of s r) (node_at s cell.0).owner ≡ before ++ cell.0 ∷ behind
  seam : Seam (content_at s r) (node_at s cell.0).owner (map (held_entry_of_number (entries_of s)) before)
      (map (held_entry_of_number (entries_of s)) behind) cell (node_at s cell.0).entry
  once : times cell.0 before + times cell.0 behind ≡ 0

standing : {s : List Node} {r : List Header} (cell : Cell) → IsWholeArray s r → cell.0 < length s
    → (node_at s cell.0).owner < length r - 1 → Standing s r cell
standing {s} {r} cell i lt listed =
    let lists = lists_of s r in
    let es = entries_of s in
    let l = (node_at s cell.0).owner in
    let one = stands_in s r lists cell.0 i.store lt in
    let parts = split_at cell.0 (list_at lists l) (omega (arith, one)) in
    let xs = parts.0 in
    let zs = parts.1 in
    let l_in : l < length lists - 1 = omega (arith, listed, length-lists s r) in
    record {
      before = xs;
      behind = zs;
      listed = l_in;
      is = parts.2;
      seam = seam (content_at s r) l _ _ cell (node_at s cell.0).entry ((IsSound-from_whole s r i).once cell)
          (chain-contents es lists l l_in ∙ ap (map (held_entry_of_number es)) parts.2
          ∙ map-append (held_entry_of_number es) xs (cell.0 ∷ zs)
          ∙ ap (λ e. map (held_entry_of_number es) xs ++ (cell, e) ∷ map (held_entry_of_number es) zs)
          (entry_is s cell.0));
      once = omega (arith, one, ap (times cell.0) parts.2, times-append cell.0 xs (cell.0 ∷ zs), times-head cell.0 zs);
    }

-- a cell that names a list in use
pub used : {s : List Node} {r : List Header} (cell : Cell) (node : Node) → IsWholeArray s r → cell.0 < length s
    → node ≡ node_at s cell.0 → node.owner < length r - 1 → IsUsed s r cell node
used {s} {r} cell node i lt same listed =
    let C = content_at s r in
    let l = (node_at s cell.0).owner in
    let own = ap (λ (t : Node). t.owner) same in
    let p = standing cell i lt (omega (arith, listed, own)) in
    let once = (IsSound-from_whole s r i).once cell in
    let in_lists : l < length (lists_of s r) = omega (arith, p.listed) in
    let links = rw p.is at (i.store.ends.each l in_lists).links in
    let next = (Linked-right s None p.before (cell.0 ∷ p.behind) None links).1 in
    record {
      inside = lt;
      same = same;
      listed = listed;
      used = uses-stands p.seam.stands;
      list = list_of-at C l _ cell _ once p.seam.stands ∙ ap Some (sym own);
      entry = entry_of-at C l _ cell _ once p.seam.stands ∙ ap (λ (t : Node). Some t.entry) (sym same);
      next = p.seam.next ∙ first-entries (entries_of s) p.behind
          ∙ ap cell_of_number (sym next ∙ ap (λ (t : Node). t.next) (sym same));
    }

-- no list in use names a cell that names none
unused_uses : {s : List Node} {r : List Header} (cell : Cell) → IsWholeArray s r
    → (cell.0 < length s → length r - 1 ≤ (node_at s cell.0).owner) → use_count (content_at s r) cell ≡ 0
unused_uses {s} {r} cell i h =
    let lists = lists_of s r in
    let c = cell.0 in
    let parts = is_partition s r lists i.store in
    let sum = uses-entries (entries_of s) cell (lists_in_use lists) in
    elim (leb_tells (length s) c) [
      | inl w ↦ omega (arith, sum, sum_by-take-le (times c) lists (length lists - 1), parts.only c w.1)
      | inr w ↦
          let one = stands_in s r lists c i.store w.1 in
          let l_in = list_at-in lists (node_at s c).owner c (omega (arith, one)) in
          let last : (node_at s c).owner ≡ length lists - 1 = omega (arith, l_in, h w.1, length-lists s r) in
          omega (
            arith,
            sum,
            sum-in_use (times c) lists (omega (arith, l_in)),
            parts.once c w.1,
            ap (λ n. times c (list_at lists n)) last,
            one,
          )
    ]

-- a cell that names none
pub unused : {s : List Node} {r : List Header} (cell : Cell) → IsWholeArray s r
    → (cell.0 < length s → length r - 1 ≤ (node_at s cell.0).owner) → IsUnused s r cell
unused {s} {r} cell i h =
    let C = content_at s r in
    let none = unused_uses cell i h in
    record {
      none = none;
      list = list_of-none C cell none;
      entry = entry_of-none C cell none;
      next = next_of-none C cell none;
      unlinked = unlinked-none C cell none;
      replaced = λ e. replaced-none C cell e none;
    }

-- the front of a list
pub record Front (s : List Node) (r : List Header) (l c : ℕ) : Type 0 where
  pub inside : c < length s
  pub owner : (node_at s c).owner ≡ l
  pub behind : List ℕ
  pub is : list_at (lists_of s r) l ≡ c ∷ behind

pub front : {s : List Node} {r : List Header} {c : ℕ} (l : ℕ) → IsWholeArray s r
    → first_or (list_at (lists_of s r) l) None ≡ Some c → Front s r l c
front {s} {r} {c} l i h =
    let lists = lists_of s r in
    let f = first_is (list_at lists l) c h in
    let n = names_in s r lists l c i.store (omega (arith, ap (times c) f.1, times-head c f.0)) in
    record { inside = n.0; owner = n.1; behind = f.0; is = f.1 }
  where
    first_is : (xs : List ℕ) (c : ℕ) → first_or xs None ≡ Some c → (zs : List ℕ) × (xs ≡ c ∷ zs)
    first_is [] c e = absurd (cc)
    first_is (x ∷ xs) c e = let same : x ≡ c = cc in (xs, ap (λ y. y ∷ xs) same)

-- its length
pub len-is : {s : List Node} {r : List Header} (l : ℕ) → IsWholeArray s r → l < length (content_at s r) →
    (header_at r l).count ≡ length (chain (content_at s r) l)
len-is {s} {r} l i lt =
    let lists = lists_of s r in
    let k : l < length lists - 1 = omega (arith, lt, length-contents (entries_of s) lists) in
    (i.store.ends.each l (omega (arith, k))).count
    ∙ sym (ap length (chain-contents (entries_of s) lists l k)
    ∙ length-map (list_at lists l) (held_entry_of_number (entries_of s)))

-- its front
pub front-is : (s : List Node) (r : List Header) (l : ℕ) → l < length (content_at s r)
    → first_cell (chain (content_at s r) l) ≡ cell_of_number (first_or (list_at (lists_of s r) l) None)
front-is s r l lt =
    let lists = lists_of s r in
    ap first_cell (chain-contents (entries_of s) lists l (omega (arith, lt, length-contents (entries_of s) lists)))
    ∙ first-entries (entries_of s) (list_at lists l)

-- the cells that are held and those that are free are all
pub held-is : (s : List Node) (r : List Header) → IsWholeArray s r →
    held_count (content_at s r) + length (list_at (lists_of s r) (length (content_at s r))) ≡ length s
held-is s r i =
    let lists = lists_of s r in
    let size = length-contents (entries_of s) lists in
    omega (
      arith,
      held-entries (entries_of s) (lists_in_use lists),
      sum-in_use length lists (omega (arith, i.free, length-lists s r)),
      i.store.total,
      ap (λ n. length (list_at lists n)) size,
    )

-- ---- what the calls leave

-- an entry is written into a cell
pub content-written : (s : List Node) (r : List Header) (c : ℕ) (e : Entry) → c < length s
    → contents_of_cells (set (entries_of s) c e) (lists_of s r) ≡ after_set (content_at s r) (record { 0 = c }) e
content-written s r c e lt = lists-set (entries_of s) c e (lists_in_use (lists_of s r))
    (omega (arith, lt, length-map s (λ (t : Node). t.entry)))

-- a cell comes from the free list to another, with an entry
pub content-pushed : (s : List Node) (r : List Header) (c to : ℕ) (e : Entry) → c < length s →
    IsUnused s r (record { 0 = c }) → to < length (content_at s r)
    → contents_of_cells (set (entries_of s) c e) (after_transfer (lists_of s r) c (length (content_at s r)) to) ≡
    after_push (content_at s r) to (record { 0 = c }) e
content-pushed s r c to e lt un to_in =
    let lists = lists_of s r in
    let es = entries_of s in
    let f = length (content_at s r) in
    let size = length-contents es lists in
    let xs = cells_without c (list_at lists f) in
    contents-appended (set es c e) (set lists f xs) to c (omega (arith, to_in, size, length-set lists f xs))
    ∙ rw (
      contents-set_free (set es c e) lists f xs (omega (arith, size)),
      content-written s r c e lt,
      un.replaced e,
      get_or-set_same es c e no_entry (omega (arith, lt, length-map s (λ (t : Node). t.entry))),
    ) refl

-- the front of a list comes behind another
pub content-moved : {s : List Node} {r : List Header} {c from : ℕ} (to : ℕ) → IsWholeArray s r → Front s r from c
    → from < length (content_at s r) → to < length (content_at s r) → from ≢ to
    → contents_of_cells (entries_of s) (after_transfer (lists_of s r) c from to) ≡ move (content_at s r) from to
content-moved {s} {r} {c} {from} to i f from_in to_in ne =
    let lists = lists_of s r in
    let es = entries_of s in
    let C = content_at s r in
    let size = length-contents es lists in
    let xs = cells_without c (list_at lists from) in
    let one = stands_in s r lists c i.store f.inside in
    let once = ap (λ n. times c (list_at lists n)) (sym f.owner) ∙ one in
    let less = ap (cells_without c) f.is
    ∙ lacking-split c [] f.behind (omega (arith, once, ap (times c) f.is, times-head c f.behind)) in
    contents-appended es (set lists from xs) to c (omega (arith, to_in, size, length-set lists from xs))
    ∙ rw (
      contents-set es lists from xs (omega (arith, from_in, size)),
      less,
      get_or-set_other C from to (map (held_entry_of_number es) f.behind) [] (λ e. ne (sym e)),
      chain-contents es lists from (omega (arith, from_in, size)),
      f.is,
    ) refl

-- a cell comes to the free list
pub content-unlinked : {s : List Node} {r : List Header} {cell : Cell} {node : Node} → IsWholeArray s r
    → IsUsed s r cell node
    → contents_of_cells (entries_of s) (after_transfer (lists_of s r) cell.0 (node_at s cell.0).owner
    (length (content_at s r)))
    ≡ after_unlink (content_at s r) cell
content-unlinked {s} {r} {cell} i u =
    let lists = lists_of s r in
    let es = entries_of s in
    let C = content_at s r in
    let f = length C in
    let l = (node_at s cell.0).owner in
    let p = standing cell i u.inside (omega (arith, u.listed, ap (λ (t : Node). t.owner) u.same)) in
    let ys = cells_without cell.0 (list_at lists l) in
    let rest = set lists l ys in
    let less = ap (cells_without cell.0) p.is ∙ lacking-split cell.0 p.before p.behind p.once in
    let last : length rest - 1 ≤ f = omega (arith, length-contents es lists, length-set lists l ys) in
    contents-set_free es rest f (list_at rest f ++ cell.0 ∷ []) last
    ∙ contents-set es lists l ys p.listed
    ∙ rw (less, map-append (held_entry_of_number es) p.before p.behind, p.seam.unlinked) refl

-- a list comes to the free list
pub content-emptied : (s : List Node) (r : List Header) (l : ℕ) → l < length (content_at s r)
    → contents_of_cells (entries_of s) (after_splice (lists_of s r) l (length (content_at s r)))
    ≡ after_give_back (content_at s r) l
content-emptied s r l lt =
    let lists = lists_of s r in
    let es = entries_of s in
    let size = length-contents es lists in
    let none = [] in
    let rest = set lists l none in
    contents-set_free es rest (length (content_at s r)) (list_at rest (length (content_at s r)) ++ list_at lists l)
    (omega (arith, size, length-set lists l none))
    ∙ contents-set es lists l none (omega (arith, lt, size))

-- ---- the ends of a store

-- the lists in use are all but one
pub in_use_is : (s : List Node) (r : List Header) → length (content_at s r) ≡ length r - 1
in_use_is s r = omega (arith, length-contents (entries_of s) (lists_of s r), length-lists s r)

-- a list that callers may name has a header
pub in_headers : (s : List Node) (r : List Header) (l : ℕ) → l < length (content_at s r) → l < length r
in_headers s r l lt = omega (arith, lt, in_use_is s r)

-- the free list is empty where all cells are held
pub full-when : {s : List Node} {r : List Header} {n : ℕ} → IsWholeArray s r → n ≡ length (content_at s r)
    → first_or (list_at (lists_of s r) n) None ≡ None → held_count (content_at s r) ≡ length s
full-when {s} {r} {n} i e h = omega (
  arith,
  held-is s r i,
  ap (λ k. length (list_at (lists_of s r) k)) e,
  none_is (list_at (lists_of s r) n) h,
)
  where
    none_is : (xs : List ℕ) → first_or xs None ≡ None → length xs ≡ 0
    none_is [] e = refl
    none_is (x ∷ xs) e = absurd (cc)

-- no list in use names its front
pub front-unused : {s : List Node} {r : List Header} {n c : ℕ} → IsWholeArray s r → n ≡ length (content_at s r)
    → Front s r n c → IsUnused s r (record { 0 = c })
front-unused {s} {r} {c = c} i e f = unused (record { 0 = c }) i (λ _. omega (arith, f.owner, e, in_use_is s r))

-- and it is empty only there
pub not-full : {s : List Node} {r : List Header} {n c : ℕ} → IsWholeArray s r → n ≡ length (content_at s r)
    → Front s r n c → held_count (content_at s r) ≡ length s → ⊥
not-full {s} {r} i e f full =
    omega (arith, full, held-is s r i, ap (λ k. length (list_at (lists_of s r) k)) e, ap length f.is)

-- its count
pub free-is : {s : List Node} {r : List Header} {k : ℕ} → IsWholeArray s r → k ≡ length r →
    (header_at r (k - 1)).count + held_count (content_at s r) ≡ length s
free-is {s} {r} {k} i e =
    let n = length (content_at s r) in
    let same : k - 1 ≡ n = omega (arith, e, in_use_is s r) in
    omega (
      arith,
      ap (λ m. (header_at r m).count) same,
      (i.store.ends.each n (omega (arith, same, e, i.free, length-lists s r))).count,
      held-is s r i,
    )

-- ---- an entry is written

-- what it leaves
pub record Written (s : List Node) (r : List Header) (c : ℕ) (e : Entry) (t : List Node) : Type 0 where
  pub whole : IsWholeArray t r
  pub lists : lists_of t r ≡ lists_of s r
  pub entries : entries_of t ≡ set (entries_of s) c e
  pub owner : (node_at t c).owner ≡ (node_at s c).owner
  pub size : length t ≡ length s

pub written : {s : List Node} {r : List Header} {c : ℕ} {t : Node} (e : Entry) → IsWholeArray s r → t ≡ node_at s c →
    Written s r c e (set s c (record t { entry = e }))
written {s} {r} {c} e i is = rw is made
  where
    f : Node → Node
    f = λ u. record u { entry = e }

    s2 : List Node
    s2 = after_change f s (Some c)

    owners : owners_of s2 ≡ owners_of s
    owners = map-changed (λ u. u.owner) f s (Some c) (λ u. refl)

    store : IsStore s2 r (lists_of s r)
    store = record {
      ends = AreHeaders-agree s s2 r (lists_of s r) (λ m k.
          Linked-agree s s2 None (list_at (lists_of s r) m) None (λ x h. changed-links f s (Some c) x (λ u. refl)
          (λ u. refl)) k) i.store.ends;
      placed = λ l x. i.store.placed l x ∙ sym (ap (λ os. place_by_owner os l x) owners);
      total = i.store.total ∙ sym (length-changed f s (Some c));
    }

    made : Written s r c e s2
    made = record {
      whole = record {
        store = store_found s2 r (lists_of s r) store;
        free = i.free;
        few_cells = omega (arith, i.few_cells, length-changed f s (Some c));
        few_lists = i.few_lists;
      };
      lists = lists_is s2 r (lists_of s r) store.ends;
      entries = map-set (λ (u : Node). u.entry) s c (f (node_at s c));
      owner = changed-keeps (λ u. u.owner) f s (Some c) c (λ u. refl);
      size = length-changed f s (Some c);
    }
