-- A new store: every cell is in the free list.
use Rattle.std.proofs.Common.{◌≡◌, ℕ, zero, suc, ◌+◌, ◌-◌, ◌^◌, ◌<◌, Bool, true, false, List, [], ◌∷◌, ◌++◌, length}
use Rattle.std.proofs.Common.{map, replicate, Option, None, Some, get_or, cond, ltb, leb, ◌&&◌, ◌==◌, refl, sym}
use Rattle.std.proofs.Common.{ap, ◌∙◌, arith, length-append}
use Rattle.std.proofs.lemmas.{Bool.Decides.{nat_tests}, Grind.{common_steps}}
use Rattle.std.proofs.lemmas.List.{length-replicate, Sums.{sum_by-append}, Folds.{sum_by-replicate}}
use Rattle.std.proofs.Math.Seq.{take-append_seam}
use Rattle.dsa_store.specs.Content.{HeldEntry, Content}
use Rattle.dsa_cells.specs.{declared.links.{Node.{Node}, Header.{Header}}, Array.{owners_of, entries_of, no_header}}
use Rattle.dsa_cells.specs.Partition.{first_or, last_or, Linked, times, IsHeader, lists_of}
use Rattle.dsa_cells.specs.Invariant.{place_by_owner, IsStore, IsWholeArray}
use Rattle.dsa_cells.specs.Content.{held_entry_of_number, content_at}
use Rattle.dsa_cells.specs.{Fresh.{AreFresh, fresh_header}, Owners.{length-owners, owner_is}}
use Rattle.dsa_cells.proofs.Joining.{lists_is, store_found}

-- m numbers from a on
abbrev pub upto : ℕ → ℕ → List ℕ
upto a zero = []
upto a (suc m) = a ∷ upto (suc a) m

length-upto : (a m : ℕ) → length (upto a m) ≡ m
length-upto a zero = refl
length-upto a (suc m) = ap suc (length-upto (suc a) m)

last_or-upto : (a m : ℕ) (p : Option ℕ) → last_or (upto a (suc m)) p ≡ Some (a + m)
last_or-upto a zero p = ap Some (omega arith)
last_or-upto a (suc m) p = last_or-upto (suc a) m (Some a) ∙ ap Some (omega arith)

times-upto : (c a m : ℕ) → times c (upto a m) ≡ cond (leb a c && ltb c (a + m)) 1 0
times-upto c a zero = grind (arith, nat_tests)
times-upto c a (suc m) = grind (arith, nat_tests, times-upto c (suc a) m)

-- a list of equal elements and one more behind them
get_or-last : {X : Type 0} (k l : ℕ) (x y : X) → get_or (replicate k x ++ y ∷ []) l x ≡ cond (l == k) y x
get_or-last k l x y = grind (arith, common_steps, length-replicate k x)

length-last : {X : Type 0} (k : ℕ) (x y : X) → length (replicate k x ++ y ∷ []) ≡ k + 1
length-last k x y = omega (arith, length-append (replicate k x) (y ∷ []), length-replicate k x)

Linked-upto : (s : List Node) (n list a m : ℕ) (p : Option ℕ) → AreFresh s n list n → a + m ≡ n →
    p ≡ cond (ltb 0 a) (Some (a - 1)) None
    → Linked s p (upto a m) None
Linked-upto s n list a zero p f e q = tt
Linked-upto s n list a (suc m) p f e q =
    let here = f.each a (omega (arith, e)) in (
      ap (λ (t : Node). t.previous) here ∙ sym q,
      ap (λ (t : Node). t.next) here ∙ next_one a m n e,
      Linked-upto s n list (suc a) m (Some a) f (omega (arith, e)) (back_one a),
    )
  where
    next_one : (a m n : ℕ) → a + suc m ≡ n → cond (ltb a (n - 1)) (Some (a + 1)) None ≡ first_or (upto (suc a) m) None
    next_one a zero n e = grind (arith, nat_tests, e)
    next_one a (suc m) n e = grind (arith, nat_tests, e)

    back_one : (a : ℕ) → Some a ≡ cond {A = Option ℕ} (ltb 0 (suc a)) (Some (suc a - 1)) None
    back_one a = let e : suc a - 1 ≡ a = omega arith in grind (arith, nat_tests, e)

-- the lists of a new store
abbrev pub fresh_lists : ℕ → ℕ → List (List ℕ)
fresh_lists n lists = replicate lists [] ++ upto 0 n ∷ []

-- their headers
abbrev pub fresh_headers_of : ℕ → ℕ → List Header
fresh_headers_of n lists = replicate lists no_header ++ fresh_header n ∷ []

IsHeader-fresh : (s : List Node) (n list : ℕ) → AreFresh s n list n → IsHeader s (fresh_header n) (upto 0 n)
IsHeader-fresh s zero list f = record { head = refl; tail = refl; count = refl; links = tt }
IsHeader-fresh s (suc n) list f = record {
  head = first_one n;
  tail = last_one n ∙ sym (last_or-upto 0 n None);
  count = sym (length-upto 0 (suc n));
  links = Linked-upto s (suc n) list 0 (suc n) None f (omega arith) refl;
}
  where
    first_one : (n : ℕ) → cond {A = Option ℕ} (ltb 0 (suc n)) (Some 0) None ≡ Some 0
    first_one n = grind (arith, nat_tests)

    last_one : (n : ℕ) → cond {A = Option ℕ} (ltb 0 (suc n)) (Some (suc n - 1)) None ≡ Some (0 + n)
    last_one n = let e : suc n - 1 ≡ 0 + n = omega arith in grind (arith, nat_tests, e)

store-fresh : (s : List Node) (n lists : ℕ) → AreFresh s n lists n →
    IsStore s (fresh_headers_of n lists) (fresh_lists n lists)
store-fresh s n lists f = record {
  ends = record {
    sizes = length-last lists no_header (fresh_header n) ∙ sym (length-last lists no_cells (upto 0 n));
    each = λ l lt. rw (get_or-last lists l no_header (fresh_header n), get_or-last lists l no_cells (upto 0 n))
        (by_test (l == lists));
  };
  placed = λ l c. ap (times c) (get_or-last lists l no_cells (upto 0 n)) ∙ placed l c;
  total = omega (
    arith,
    sum_by-append length (replicate lists no_cells) (upto 0 n ∷ []),
    sum_by-replicate length lists no_cells,
    length-upto 0 n,
    f.size,
  );
}
  where
    no_cells : List ℕ
    no_cells = []

    by_test : (b : Bool) → IsHeader s (cond b (fresh_header n) no_header) (cond b (upto 0 n) no_cells)
    by_test true = IsHeader-fresh s n lists f
    by_test false = record { head = refl; tail = refl; count = refl; links = tt }

    owner : (c : ℕ) → c < n → get_or (owners_of s) c 0 ≡ lists
    owner c lt = owner_is s c ∙ ap (λ (t : Node). t.owner) (f.each c lt)

    placed : (l c : ℕ) → times c (cond (l == lists) (upto 0 n) no_cells) ≡ place_by_owner (owners_of s) l c
    placed l c =
        let size = length-owners s ∙ f.size in
        grind (arith, nat_tests, times-upto c 0 n, size, owner c)

-- a new store is whole
pub sound-fresh : (s : List Node) (r : List Header) (n lists : ℕ) → AreFresh s n lists n →
    r ≡ fresh_headers_of n lists → n < 2 ^ 32
    → lists < 2 ^ 16 → IsWholeArray s r
sound-fresh s r n lists f e few few2 =
    let size = ap length e ∙ length-last lists no_header (fresh_header n) in
    record {
      store = rw e (store_found s (fresh_headers_of n lists) (fresh_lists n lists) (store-fresh s n lists f));
      free = omega (arith, size);
      few_cells = omega (arith, f.size, few);
      few_lists = omega (arith, size, few2);
    }

-- and its lists are empty
pub content-fresh : (s : List Node) (r : List Header) (n lists : ℕ) → AreFresh s n lists n →
    r ≡ fresh_headers_of n lists
    → content_at s r ≡ replicate lists []
content-fresh s r n lists f e =
    let es = entries_of s in
    let is : lists_of s r ≡ fresh_lists n lists = ap (lists_of s) e
    ∙ lists_is s (fresh_headers_of n lists) (fresh_lists n lists) (store-fresh s n lists f).ends in
    let xss : List (List ℕ) = replicate lists [] in
    let size : length (fresh_lists n lists) - 1 ≡ length xss =
    omega (arith, length-append xss (upto 0 n ∷ [])) in
    rw (is, size, take-append_seam xss (upto 0 n ∷ [])) (none lists)
  where
    none : (k : ℕ) → map (map (held_entry_of_number (entries_of s))) (replicate k []) ≡ replicate k []
    none zero = refl
    none (suc k) = ap (λ (ls : Content). let no_slots : List HeldEntry = [] in no_slots ∷ ls) (none k)
