-- Each cell of the array stands once, in the list whose number it bears.
use Rattle.std.proofs.Common.{◌≡◌, ℕ, zero, suc, ◌≢◌, List, [], ◌∷◌, length, get_or, sum_by, refl, ◌∙◌, arith}
use Rattle.std.proofs.lemmas.{Bool.Decides.{nat_tests}, List.Sums.{sum_by-cons}}
use Rattle.std.proofs.Math.ListN.{get_or-map, length-map}
use Rattle.dsa_cells.specs.{declared.links.{Node.{Node}, Header.{Header}}, Array.{node_at, no_node, owners_of}}
use Rattle.dsa_cells.specs.{Partition.{times, list_at, IsPartition}, Invariant.{IsStore}}

-- the number of its list is read of a cell
pub owner_is : (s : List Node) (x : ℕ) → get_or (owners_of s) x 0 ≡ (node_at s x).owner
owner_is s x = get_or-map (λ (t : Node). t.owner) s x no_node

-- each cell has one
pub length-owners : (s : List Node) → length (owners_of s) ≡ length s
length-owners s = length-map s (λ (t : Node). t.owner)

-- a sum of which all terms but one are 0
sum-one : (c : ℕ) (lists : List (List ℕ)) (l : ℕ) → ((m : ℕ) → m ≢ l → times c (list_at lists m) ≡ 0)
    → sum_by (times c) lists ≡ times c (list_at lists l)
sum-one c [] l h = refl
sum-one c (xs ∷ lists) zero h =
    omega (
      arith,
      sum_by-cons (times c) xs lists,
      h (suc (length lists)) (λ e. omega (arith, e)),
      sum-one c lists (length lists) (λ m ne. h (suc m) (λ e. omega (arith, e))),
    )
sum-one c (xs ∷ lists) (suc l) h =
    omega (
      arith,
      sum_by-cons (times c) xs lists,
      h 0 (λ e. omega (arith, e)),
      sum-one c lists l (λ m ne. h (suc m) (λ e. ne (omega (arith, e)))),
    )

-- the lists of a store share its cells out
pub is_partition : (s : List Node) (r : List Header) (lists : List (List ℕ)) → IsStore s r lists →
    IsPartition (length s) lists
is_partition s r lists st = record {
  once = λ c lt.
      let l = (node_at s c).owner in
      sum-one c lists l (λ m ne. grind (arith, nat_tests, st.placed m c, owner_is s c))
      ∙ grind (arith, nat_tests, lt, st.placed l c, owner_is s c, length-owners s);
  only = λ c past.
      sum-one c lists 0 (λ m ne. grind (arith, nat_tests, past, st.placed m c, length-owners s))
      ∙ grind (arith, nat_tests, past, st.placed 0 c, length-owners s);
}
