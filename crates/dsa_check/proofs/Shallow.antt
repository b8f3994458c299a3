-- The parts of a value nest no deeper than the value.
use Rattle.std.proofs.Common.{◌≡◌, ◌≤◌, ℕ, zero, suc, List, [], ◌∷◌, Ordering, Less, Equal, Greater, sym, subst, arith}
use Rattle.std.specs.{Prelude.{Option, Some, None, IfSome, option_map}, Borrow.{Bor}}
use Rattle.std.specs.List.{All}
use Rattle.std.specs.Ordering.{match_ordering, nat_cmp}
use Rattle.std.specs.Cmp.Lexicographic.{slice_cmp}
use Rattle.serde_json.specs.Data.{Data, null, boolean, number, string, array, object, Members, no_members, member}
use Rattle.serde_json.specs.Data.{depth, items_depth, members_depth}
use Rattle.serde_json.specs.{Find.{get, get_member, as_array}, View.{view, items_view}, declared.value.Value.{Value}}
use Rattle.dsa_check.specs.Places.{IsShallow}

abbrev pub AtMost : ℕ → Option Data → Type 0
AtMost n found = IfSome found (λ d. depth d ≤ n)

at_most_by : (o : Ordering) (n : ℕ) (here rest : Option Data) → AtMost n here → AtMost n rest
    → AtMost n (match_ordering o rest here rest)
at_most_by Less n here rest h k = k
at_most_by Equal n here rest h k = h
at_most_by Greater n here rest h k = k

member_at_most : (key : List ℕ) (n : ℕ) (ms : Members) → members_depth ms ≤ n → AtMost n (get_member key ms)
member_at_most key n no_members h = tt
member_at_most key n (member l d ms) h =
    at_most_by (slice_cmp nat_cmp key l) n (Some d) (get_member key ms) (omega arith)
    (member_at_most key n ms (omega arith))

pub found_at_most : (key : List ℕ) (n : ℕ) (d : Data) → depth d ≤ n → AtMost n (get key d)
found_at_most key n null h = tt
found_at_most key n (boolean b) h = tt
found_at_most key n (number x) h = tt
found_at_most key n (string s) h = tt
found_at_most key n (array ds) h = tt
found_at_most key n (object ms) h = member_at_most key n ms (omega arith)

items_at_most : (n : ℕ) (vs : List Value) → items_depth (items_view vs) ≤ n → All (λ v. depth (view v) ≤ n) vs
items_at_most n [] h k d inside = omega arith
items_at_most n (v ∷ vs) h zero d inside = omega arith
items_at_most n (v ∷ vs) h (suc k) d inside = items_at_most n vs (omega arith) k d (omega arith)

array_at_most : (n : ℕ) (d : Data) (vs : List Value) → Some (items_view vs) ≡ as_array d → depth d ≤ n
    → All (λ v. depth (view v) ≤ n) vs
array_at_most n null vs e h = cc
array_at_most n (boolean b) vs e h = cc
array_at_most n (number x) vs e h = cc
array_at_most n (string s) vs e h = cc
array_at_most n (array ds) vs e h =
    let same : ds ≡ items_view vs = cc in
    items_at_most n vs (rw (← same) (omega arith))
array_at_most n (object ms) vs e h = cc

-- the items of an array at a key
pub items_shallow : (key : List ℕ) (d list : Data) (vs : List Value) → Some list ≡ get key d
    → Some (items_view vs) ≡ as_array list → IsShallow d → All (λ v. IsShallow (view v)) vs
items_shallow key d list vs there is h =
    array_at_most 127 list vs is (subst (AtMost 127) (sym there) (found_at_most key 127 d h))

-- a value that is found at a key
shallow_by : (found : Option (Bor Value)) → IfSome (option_map (λ v. view v.now) found) IsShallow
    → IfSome found (λ v. IsShallow (view v.now))
shallow_by None h = tt
shallow_by (Some v) h = h

pub found_shallow : (key : List ℕ) (d : Data) (found : Option (Bor Value))
    → option_map (λ v. view v.now) found ≡ get key d → IsShallow d → IfSome found (λ v. IsShallow (view v.now))
found_shallow key d found is h = shallow_by found (rw is (found_at_most key 127 d h))
