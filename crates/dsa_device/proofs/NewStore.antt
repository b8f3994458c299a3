-- A store that was made for a device is one of the device's.
use Rattle.std.proofs.Common.{◌≡◌, ◌≤◌, ◌^◌, ℕ, true, List, [], length, replicate, None, refl, ap, ◌∙◌, arith, eq-eqb}
use Rattle.std.proofs.lemmas.{Bool.{le-ltb}, List.{length-replicate, Folds.{sum_by-replicate}}}
use Rattle.dsa_base.specs.Rows.{first_row}
use Rattle.dsa_regs.specs.{declared.Caps.{Caps}, Caps.{check_caps, cell_count, list_count}}
use Rattle.dsa_store.specs.Content.{HeldEntry, Content, held_count}
use Rattle.dsa_device.specs.Made.{is_store_of, opening_table, make_fault, fault_or_memory, opening_fault}
use Rattle.dsa_device.proofs.Opening.{opening-clear}

-- empty lists hold nothing
held-replicate : (n : ℕ) → held_count (replicate n []) ≡ 0
unfolding held_count
held-replicate n = let e = sum_by-replicate {X = List HeldEntry} length n [] in omega (arith, e)

-- empty lists and cells in their numbers
new-is_store_of : (caps : Caps) (cells : ℕ) (content : Content) → content ≡ replicate (list_count caps) []
    → cells ≡ cell_count caps
    → is_store_of caps cells content ≡ true
new-is_store_of caps cells content lists same =
    rw (
      lists,
      same,
      held-replicate (list_count caps),
      length-replicate {A = List HeldEntry} (list_count caps) [],
      eq-eqb (list_count caps) (list_count caps) refl,
      eq-eqb (cell_count caps) (cell_count caps) refl,
    ) refl

-- a device can be made over it
pub new-make_fault : (caps : Caps) (capacity lists count cells : ℕ) (content : Content) → check_caps caps ≡ true
    → capacity ≤ 2 ^ 20 → lists ≡ list_count caps → count ≡ cell_count caps → content ≡ replicate lists []
    → cells ≡ count → make_fault caps capacity cells content ≡ None
new-make_fault caps capacity lists count cells content good small are have empty same =
    let listed : content ≡ replicate (list_count caps) [] =
    empty ∙ ap (λ (n : ℕ). replicate {A = List HeldEntry} n []) are in
    rw (good, le-ltb (2 ^ 20) capacity small, new-is_store_of caps cells content listed (same ∙ have)) refl

-- so all that is left to keep the device from being made is memory
pub only-memory : (caps : Caps) (capacity lists count : ℕ) {cells : ℕ} {content : Content}
    → first_row (opening_table caps capacity) ≡ None → lists ≡ list_count caps → count ≡ cell_count caps
    → content ≡ replicate lists [] → cells ≡ count
    → fault_or_memory caps capacity cells content ≡ opening_fault caps capacity
only-memory caps capacity lists count {cells} {content} none are have empty same =
    let clear = opening-clear caps capacity none in
    rw (new-make_fault caps capacity lists count cells content clear.0 clear.1 are have empty same, none) refl
