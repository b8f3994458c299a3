-- A device as it is made.
use Rattle.std.proofs.Common.{◌≡◌, ℕ, ◌^◌, ◌≤◌, IsTrue, List, [], length, replicate, None, ap, ◌∙◌}
use Rattle.std.proofs.Common.{arith}
use Rattle.std.proofs.lemmas.Bool.{eqb-true, ltb-false, and_parts, not-false}
use Rattle.dsa_base.{specs.Rows.{first_row}, proofs.Tables.{no-row}}
use Rattle.dsa_regs.specs.{declared.Caps.{Caps}, Caps.{check_caps, list_count}}
use Rattle.dsa_store.{specs.Content.{HeldEntry, Content, held_count}, proofs.Lists.{contents-from_held_zero}}
use Rattle.dsa_book.specs.State.{opening_setup}
use Rattle.dsa_queues.specs.Queues.{IsStoreFor}
use Rattle.dsa_engines.specs.Engines.{EnginesState, IsInStep}
use Rattle.dsa_device.specs.Running.{Running, running_at_first, HasRows, IsWholeDevice}
use Rattle.dsa_device.proofs.Anew.{past-opening}
use Rattle.dsa_device.specs.Made.{opening_table, make_table, make_fault}

-- what stands where no cause does
pub record IsClear (c : Caps) (room count : ℕ) (lists : Content) : Type 0 where
  pub caps : IsTrue (check_caps c)
  pub capacity : room ≤ 2 ^ 20
  pub content : lists ≡ replicate (list_count c) []
  pub store : IsStoreFor c count lists
  pub none : held_count lists ≡ 0

empty_lists : (content : Content) (n : ℕ) → held_count content ≡ 0 → length content ≡ n → content ≡ replicate n []
empty_lists content n none long = contents-from_held_zero content none
    ∙ ap (λ (k : ℕ). replicate {A = List HeldEntry} k []) long

-- what stands where no cause but the store can
pub opening-clear : (caps : Caps) (capacity : ℕ) → first_row (opening_table caps capacity) ≡ None
    → IsTrue (check_caps caps) × (capacity ≤ 2 ^ 20)
opening-clear caps capacity h =
    let rows = no-row (opening_table caps capacity) h in (not-false _ rows.0, ltb-false (2 ^ 20) capacity rows.1.0)

pub clear-of : (caps : Caps) (capacity cells : ℕ) (content : Content) → make_fault caps capacity cells content ≡ None
    → IsClear caps capacity cells content
clear-of caps capacity cells content h =
    let rows = no-row (make_table caps capacity cells content) h in
    let store = not-false _ rows.1.1.0 in
    let first = and_parts _ _ store in
    let lists = and_parts _ _ first.0 in
    record {
      caps = not-false _ rows.0;
      capacity = ltb-false (2 ^ 20) capacity rows.1.0;
      content = empty_lists content (list_count caps) (eqb-true _ _ lists.0) (eqb-true _ _ lists.1);
      store = record { lists = eqb-true _ _ lists.1; cells = eqb-true _ _ first.1 };
      none = eqb-true _ _ lists.0;
    }

-- it is whole, where its engines are in step with any store that holds nothing
pub made-whole : (caps : Caps) (capacity cells : ℕ) (engines_state : EnginesState) (content : Content) (d : Running)
    → IsClear caps capacity cells content → d ≡ running_at_first caps capacity
    → ((count : ℕ) (lists : Content) → IsStoreFor caps count lists → held_count lists ≡ 0
    → IsInStep (opening_setup caps) engines_state count lists)
    → IsWholeDevice cells engines_state d
made-whole caps capacity cells engines_state content d clear is in_step = rw is (record {
  past = past-opening caps capacity clear.caps clear.capacity;
  in_step = rw clear.content at (in_step cells content clear.store clear.none);
})

-- and there is a row for each step
pub made-rows : (caps : Caps) (capacity cells rows : ℕ) (content : Content) (d : Running)
    → IsClear caps capacity cells content → d ≡ running_at_first caps capacity → rows ≡ capacity → HasRows rows d
made-rows caps capacity cells rows content d clear is same =
    rw is (omega (arith, same, rw clear.content at clear.none))
