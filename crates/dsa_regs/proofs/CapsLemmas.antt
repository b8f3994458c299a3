-- Devices within the limits.
use Rattle.std.proofs.Common.{◌≡◌, ℕ, ◌+◌, ◌-◌, ◌^◌, ◌<◌, ◌≤◌, Bool, true, false, cond, nat_lt, IsTrue, refl}
use Rattle.std.proofs.Common.{pow_mono, arith}
use Rattle.std.proofs.lemmas.{Nat.{mul-le}, Bool.{ltb-true, ltb-false, Decides.{nat_tests}}}
use Rattle.dsa_regs.specs.declared.{Caps.{Caps}, layout.ListUse.{ListUse, TheVariants.{Queue, Progress, Members}}}
use Rattle.dsa_regs.specs.Caps.{check_caps, cell_count, list_count, list_number, list_use, HasList}

-- the engines of the largest device
pub engines-bound : (caps : Caps) → IsTrue (check_caps caps) → caps.engines ≤ 64
engines-bound caps h = grind (arith, nat_tests)

-- the places in its queues
pub total_size-bound : (caps : Caps) → check_caps caps ≡ true → caps.total_size ≤ 4096
total_size-bound caps h = grind (arith, nat_tests)

-- and its cells
pub cell_count-bound : (caps : Caps) → IsTrue (check_caps caps) → cell_count caps ≤ 70656
cell_count-bound caps h =
    let size = total_size-bound caps h in
    let engines = engines-bound caps h in
    let slots : caps.slots ≤ 16 = grind (arith, nat_tests) in
    let shift : caps.max_batch_shift ≤ 10 = grind (arith, nat_tests) in
    let members : 2 ^ caps.max_batch_shift ≤ 2 ^ 10 = pow_mono shift in
    let each : caps.slots + 2 ^ caps.max_batch_shift ≤ 1040 = omega arith in
    let all = mul-le caps.engines (caps.slots + 2 ^ caps.max_batch_shift) 64 1040 engines each in
    omega (arith, all, engines)

-- what a list of the device is for: the device has it, and it has that number
pub record IsUse (caps : Caps) (list : ListUse) (n : ℕ) : Type 0 where
  pub has : HasList caps list
  pub number : list_number caps list ≡ n

-- the use that a number is read back to
pub read-back : (caps : Caps) (n : ℕ) → n < list_count caps → IsUse caps (list_use caps n) n
read-back caps n h = on (nat_lt n caps.queues) refl (nat_lt (n - caps.queues) caps.engines) refl
  where
    on : (a : Bool) → nat_lt n caps.queues ≡ a → (b : Bool) → nat_lt (n - caps.queues) caps.engines ≡ b
        → IsUse caps (cond a (Queue n) (cond b (Progress (n - caps.queues))
        (Members (n - caps.queues - caps.engines)))) n
    on true p b q = record { has = ltb-true n caps.queues p; number = refl }
    on false p true q = record {
      has = ltb-true (n - caps.queues) caps.engines q;
      number =
          omega (arith, ltb-false n caps.queues p);
    }
    on false p false q =
        let past = ltb-false n caps.queues p in
        let behind = ltb-false (n - caps.queues) caps.engines q in
        record { has = omega (arith, h, past, behind); number = omega (arith, past, behind) }
