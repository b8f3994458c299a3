use Rattle.dsa_check.proofs.reasons.digits_reason.Goals.{In-None}
use Rattle.dsa_check.proofs.reasons.digits_reason.Goals as goal
use Rattle.std.proofs.Common.{rules, ◌≡◌, ◌<◌, ◌≤◌, ◌≢◌, ◌==◌, ℕ, suc, true, false, Some, None}
use Rattle.std.proofs.Common.{refl, not, nat_lt, length, arith}
use Rattle.std.proofs.lemmas.Bool.{Decides.{nat_tests}}
use Rattle.std.proofs.lemmas.Iterator.{Adapters.{YieldsList-from_bytes}, Search.{position_from_yields_List}}
use Rattle.std.specs.Char.{is_ascii_hexdigit}
use Rattle.dsa_check.specs.Reasons.{first_no_digit}
use borrow.Author.Tests.{tests}

beyond : (m n : ℕ) → m < n → nat_lt m n ≡ true
beyond m n h = grind (arith, nat_tests)

within : (m n : ℕ) → n ≤ m → nat_lt m n ≡ false
within m n h = grind (arith, nat_tests)

odd : (n : ℕ) → n ≡ 1 → (n == 1) ≡ true
odd n h = grind (arith, nat_tests)

even : (n : ℕ) → n ≢ 1 → (n == 1) ≡ false
even n h = grind (arith, nat_tests)

pub returns-in-Some : goal.returns-in-Some
returns-in-Some c =
    let place : Some c.in-Some.before ≡ first_no_digit c.args.text.now =
    position_from_yields_List (λ byte. not (is_ascii_hexdigit byte)) _ _ (Some c.in-Some.before) c.in-Some.ensures.ran
    (YieldsList-from_bytes c.args.text.now cc) (λ x b q k. search (rules, tests)) in
    let next : suc c.in-Some.before ≡ c.saturating_add.result =
    omega (arith, c.in-Some.ensures.bound, c.bytes.ensures.len) in
    rw (← place, next) refl

-- no character is the first that is no digit
all_digits : (c : In-None) → None ≡ first_no_digit c.args.text.now
all_digits c = position_from_yields_List (λ byte. not (is_ascii_hexdigit byte)) _ _ None c.in-None.ensures.ran
    (YieldsList-from_bytes c.args.text.now cc) (λ x b q k. search (rules, tests))

pub returns-in-None : goal.returns-in-None
returns-in-None c =
    rw (← all_digits (goal.at.returns-in-None c).In-None, beyond 128 _ c.if-count-gt-MOST_DIGITS.true) refl

pub returns-in-None-2 : goal.returns-in-None-2
returns-in-None-2 c =
    rw (← all_digits (goal.at.returns-in-None-2 c).In-None, within 128 (length c.args.text.now) (omega (arith, c.if-count-gt-MOST_DIGITS.false)), odd _ c.if-count-eq1.true) refl

pub returns-in-None-3 : goal.returns-in-None-3
returns-in-None-3 c =
    rw (← all_digits (goal.at.returns-in-None-3 c).In-None, within 128 (length c.args.text.now) (omega (arith, c.if-count-gt-MOST_DIGITS.false)), even _ c.if-count-eq1.false) refl
