use Rattle.dsa_scenario.proofs.digits.number_of_digits.Goals as goal
use Rattle.std.proofs.Common.{◌≡◌, ◌∙◌, ◌<◌, ◌^◌, Some, length, refl, ap, subst, sym, arith}
use Rattle.std.proofs.lemmas.{Bool.{eqb-false}, List.{drop_all}}
use Rattle.std.specs.Str.Parse.{AllDigits, digits_value, digits_value_after}
use Rattle.serde_json.specs.Data.{unsigned}
use Rattle.dsa_scenario.proofs.Numbers.{one_digit_more, room_for_digit, fits_in_word, number_of_digits}

pub loop-byte-init : goal.loop-byte-init
loop-byte-init c = (λ h. h, refl, omega arith)

pub overflow_mul-number : goal.overflow_mul-number
overflow_mul-number c =
    let room = room_for_digit c.loop-byte.byte-index c.loop-byte.number (omega arith) c.loop-byte.invariant.2 in
    record { fits = omega (arith, room) }

pub overflow_add-number : goal.overflow_add-number
overflow_add-number c =
    let room = room_for_digit c.loop-byte.byte-index c.loop-byte.number (omega arith) c.loop-byte.invariant.2 in
    let digit = c.if-not-is_ascii_digit.ensures.cases in
    record { fits = omega (arith, room, digit.1) }

pub loop-byte-preserved : goal.loop-byte-preserved
loop-byte-preserved c =
    let digit = c.if-not-is_ascii_digit.ensures.cases in
    one_digit_more c.args.bytes.now c.loop-byte.byte-index c.loop-byte.number 0 c.loop-byte-test.true digit.0 digit.1
    c.loop-byte.invariant

pub returns : goal.returns
returns c =
    let bytes = c.args.bytes.now in
    let read' = c.loop-byte.invariant in
    let none = drop_all c.loop-byte.byte-index bytes c.loop-byte-test.false in
    let digits = read'.0 (subst (AllDigits 10) (sym none) tt) in
    let is : c.loop-byte.number ≡ digits_value 10 bytes =
    ap (digits_value_after 10 c.loop-byte.number) (sym none) ∙ read'.1 in
    let small : c.loop-byte.number < 2 ^ 64 = fits_in_word c.loop-byte.byte-index _ (omega arith) read'.2 in
    let some = eqb-false (length bytes) 0 (sym c.if-is_empty.ensures) in
    number_of_digits bytes (omega (arith, some), digits) (subst (λ n. n < 2 ^ 64) is small)
    ∙ ap (λ n. Some (unsigned n)) (sym is)
