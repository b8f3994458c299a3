use Rattle.dsa_conform.proofs.quoted.add_unit.Goals as goal
use Rattle.std.proofs.Common.{arith, ◌≡◌, ◌∙◌, ◌/◌, ◌%◌, ◌<◌, OnOk, string_bytes, Some, false, ap, ap₂, subst, codes}
use Rattle.std.proofs.Common.{ℕ, [], ◌∷◌, get_or}
use Rattle.std.specs.{Fmt.{digit_glyph, styled_digits_output, AppendsText, ◌++?◌}, Char.Escape.{hex_digit_at}}
use Rattle.std.proofs.lemmas.Fmt.{hex_byte}

-- the digits of a byte of a unit, by their places in the unit
digits_at : (unit byte high low : ℕ) → byte / 16 ≡ unit / high % 16 → byte % 16 ≡ unit / low % 16
    → digit_glyph false (byte / 16) ∷ digit_glyph false (byte % 16) ∷ []
    ≡ hex_digit_at high unit ∷ hex_digit_at low unit ∷ []
digits_at unit byte high low a b = ap₂ (λ x y. digit_glyph false x ∷ digit_glyph false y ∷ []) a b

pub returns : goal.returns
returns c =
    let bytes = c.to_be_bytes.result in
    let unit = c.args.unit in
    let small : unit < 65536 = omega (arith, c.ranges.unit.fits) in
    let first : get_or bytes 0 0 ≡ unit / 256 = ap (λ l. get_or l 0 0) c.to_be_bytes.ensures ∙ omega (arith, small) in
    let second : get_or bytes 1 0 ≡ unit % 256 = ap (λ l. get_or l 1 0) c.to_be_bytes.ensures in
    let high : styled_digits_output c.in_radix.result c.laid_out.result
    ≡ Some (hex_digit_at 4096 unit ∷ hex_digit_at 256 unit ∷ []) =
    rw (c.laid_out.ensures, c.in_radix.ensures, first)
    (ap Some (hex_byte false (unit / 256) (omega (arith, small))
    ∙ digits_at unit (unit / 256) 4096 256 (omega (arith, small)) (omega arith))) in
    let low : styled_digits_output c.in_radix-2.result c.laid_out-2.result
    ≡ Some (hex_digit_at 16 unit ∷ hex_digit_at 1 unit ∷ []) =
    rw (c.laid_out-2.ensures, c.in_radix-2.ensures, second)
    (ap Some (hex_byte false (unit % 256) (omega arith)
    ∙ digits_at unit (unit % 256) 16 1 (omega arith) (omega arith))) in
    subst (λ o. OnOk c.write.result (AppendsText (string_bytes c.args.text.now) (string_bytes c.write.new.self) o))
    (ap₂ (λ a b. Some (codes "\\u") ++? (a ++? b)) high low) c.write.ensures.bytes
