-- What a text of hex digits leaves in 64 bytes.
use Rattle.std.proofs.Common.{◌≡◌, ◌≤◌, ◌/◌, ◌%◌, ◌++◌, ◌||◌, ℕ, true, false, List, Result, Ok, Err, MatchResult}
use Rattle.std.proofs.Common.{Some, length, drop, replicate, refl, arith, nat_lt}
use Rattle.std.proofs.lemmas.{Bool.{le-ltb}, List.{drop-replicate}}
use Rattle.std.specs.Prelude.{◌==◌}
use Rattle.hex.specs.{Hex.{decode_pairs}, declared.error.FromHexError.{FromHexError}}
use Rattle.hex.proofs.HexLemmas.{decode_pairs-ok}
use Rattle.dsa_scenario.specs.Fields.{hex_bytes_of}

-- the bytes of the digits, with zeros behind them, are what the text says
pub hex_bytes_of-front : (text front out : List ℕ) → length text % 2 ≡ 0 → length text ≤ 128
    → decode_pairs 0 text ≡ Ok front
    → out ≡ front ++ drop (length text / 2) (replicate 64 0) → Some out ≡ hex_bytes_of text
hex_bytes_of-front text front out even short decodes made =
    let twice = (decode_pairs-ok 0 text front decodes).1 in
    let half : length text / 2 ≡ length front = omega (arith, twice) in
    let test : ((length text % 2 == 1) || nat_lt 128 (length text)) ≡ false =
    rw (even, le-ltb 128 (length text) short) refl in
    rw (test, decodes, made, half, drop-replicate {X = ℕ} (length front) 64 0) refl

-- the same by what decoding answers
by_result : (text out : List ℕ) (r : Result (List ℕ) FromHexError) → decode_pairs 0 text ≡ r → length text % 2 ≡ 0
    → length text ≤ 128 → MatchResult r (λ front. (true ≡ true)
    × (out ≡ front ++ drop (length text / 2) (replicate 64 0))) (λ _. true ≡ false)
    → Some out ≡ hex_bytes_of text
by_result text out (Ok front) e even short h = hex_bytes_of-front text front out even short e h.1
by_result text out (Err fault) e even short h = cc h

-- so where decoding is well
pub hex_bytes_of-decoded : (text out : List ℕ) → length text % 2 ≡ 0 → length text ≤ 128
    → MatchResult (decode_pairs 0 text) (λ front. (true ≡ true)
    × (out ≡ front ++ drop (length text / 2) (replicate 64 0))) (λ _. true ≡ false)
    → Some out ≡ hex_bytes_of text
hex_bytes_of-decoded text out even short h = by_result text out (decode_pairs 0 text) refl even short h
