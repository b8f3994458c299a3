-- A text without its last character.
use Rattle.std.proofs.Common.{◌≡◌, ◌<◌, ◌+◌, ◌-◌, ◌∙◌, ℕ, List, [], ◌∷◌, ◌++◌, String, string_bytes, take, get_or, length, ap}
use Rattle.std.proofs.Common.{arith}
use Rattle.std.specs.String.{string_len}
use Rattle.std.specs.declared.alloc.Global.{Global}
use Rattle.std.proofs.Math.Seq.{get_or-append_seam, take-append_seam}
use Rattle.std.proofs.lemmas.List.{length-append}

-- bytes that end with a line feed, and then lose their end
front : (old new bytes : List ℕ) (len : ℕ) → len ≡ length old → old ≡ bytes ++ 10 ∷ []
    → (0 < len → get_or old (len - 1) 0 < 128 → new ≡ take (len - 1) old) → new ≡ bytes
front old new bytes len counts is popped =
    let all : len ≡ length bytes + 1 = counts ∙ ap length is ∙ length-append bytes (10 ∷ []) in
    let before : len - 1 ≡ length bytes = omega (arith, all) in
    let last : get_or old (len - 1) 0 < 128 =
    rw (is, before, get_or-append_seam bytes 10 [] 0) (omega arith) in
    popped (omega (arith, all)) last ∙ rw (is, before) (take-append_seam bytes (10 ∷ []))

-- the same of a text
pub without_end : (old new : String Global) (bytes : List ℕ) → string_bytes old ≡ bytes ++ 10 ∷ []
    → (0 < string_len old → get_or (string_bytes old) (string_len old - 1) 0 < 128
    → string_bytes new ≡ take (string_len old - 1) (string_bytes old))
    → string_bytes new ≡ bytes
without_end old new bytes is popped =
    front (string_bytes old) (string_bytes new) bytes (string_len old) old.bytes.ok.0 is popped
