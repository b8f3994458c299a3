-- Bytes, as they are shown.
use Rattle.std.proofs.Common.{◌≡◌, ◌<◌, ℕ, [], ◌∷◌, sym, arith}
use Rattle.std.specs.Char.{encode_utf8}
use Rattle.std.proofs.lemmas.{Str.{encode_ascii}, Bool.Decides.{nat_tests}}
use Rattle.dsa_check.specs.Sources.{shown_byte}

shown_small : (byte : ℕ) → shown_byte byte < 128
shown_small byte = grind (arith, nat_tests)

pub shown_alone : (byte : ℕ) → encode_utf8 (shown_byte byte) ≡ shown_byte byte ∷ []
shown_alone byte = encode_ascii (shown_byte byte) (shown_small byte)
