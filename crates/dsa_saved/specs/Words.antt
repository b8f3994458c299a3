-- Numbers of 32 bits as bytes.
use Rattle.std.specs.Prelude.{ℕ, zero, suc, List, [], ◌∷◌, drop, flat_map}
use Rattle.byteorder.specs.Endian.{little_number, little_bytes}

-- the words one after the other, each as four bytes, the least byte first
unfoldable pub bytes_of_words : List ℕ → List ℕ
bytes_of_words words = flat_map (little_bytes 4) words

-- the first words of so many bytes
unfoldable pub words_of : ℕ → List ℕ → List ℕ
words_of zero bytes = []
words_of (suc n) bytes = little_number 4 bytes ∷ words_of n (drop 4 bytes)
