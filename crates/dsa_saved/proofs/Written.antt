-- Words that are read from what was written.
use Rattle.std.proofs.Common.{◌≡◌, ℕ, zero, suc, ◌*◌, ◌^◌, ◌<◌, List, [], ◌∷◌, ◌++◌, length, drop, slice_index}
use Rattle.std.proofs.Common.{refl, sym, ap, ◌∙◌, arith}
use Rattle.std.proofs.lemmas.List.{drop_at, drop-drop, length-append, ext_get_or}
use Rattle.std.specs.List.{flat_map}
use Rattle.byteorder.specs.{Endian.{little_number, little_bytes, IsRead}, Numbers.{little_number-reads_back, length-bytes_low_first}}
use Rattle.dsa_saved.specs.Words.{bytes_of_words, words_of}

-- each number of a list is a word
abbrev pub AreWords : List ℕ → Type 0
AreWords words = (k : ℕ) → slice_index words k < 2 ^ 32

pub length-bytes : (words : List ℕ) → length (bytes_of_words words) ≡ 4 * length words
unfolding bytes_of_words
length-bytes [] = refl
length-bytes (word ∷ words) = let ih = length-bytes words in omega (arith, ih)

-- what was written is read
pub words-read : (words : List ℕ) → AreWords words → words_of (length words) (bytes_of_words words) ≡ words
unfolding bytes_of_words words_of
words-read [] fit = refl
words-read (word ∷ words) fit =
    let rest = bytes_of_words words in
    let first : little_number 4 (little_bytes 4 word ++ rest) ≡ word = little_number-reads_back 4 word rest (fit 0) in
    let later : words_of (length words) (bytes_of_words words) ≡ words = words-read words (λ k. fit (suc k)) in
    rw (first, later) refl

-- what is read word by word
pub words-are : (n : ℕ) (bytes words : List ℕ) → length words ≡ n → IsRead little_number 4 bytes words
    → words ≡ words_of n bytes
unfolding words_of
words-are zero bytes [] size read = refl
words-are zero bytes (word ∷ words) size read = absurd (omega (arith, size))
words-are (suc n) bytes [] size read = absurd (omega (arith, size))
words-are (suc n) bytes (word ∷ words) size read =
    let first : word ≡ little_number 4 bytes = read 0 (omega arith) in
    let later : words ≡ words_of n (drop 4 bytes) =
    words-are n (drop 4 bytes) words (omega (arith, size))
    (λ k within. read (suc k) (omega (arith, within))
    ∙ ap (little_number 4) (ap (λ m. drop m bytes) (omega arith) ∙ sym (drop-drop (4 * k) 4 bytes))) in
    rw (← first, ← later) refl
