-- Parts that are added one after another.
use Rattle.std.proofs.Common.{◌≡◌, ℕ, List, [], ◌++◌, if◌then◌else◌, append_assoc, append-nil}
use Rattle.std.specs.Prelude.{Result, Ok, Err, OnOk, is_ok}

-- a text that is pushed
pub pushed : {T E : Type 0} (r : Result T E) (old text new : List ℕ)
    → new ≡ (if is_ok r then (old ++ text) else old) → OnOk r (new ≡ old ++ text)
pushed (Ok x) old text new h = h
pushed (Err e) old text new h = tt

-- members after one another
pub four : (text a b c d : List ℕ)
    → (((text ++ a) ++ b) ++ c) ++ d ≡ text ++ (a ++ (b ++ (c ++ (d ++ []))))
four text a b c d = simp (append_assoc, append-nil)

pub five : (text a b c d e : List ℕ)
    → ((((text ++ a) ++ b) ++ c) ++ d) ++ e ≡ text ++ (a ++ (b ++ (c ++ (d ++ (e ++ [])))))
five text a b c d e = simp (append_assoc, append-nil)

pub eight : (text a b c d e f g h : List ℕ)
    → (((((((text ++ a) ++ b) ++ c) ++ d) ++ e) ++ f) ++ g) ++ h
    ≡ text ++ (a ++ (b ++ (c ++ (d ++ (e ++ (f ++ (g ++ (h ++ []))))))))
eight text a b c d e f g h = simp (append_assoc, append-nil)

-- an object of eight members, of which the first comes with the brace
pub object_of_eight : (text brace a b c d e f g h end : List ℕ)
    → ((((((((text ++ (brace ++ a)) ++ b) ++ c) ++ d) ++ e) ++ f) ++ g) ++ h) ++ end
    ≡ text ++ (brace ++ ((a ++ (b ++ (c ++ (d ++ (e ++ (f ++ (g ++ (h ++ [])))))))) ++ end))
object_of_eight text brace a b c d e f g h end = simp (append_assoc, append-nil)

-- a value in quotes after its key
pub quoted : (text key quote value : List ℕ)
    → (((text ++ key) ++ quote) ++ value) ++ quote ≡ text ++ (key ++ (quote ++ (value ++ quote)))
quoted text key quote value = simp append_assoc

-- parts, of which each is added to the text before it, and one is a key and a number
pub seven : (text a b key n d e f : List ℕ) {first second third fourth fifth whole : List ℕ}
    → first ≡ text ++ a → second ≡ first ++ b → third ≡ second ++ (key ++ n) → fourth ≡ third ++ d
    → fifth ≡ fourth ++ e → whole ≡ fifth ++ f
    → whole ≡ text ++ (a ++ b ++ key ++ n ++ d ++ e ++ f)
seven text a b key n d e f p q r s t u = rw (u, t, s, r, q, p) (simp append_assoc)
