-- What follows a beginning of a text.
use Rattle.std.proofs.Common.{◌≡◌, ◌≢◌, ◌<◌, ◌==◌, ℕ, Bool, true, false, cond, List, [], ◌∷◌, ◌++◌, refl}
use Rattle.std.proofs.Common.{length, rules, arith}
use Rattle.std.specs.Prelude.{bytes_eq}
use Rattle.dsa_conform.specs.Answers.{following}

pub of_beginning : (n rest : List ℕ) → following (n ++ rest) n ≡ rest
of_beginning [] rest = refl
of_beginning (b ∷ bs) rest = rw (of_beginning bs rest) (search rules)

-- one that is not there
other_byte : (c b : ℕ) (cs bs : List ℕ) (is_same : Bool) → c == b ≡ is_same
    → (((rest : List ℕ) → cs ≢ bs ++ rest) → following cs bs ≡ [])
    → ((rest : List ℕ) → c ∷ cs ≢ b ∷ (bs ++ rest)) → cond is_same (following cs bs) [] ≡ []
other_byte c b cs bs false e rest_is h = refl
other_byte c b cs bs true e rest_is h =
    let same : c ≡ b = grind (arith, e) in
    rest_is (λ rest more. h rest (rw (same, more) refl))

pub of_no_beginning : (text n : List ℕ) → ((rest : List ℕ) → text ≢ n ++ rest) → following text n ≡ []
of_no_beginning text [] h = absurd (h text refl)
of_no_beginning [] (b ∷ bs) h = refl
of_no_beginning (c ∷ cs) (b ∷ bs) h = other_byte c b cs bs (c == b) refl (of_no_beginning cs bs) h

-- a text is a beginning and something that follows it
other_rest : (c b : ℕ) (cs bs rest : List ℕ) (is_same : Bool) → c == b ≡ is_same → 0 < length rest
    → bytes_eq (following cs bs) rest ≡ bytes_eq cs (bs ++ rest)
    → bytes_eq (cond is_same (following cs bs) []) rest ≡ bytes_eq (c ∷ cs) (b ∷ (bs ++ rest))
other_rest c b cs bs rest true e some is = rw (e, is) refl
other_rest c b cs bs [] false e some is = absurd (omega (arith, some))
other_rest c b cs bs (d ∷ rest) false e some is = rw e refl

pub of_both : (text n rest : List ℕ) → 0 < length rest → bytes_eq (following text n) rest ≡ bytes_eq text (n ++ rest)
of_both text [] rest some = refl
of_both [] (b ∷ bs) [] some = absurd (omega (arith, some))
of_both [] (b ∷ bs) (d ∷ rest) some = refl
of_both (c ∷ cs) (b ∷ bs) rest some =
    other_rest c b cs bs rest (c == b) refl some (of_both cs bs rest some)
