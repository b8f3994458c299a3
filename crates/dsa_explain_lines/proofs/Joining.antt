-- Texts behind one another.
use Rattle.std.proofs.Common.{◌≡◌, ℕ, List, ◌∷◌, [], ◌++◌, ap, ◌∙◌, ◌+◌, append_assoc, add-one, Bool, false, arith}
use Rattle.std.proofs.lemmas.{Grind.{common_steps}, List.{flat_map_more}}
use Rattle.std.specs.List.{flat_map, list_any}
use Rattle.dsa_base.specs.Numbers.{numbers_below}

-- one text behind another, in two steps
pub behind : (o a b mid new : List ℕ) → mid ≡ o ++ a → new ≡ mid ++ b → new ≡ o ++ (a ++ b)
behind o a b mid new h e = e ∙ ap (λ l. l ++ b) h ∙ append_assoc o a b

-- and in three
pub behind_two : (o a b c mid far new : List ℕ) → mid ≡ o ++ a → far ≡ mid ++ b → new ≡ far ++ c
    → new ≡ o ++ (a ++ b ++ c)
behind_two o a b c mid far new h k e = behind o (a ++ b) c far new (behind o a b mid far h k) e

-- and in four
pub behind_three : (o a b c d mid far end new : List ℕ) → mid ≡ o ++ a → far ≡ mid ++ b → end ≡ far ++ c
    → new ≡ end ++ d → new ≡ o ++ (a ++ b ++ c ++ d)
behind_three o a b c d mid far end new h k m e =
    behind o (a ++ b ++ c) d end new (behind_two o a b c mid far end h k m) e

-- and in five
pub behind_four : (o a b c d f mid far end last new : List ℕ) → mid ≡ o ++ a → far ≡ mid ++ b → end ≡ far ++ c
    → last ≡ end ++ d → new ≡ last ++ f → new ≡ o ++ (a ++ b ++ c ++ d ++ f)
behind_four o a b c d f mid far end last new h k m n e =
    behind o (a ++ b ++ c ++ d) f last new (behind_three o a b c d mid far end last h k m n) e

-- what is told of the numbers below, and of one more
pub told-next : (f : ℕ → List ℕ) (n : ℕ) (o text new : List ℕ) → text ≡ o ++ flat_map f (numbers_below n)
    → new ≡ text ++ f n → new ≡ o ++ flat_map f (numbers_below (n + 1))
told-next f n o text new h e = rw add-one (e ∙ ap (λ l. l ++ f n) h ∙ flat_map_more f o (numbers_below n) n)

-- none of the numbers below passes, nor one more
pub none-next : (p : ℕ → Bool) (n : ℕ) → list_any p (numbers_below n) ≡ false → p n ≡ false
    → list_any p (numbers_below (n + 1)) ≡ false
none-next p n h e = rw add-one (none-behind (numbers_below n) h)
  where
    none-behind : (ns : List ℕ) → list_any p ns ≡ false → list_any p (ns ++ n ∷ []) ≡ false
    none-behind [] h = grind (arith, common_steps, e)
    none-behind (k ∷ ns) h = grind (arith, common_steps, none-behind ns, h)
