-- Rows of tables and what they tell, one at a time.
use Rattle.std.proofs.Common.{◌≡◌, Bool, true, false, cond, List, [], ◌∷◌, ◌++◌, Option, Some, None, refl, arith}
use Rattle.std.proofs.lemmas.Grind.{common_steps}
use Rattle.std.specs.{Prelude.{is_some}, List.{find, list_any}, Option.{option_map, option_or}}
use Rattle.dsa_base.specs.Rows.{when, first_row}

-- a row that tells nothing does not stand
pub when-none : {X : Type 0} (b : Bool) (x : X) → when b x ≡ None → b ≡ false
when-none true x h = absurd cc
when-none false x h = refl

pub some-map : {X Y : Type 0} (f : X → Y) (o : Option X) → is_some (option_map f o) ≡ is_some o
some-map f None = refl
some-map f (Some x) = refl

-- what is found is there
pub find-any : {X : Type 0} (p : X → Bool) (xs : List X) → list_any p xs ≡ is_some (find p xs)
find-any p [] = refl
find-any p (x ∷ xs) = grind (arith, common_steps, find-any p xs)

-- the first row of two tables is that of the first, or that of the second
pub row-append : {X : Type 0} (a b : List (Bool × X)) → first_row (a ++ b) ≡ option_or (first_row a) (first_row b)
row-append [] b = refl
row-append {X} (row ∷ a) b = go row.0 (row-append a b)
  where
    go : {rest : Option X} (t : Bool) → rest ≡ option_or (first_row a) (first_row b)
        → cond t (Some row.1) rest ≡ option_or (cond t (Some row.1) (first_row a)) (first_row b)
    go true is = refl
    go false is = is
