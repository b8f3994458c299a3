-- A table of strings that were seen: each once, by number.
use Rattle.std.specs.Prelude.{◌≡◌, ℕ, ◌<◌, List, [], ◌∷◌, ◌++◌, length, slice_get, Some, Contains}
use Rattle.dsa_seen.specs.declared.Inserted.{Inserted, TheVariants.{Old, New, Full, TooLong}}

-- the strings by number, how many there may be, and how many bytes each may have
pub record Table : Type 0 where
  pub strings : List (List ℕ)
  pub most : ℕ
  pub width : ℕ

-- no string has two numbers
abbrev pub HasOneNumberEach : List (List ℕ) → Type 0
HasOneNumberEach strings = (i j : ℕ) (string : List ℕ) → slice_get strings i ≡ Some string
    → slice_get strings j ≡ Some string → i ≡ j

-- what an insertion leaves, by its answer
abbrev pub IsInserted : Table → List ℕ → Inserted → Table → Type 0
IsInserted old bytes (Old number) new = (slice_get old.strings number ≡ Some bytes) × (new ≡ old)
IsInserted old bytes (New number) new = ¬ (Contains old.strings bytes) × (number ≡ length old.strings)
    × (new ≡ record old { strings = old.strings ++ bytes ∷ [] })
IsInserted old bytes Full new = ¬ (Contains old.strings bytes) × (length old.strings ≡ old.most) × (new ≡ old)
IsInserted old bytes TooLong new = (old.width < length bytes) × (new ≡ old)
