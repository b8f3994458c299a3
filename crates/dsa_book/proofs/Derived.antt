-- Values of an enum that its derived comparison finds equal are the same, where this holds for the fields of each variant.
use Rattle.std.proofs.Common.{◌≡◌, Bool, true, false, List, [], ◌∷◌, ap}
use Rattle.std.specs.{Prelude.{⊤}, Cmp.Derive.{of_values}}
use mathlib.Core.Logic.{inl, inr}
use denote.Struct.{Field.{Field}, Values.{Values}}
use denote.Enum.{Declared.{Record, Choice, values_one}, Compared.{Each, by}}

-- fields that compare as equal are the same
abbrev pub AreSame : (Fss : List (List Field)) → Each Bool Fss → Type 0
AreSame [] tests = ⊤
AreSame (Fs ∷ Fss) tests = ((x y : Values Fs) → tests.0 x y ≡ true → x ≡ y) × AreSame Fss tests.1

choices : (Fss : List (List Field)) (tests : Each Bool Fss) → AreSame Fss tests → (c d : Choice Fss)
    → by false false Fss tests c d ≡ true → c ≡ d
choices [] tests same c d h = absurd c
choices (Fs ∷ Fss) tests same (inl x) (inl y) h = ap inl (same.0 x y h)
choices (Fs ∷ Fss) tests same (inl x) (inr d) h = absurd cc
choices (Fs ∷ Fss) tests same (inr c) (inl y) h = absurd cc
choices (Fs ∷ Fss) tests same (inr c) (inr d) h = ap inr (choices Fss tests.1 same.1 c d h)

pub same-enum : (N : Record) (tests : Each Bool N.parts) (a b : N.D) → of_values N false false tests a b ≡ true
    → AreSame N.parts tests → a ≡ b
same-enum N tests a b h same = values_one N a b (choices N.parts tests same (N.as_values a) (N.as_values b) h)
