-- A choice of two cases.
use Rattle.std.proofs.Common.{◌⊎◌, inl, inr}

-- one thing follows from either of two
pub either : {A B C : Type 0} → A ⊎ B → (A → C) → (B → C) → C
either (inl a) first second = first a
either (inr b) first second = second b
