-- What is added to a text, one behind the other.
use Rattle.std.proofs.Common.{◌≡◌, ◌∙◌, List, ℕ, ◌++◌, ap, append_assoc}

-- a text to which these bytes were added, and others behind them
pub behind : (before first second : List ℕ) {one two : List ℕ} → one ≡ before ++ first
    → two ≡ one ++ second → two ≡ before ++ (first ++ second)
behind before first second is more =
    more ∙ ap (λ text. text ++ second) is ∙ append_assoc before first second
