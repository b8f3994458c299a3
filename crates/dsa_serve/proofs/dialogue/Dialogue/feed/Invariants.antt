use Rattle.dsa_serve.proofs.dialogue.Dialogue.feed.Given as goal
use Rattle.std.proofs.Common.{◌≡◌, ℕ, Bool, List, ◌++◌, length, string_bytes}
use Rattle.dsa_serve.specs.Dialogue.{Serves}

abbrev pub invariant-lines : goal.invariant-lines
invariant-lines g l =
    (done : List ℕ) × (l.bytes ≡ done ++ l.rest)
    × ((is_friendly : Bool) → (first : List ℕ) → (behind : List ℕ) → (written : List ℕ)
    → Serves is_friendly first behind (written ++ string_bytes l.initial.text) l.initial.self.session
    l.initial.self.kept.items
    → Serves is_friendly first (behind ++ done) (written ++ string_bytes l.text) l.self.session l.self.kept.items)

abbrev pub decreases-lines : goal.decreases-lines
decreases-lines g l = length l.rest
