-- Steps that are askable, one after another.
use Rattle.std.proofs.Common.{◌<◌, ◌≤◌, ◌+◌, ℕ, List, drop, get_or, length}
use Rattle.std.proofs.lemmas.List.{drop_all, drop_more}
use Rattle.dsa_book.specs.declared.event.Step.{Step}
use Rattle.dsa_recordings.specs.Reading.{AreAskable, HasWord, HaveWords, IsAskable}

-- steps are askable if their commands have words
abbrev pub Fit : List Step → Type 0
Fit steps = HaveWords steps → AreAskable steps

pub step_more : (steps : List Step) (i : ℕ) (d : Step) → i < length steps
    → (HasWord (get_or steps i d).event → IsAskable (get_or steps i d))
    → (Fit (drop i steps) → Fit steps) → Fit (drop (i + 1) steps) → Fit steps
step_more steps i d inside fits all rest =
    all (rw (drop_more steps i d inside) (λ words. (fits words.0, rest words.1)))

pub steps_end : (steps : List Step) (i : ℕ) → length steps ≤ i → (Fit (drop i steps) → Fit steps) → Fit steps
steps_end steps i past all = all (rw (drop_all i steps past) (λ words. tt))
