-- What is made of some steps, and of one step more.
use Rattle.std.proofs.Common.{◌≡◌, ◌<◌, ◌+◌, ℕ, List, [], ◌∷◌, ◌++◌, drop, get_or, length, refl}
use Rattle.std.proofs.lemmas.List.{drop_more}
use Rattle.dsa_book.specs.declared.fate.FateRow.{FateRow}
use Rattle.dsa_scenario.specs.Steps.{Visit}
use Rattle.dsa_chrome.specs.Pages.{EventsMade, after_fate, after_ends, made_after, next_made}

pub made-push : (steps : List Visit) (step : Visit) (made : EventsMade)
    → made_after (steps ++ step ∷ []) made ≡ next_made step.number step.entry step.after (made_after steps made)
made-push [] step made = refl
made-push (first ∷ steps) step made = made-push steps step (next_made first.number first.entry first.after made)

-- one end more
pub ended-more : (number : ℕ) (rows : List FateRow) (i : ℕ) (d : FateRow) (old new whole : EventsMade) → i < length rows
    → new ≡ after_fate number (get_or rows i d) old → after_ends number (drop i rows) old ≡ whole
    → after_ends number (drop (i + 1) rows) new ≡ whole
ended-more number rows i d old new whole inside is h =
    let far : after_ends number (get_or rows i d ∷ drop (i + 1) rows) old ≡ whole =
    rw (drop_more rows i d inside) at h in
    rw is far
