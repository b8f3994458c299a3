-- The own names of the entries that a line mentions.
use Rattle.std.proofs.Common.{◌≡◌, ◌∙◌, ℕ, List, ◌==◌, ◌||◌, ap, filter}
use Rattle.std.specs.List.{list_any}
use Rattle.dsa_book.specs.{declared.fate.FateRow.{FateRow}, State.{State}}
use Rattle.dsa_scenario.specs.declared.run.Record.{Record}
use Rattle.dsa_chosen.specs.Selected.{is_about}
use Rattle.dsa_named.specs.Names.{Own}
use Rattle.dsa_named_lines.specs.{Awaited.{names_told}, Lines.{named_in}}

-- by these fates and these names, where they are those of the device
pub same-names : (names : List Own) (entry : Record) (s : State) (fates : List FateRow) (told : List ℕ) (found : List Own)
    → fates ≡ s.work.fates → told ≡ names_told entry s
    → found ≡ filter (λ (own : Own). is_about own.0 entry fates || list_any (λ other. other == own.0) told) names
    → found ≡ named_in names entry s
same-names names entry s fates told found same said is =
    is
    ∙ ap (λ l. filter (λ (own : Own). is_about own.0 entry l || list_any (λ other. other == own.0) told) names) same
    ∙ ap (λ l. filter (λ (own : Own). is_about own.0 entry s.work.fates || list_any (λ other. other == own.0) l) names)
    said
