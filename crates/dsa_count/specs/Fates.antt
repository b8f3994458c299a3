-- The line of fates.
use Rattle.std.specs.Prelude.{ℕ, ◌==◌, Bool, true, false, List, ◌++◌, length, codes, decimal, flat_map, count_by}
use Rattle.dsa_base.specs.Numbers.{numbers_below}
use Rattle.dsa_book.specs.declared.fate.{Fate.{Fate, TheVariants.{Completed, Aborted, Abandoned}}, FateRow.{FateRow}}
use Rattle.dsa_book.specs.declared.answer.FinishAnswer.TheVariants.{Done}
use Rattle.dsa_scenario.specs.Lines.{finish_text}
use Rattle.dsa_count.specs.Tallies.{counted_part}
use Rattle.dsa_count.specs.declared.fates.Numbered.{Numbered, TheVariants.{Status, Command}}

-- both ended with the same status, or by a command of the same number, or were abandoned
abbrev pub is_same_fate : Fate → Fate → Bool
is_same_fate (Completed status) (Completed other) = status == other
is_same_fate (Aborted command) (Aborted other) = command == other
is_same_fate Abandoned Abandoned = true
is_same_fate _ _ = false

-- how an entry ended: as the answer to its end, or by the command of this number
abbrev pub end_words : Fate → List ℕ
end_words (Completed status) = finish_text (Done status)
end_words (Aborted command) = codes "aborted " ++ decimal command
end_words Abandoned = codes "abandoned"

-- how many ended so
abbrev pub ended_of : Fate → List FateRow → ℕ
ended_of fate rows = count_by (λ row. is_same_fate fate row.fate) rows

abbrev pub fate_part : List FateRow → Fate → List ℕ
fate_part rows fate = counted_part (ended_of fate rows) (end_words fate)

-- the fate of this status, or by the command of this number
abbrev pub fate_numbered : Numbered → ℕ → Fate
fate_numbered Status number = Completed number
fate_numbered Command number = Aborted number

abbrev pub numbered_part : List FateRow → Numbered → ℕ → List ℕ
numbered_part rows numbered number = fate_part rows (fate_numbered numbered number)

-- those of each status, or of each command, in ascending order
unfoldable pub numbered_parts : List FateRow → Numbered → List ℕ
numbered_parts rows numbered = flat_map (numbered_part rows numbered) (numbers_below 256)

-- how many entries ended, and how: by statuses, by the commands that removed them, and abandoned
unfoldable pub fates_line : List FateRow → List ℕ
fates_line rows =
    codes "fates: " ++ decimal (length rows) ++ codes " ended" ++ numbered_parts rows Status
    ++ numbered_parts rows Command ++ fate_part rows Abandoned ++ codes "\n"
