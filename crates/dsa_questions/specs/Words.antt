-- The words of conditions, and the names of questions.
use Rattle.std.specs.Prelude.{ℕ, ◌&&◌, nat_lt, nat_le, Bool, List, [], ◌∷◌, codes, bytes_eq, length, Option}
use Rattle.std.specs.List.{list_all}
use Rattle.dsa_base.specs.Rows.{first_row}
use Rattle.dsa_named.specs.Names.{is_own_character}
use Rattle.dsa_parties.specs.declared.watches.Became.{Became, TheVariants.{Accepted, Retry, Dropped, Completed}}
use Rattle.dsa_parties.specs.declared.watches.Became.TheVariants.{Successful, Failed, Aborted, Abandoned}
use Rattle.dsa_parties.specs.declared.watches.Replied.{Replied, TheVariants.{Ended, Active, Refused, Finished}}
use Rattle.dsa_parties.specs.declared.watches.Replied.TheVariants.{Nothing, Written, Cleared}
use Rattle.dsa_formulas.specs.declared.formula.Being.{Being, TheVariants.{Held, Waiting}}
use Rattle.dsa_regs.specs.declared.Phase.{Phase, TheVariants.{Off, On, Stopping}}

-- what becomes of an entry, by this word
abbrev pub became_called : List ℕ → Option Became
became_called word = first_row (
    (bytes_eq word (codes "accepted"), Accepted) ∷
    (bytes_eq word (codes "retry"), Retry) ∷
    (bytes_eq word (codes "dropped"), Dropped) ∷
    (bytes_eq word (codes "completed"), Completed) ∷
    (bytes_eq word (codes "successful"), Successful) ∷
    (bytes_eq word (codes "failed"), Failed) ∷
    (bytes_eq word (codes "aborted"), Aborted) ∷
    (bytes_eq word (codes "abandoned"), Abandoned) ∷ [])

-- what a step of an administrator is answered, by this word
abbrev pub replied_called : List ℕ → Option Replied
replied_called word = first_row (
    (bytes_eq word (codes "ended"), Ended) ∷
    (bytes_eq word (codes "active"), Active) ∷
    (bytes_eq word (codes "refused"), Refused) ∷
    (bytes_eq word (codes "finished"), Finished) ∷
    (bytes_eq word (codes "nothing"), Nothing) ∷
    (bytes_eq word (codes "written"), Written) ∷
    (bytes_eq word (codes "cleared"), Cleared) ∷ [])

-- how an entry is held, by this word
abbrev pub being_called : List ℕ → Option Being
being_called word = first_row ((bytes_eq word (codes "held"), Held) ∷ (bytes_eq word (codes "waiting"), Waiting) ∷ [])

-- the phase of this word
abbrev pub phase_called : List ℕ → Option Phase
phase_called word = first_row (
    (bytes_eq word (codes "off"), Off) ∷
    (bytes_eq word (codes "on"), On) ∷
    (bytes_eq word (codes "stopping"), Stopping) ∷ [])

-- one to eighty characters that can be shown as they are
abbrev pub is_name : List ℕ → Bool
is_name text = nat_lt 0 (length text) && nat_le (length text) 80 && list_all is_own_character text
