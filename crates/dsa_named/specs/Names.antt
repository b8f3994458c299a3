-- Own names of entries: the texts at `as` in the steps that gave the entries their names.
use Rattle.std.specs.Prelude.{◌≡◌, ℕ, ◌==◌, ◌&&◌, ◌||◌, not, cond, nat_le, nat_lt, Bool, List, Option, Some, None}
use Rattle.std.specs.Prelude.{codes, length, option_and_then, slice_get, filter_map}
use Rattle.std.specs.{List.{list_all}, Int.{is_in_range}}
use Rattle.serde_json.specs.Data.{Data}
use Rattle.dsa_scenario.specs.{Fields.{◌>>=◌, text_of}, Run.{ticket_given_by}, Steps.{Visit}}
use Rattle.dsa_scenario.specs.declared.run.Record.{Record}
use Rattle.dsa_named.specs.declared.names.OwnName.{OwnName}

-- a printable character of ASCII, and neither a quotation mark nor a backslash
abbrev pub is_own_character : ℕ → Bool
is_own_character c = is_in_range 0x20 0x7e c && not (c == 0x22 || c == 0x5c)

-- one to forty of them
abbrev pub is_own_text : List ℕ → Bool
is_own_text text = nat_lt 0 (length text) && nat_le (length text) 40 && list_all is_own_character text

-- the own name that a step object has for an entry: such a text at `as` (profile)
abbrev pub own_text : Data → Option (List ℕ)
own_text d = do
  text ← text_of (codes "as") d
  cond (is_own_text text) (Some text) None

-- the name of an entry, and its own name
abbrev pub Own : Type 0
Own = ℕ × List ℕ

-- that of a value of the program
abbrev pub own_of : OwnName → Own
own_of own = (own.name, own.text.now)

-- the own name that the step of this number gave with this record: it is in the step object of this number (profile)
abbrev pub given_at : List Data → ℕ → Record → Option Own
given_at objects number entry = do
  ticket ← ticket_given_by entry
  d ← slice_get objects number
  text ← own_text d
  Some (ticket.name, text)

-- none of the step objects has one
abbrev pub AreNameless : List Data → Type 0
AreNameless objects = (number : ℕ) (d : Data) → slice_get objects number ≡ Some d → own_text d ≡ None

-- the own names that these steps gave, in order (profile)
abbrev pub names_given : List Data → List Visit → List Own
names_given objects steps = filter_map (λ step. given_at objects step.number step.entry) steps
