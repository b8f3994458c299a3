-- The labels of bars, as text, and the signs at their ends.
use Rattle.std.specs.Prelude.{ℕ, ◌+◌, ◌-◌, ◌*◌, ◌/◌, ◌==◌, Bool, cond, nat_le, List, [], ◌++◌, length, codes, decimal}
use Rattle.std.specs.Prelude.{Option, Some, None, is_some, option_and_then}
use Rattle.std.specs.Option.{option_or}
use Rattle.dsa_desc.specs.declared.Descriptor.{Descriptor}
use Rattle.dsa_book.specs.declared.fate.Fate.{Fate, TheVariants.{Completed}}
use Rattle.dsa_event_text.specs.Text.{operation_label}
use Rattle.dsa_draw.specs.declared.labels.{Sign.{Sign, TheVariants.{Cross, Slash}}}
use Rattle.dsa_draw.specs.declared.labels.{Detail.{Detail, TheVariants.{Name, Operation, Pasid}}}
use Rattle.dsa_draw.specs.{declared.bars.{Bar.{Bar}, End.{End}}, Pages.{letters_text, xml_text}}

-- ---- signs

-- beside the colour: a cross where the entry was not successful, a slash where it was aborted or abandoned
abbrev pub sign_of_fate : Fate → Option Sign
sign_of_fate (Completed status) = cond (status == 1) None (Some Cross)
sign_of_fate _ = Some Slash

-- while it is held there is none
abbrev pub sign_of : Option End → Option Sign
sign_of end = option_and_then (λ end. sign_of_fate end.fate) end

-- ---- labels

abbrev pub operation_part : Option Descriptor → List ℕ
operation_part None = []
operation_part (Some desc) = codes " " ++ operation_label desc.op

abbrev pub pasid_part : Option Descriptor → List ℕ
pasid_part None = []
pasid_part (Some desc) = codes " PASID " ++ decimal desc.pasid

abbrev pub own_part : Option (List ℕ) → List ℕ
own_part None = []
own_part (Some text) = codes " " ++ text

-- the name of the entry and this own name, with its operation, and with its PASID too
abbrev pub label_with : Option (List ℕ) → Detail → Bar → List ℕ
label_with own Name bar = decimal bar.name ++ own_part own
label_with own Operation bar = decimal bar.name ++ own_part own ++ operation_part bar.desc
label_with own Pasid bar = decimal bar.name ++ own_part own ++ operation_part bar.desc ++ pasid_part bar.desc

-- how many letters have room: each is 6 wide, and 2 before the first are left free
abbrev pub letters_in : ℕ → ℕ
letters_in wide = (wide - 2) / 6

-- a sign takes as much as a letter
abbrev pub sign_letters : Option End → ℕ
sign_letters end = cond (is_some (sign_of end)) 1 0

abbrev pub is_fitting : ℕ → Bar → List ℕ → Bool
is_fitting wide bar label = nat_le (length label + sign_letters bar.end) (letters_in wide)

-- a label, where so much room is enough for it, and else what follows
abbrev pub fitting_label : ℕ → Bar → List ℕ → Option (List ℕ) → Option (List ℕ)
fitting_label wide bar label shorter = cond (is_fitting wide bar label) (Some label) shorter

-- the longest label with this own name that there is room for
abbrev pub longest_label : ℕ → Bar → Option (List ℕ) → Option (List ℕ)
longest_label wide bar own =
    fitting_label wide bar (label_with own Pasid bar)
    (fitting_label wide bar (label_with own Operation bar) (fitting_label wide bar (label_with own Name bar) None))

-- and without it, where there is room for none with it (profile)
abbrev pub label_of : ℕ → Bar → Option (List ℕ) → Option (List ℕ)
label_of wide bar own = option_or (longest_label wide bar own) (longest_label wide bar None)

abbrev pub label_shown : ℕ → ℕ → Option (List ℕ) → List ℕ
label_shown step base None = []
label_shown step base (Some label) = letters_text step base (xml_text label)

-- the label of a bar over these columns, whose entry has this own name
unfoldable pub bar_label_text : Bar → Option (List ℕ) → ℕ → ℕ → ℕ → List ℕ
bar_label_text bar own begin end base = label_shown begin base (label_of (14 * (end - begin)) bar own)
