-- Values and steps that the worked rows speak of.
use Rattle.std.specs.Prelude.{ℕ, true, List, [], ◌∷◌, map, replicate, codes, Option, option_map, ⊤}
use Rattle.hex.specs.Hex.{decode_pairs, encode_with}
use Rattle.serde_json.specs.Data.{Data, boolean, string, array, object, Members, no_members, member}
use Rattle.serde_json.specs.View.{items_of}
use Rattle.dsa_scenario.specs.Worked.{digits_on_literals, whole}
use Rattle.dsa_expand.specs.{Commands.{word_said}, Steps.{Pair}}
use Rattle.dsa_expand.specs.Descriptors.{descriptor_said, digits_of_descriptor}

-- what the rows unfold to compute texts
unfoldable pub expanded_on_literals : ⊤
unfolding digits_on_literals decode_pairs encode_with
expanded_on_literals = tt

abbrev pub text : List ℕ → Data
text s = string s

-- a list of numbers
abbrev pub list_with : List ℕ → Data
list_with ns = array (items_of (map whole ns))

-- the members in this order, which is that of their keys
abbrev pub members_in : List Pair → Members
members_in [] = no_members
members_in (p ∷ ps) = member p.0 p.1 (members_in ps)

abbrev pub an_object : List Pair → Data
an_object ps = object (members_in ps)

-- the word of a command of this name, in a step with these keys besides
abbrev pub word_with : List Pair → List ℕ → Option ℕ
word_with ps name = word_said (an_object ps) (text name)

abbrev pub operand_at : ℕ → List Pair
operand_at n = (codes "operand", whole n) ∷ []

abbrev pub queues_at : List ℕ → List Pair
queues_at ns = (codes "queues", list_with ns) ∷ []

-- the digits of the descriptor that an object says
abbrev pub digits_said : List Pair → Option (List ℕ)
digits_said ps = option_map digits_of_descriptor (descriptor_said (an_object ps))

-- all names of commands, in the order of their numbers
abbrev pub command_names : List (List ℕ)
command_names =
    codes "enable-device" ∷ codes "disable-device" ∷ codes "drain-all" ∷ codes "abort-all" ∷ codes "reset-device"
    ∷ codes "enable-wq" ∷ codes "disable-wq" ∷ codes "drain-wq" ∷ codes "abort-wq" ∷ codes "reset-wq"
    ∷ codes "drain-pasid" ∷ codes "abort-pasid" ∷ []

-- so many digits 0
abbrev pub zeros : ℕ → List ℕ
zeros n = replicate n 48

-- a submission by MOVDIR64B of such a descriptor
abbrev pub movdir_with : Data → Data
movdir_with desc = an_object ((codes "client", whole 3) ∷ (codes "desc", desc) ∷ (codes "do", text (codes "movdir"))
    ∷ (codes "limited", boolean true) ∷ (codes "note", whole 7) ∷ (codes "queue", whole 1) ∷ [])

-- the end of an entry of this name
abbrev pub finish_named : Data → Data
finish_named name = an_object ((codes "do", text (codes "finish")) ∷ (codes "engine", whole 1)
    ∷ (codes "fault", boolean true) ∷ (codes "name", name) ∷ [])

-- and its strict form
abbrev pub strict_finish : ℕ → List Pair
strict_finish name = (codes "do", text (codes "finish")) ∷ (codes "engine", whole 1) ∷ (codes "name", whole name)
    ∷ (codes "fault", boolean true) ∷ []
