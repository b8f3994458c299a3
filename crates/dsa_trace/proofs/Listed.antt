-- Names in an array, one more at its end.
use Rattle.std.proofs.Common.{◌≡◌, ℕ, List, [], ◌∷◌, ◌++◌, append-nil, refl, sym}
use Rattle.std.specs.Prelude.{codes, decimal}
use Rattle.std.proofs.lemmas.List.{flat_map_more}
use Rattle.dsa_store.specs.Content.{HeldEntry}
use Rattle.dsa_trace.specs.Names.{further_name, entry_names_text}

-- what stands between these names and one more
abbrev pub comma_after : List HeldEntry → List ℕ
comma_after [] = []
comma_after (pair ∷ pairs) = codes ","

-- one name more
pub name_more : (pairs : List HeldEntry) (pair : HeldEntry)
    → entry_names_text pairs ++ (comma_after pairs ++ decimal pair.1.name)
    ≡ entry_names_text (pairs ++ pair ∷ [])
name_more [] pair = sym (append-nil (decimal pair.1.name))
name_more (first ∷ pairs) pair = flat_map_more further_name (decimal first.1.name) pairs pair

-- and what stands behind it
pub comma_more : (pairs : List HeldEntry) (pair : HeldEntry)
    → codes "," ≡ comma_after (pairs ++ pair ∷ [])
comma_more [] pair = refl
comma_more (first ∷ pairs) pair = refl
