-- How many random walks were made.
use Rattle.std.specs.Prelude.{ℕ, List, [], ◌++◌, codes, decimal}
use Rattle.dsa_event_text.specs.Text.{count_text}

-- the last line of the table: how many walks, how many steps in all, and the most of one walk (profile)
abbrev pub walks_line : ℕ → ℕ → ℕ → List ℕ
walks_line walks steps depth =
    count_text [] walks (codes "walk") (codes "walks") ++ count_text (codes ", ") steps (codes "step") (codes "steps")
    ++ codes ", depth " ++ decimal depth ++ codes ", sampled\n"

-- the last object (profile)
abbrev pub walks_object : ℕ → ℕ → ℕ → List ℕ
walks_object walks steps depth =
    codes "{\"walks\":" ++ decimal walks ++ codes ",\"steps\":" ++ decimal steps ++ codes ",\"depth\":" ++ decimal depth
    ++ codes ",\"complete\":false}\n"
