-- Worlds that are stored by their keys.
use Rattle.std.specs.Prelude.{◌≡◌, ◌⊎◌, ℕ, ◌+◌, ◌-◌, ◌<◌, ◌≤◌, List, [], ◌∷◌, ◌++◌, length, map, Some, slice_get}
use Rattle.std.specs.Prelude.{unwrap_or, Contains}
use Rattle.dsa_explore.specs.declared.halting.Halt.{Halt, TheVariants.{States, KeyBytes}}
use Rattle.dsa_explore.specs.declared.stored.{Node.{Node}, Search.{Search}, Try.{Try}}

-- the levels of the worlds that are stored
abbrev pub node_levels : Search → List ℕ
node_levels search = map (λ (node : Node). node.level) search.nodes.items

-- the level of the world that was stored last
abbrev pub last_level : List ℕ → ℕ
last_level levels = unwrap_or (slice_get levels (length levels - 1)) 0

-- the key was there under this number
pub record IsOldKey (old : Search) (key : List ℕ) (number : ℕ) (new : Search) : Type 0 where
  pub is : slice_get old.seen.strings number ≡ Some key
  pub keys : new.seen.strings ≡ old.seen.strings
  pub nodes : new.nodes.items ≡ old.nodes.items

-- it came in under this number, at the front, by this try from the world of the number of its parent
pub record IsNewKey (old : Search) (key : List ℕ) (parent : ℕ) (tried : Try) (number : ℕ) (new : Search) : Type 0 where
  pub is : number ≡ length old.seen.strings
  pub keys : new.seen.strings ≡ old.seen.strings ++ key ∷ []
  pub nodes : new.nodes.items
      ≡ old.nodes.items ++ record { parent = parent; tried = tried; level = old.front } ∷ []

-- the key has this number, and came in if it was not there
abbrev pub IsStoredAt : Search → List ℕ → ℕ → Try → ℕ → Search → Type 0
IsStoredAt old key parent tried number new = IsOldKey old key number new ⊎ IsNewKey old key parent tried number new

-- why the key did not come in
abbrev pub HasNoPlace : Search → List ℕ → Halt → Type 0
HasNoPlace old key States = ¬ (Contains old.seen.strings key) × (length old.seen.strings ≡ old.seen.most)
HasNoPlace old key KeyBytes = old.seen.width < length key
HasNoPlace old key halt = ⊥

-- it did not come in, and why
pub record IsUnstored (old : Search) (key : List ℕ) (halt : Halt) (new : Search) : Type 0 where
  pub why : HasNoPlace old key halt
  pub seen : new.seen ≡ old.seen
  pub nodes : new.nodes ≡ old.nodes

-- the front moves to the level behind this one, and nothing else changes
pub record IsAdvanced (old : Search) (level : ℕ) (new : Search) : Type 0 where
  pub before : old.front ≤ level + 1
  pub changed : new ≡ record old { front = level + 1 }
