-- What holds of every entry.
use Rattle.std.specs.Prelude.{ℕ}
use Rattle.dsa_base.specs.Lists.{In}
use Rattle.dsa_store.specs.Content.{HeldEntry, Content, chain}

-- P holds of each held entry, with the number of its list: first the queues' lists, then what the
-- engines have in progress, then their members (profile)
abbrev pub EachAt : (ℕ → HeldEntry → Type 0) → Content → Type 0
EachAt P content = (list : ℕ) (pair : HeldEntry) → In pair (chain content list) → P list pair
