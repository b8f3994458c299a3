-- How the strings of a table are stored and found: those with one place are a chain, the last one that came first.
use Rattle.std.specs.Prelude.{◌≡◌, ◌≢◌, ℕ, ◌-◌, ◌*◌, ◌%◌, ◌^◌, ◌<◌, ◌≤◌, List, [], ◌∷◌, take, drop, length, fold}
use Rattle.std.specs.Prelude.{slice_index, slice_index_or, bit_xor, vec_capacity}
use Rattle.dsa_seen.specs.Table.{HasOneNumberEach}
use Rattle.dsa_seen.specs.declared.chains.Chains.{Chains}

-- FNV-1a with 32 bits
unfoldable pub hash : List ℕ → ℕ
hash bytes = fold (λ (so_far byte : ℕ). bit_xor so_far byte * 16777619 % 2 ^ 32) 2166136261 bytes

-- the place of a string among so many
unfoldable pub place_among : ℕ → List ℕ → ℕ
place_among places bytes = hash bytes % places

-- the string of a number
abbrev pub string_at : List (List ℕ) → ℕ → List ℕ
string_at strings i = slice_index_or strings i []

-- the strings that are stored width by width, by their lengths
abbrev pub strings_in : ℕ → List ℕ → List ℕ → List (List ℕ)
strings_in width stored [] = []
strings_in width stored (n ∷ lengths) = take n stored ∷ strings_in width (drop width stored) lengths

-- a stored string takes a whole width
pub record IsStoredByWidth (width : ℕ) (stored lengths : List ℕ) : Type 0 where
  pub filled : length stored ≡ width * length lengths
  pub short : (i : ℕ) → i < length lengths → slice_index lengths i ≤ width

-- the link names, by 1 and its number, the last string below the end that has this place, or is 0 where none has
pub record IsLatest (places : ℕ) (strings : List (List ℕ)) (place link end : ℕ) : Type 0 where
  pub below : link ≤ end
  pub has : 0 < link → place_among places (string_at strings (link - 1)) ≡ place
  pub none_between : (i : ℕ) → link ≤ i → i < end → place_among places (string_at strings i) ≢ place

-- from the head of a place, links lead to each string of this place
pub record IsLinked (strings : List (List ℕ)) (heads nexts : List ℕ) : Type 0 where
  pub some : 0 < length heads
  pub as_many : length nexts ≡ length strings
  pub heads_last : (place : ℕ) → place < length heads
      → IsLatest (length heads) strings place (slice_index heads place) (length strings)
  pub nexts_last : (i : ℕ) → i < length strings
      → IsLatest (length heads) strings (place_among (length heads) (string_at strings i)) (slice_index nexts i) i

-- the strings of the chains
abbrev pub strings_of : Chains → List (List ℕ)
strings_of chains = strings_in chains.width chains.stored.items chains.lengths.items

-- the strings are stored, and linked, and each is there once
pub record IsChained (chains : Chains) : Type 0 where
  pub once : HasOneNumberEach (strings_of chains)
  pub stored : IsStoredByWidth chains.width chains.stored.items chains.lengths.items
  pub linked : IsLinked (strings_of chains) chains.heads.items chains.nexts.items

-- so many strings find room, and no more came
pub record HasRoomFor (chains : Chains) (most : ℕ) : Type 0 where
  pub few : most < 2 ^ 32
  pub within : length chains.lengths.items ≤ most
  pub bytes : most * chains.width ≤ vec_capacity chains.stored
  pub lengths : most ≤ vec_capacity chains.lengths
  pub nexts : most ≤ vec_capacity chains.nexts
