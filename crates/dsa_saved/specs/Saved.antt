-- The bytes of a saved device: what it has, for how many steps its history has room, the event of
-- each step with what was free in it, and a checksum (profile).
use Rattle.std.specs.Prelude.{◌≡◌, ℕ, false, List, ◌++◌, flat_map, length, codes}
use Rattle.std.specs.List.{All}
use Rattle.sha2.specs.Sha256.{sha256}
use Rattle.dsa_device.specs.Running.{Running}
use Rattle.dsa_saved.specs.Words.{words_of}
use Rattle.dsa_saved.specs.Format.{header_words, header_bytes, record_of}
use Rattle.dsa_saved.specs.Said.{IsStepRead, caps_of_words}

-- what the checksum is of: a magic word, the header, and the records
unfoldable pub saved_body : Running → List ℕ
saved_body d =
    codes "DSASAVED" ++ header_bytes d.caps d.capacity (length d.history) ++ flat_map record_of d.history

-- a saved device: these bytes, and their SHA-256
unfoldable pub saved_bytes : Running → List ℕ
saved_bytes d = saved_body d ++ sha256 (saved_body d)

-- the header's bytes say what the device has, and those of each step the step; the history is its whole past, and has
-- all the room that the device has
pub record IsReadAgain (d : Running) : Type 0 where
  pub words : words_of 11 (header_bytes d.caps d.capacity (length d.history))
      ≡ header_words d.caps d.capacity (length d.history)
  pub caps : caps_of_words (header_words d.caps d.capacity (length d.history)) ≡ d.caps
  pub steps : All IsStepRead d.history
  pub not_anew : d.anew ≡ false
  pub room : d.room ≡ d.capacity
