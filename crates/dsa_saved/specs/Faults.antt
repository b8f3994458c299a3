-- Why no device is made of bytes: the first that fails of what bytes of a saved device have (profile).
use Rattle.std.specs.Prelude.{◌≡◌, ◌≢◌, ℕ, ◌*◌, ◌-◌, ◌^◌, ◌≤◌, IsTrue, true, List, take, drop, length, codes}
use Rattle.std.specs.Prelude.{slice_index, Some}
use Rattle.sha2.specs.Sha256.{sha256}
use Rattle.dsa_regs.specs.{declared.Caps.{Caps}, Caps.{check_caps}}
use Rattle.dsa_book.specs.declared.{event.Event.{Event}, answer.Reply.{Reply}}
use Rattle.dsa_book.specs.{Choice.{choice_of}, Machine.{is_stored}}
use Rattle.dsa_device.specs.Running.{Running, running_at_first, after_answer}
use Rattle.dsa_saved.specs.declared.faults.LoadFault.{LoadFault}
use Rattle.dsa_saved.specs.declared.faults.LoadFault.TheVariants.{Truncated, BadMagic, BadVersion, BadLength}
use Rattle.dsa_saved.specs.declared.faults.LoadFault.TheVariants.{BadChecksum, BadCaps, BadCapacity, OutOfMemory}
use Rattle.dsa_saved.specs.declared.faults.LoadFault.TheVariants.{BadEvent, BadStep}
use Rattle.dsa_saved.specs.{Words.{words_of}, Format.{event_bytes, choice_bytes, header_words, header_bytes}, Steps.{HaveMade}}
use Rattle.dsa_saved.specs.Said.{event_of_words, caps_of_words}

-- ---- the parts of the bytes

-- all but the checksum
abbrev pub body_in : List ℕ → List ℕ
body_in bytes = take (length bytes - 32) bytes

-- the magic word and the header
abbrev pub start_in : List ℕ → List ℕ
start_in bytes = take 52 (body_in bytes)

abbrev pub records_in : List ℕ → List ℕ
records_in bytes = drop 52 (body_in bytes)

-- the words of the header
abbrev pub header_in : List ℕ → List ℕ
header_in bytes = words_of 11 (drop 8 (start_in bytes))

-- the device that they say, with no history
abbrev pub first_in : List ℕ → Running
first_in bytes = running_at_first (caps_of_words (header_in bytes)) (slice_index (header_in bytes) 9)

-- ---- what bytes of a saved device have, one thing after the other

abbrev pub IsLong : List ℕ → Type 0
IsLong bytes = 84 ≤ length bytes

abbrev pub HasMagic : List ℕ → Type 0
HasMagic bytes = take 8 (start_in bytes) ≡ codes "DSASAVED"

abbrev pub HasVersion : List ℕ → Type 0
HasVersion bytes = slice_index (header_in bytes) 0 ≡ 1

-- there are as many records as the header says
abbrev pub HasLength : List ℕ → Type 0
HasLength bytes = length (records_in bytes) ≡ 44 * slice_index (header_in bytes) 10

abbrev pub HasChecksum : List ℕ → Type 0
HasChecksum bytes = sha256 (body_in bytes) ≡ drop (length bytes - 32) bytes

-- the capabilities fit their fields, and are those of a device
pub record HasCaps (bytes : List ℕ) : Type 0 where
  pub fit : header_bytes (caps_of_words (header_in bytes)) (slice_index (header_in bytes) 9)
      (slice_index (header_in bytes) 10)
      ≡ drop 8 (start_in bytes)
  pub lawful : IsTrue (check_caps (caps_of_words (header_in bytes)))

abbrev pub HasCapacity : List ℕ → Type 0
HasCapacity bytes = slice_index (header_in bytes) 9 ≤ 2 ^ 20

-- all of these
pub record HasStart (bytes : List ℕ) : Type 0 where
  pub long : IsLong bytes
  pub magic : HasMagic bytes
  pub version : HasVersion bytes
  pub size : HasLength bytes
  pub checksum : HasChecksum bytes
  pub caps : HasCaps bytes
  pub capacity : HasCapacity bytes

-- what the header says is written as it says, and read again
pub record IsHeaderRead (bytes : List ℕ) : Type 0 where
  pub words : words_of 11 (header_bytes (caps_of_words (header_in bytes)) (slice_index (header_in bytes) 9)
      (slice_index (header_in bytes) 10))
      ≡ header_words (caps_of_words (header_in bytes)) (slice_index (header_in bytes) 9)
      (slice_index (header_in bytes) 10)
  pub caps : caps_of_words (header_words (caps_of_words (header_in bytes)) (slice_index (header_in bytes) 9)
      (slice_index (header_in bytes) 10))
      ≡ caps_of_words (header_in bytes)

-- the first of these that the bytes do not have
abbrev pub IsStartFault : LoadFault → List ℕ → Type 0
IsStartFault Truncated bytes = ¬ IsLong bytes
IsStartFault BadMagic bytes = IsLong bytes × ¬ HasMagic bytes
IsStartFault BadVersion bytes = IsLong bytes × HasMagic bytes × ¬ HasVersion bytes
IsStartFault BadLength bytes = IsLong bytes × HasMagic bytes × HasVersion bytes × ¬ HasLength bytes
IsStartFault BadChecksum bytes =
    IsLong bytes × HasMagic bytes × HasVersion bytes × HasLength bytes × ¬ HasChecksum bytes
IsStartFault BadCaps bytes =
    IsLong bytes × HasMagic bytes × HasVersion bytes × HasLength bytes × HasChecksum bytes × ¬ HasCaps bytes
IsStartFault BadCapacity bytes =
    IsLong bytes × HasMagic bytes × HasVersion bytes × HasLength bytes × HasChecksum bytes × HasCaps bytes
    × ¬ HasCapacity bytes
IsStartFault _ bytes = ⊥

-- ---- records that make no step

-- these are the bytes of no event
abbrev pub IsNoEvent : List ℕ → Type 0
IsNoEvent bytes = (event : Event) → event_of_words (words_of 9 bytes) ≡ Some event → event_bytes event ≢ bytes

-- the device answered the event of the record with a reply that is not kept, or in which another
-- cell or another queue was chosen
pub record IsOtherStep (said : List ℕ) (d : Running) : Type 0 where
  pub event : Event
  pub reply : Reply
  pub after : Running
  pub says : event_of_words (words_of 9 (take 36 said)) ≡ Some event
  pub answered : after_answer d event reply ≡ Some after
  pub other : is_stored reply ≡ true → choice_bytes (choice_of reply) ≢ drop 36 said

-- why the record of this number makes no step
abbrev pub IsRecordFault : LoadFault → List ℕ → Running → ℕ → Type 0
IsRecordFault (BadEvent number) said d n = (number ≡ n) × IsNoEvent (take 36 said)
IsRecordFault (BadStep number) said d n = (number ≡ n) × IsOtherStep said d
IsRecordFault _ said d n = ⊥

-- the records before this one made their steps
pub record IsFirstFault (fault : LoadFault) (records : List ℕ) (first : Running) : Type 0 where
  pub number : ℕ
  pub reached : Running
  pub made : HaveMade (take (44 * number) records) first reached
  pub causes : IsRecordFault fault (take 44 (drop (44 * number) records)) reached number

-- ---- the whole

-- the first of these that fails: what the start has, memory for the device, and each record in turn
abbrev pub IsLoadFault : LoadFault → List ℕ → Type 0
IsLoadFault OutOfMemory bytes = HasStart bytes
IsLoadFault (BadEvent number) bytes =
    HasStart bytes × IsFirstFault (BadEvent number) (records_in bytes) (first_in bytes)
IsLoadFault (BadStep number) bytes =
    HasStart bytes × IsFirstFault (BadStep number) (records_in bytes) (first_in bytes)
IsLoadFault fault bytes = IsStartFault fault bytes
