-- What the note of an engine says of the batch that it works on, and of the batch's members.
use Rattle.std.specs.Prelude.{◌≡◌, ℕ, ◌≤◌, Bool, true, List, [], length, count_by, Option, Some, None}
use Rattle.dsa_store.specs.Content.{HeldEntry}
use Rattle.dsa_book.specs.{declared.note.BatchNote.{BatchNote}, State.{Setup, Work, is_batch_of}}
use Rattle.dsa_book.specs.Work.{in_progress, members, note_at}
use Rattle.dsa_base.specs.Lists.{In}

-- the entry holds a well-formed Batch, by the limits of its queue (profile)
abbrev pub holds_batch : Setup → HeldEntry → Bool
holds_batch setup pair = is_batch_of setup pair.1

-- the note is of this batch: it has its name, and its number of members (profile)
pub record IsNoteOf (note : BatchNote) (batch : HeldEntry) : Type 0 where
  pub name : note.batch ≡ batch.1.name
  pub count : note.count ≡ batch.1.desc.size

-- a member has the queue and the PASID of its batch (profile)
pub record IsAlike (member batch : HeldEntry) : Type 0 where
  pub queue : member.1.queue ≡ batch.1.queue
  pub pasid : member.1.desc.pasid ≡ batch.1.desc.pasid

-- an engine that works on no batch: none is in progress, and there are no members (profile)
pub record IsWithoutBatch (setup : Setup) (progress members : List HeldEntry) : Type 0 where
  pub no_batch : count_by (holds_batch setup) progress ≡ 0
  pub no_members : members ≡ []

-- an engine that works on a batch: one is in progress, which the note is of, and the members are
-- that batch's, no more than were fetched (profile)
pub record IsOnBatch (setup : Setup) (progress members : List HeldEntry) (note : BatchNote) : Type 0 where
  pub one_batch : count_by (holds_batch setup) progress ≡ 1
  pub noted : (batch : HeldEntry) → In batch progress → holds_batch setup batch ≡ true → IsNoteOf note batch
  pub parents : (member : HeldEntry) → In member members → member.1.parent ≡ Some note.batch
  pub alike : (member batch : HeldEntry) → In member members → In batch progress → holds_batch setup batch ≡ true
      → IsAlike member batch
  pub most : length members ≤ note.fetched

-- an engine has a note exactly where it works on a batch (profile)
abbrev pub IsLawfulEngine : Setup → List HeldEntry → List HeldEntry → Option BatchNote → Type 0
IsLawfulEngine setup progress members None = IsWithoutBatch setup progress members
IsLawfulEngine setup progress members (Some note) = IsOnBatch setup progress members note

-- each engine is such, by its two lists and its note (profile)
abbrev pub HasLawfulEngines : Work → Type 0
HasLawfulEngines w = (engine : ℕ) → IsLawfulEngine w.setup (in_progress w engine) (members w engine) (note_at w engine)
