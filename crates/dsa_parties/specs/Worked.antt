-- A script of which the rows speak: a batch with two members and a Fill of client 7, a Drain of client 9, two
-- administrators and two engines.
use Rattle.std.proofs.Common.{arith, refl}
use denote.RawPtr.{null_ptr}
use Rattle.std.specs.Prelude.{ℕ, ◌≤◌, Bool, true, false, List, [], ◌∷◌, length, None}
use Rattle.std.specs.declared.{alloc.Global.{Global}, vec.Vec.{Vec}}
use Rattle.dsa_desc.specs.declared.Descriptor.{Descriptor}
use Rattle.dsa_regs.specs.declared.Command.TheVariants.{AbortAll, DrainAll}
use Rattle.dsa_book.specs.declared.event.{Kind.TheVariants.{Enqcmd, Movdir64b}, Portal.TheVariants.{Limited, Unlimited}}
use Rattle.dsa_book.specs.declared.{fate.{Fate.{Fate}, FateRow.{FateRow}}, note.BatchNote.{BatchNote}}
use Rattle.dsa_parties.specs.declared.places.{ClientPlace.{ClientPlace}, ClientTurn.{ClientTurn}}
use Rattle.dsa_parties.specs.declared.script.{ClientScript.{ClientScript}, Part.{Part}, Script.{Script}}
use Rattle.dsa_parties.specs.declared.script.{ScriptEntry.{ScriptEntry}, Submission.{Submission}}
use Rattle.dsa_parties.specs.declared.script.Act.{Act, TheVariants.{Issue, Poll, ClearError}}
use Rattle.dsa_parties.specs.declared.script.Origin.TheVariants.{Submitted, Fetched}
use Rattle.dsa_parties.specs.declared.script.Outcomes.TheVariants.{SuccessAlone, PageFaultAlone, Both}
use Rattle.dsa_parties.specs.declared.script.{RetryPolicy.{RetryPolicy, TheVariants.{GiveUp, Again, AtMost}}}
use Rattle.dsa_parties.specs.declared.script.Until.TheVariants.{Over}
use Rattle.dsa_parties.specs.declared.watches.Became.TheVariants.{Aborted, Successful}
use Rattle.dsa_parties.specs.declared.watches.Replied.TheVariants.{Finished}
use Rattle.dsa_parties.specs.declared.watches.Watch.{Watch}
use Rattle.dsa_parties.specs.declared.watches.Watch.TheVariants as watch
use Rattle.dsa_parties.specs.Standing.{Standing}

-- ---- entries

-- a descriptor of this operation and size
abbrev pub operation_of_size : ℕ → ℕ → Descriptor
operation_of_size op size = record { pasid = 0; flags = 0; op = op; size = size }

-- the submission of the batch, that of the Fill, and that of the Drain
abbrev pub batch_submission : Submission
batch_submission = record { queue = 1; portal = Limited; kind = Enqcmd 5; retry = Again; members = 2 }

abbrev pub fill_submission : Submission
fill_submission = record { queue = 2; portal = Unlimited; kind = Movdir64b; retry = GiveUp; members = 0 }

abbrev pub drain_submission : Submission
drain_submission = record { queue = 3; portal = Limited; kind = Enqcmd 6; retry = AtMost 2; members = 0 }

-- labels 0 to 4
abbrev pub five_entries : List ScriptEntry
five_entries =
    record { desc = operation_of_size 1 2; outcomes = Both; origin = Submitted batch_submission }
    ∷ record { desc = operation_of_size 3 4096; outcomes = PageFaultAlone; origin = Fetched 0 }
    ∷ record { desc = operation_of_size 5 64; outcomes = SuccessAlone; origin = Fetched 0 }
    ∷ record { desc = operation_of_size 4 8; outcomes = SuccessAlone; origin = Submitted fill_submission }
    ∷ record { desc = operation_of_size 2 0; outcomes = Both; origin = Submitted drain_submission } ∷ []

-- ---- parties

-- the numbers from the first up to the end
abbrev pub part_between : ℕ → ℕ → Part
part_between first end = record { first = first; end = end }

-- two clients, where the second begins there
abbrev pub clients_parted_at : ℕ → List ClientScript
clients_parted_at label =
    record { number = 7; part = part_between 0 label } ∷ record { number = 9; part = part_between label 5 } ∷ []

abbrev pub four_acts : List Act
four_acts = Issue DrainAll true ∷ Poll Over ∷ ClearError ∷ Issue AbortAll false ∷ []

abbrev pub two_parts : List Part
two_parts = part_between 0 3 ∷ part_between 3 4 ∷ []

-- the batch is aborted, its first member ends with success, the poll finds the end of a command, and the Drain is
-- accepted before AbortAll
abbrev pub four_watches : List Watch
four_watches =
    watch.Entry 0 Aborted ∷ watch.Entry 1 Successful ∷ watch.Act 1 Finished ∷ watch.Before 4 3 ∷ []

-- a list as the code has it
abbrev pub vector_in : {A : Type 0} → Global → (items : List A) → length items ≤ 9 → Vec A Global
vector_in memory items few = record {
  ptr = null_ptr;
  len = length items;
  cap = length items;
  alloc = memory;
  items = items;
  ok = (refl, omega arith);
  small = omega (arith, few);
}

-- the whole
abbrev pub worked_script : Global → Script
worked_script memory = record {
  entries = vector_in memory five_entries (omega arith);
  clients = vector_in memory (clients_parted_at 4) (omega arith);
  acts = vector_in memory four_acts (omega arith);
  administrators = vector_in memory two_parts (omega arith);
  engines = vector_in memory (0 ∷ 3 ∷ []) (omega arith);
  watches = vector_in memory four_watches (omega arith);
  fits = refl;
}

-- ---- where they stand

-- so many times turned away there
abbrev pub place_at : ℕ → ℕ → ClientPlace
place_at next refusals = record { next = next; refusals = refusals }

-- both clients and both administrators stand there, and nothing has come
abbrev pub all_at : ClientPlace → ClientPlace → ℕ → ℕ → Standing
all_at first second act other = record {
  clients = first ∷ second ∷ [];
  administrators = act ∷ other ∷ [];
  came = false ∷ false ∷ false ∷ false ∷ [];
}

-- the first client is through with its batch, the first administrator polls, and this has come
abbrev pub remembering : List Bool → Standing
remembering came = record (all_at (place_at 3 0) (place_at 4 0) 1 3) { came = came }

-- an entry with this label ended so
abbrev pub row_of_end : ℕ → Fate → FateRow
row_of_end label fate = record { name = label; parent = None; fate = fate }

-- the turn of client 9, which was turned away so often, by this policy
abbrev pub turn_by : RetryPolicy → ℕ → ClientTurn
turn_by policy refusals = record {
  client = 9;
  place = place_at 4 refusals;
  desc = operation_of_size 2 0;
  submission = record drain_submission { retry = policy };
}

-- the note of the batch with this label, of which so many were fetched
abbrev pub note_of_label : ℕ → ℕ → Bool → BatchNote
note_of_label label fetched closed =
    record { batch = label; count = 2; fetched = fetched; failed = false; closed = closed }
