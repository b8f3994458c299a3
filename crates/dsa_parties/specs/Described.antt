-- What the labels of a script say of entries.
use Rattle.std.specs.Prelude.{true, false, List, Option, Some, None, slice_get, unwrap_or}
use Rattle.dsa_desc.specs.declared.Descriptor.{Descriptor}
use Rattle.dsa_book.specs.declared.event.{Kind.TheVariants.{Movdir64b}, Portal.TheVariants.{Unlimited}}
use Rattle.dsa_keys.specs.Short.{Description, Descriptions}
use Rattle.dsa_parties.specs.declared.places.EntryDescription.{EntryDescription}
use Rattle.dsa_parties.specs.declared.script.{Script.{Script}, ScriptEntry.{ScriptEntry}, Submission.{Submission}}
use Rattle.dsa_parties.specs.declared.script.Origin.{Origin, TheVariants.{Submitted, Fetched}}
use Rattle.dsa_parties.specs.declared.script.RetryPolicy.TheVariants.{GiveUp}
use Rattle.dsa_parties.specs.Scripts.{submission_at}

-- what stands for the submission at a label without one
abbrev pub no_submission : Submission
no_submission = record { queue = 0; portal = Unlimited; kind = Movdir64b; retry = GiveUp; members = 0 }

-- an entry that is submitted so
abbrev pub submitted_description : Descriptor → Submission → Description
submitted_description desc s = record { desc = desc; queue = s.queue; kind = s.kind; member = false }

-- an entry of this origin; a member has the queue of its batch, and is submitted as its batch is
abbrev pub description_of : List ScriptEntry → Descriptor → Origin → Description
description_of entries desc (Submitted s) = submitted_description desc s
description_of entries desc (Fetched batch) =
    record (submitted_description desc (unwrap_or (submission_at entries batch) no_submission)) { member = true }

-- what stands at a label
abbrev pub description_from : List ScriptEntry → Option ScriptEntry → Description
description_from entries None =
    submitted_description (record { pasid = 0; flags = 0; op = 0; size = 0 }) no_submission
description_from entries (Some entry) = description_of entries entry.desc entry.origin

-- what each label of the script says
abbrev pub described_by : Script → Descriptions
described_by script = λ label. description_from script.entries.items (slice_get script.entries.items label)

-- what the code says of a label
abbrev pub as_description : EntryDescription → Description
as_description d = record { desc = d.desc; queue = d.queue; kind = d.kind; member = d.member }
