-- Where what is told of parties and questions is in the text of their document.
use Rattle.dsa_party_check.specs.declared.complaint.Subject.TheVariants as subject
use Rattle.dsa_party_check.specs.declared.complaint.Inside.TheVariants as inside
use Rattle.std.specs.Prelude.{◌≡◌, ◌+◌, ℕ, List, codes, slice_get, slice_range, Option, Some, None, IfSome}
use Rattle.serde_json.specs.{Data.{Data}, Find.{get}}
use Rattle.dsa_scenario.specs.{Fields.{◌>>=◌}, Document.{IsJson}}
use Rattle.dsa_plans.specs.PartyLabels.{items_or}
use Rattle.dsa_questions.specs.Reading.{key_of}
use Rattle.dsa_check.specs.declared.places.Spot.{Spot}
use Rattle.dsa_check.specs.{Places.{AreTextOf, IsSpot}, Remarks.{IsAimedAt}}
use Rattle.dsa_party_check.specs.declared.complaint.{Inside.{Inside}, Subject.{Subject}}
use Rattle.dsa_party_check.specs.Complaints.{Complained}

-- an item of the array at the key
abbrev pub item_at : List ℕ → ℕ → Data → Option Data
item_at key place d = slice_get (items_or key d) place

-- the value that a subject is
abbrev pub value_of_subject : Data → Subject → Option Data
value_of_subject d subject.Document = Some d
value_of_subject d subject.Parties = get (codes "parties") d
value_of_subject d (subject.Client place) = get (codes "parties") d >>= item_at (codes "clients") place
value_of_subject d (subject.Administrator place) = get (codes "parties") d >>= item_at (codes "admins") place
value_of_subject d (subject.Question kind place) = item_at (key_of kind) place d

-- a part of it
abbrev pub value_inside : Data → Inside → Option Data
value_inside d inside.All = Some d
value_inside d (inside.Step step kind) = item_at (codes "steps") step d
value_inside d (inside.Member step kind member) =
    item_at (codes "steps") step d >>= item_at (codes "members") member

-- what is told of is this value
abbrev pub value_told : Data → Subject → Inside → Option Data
value_told document subject inside = value_of_subject document subject >>= λ d. value_inside d inside

-- the place is that to which the complaint points in its value, which has a text between two places
pub record IsComplaintAt (bytes : List ℕ) (subject : Subject) (complaint : Complained) (spot : Spot) : Type 0 where
  pub document : Data
  pub json : IsJson bytes document
  pub value : Data
  pub of_part : value_told document subject complaint.inside ≡ Some value
  pub begin : ℕ
  pub end : ℕ
  pub text : AreTextOf value (slice_range bytes begin end)
  pub offset : ℕ
  pub aimed : IsAimedAt (slice_range bytes begin end) value complaint.aim complaint.name offset
  pub at : spot.at ≡ begin + offset
  pub placed : IsSpot bytes spot
