-- What is told of nests no deeper than its document.
use Rattle.dsa_party_check.specs.declared.complaint.Subject.TheVariants as subject
use Rattle.dsa_party_check.specs.declared.complaint.Inside.TheVariants as inside
use Rattle.std.proofs.Common.{◌≤◌, ℕ, zero, suc, List, [], Option, Some, None, codes, unwrap_or, arith}
use Rattle.std.specs.Prelude.{slice_get}
use Rattle.serde_json.specs.Data.{Data, null, boolean, number, string, array, object, Items, no_items, item}
use Rattle.serde_json.specs.{Data.{depth, items_depth}, Find.{get}}
use Rattle.dsa_scenario.specs.{Fields.{◌>>=◌}, Document.{list_of_items}}
use Rattle.dsa_plans.specs.Said.{items_in}
use Rattle.dsa_questions.specs.Reading.{key_of}
use Rattle.dsa_check.proofs.Shallow.{AtMost, found_at_most}
use Rattle.dsa_party_check.specs.declared.complaint.{Inside.{Inside}, Subject.{Subject}}
use Rattle.dsa_party_check.specs.Pointing.{item_at, value_inside, value_of_subject, value_told}

-- ---- an item

item-deep : (n : ℕ) (ds : Items) (place : ℕ) → items_depth ds ≤ n → AtMost n (slice_get (list_of_items ds) place)
item-deep n no_items place h = tt
item-deep n (item d ds) zero h = omega arith
item-deep n (item d ds) (suc place) h = item-deep n ds place (omega arith)

array-deep : (n : ℕ) (d : Data) (place : ℕ) → depth d ≤ n → AtMost n (slice_get (unwrap_or (items_in d) []) place)
array-deep n null place h = tt
array-deep n (boolean b) place h = tt
array-deep n (number x) place h = tt
array-deep n (string s) place h = tt
array-deep n (array ds) place h = item-deep n ds place (omega arith)
array-deep n (object ms) place h = tt

list-deep : (n : ℕ) (o : Option Data) (place : ℕ) → AtMost n o
    → AtMost n (slice_get (unwrap_or (o >>= items_in) []) place)
list-deep n None place h = tt
list-deep n (Some d) place h = array-deep n d place h

at-deep : (key : List ℕ) (place n : ℕ) (d : Data) → depth d ≤ n → AtMost n (item_at key place d)
at-deep key place n d h = list-deep n (get key d) place (found_at_most key n d h)

-- ---- one part after the other

then-deep : (n : ℕ) (o : Option Data) (f : Data → Option Data) → AtMost n o
    → ((d : Data) → depth d ≤ n → AtMost n (f d)) → AtMost n (o >>= f)
then-deep n None f h k = tt
then-deep n (Some d) f h k = k d h

subject-deep : (n : ℕ) (d : Data) (s : Subject) → depth d ≤ n → AtMost n (value_of_subject d s)
subject-deep n d subject.Document h = h
subject-deep n d subject.Parties h = found_at_most (codes "parties") n d h
subject-deep n d (subject.Client place) h =
    then-deep n (get (codes "parties") d) (item_at (codes "clients") place) (found_at_most (codes "parties") n d h)
    (λ e k. at-deep (codes "clients") place n e k)
subject-deep n d (subject.Administrator place) h =
    then-deep n (get (codes "parties") d) (item_at (codes "admins") place) (found_at_most (codes "parties") n d h)
    (λ e k. at-deep (codes "admins") place n e k)
subject-deep n d (subject.Question kind place) h = at-deep (key_of kind) place n d h

inside-deep : (n : ℕ) (d : Data) (i : Inside) → depth d ≤ n → AtMost n (value_inside d i)
inside-deep n d inside.All h = h
inside-deep n d (inside.Step step kind) h = at-deep (codes "steps") step n d h
inside-deep n d (inside.Member step kind member) h =
    then-deep n (item_at (codes "steps") step d) (item_at (codes "members") member)
    (at-deep (codes "steps") step n d h) (λ e k. at-deep (codes "members") member n e k)

pub told-deep : (n : ℕ) (d : Data) (s : Subject) (i : Inside) → depth d ≤ n → AtMost n (value_told d s i)
told-deep n d s i h = then-deep n (value_of_subject d s) (λ e. value_inside e i) (subject-deep n d s h)
    (λ e k. inside-deep n e i k)
