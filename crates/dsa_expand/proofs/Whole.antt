-- The strict form of a whole document, and its faults.
use Rattle.std.proofs.Common.{◌≡◌, ◌≤◌, ◌<◌, ◌+◌, ℕ, Bool, true, false, List, [], ◌∷◌, ◌++◌, Some, codes, refl, sym}
use Rattle.std.proofs.Common.{ap, subst, arith, map, take, length, get_or}
use Rattle.std.proofs.Common.{◌≢◌, ◌⊎◌, None, inl, inr}
use Rattle.std.proofs.lemmas.{List.{map-append, take_all, length-map}, Option.{slice_get-map, slice_get_read}}
use Rattle.std.proofs.lemmas.Str.{IsUtf8-string_bytes}
use Rattle.std.specs.Prelude.{String, string_bytes, filter, not}
use Rattle.std.specs.{List.{list_any}, declared.alloc.Global.{Global}}
use Rattle.serde_json.specs.{Data.{Data, Items, depth}, Find.{get}, Read.{read}}
use Rattle.serde_json.specs.{View.{view, items_view}, declared.value.Value.{Value}}
use Rattle.serde_json.proofs.Nesting.{depth-read}
use Rattle.dsa_regs.specs.declared.Caps.{Caps}
use Rattle.dsa_scenario.specs.declared.faults.ScenarioFault.{ScenarioFault}
use Rattle.dsa_scenario.specs.declared.faults.ScenarioFault.TheVariants.{BadStep, BadCaps, BadCapacity, OutOfMemory}
use Rattle.dsa_scenario.specs.Document.{head_of, list_of_items, IsJson, IsOpenable, IsOpeningFault}
use Rattle.dsa_expand.specs.{Steps.{Pair, is_friendly, strict_step}, Values.{pairs_of}, Layout.{IsDocumentText}}
use Rattle.dsa_expand.specs.Expansion.{AreExpanded, IsLaidOut, IsStrictForm, strict_document, head_pairs, is_part, pair_at}
use Rattle.dsa_expand.specs.Expansion.{read_of, AreLikely, HasStepFault, IsFaultOfSteps}
use Rattle.dsa_expand.specs.Expansion.{IsStuckAt, IsUnlikelyAt}
use Rattle.dsa_expand.specs.Walk.{IsToldOfDevice}
use Rattle.dsa_expand.proofs.{Lists.{listed, taken_more}, Faultless.{document_of}}
use Rattle.dsa_expand.specs.Members.{AreFlat, AreShallow}
use Rattle.dsa_expand.proofs.{Jsons.{AreAllShallow}, ReadBack.{reads_as}}
use Rattle.dsa_expand.proofs.Shallow.{parts_of, items_at_most, items_flat, head_shallow, steps_shallow}

reads_by : (head : List Pair) (p : Pair) (ps : List Pair) (pss : List (List Pair)) (text : List ℕ) → head ≡ p ∷ ps
    → AreShallow 126 head → AreAllShallow 124 pss → IsDocumentText head pss text
    → read text ≡ Some (strict_document head pss)
reads_by head p ps pss text e shallow flat t =
    subst (λ h. AreShallow 126 h → IsDocumentText h pss text → read text ≡ Some (strict_document h pss)) (sym e)
    (λ s u. reads_as p ps pss text s flat u) shallow t

laid_out_reads : (b : Bool) (bytes : List ℕ) (document : Data) (caps : Caps) (capacity : ℕ) (items : Items)
    (strict : List (List Pair)) (text : String Global) → IsJson bytes document
    → head_of document ≡ Some (caps, capacity, items) → AreExpanded caps capacity (list_of_items items) strict
    → IsLaidOut b bytes document strict (string_bytes text) → IsJson (string_bytes text) (read_of b document strict)
laid_out_reads false bytes document caps capacity items strict text json head steps laid =
    subst (λ t. IsJson t document) (sym laid) json
laid_out_reads true bytes document caps capacity items strict text json head steps laid =
    let parts = parts_of document caps capacity items head in
    let deep : depth document ≤ 127 = depth-read bytes document json.value in
    let low = items_at_most document caps capacity items parts deep in
    let rest = filter (λ (pair : Pair). not (is_part pair.0)) (pairs_of document) in
    let capacity_pairs = pair_at (codes "capacity") (get (codes "capacity") document) in
    let begins : head_pairs document ≡ (codes "caps", parts.caps_at) ∷ (capacity_pairs ++ rest) =
    ap (λ o. pair_at (codes "caps") o ++ capacity_pairs ++ rest) parts.caps_there in
    record {
      utf8 = IsUtf8-string_bytes text;
      value = reads_by (head_pairs document) _ _ strict (string_bytes text) begins (head_shallow 126 document deep)
          (steps_shallow 124 [] (list_of_items items) strict steps.records (items_flat 125 items low) steps.by) laid;
    }

pub strict_form : (bytes : List ℕ) (document : Data) (caps : Caps) (capacity : ℕ) (items : Items)
    (strict : List (List Pair)) (text : String Global) → IsJson bytes document
    → head_of document ≡ Some (caps, capacity, items) → AreExpanded caps capacity (list_of_items items) strict
    → IsOpenable caps capacity
    → IsLaidOut (list_any is_friendly (list_of_items items)) bytes document strict (string_bytes text)
    → IsStrictForm bytes (string_bytes text)
strict_form bytes document caps capacity items strict text json head steps opening laid =
    let friendly = list_any is_friendly (list_of_items items) in
    let reads = laid_out_reads friendly bytes document caps capacity items strict text json head steps laid in
    let found = document_of friendly (string_bytes text) document caps capacity items strict reads head steps refl in
    record {
      document = document;
      caps = caps;
      capacity = capacity;
      items = items;
      strict = strict;
      json = json;
      head = head;
      steps = steps;
      opening = opening;
      laid_out = laid;
      reads = reads;
      actions = found.0;
      faultless = found.1;
    }

-- ---- what is told

pub likely_more : (vs : List Value) (i : ℕ) (v : Value) (ps : List Pair) → i < length vs → v ≡ get_or vs i v
    → Some ps ≡ strict_step None (view v) → AreLikely (take i (map view vs)) → AreLikely (take (i + 1) (map view vs))
likely_more vs i v ps inside is found h = (
  h.0 ++ ps ∷ [],
  rw (
    taken_more view vs i v inside is,
    map-append (strict_step None) (take i (map view vs)) (view v ∷ []),
    map-append Some h.0 (ps ∷ []),
    h.1,
    ← found,
  ) refl,
)

pub unlikely_here : (vs : List Value) (i : ℕ) (v : Value) → i < length vs → v ≡ get_or vs i v
    → None ≡ strict_step None (view v) → AreLikely (take i (map view vs)) → IsUnlikelyAt (map view vs) i
unlikely_here vs i v inside is none h = record {
  before = h;
  here = rw (slice_get-map view vs i, slice_get_read vs (length vs) i v refl inside is, ← none) refl;
}

pub all_likely : (vs : List Value) (i : ℕ) → length vs ≤ i → AreLikely (take i (map view vs)) → AreLikely (map view vs)
all_likely vs i past h =
    let all : take i (map view vs) ≡ map view vs = take_all i (map view vs) (rw (length-map vs view) past) in
    rw all at h

module _ (bytes : List ℕ) (document : Data) (caps : Caps) (capacity : ℕ) (vs : List Value)
    (json : IsJson bytes document) (head : head_of document ≡ Some (caps, capacity, items_view vs)) where
  pub steps_flat : AreFlat 127 (map view vs)
  steps_flat =
      let parts = parts_of document caps capacity (items_view vs) head in
      let low = items_at_most document caps capacity (items_view vs) parts (depth-read bytes document json.value) in
      subst (AreFlat 127) (listed (map view vs)) (items_flat 127 (items_view vs) (omega (arith, low)))

  faulty : (fault : ScenarioFault) → IsFaultOfSteps caps capacity (map view vs) fault → HasStepFault bytes fault
  faulty fault bad = record {
    document = document;
    caps = caps;
    capacity = capacity;
    items = items_view vs;
    json = json;
    head = head;
    bad = rw (listed (map view vs)) bad;
  }

  pub is_stuck : (i : ℕ) → IsOpenable caps capacity → IsStuckAt caps capacity (map view vs) i
      → HasStepFault bytes (BadStep i)
  is_stuck i opening stuck = faulty (BadStep i) (inl (opening, stuck))

  opening_fault : (e : ScenarioFault) → AreLikely (map view vs) → IsOpeningFault caps capacity e
      → HasStepFault bytes e
  opening_fault BadCaps likely h = faulty BadCaps (likely, h)
  opening_fault BadCapacity likely h = faulty BadCapacity (likely, h)
  opening_fault _ likely h = absurd h

  pub is_of_device : (e told : ScenarioFault) → (e ≡ OutOfMemory) ⊎ IsOpeningFault caps capacity e
      → (told ≡ OutOfMemory) ⊎ ((e ≢ OutOfMemory) × IsToldOfDevice (map view vs) e told)
      → (told ≡ OutOfMemory) ⊎ HasStepFault bytes told
  is_of_device e told h (inl memory) = inl memory
  is_of_device e told (inl memory) (inr (other, is)) = absurd (other memory)
  is_of_device e told (inr h) (inr (other, inl (likely, is))) = inr (rw is (opening_fault e likely h))
  is_of_device e told (inr h) (inr (other, inr (i, unlikely, is))) =
      inr (rw is (faulty (BadStep i) (inr ((e, h), unlikely))))

  pub form_of : (strict : List (List Pair)) (text : String Global) → AreExpanded caps capacity (map view vs) strict
      → IsOpenable caps capacity
      → IsLaidOut (list_any is_friendly (map view vs)) bytes document strict (string_bytes text)
      → IsStrictForm bytes (string_bytes text)
  form_of strict text steps opening laid =
      strict_form bytes document caps capacity (items_view vs) strict text json head
      (rw (listed (map view vs)) steps) opening (rw (listed (map view vs)) laid)
