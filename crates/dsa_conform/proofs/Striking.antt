-- Steps of which nothing counts as seen, and the differences that are found one after the other.
use Rattle.std.proofs.Common.{◌≡◌, ◌<◌, ◌≤◌, ℕ, ◌+◌, List, [], ◌∷◌, ◌++◌, Option, Some, None}
use Rattle.std.proofs.Common.{refl, sym, ap, ◌∙◌, subst, map, length, take, flat_map, append_assoc, append-nil, arith}
use Rattle.std.proofs.lemmas.{Grind.{flat_map-append}, List.{length-append, take_all}, Option.{slice_get_within}}
use Rattle.std.specs.Prelude.{slice_get}
use Rattle.serde_json.specs.{Data.{Data}, View.{view}, declared.value.Value.{Value}}
use Rattle.dsa_regs.specs.declared.Caps.{Caps}
use Rattle.dsa_scenario.specs.declared.{actions.Action.{Action}, run.Record.{Record}}
use Rattle.dsa_scenario.specs.declared.faults.ScenarioFault.{ScenarioFault}
use Rattle.dsa_scenario.specs.declared.faults.ScenarioFault.TheVariants as fault
use Rattle.dsa_conform.specs.Lines.{seen_count}
use Rattle.dsa_conform.specs.Every.{AreDifferences, AreDiffering, AreFoundDiffering, AreStruckOut, IsFirstDifference}
use Rattle.dsa_conform.specs.Every.{IsFullVerdict, differs_text, unseen_at}
use Rattle.dsa_conform.specs.Run.{AreRead, IsConforming, IsDiffering, IsShownRun, IsVerdict}
use Rattle.dsa_conform.specs.Seen.{Seen}
use Rattle.dsa_conform.proofs.Objects.{as_many_read, count_read}

-- what is read is one list
same_items : {X : Type 0} (xs ys : List X) → map Some xs ≡ map Some ys → xs ≡ ys
same_items [] [] h = refl
same_items [] (y ∷ ys) h = absurd cc
same_items (x ∷ xs) [] h = absurd cc
same_items (x ∷ xs) (y ∷ ys) h =
    let rest : map Some xs ≡ map Some ys = cc in
    let first : x ≡ y = cc in
    rw (first, same_items xs ys rest) refl

pub same_read : (ds : List Data) (first second : List (Action × Seen)) → AreRead ds first → AreRead ds second
    → first ≡ second
same_read ds first second p q = same_items first second (sym p ∙ q)

-- ---- one difference after the other

pub one_more_out : (caps : Caps) (capacity : ℕ) (observed : List (Action × Seen)) (found : List (ℕ × List ℕ))
    (now : List (Action × Seen)) (i : ℕ) (text : List ℕ) → AreStruckOut caps capacity observed found now
    → IsFirstDifference caps capacity now i text
    → AreStruckOut caps capacity observed (found ++ (i, text) ∷ []) (unseen_at i now)
one_more_out caps capacity observed [] now i text h differs =
    (subst (λ os. IsFirstDifference caps capacity os i text) (sym h) differs, ap (unseen_at i) h)
one_more_out caps capacity observed (one ∷ more) now i text h differs =
    (h.0, one_more_out caps capacity (unseen_at one.0 observed) more now i text h.1 differs)

pub all_out : (caps : Caps) (capacity : ℕ) (observed : List (Action × Seen)) (found : List (ℕ × List ℕ))
    (now : List (Action × Seen)) → AreStruckOut caps capacity observed found now
    → (records : List Record) × IsShownRun caps capacity now records
    → AreDifferences caps capacity observed found
all_out caps capacity observed [] now h run =
    subst (λ os. (records : List Record) × IsShownRun caps capacity os records) (sym h) run
all_out caps capacity observed (one ∷ more) now h run =
    (h.0, all_out caps capacity (unseen_at one.0 observed) more now h.1 run)

-- the step that differs first, of what is read
pub first_of : (caps : Caps) (capacity : ℕ) (steps : List Data) (observed : List (Action × Seen)) (i : ℕ)
    (text : List ℕ) → AreRead steps observed → IsDiffering caps capacity steps i text
    → IsFirstDifference caps capacity observed i text
first_of caps capacity steps observed i text read h =
    subst (λ os. IsFirstDifference caps capacity os i text) (same_read steps h.observed observed h.read read)
    (record { here = h.here; at = h.at; differs = h.differs })

-- a step that differs is one of them
pub differs_within : (caps : Caps) (capacity : ℕ) (steps : List Data) (i count : ℕ) (text : List ℕ)
    → IsDiffering caps capacity steps i text → length steps ≡ count → i < count
differs_within caps capacity steps i count text h many =
    let within = slice_get_within h.observed i h.here h.at in
    let whole = as_many_read steps h.observed h.read in
    omega (arith, within, whole, many)

-- where none differs, all conform
pub none_differs : (caps : Caps) (capacity : ℕ) (steps : List Data) (f : Option ScenarioFault) (text : List ℕ)
    → IsVerdict caps capacity steps f text → ((i : ℕ) → ¬ (f ≡ Some (fault.Differs i)))
    → (f ≡ None) × IsConforming caps capacity steps text
none_differs caps capacity steps None text h never = (refl, h)
none_differs caps capacity steps (Some (fault.Differs i)) text h never = absurd (never i refl)
none_differs caps capacity steps (Some _) text h never = absurd h

pub one_differs : (caps : Caps) (capacity : ℕ) (steps : List Data) (f : Option ScenarioFault) (i : ℕ) (text : List ℕ)
    → IsVerdict caps capacity steps f text → f ≡ Some (fault.Differs i) → IsDiffering caps capacity steps i text
one_differs caps capacity steps f i text h is = subst (λ f. IsVerdict caps capacity steps f text) is h

-- the first is found
pub first_found : (caps : Caps) (capacity : ℕ) (steps left : List Data) (observed : List (Action × Seen)) (i : ℕ)
    (text : List ℕ) → AreRead steps observed → IsDiffering caps capacity steps i text
    → AreRead left (unseen_at i observed)
    → AreFoundDiffering caps capacity steps i 1 text left
first_found caps capacity steps left observed i text read h struck = record {
  observed = observed;
  read = read;
  first = text;
  more = [];
  now = unseen_at i observed;
  differ = (first_of caps capacity steps observed i text read h, refl);
  counted = refl;
  is = sym (append-nil text);
  left_is = struck;
}

-- one more is found
pub more_found : (caps : Caps) (capacity : ℕ) (steps : List Data) (old new : List Data) (i count number : ℕ)
    (text one : List ℕ) → AreFoundDiffering caps capacity steps i count text old
    → IsDiffering caps capacity old number one
    → ((observed : List (Action × Seen)) → AreRead old observed → AreRead new (unseen_at number observed))
    → AreFoundDiffering caps capacity steps i (count + 1) (text ++ one) new
more_found caps capacity steps old new i count number text one h differs strikes = record {
  observed = h.observed;
  read = h.read;
  first = h.first;
  more = h.more ++ (number, one) ∷ [];
  now = unseen_at number h.now;
  differ = one_more_out caps capacity h.observed ((i, h.first) ∷ h.more) h.now number one h.differ
      (first_of caps capacity old h.now number one h.left_is differs);
  counted =
      let counted = h.counted in
      let longer = length-append h.more ((number, one) ∷ []) in
      omega (arith, counted, longer);
  is =
      ap (λ l. l ++ one) h.is ∙ append_assoc h.first (flat_map (λ (o : ℕ × List ℕ). o.1) h.more) one
      ∙ ap (λ l. h.first ++ l)
      (ap (λ l. flat_map (λ (o : ℕ × List ℕ). o.1) h.more ++ l) (sym (append-nil one))
      ∙ sym (flat_map-append (λ (o : ℕ × List ℕ). o.1) h.more ((number, one) ∷ [])));
  left_is = strikes h.now h.left_is;
}

-- no more is
pub all_found : (caps : Caps) (capacity : ℕ) (vs : List Value) (left : List Data) (i count seen : ℕ)
    (text whole last : List ℕ) → AreFoundDiffering caps capacity (map view vs) i count text left
    → IsConforming caps capacity left last
    → ((observed : List (Action × Seen)) → AreRead (map view vs) observed → seen ≡ seen_count observed)
    → whole ≡ text ++ differs_text count (length vs) seen
    → AreDiffering caps capacity (map view vs) i whole
all_found caps capacity vs left i count seen text whole last h conforms counts is =
    let same = same_read left conforms.observed h.now conforms.read h.left_is in
    let as_many = count_read vs h.observed h.read in
    record {
      observed = h.observed;
      read = h.read;
      first = h.first;
      more = h.more;
      differ = all_out caps capacity h.observed ((i, h.first) ∷ h.more) h.now h.differ
          (conforms.records, subst (λ os. IsShownRun caps capacity os conforms.records) same conforms.run);
      is = is ∙ rw (h.counted, sym as_many, counts h.observed h.read, h.is) refl;
    }

-- what is told where none differs, and where one does
pub full_none : (caps : Caps) (capacity : ℕ) (steps : List Data) (f : Option ScenarioFault) (text : List ℕ)
    → (f ≡ None) × IsConforming caps capacity steps text → IsFullVerdict caps capacity steps f text
full_none caps capacity steps f text h = subst (λ f. IsFullVerdict caps capacity steps f text) (sym h.0) h.1

pub full_some : (caps : Caps) (capacity : ℕ) (steps : List Data) (f : Option ScenarioFault) (i : ℕ) (text : List ℕ)
    → (f ≡ Some (fault.Differs i)) × AreDiffering caps capacity steps i text
    → IsFullVerdict caps capacity steps f text
full_some caps capacity steps f i text h = subst (λ f. IsFullVerdict caps capacity steps f text) (sym h.0) h.1

-- ---- the steps of a document

-- all are counted
pub counted_all : (vs : List Value) (first observed : List (Action × Seen)) (i answers : ℕ)
    → AreRead (map view vs) first → AreRead (map view vs) observed → length vs ≤ i
    → answers ≡ seen_count (take i first) → answers ≡ seen_count observed
counted_all vs first observed i answers p q past h =
    let whole = count_read vs first p in
    h ∙ ap seen_count (take_all i first (omega (arith, whole, past)) ∙ same_read (map view vs) first observed p q)
