-- What is written nests no deeper than what was read.
use Rattle.std.proofs.Common.{◌≡◌, ◌≤◌, ℕ, suc, Bool, true, false, List, [], ◌∷◌, ◌++◌, Ordering, Less, Equal, Greater}
use Rattle.std.proofs.Common.{Option, Some, None, option_and_then, option_map, map, refl, subst, arith, codes}
use Rattle.std.proofs.Common.{◌<◌, ◌^◌, ◌∙◌, zero, length, get_or, drop}
use Rattle.serde_json.specs.{View.{view}, declared.value.Value.{Value}}
use Rattle.dsa_expand.proofs.Lists.{next_of}
use Rattle.json.proofs.Found.{Some_inj}
use Rattle.std.proofs.Common.{ap}
use Rattle.std.specs.Prelude.{if◌then◌else◌, not, filter, is_some, ⊤, bytes_eq, ◌||◌}
use Rattle.std.specs.Ordering.{match_ordering, nat_cmp}
use Rattle.std.specs.Cmp.Lexicographic.{slice_cmp}
use Rattle.serde_json.specs.Data.{Data, string, array, object, Items, no_items, item, Members}
use Rattle.serde_json.specs.Data.{no_members, member, depth, items_depth, members_depth}
use Rattle.serde_json.specs.Find.{get, get_member, as_array}
use Rattle.dsa_regs.specs.declared.Caps.{Caps}
use Rattle.dsa_scenario.specs.{Fields.{Row, whole_of}, Actions.{caps_of, kind_of, kind_text, rows_of_kind, action_of}}
use Rattle.dsa_scenario.specs.{declared.actions.StepKind.{StepKind}, Document.{head_of, list_of_items}}
use Rattle.dsa_expand.specs.Values.{pairs_in, pairs_of, set_of}
use Rattle.dsa_expand.specs.{Commands.{word_said}, Descriptors.{descriptor_said, digits_of_descriptor}}
use Rattle.dsa_expand.specs.Steps.{Pair, Given, Known, known_name, number_at, strict_descriptor, strict_set, strict_name}
use Rattle.dsa_expand.specs.Steps.{strict_value, strict_word, strict_at, fields_onto, is_in_strict, other_members, strict_by}
use Rattle.dsa_expand.specs.Steps.{with_given, if_step, object_with, strict_step}
use Rattle.dsa_scenario.specs.declared.run.Record.{Record}
use Rattle.dsa_expand.specs.Expansion.{AreStrictBy, pair_at, is_part, head_pairs}
use Rattle.dsa_expand.specs.Members.{AreFlat, AreShallow}
use Rattle.dsa_expand.proofs.Jsons.{AreAllShallow}

-- ---- optional values

-- the value that is there nests no deeper
abbrev pub AtMost : ℕ → Option Data → Type 0
AtMost n None = ⊤
AtMost n (Some d) = depth d ≤ n

if_at_most : (b : Bool) (n : ℕ) (x y : Option Data) → AtMost n x → AtMost n y → AtMost n (if b then x else y)
if_at_most true n x y h k = h
if_at_most false n x y h k = k

then_at_most : (n : ℕ) (f : Data → Option Data) (o : Option Data) → ((d : Data) → depth d ≤ n → AtMost n (f d))
    → AtMost n o → AtMost n (option_and_then f o)
then_at_most n f None h k = tt
then_at_most n f (Some d) h k = h d k

map_at_most : {X : Type 0} (n : ℕ) (f : X → Data) (o : Option X) → ((x : X) → depth (f x) ≤ n)
    → AtMost n (option_map f o)
map_at_most n f None h = tt
map_at_most n f (Some x) h = h x

-- ---- parts of an object

by_order : (o : Ordering) (n : ℕ) (here rest : Option Data) → AtMost n here → AtMost n rest
    → AtMost n (match_ordering o rest here rest)
by_order o n here rest h k =
    elim o as (λ v. AtMost n (match_ordering v rest here rest)) [ Less ↦ k | Equal ↦ h | Greater ↦ k ]

member_at_most : (key : List ℕ) (n : ℕ) (ms : Members) → members_depth ms ≤ n → AtMost n (get_member key ms)
member_at_most key n no_members h = tt
member_at_most key n (member l d ms) h =
    let rest = member_at_most key n ms (omega arith) in
    let here : depth d ≤ n = omega arith in
    by_order (slice_cmp nat_cmp key l) n (Some d) (get_member key ms) here rest

pub get_at_most : (key : List ℕ) (n : ℕ) (d : Data) → depth d ≤ suc n → AtMost n (get key d)
get_at_most key n (object ms) h = member_at_most key n ms (omega arith)
get_at_most key n _ h = tt

pairs_in_shallow : (n : ℕ) (ms : Members) → members_depth ms ≤ n → AreShallow n (pairs_in ms)
pairs_in_shallow n no_members h = tt
pairs_in_shallow n (member k d ms) h = (omega arith, pairs_in_shallow n ms (omega arith))

pairs_shallow : (n : ℕ) (d : Data) → depth d ≤ suc n → AreShallow n (pairs_of d)
pairs_shallow n (object ms) h = pairs_in_shallow n ms (omega arith)
pairs_shallow n _ h = tt

append_shallow : (n : ℕ) (ps qs : List Pair) → AreShallow n ps → AreShallow n qs → AreShallow n (ps ++ qs)
append_shallow n [] qs h k = k
append_shallow n (p ∷ ps) qs h k = (h.0, append_shallow n ps qs h.1 k)

if_shallow : (b : Bool) (n : ℕ) (p : Pair) (ps : List Pair) → depth p.1 ≤ n → AreShallow n ps
    → AreShallow n (if b then p ∷ ps else ps)
if_shallow true n p ps h k = (h, k)
if_shallow false n p ps h k = k

filter_shallow : (n : ℕ) (test : Pair → Bool) (ps : List Pair) → AreShallow n ps → AreShallow n (filter test ps)
filter_shallow n test [] h = tt
filter_shallow n test (p ∷ ps) h = if_shallow (test p) n p (filter test ps) h.0 (filter_shallow n test ps h.1)

-- ---- strict steps

descriptor_shallow : (n : ℕ) (d : Data) → depth d ≤ n → AtMost n (strict_descriptor d)
descriptor_shallow n (object ms) h =
    map_at_most n (λ d. string (digits_of_descriptor d)) (descriptor_said (object ms)) (λ d. omega arith)
descriptor_shallow n _ h = h

set_shallow : (n : ℕ) (d : Data) → depth d ≤ n → AtMost n (strict_set d)
set_shallow n (array ds) h = map_at_most n number_at (set_of 0 64 (list_of_items ds)) (λ x. omega arith)
set_shallow n _ h = h

name_shallow : (n : ℕ) (known : Known) (d : Data) → depth d ≤ n → AtMost n (strict_name known d)
name_shallow n known (string s) h = map_at_most n number_at (known_name known s) (λ x. omega arith)
name_shallow n known _ h = h

value_shallow : (n : ℕ) (known : Known) (key : List ℕ) (d : Data) → depth d ≤ n
    → AtMost n (strict_value known key d)
value_shallow n known key d h =
    if_at_most (bytes_eq key (codes "desc")) n _ _ (descriptor_shallow n d h)
    (if_at_most (bytes_eq key (codes "queues") || bytes_eq key (codes "engines")) n _ _ (set_shallow n d h)
    (if_at_most (bytes_eq key (codes "name")) n _ _ (name_shallow n known d h) h))

word_shallow : (n : ℕ) (step : Data) (word called : Option Data) → AtMost n word
    → AtMost n (strict_word step word called)
word_shallow n step (Some word) None h = h
word_shallow n step (Some word) (Some called) h = tt
word_shallow n step None None h = tt
word_shallow n step None (Some called) h = map_at_most n number_at (word_said step called) (λ x. omega arith)

at_shallow : (n : ℕ) (known : Known) (step : Data) (key : List ℕ) → depth step ≤ suc n
    → AtMost n (strict_at known step key)
at_shallow n known step key h =
    if_at_most (bytes_eq key (codes "word")) n _ _
    (word_shallow n step _ _ (get_at_most (codes "word") n step h))
    (then_at_most n (strict_value known key) (get key step) (value_shallow n known key) (get_at_most key n step h))

-- what a second step gave, where the first gave a value
pub second : {A B : Type 0} (f : A → Option B) (o : Option A) (b : B) → option_and_then f o ≡ Some b
    → (a : A) × (o ≡ Some a) × (f a ≡ Some b)
second f None b e = cc
second f (Some a) b e = (a, refl, e)

pub mapped : {A B : Type 0} (f : A → B) (o : Option A) (b : B) → option_map f o ≡ Some b
    → (a : A) × (o ≡ Some a) × (f a ≡ b)
mapped f None b e = cc
mapped f (Some a) b e = (a, refl, cc)

fields_shallow : (n : ℕ) (known : Known) (step : Data) (done : List Pair) (rows : List Row) (ps : List Pair)
    → depth step ≤ suc n → AreShallow n done → fields_onto known step done rows ≡ Some ps → AreShallow n ps
fields_shallow n known step done [] ps low h e =
    let same : done ≡ ps = cc in
    subst (AreShallow n) same h
fields_shallow n known step done (row ∷ rows) ps low h e =
    let found = second (λ d. fields_onto known step (done ++ (row.0, d) ∷ []) rows) (strict_at known step row.0) ps e in
    let here : depth found.0 ≤ n = subst (AtMost n) found.1 (at_shallow n known step row.0 low) in
    fields_shallow n known step (done ++ (row.0, found.0) ∷ []) rows ps low
    (append_shallow n done ((row.0, found.0) ∷ []) h (here, tt)) found.2

checked : (b : Bool) (ps qs : List Pair) → (if b then Some ps else None) ≡ Some qs → ps ≡ qs
checked true ps qs e = cc
checked false ps qs e = cc

-- the fields of a step, and its other members
pub members_shallow : (n : ℕ) (known : Known) (kind : StepKind) (step : Data) (fields ps : List Pair)
    → depth step ≤ suc n
    → fields_onto known step ((codes "do", string (kind_text kind)) ∷ []) (rows_of_kind kind) ≡ Some fields
    → fields ++ other_members kind step ≡ ps → AreShallow n ps
members_shallow n known kind step fields ps low made is =
    let first = fields_shallow n known step ((codes "do", string (kind_text kind)) ∷ []) (rows_of_kind kind) fields low
    (omega arith, tt) made in
    subst (AreShallow n) is (append_shallow n fields (other_members kind step) first
    (filter_shallow n (λ pair. not (is_in_strict kind step pair.0)) (pairs_of step) (pairs_shallow n step low)))

-- the members of a step in its strict form
pub strict_shallow : (n : ℕ) (known : Known) (kind : StepKind) (step : Data) (ps : List Pair) → depth step ≤ suc n
    → strict_by known kind step ≡ Some ps → AreShallow n ps
strict_shallow n known kind step ps low is =
    let made = mapped (λ fields. fields ++ other_members kind step)
    (fields_onto known step ((codes "do", string (kind_text kind)) ∷ []) (rows_of_kind kind)) ps is in
    members_shallow n known kind step made.0 ps low made.1 made.2

-- of which parts a strict step is made
pub record IsMadeOf (known : Known) (step : Data) (ps : List Pair) : Type 0 where
  pub kind : StepKind
  pub fields : List Pair
  pub named : kind_of step ≡ Some kind
  pub made : fields_onto known step ((codes "do", string (kind_text kind)) ∷ []) (rows_of_kind kind) ≡ Some fields
  pub all : fields ++ other_members kind step ≡ ps

pub made_of_parts : (known : Known) (step : Data) (ps : List Pair) → strict_step known step ≡ Some ps
    → IsMadeOf known step ps
made_of_parts known step ps e =
    let by = second (λ kind. option_and_then if_step (strict_by known kind step)) (kind_of step) ps e in
    let kind = by.0 in
    let checks = second if_step (strict_by known kind step) ps by.2 in
    let made = mapped (λ fields. fields ++ other_members kind step)
    (fields_onto known step ((codes "do", string (kind_text kind)) ∷ []) (rows_of_kind kind)) checks.0 checks.1 in
    record {
      kind = kind;
      fields = made.0;
      named = by.1;
      made = made.1;
      all = made.2 ∙ checked (is_some (action_of (object_with checks.0))) checks.0 ps checks.2;
    }

pub step_shallow : (n : ℕ) (known : Known) (step : Data) (ps : List Pair) → depth step ≤ suc n
    → strict_step known step ≡ Some ps → AreShallow n ps
step_shallow n known step ps low e =
    let parts = made_of_parts known step ps e in
    members_shallow n known parts.kind step parts.fields ps low parts.made parts.all

-- ---- steps in turn

flat_drop : (n i : ℕ) (vs : List Value) → AreFlat n (map view vs) → AreFlat n (map view (drop i vs))
flat_drop n zero vs h = h
flat_drop n (suc i) [] h = tt
flat_drop n (suc i) (v ∷ vs) h = flat_drop n i vs h.1

pub flat_at : (n i : ℕ) (vs : List Value) (v : Value) → i < length vs → v ≡ get_or vs i v → AreFlat n (map view vs)
    → depth (view v) ≤ n
flat_at n i vs v inside is h =
    (subst (λ xs. AreFlat n (map view xs)) (next_of vs i v inside is) (flat_drop n i vs h)).0

pub items_flat : (n : ℕ) (ds : Items) → items_depth ds ≤ n → AreFlat n (list_of_items ds)
items_flat n no_items h = tt
items_flat n (item d ds) h = (omega arith, items_flat n ds (omega arith))

pub steps_shallow : (n : ℕ) (given : List Given) (ds : List Data) (pss : List (List Pair)) (entries : List Record)
    → AreFlat (suc n) ds → AreStrictBy given ds pss entries → AreAllShallow n pss
steps_shallow n given [] [] [] low h = tt
steps_shallow n given (d ∷ ds) (ps ∷ pss) (r ∷ rs) low h =
    (step_shallow n (Some given) d ps low.0 h.0, steps_shallow n (with_given given d r) ds pss rs low.1 h.1)
steps_shallow n given _ _ _ low h = absurd h

-- ---- documents

-- the parts of a document
pub record Parts (d : Data) (caps : Caps) (capacity : ℕ) (items : Items) : Type 0 where
  pub caps_at : Data
  pub caps_there : get (codes "caps") d ≡ Some caps_at
  pub steps_at : Data
  pub steps_there : get (codes "steps") d ≡ Some steps_at
  pub listed : as_array steps_at ≡ Some items

pub head_parts : (caps : Option Caps) (capacity : Option ℕ) (steps : Option Items) (t : Caps × ℕ × Items)
    → option_and_then (λ c. option_and_then (λ n. option_and_then (λ ds. Some (c, n, ds)) steps) capacity) caps ≡ Some t
    → (caps ≡ Some t.0) × (capacity ≡ Some t.1) × (steps ≡ Some t.2)
head_parts (Some c) (Some n) (Some ds) t e =
    let same = Some_inj {A = Caps × ℕ × Items} (c, n, ds) t e in (
      ap (λ (x : Caps × ℕ × Items). Some x.0) same,
      ap (λ (x : Caps × ℕ × Items). Some x.1) same,
      ap (λ (x : Caps × ℕ × Items). Some x.2) same,
    )
head_parts _ _ _ t e = absurd cc

pub parts_of : (d : Data) (caps : Caps) (capacity : ℕ) (items : Items) → head_of d ≡ Some (caps, capacity, items)
    → Parts d caps capacity items
parts_of d caps capacity items e =
    let said = head_parts (option_and_then caps_of (get (codes "caps") d)) (whole_of (2 ^ 64) (codes "capacity") d)
    (option_and_then as_array (get (codes "steps") d)) (caps, capacity, items) e in
    let there = second caps_of (get (codes "caps") d) caps said.0 in
    let steps = second as_array (get (codes "steps") d) items said.2 in
    record {
      caps_at = there.0;
      caps_there = there.1;
      steps_at = steps.0;
      steps_there = steps.1;
      listed = steps.2;
    }

array_items : (n : ℕ) (d : Data) (ds : Items) → as_array d ≡ Some ds → depth d ≤ suc n → items_depth ds ≤ n
array_items n (array es) ds e h =
    let same : es ≡ ds = cc in
    rw (← same) (omega arith)
array_items n _ ds e h = cc

pub items_at_most : (d : Data) (caps : Caps) (capacity : ℕ) (items : Items) → Parts d caps capacity items
    → depth d ≤ 127 → items_depth items ≤ 125
items_at_most d caps capacity items p h =
    array_items 125 p.steps_at items p.listed (subst (AtMost 126) p.steps_there (get_at_most (codes "steps") 126 d h))

pair_shallow : (n : ℕ) (key : List ℕ) (o : Option Data) → AtMost n o → AreShallow n (pair_at key o)
pair_shallow n key None h = tt
pair_shallow n key (Some d) h = (h, tt)

pub head_shallow : (n : ℕ) (d : Data) → depth d ≤ suc n → AreShallow n (head_pairs d)
head_shallow n d h =
    append_shallow n _ _
    (append_shallow n _ _ (pair_shallow n (codes "caps") _ (get_at_most (codes "caps") n d h))
    (pair_shallow n (codes "capacity") _ (get_at_most (codes "capacity") n d h)))
    (filter_shallow n (λ pair. not (is_part pair.0)) (pairs_of d) (pairs_shallow n d h))
