-- A strict form is a document without a fault.
use Rattle.std.proofs.Common.{◌≡◌, ◌^◌, ◌∙◌, ℕ, Bool, true, false, List, [], ◌++◌, Option, Some, None, refl, sym}
use Rattle.std.proofs.Common.{◌⊎◌, Result, Ok, Err, inr}
use Rattle.std.specs.Result.{IfErr}
use Rattle.std.proofs.Common.{ap, subst, inl, arith, codes, map, option_and_then, option_map}
use Rattle.std.specs.{Prelude.{bytes_eq, filter, not, slice_get}, List.{list_any}}
use Rattle.std.proofs.lemmas.Option.{slice_get-map}
use Rattle.std.proofs.lemmas.Slice.Eq.{bytes_eq-Decides}
use Rattle.json.proofs.Found.{Some_inj}
use Rattle.serde_json.specs.{Data.{Data, Items, array, no_members}, Find.{as_array, as_number, as_u64, get}, Read.{read}}
use Rattle.serde_json.specs.View.{items_of}
use Rattle.serde_json.proofs.Views.{get_member-put, get_member-put_other}
use Rattle.dsa_regs.specs.{declared.Caps.{Caps}, Caps.{check_caps}}
use Rattle.dsa_scenario.specs.declared.actions.Action.{Action}
use Rattle.dsa_scenario.specs.declared.faults.ScenarioFault.{ScenarioFault, TheVariants.{NotJson, OutOfMemory}}
use Rattle.dsa_scenario.specs.declared.faults.ScenarioFault.TheVariants.{BadDocument, BadStep, BadCaps, BadCapacity}
use Rattle.dsa_scenario.specs.{Actions.{action_of, caps_of}, Fields.{below_limit, whole_of}}
use Rattle.dsa_scenario.specs.Document.{head_of, list_of_items, HasHead, IsBadAt, IsDocument, IsFaultOf, IsJson, IsOpenable}
use Rattle.dsa_expand.specs.{Steps.{Pair, is_friendly, object_with, put_all}, Values.{pairs_of}}
use Rattle.dsa_expand.specs.Expansion.{AreExpanded, IsExpansion, head_pairs, is_part, pair_at, read_of, strict_document}
use Rattle.dsa_expand.proofs.Lists.{listed}
use Rattle.dsa_expand.proofs.AtKeys.{AreAt, HasKey, at_append, filter_at, got, key_after, key_append}
use Rattle.dsa_expand.proofs.{Plain.{plain_steps}, Shallow.{head_parts, second}}

-- ---- the head of a strict document

at_pair : (key k : List ℕ) (o : Option Data) (d : Data) → (key ≡ k → o ≡ Some d) → AreAt key d (pair_at k o)
at_pair key k None d h = tt
at_pair key k (Some v) d h = (λ is. Some_inj v d (h is), tt)

has_pair : (key : List ℕ) (o : Option Data) (d : Data) → o ≡ Some d → HasKey key (pair_at key o)
has_pair key None d e = absurd cc
has_pair key (Some v) d e = inl refl

joined : (caps : Option Caps) (capacity : Option ℕ) (steps : Option Items) (t : Caps × ℕ × Items) → caps ≡ Some t.0
    → capacity ≡ Some t.1 → steps ≡ Some t.2
    → option_and_then (λ c. option_and_then (λ n. option_and_then (λ ds. Some (c, n, ds)) steps) capacity) caps ≡ Some t
joined caps capacity steps t h k l = rw (h, k, l) refl

apart : (b : Bool) → b ≡ true → b ≡ false → ⊥
apart b e f = cc

none_some : {A : Type 0} (o : Option A) (a : A) → o ≡ None → o ≡ Some a → ⊥
none_some o a e f = cc

differ : (key other : List ℕ) → bytes_eq key other ≡ false → key ≡ other → ⊥
differ key other unlike is = apart (bytes_eq key other) ((bytes_eq-Decides key other).1 is) unlike

module _ (d : Data) (caps : Caps) (capacity : ℕ) (items : Items) (head : head_of d ≡ Some (caps, capacity, items))
    (strict : List (List Pair)) where
  -- a part that the document has
  part_same : (key : List ℕ) (v : Data) → is_part key ≡ true → bytes_eq key (codes "steps") ≡ false
      → HasKey key (head_pairs d) → get key d ≡ Some v → get key (strict_document (head_pairs d) strict) ≡ get key d
  part_same key v part other has there =
      let caps_pairs = at_pair key (codes "caps") (get (codes "caps") d) v (λ is. ap (λ k. get k d) (sym is) ∙ there) in
      let capacity_pairs = at_pair key (codes "capacity") (get (codes "capacity") d) v
      (λ is. ap (λ k. get k d) (sym is) ∙ there) in
      let others = filter_at key v (λ (pair : Pair). not (is_part pair.0)) (pairs_of d)
      (λ p is. ap not (subst (λ k. is_part k ≡ true) is part)) in
      let at = at_append key v _ _ (at_append key v _ _ caps_pairs capacity_pairs) others in
      get_member-put_other key (codes "steps") (array (items_of (map object_with strict)))
      (put_all (head_pairs d) no_members) (differ key (codes "steps") other)
      ∙ got key v (head_pairs d) at has ∙ sym there

  abbrev caps_pairs : List Pair
  caps_pairs = pair_at (codes "caps") (get (codes "caps") d)

  abbrev capacity_pairs : List Pair
  capacity_pairs = pair_at (codes "capacity") (get (codes "capacity") d)

  abbrev other_pairs : List Pair
  other_pairs = filter (λ (pair : Pair). not (is_part pair.0)) (pairs_of d)

  has_caps : (v : Data) → get (codes "caps") d ≡ Some v → HasKey (codes "caps") (head_pairs d)
  has_caps v there =
      key_append (codes "caps") (caps_pairs ++ capacity_pairs) other_pairs
      (key_append (codes "caps") caps_pairs capacity_pairs (has_pair (codes "caps") (get (codes "caps") d) v there))

  has_capacity : (v : Data) → get (codes "capacity") d ≡ Some v → HasKey (codes "capacity") (head_pairs d)
  has_capacity v there =
      key_append (codes "capacity") (caps_pairs ++ capacity_pairs) other_pairs
      (key_after (codes "capacity") caps_pairs capacity_pairs
      (has_pair (codes "capacity") (get (codes "capacity") d) v there))

  head_strict : head_of (strict_document (head_pairs d) strict)
      ≡ Some (caps, capacity, items_of (map object_with strict))
  head_strict =
      let e = strict_document (head_pairs d) strict in
      let list = items_of (map object_with strict) in
      let said = head_parts (option_and_then caps_of (get (codes "caps") d)) (whole_of (2 ^ 64) (codes "capacity") d)
      (option_and_then as_array (get (codes "steps") d)) (caps, capacity, items) head in
      let caps_at = second caps_of (get (codes "caps") d) caps said.0 in
      let below = second (below_limit (2 ^ 64))
      (option_and_then as_u64 (option_and_then as_number (get (codes "capacity") d))) capacity said.1 in
      let whole = second as_u64 (option_and_then as_number (get (codes "capacity") d)) below.0 below.1 in
      let capacity_at = second as_number (get (codes "capacity") d) whole.0 whole.1 in
      let caps_same = part_same (codes "caps") caps_at.0 refl refl (has_caps caps_at.0 caps_at.1) caps_at.1 in
      let capacity_same = part_same (codes "capacity") capacity_at.0 refl refl
      (has_capacity capacity_at.0 capacity_at.1) capacity_at.1 in
      let steps_there : get (codes "steps") e ≡ Some (array list) =
      get_member-put (codes "steps") (array list) (put_all (head_pairs d) no_members) in
      joined (option_and_then caps_of (get (codes "caps") e)) (whole_of (2 ^ 64) (codes "capacity") e)
      (option_and_then as_array (get (codes "steps") e)) (caps, capacity, list)
      (ap (λ o. option_and_then caps_of o) caps_same ∙ said.0)
      (ap (λ o. option_and_then (below_limit (2 ^ 64)) (option_and_then as_u64 (option_and_then as_number o)))
      capacity_same ∙ said.1)
      (ap (λ o. option_and_then as_array o) steps_there)

-- ---- the document

pub document_of : (b : Bool) (text : List ℕ) (document : Data) (caps : Caps) (capacity : ℕ) (items : Items)
    (strict : List (List Pair)) → IsJson text (read_of b document strict)
    → head_of document ≡ Some (caps, capacity, items) → AreExpanded caps capacity (list_of_items items) strict
    → list_any is_friendly (list_of_items items) ≡ b
    → (actions : List Action) × IsDocument text caps capacity actions
document_of true text document caps capacity items strict json head steps friendly = (
  steps.run.actions,
  record {
    steps = map object_with strict;
    head = record {
      document = strict_document (head_pairs document) strict;
      items = items_of (map object_with strict);
      json = json;
      head = head_strict document caps capacity items head strict;
      listed = listed (map object_with strict);
    };
    asked = steps.run.asked;
  },
)
document_of false text document caps capacity items strict json head steps friendly = (
  steps.run.actions,
  record {
    steps = list_of_items items;
    head = record { document = document; items = items; json = json; head = head; listed = refl };
    asked = plain_steps [] (list_of_items items) strict steps.records steps.by friendly ∙ steps.run.asked;
  },
)

-- ---- its faults

same_value : (text : List ℕ) (d e : Data) → IsJson text d → IsJson text e → d ≡ e
same_value text d e h k = Some_inj d e (sym h.value ∙ k.value)

same_head : (text : List ℕ) (caps caps' : Caps) (capacity capacity' : ℕ) (steps steps' : List Data)
    → HasHead text caps capacity steps → HasHead text caps' capacity' steps'
    → (caps ≡ caps') × (capacity ≡ capacity') × (steps ≡ steps')
same_head text caps caps' capacity capacity' steps steps' h k =
    let heads = Some_inj {A = Caps × ℕ × Items} (caps, capacity, h.items) (caps', capacity', k.items)
    (sym h.head ∙ ap head_of (same_value text h.document k.document h.json k.json) ∙ k.head) in (
      ap (λ (x : Caps × ℕ × Items). x.0) heads,
      ap (λ (x : Caps × ℕ × Items). x.1) heads,
      sym h.listed ∙ ap (λ (x : Caps × ℕ × Items). list_of_items x.2) heads ∙ k.listed,
    )

none_bad : (o : Option Action) → option_map Some o ≡ Some None → ⊥
none_bad None e = cc
none_bad (Some a) e = cc

all_good : (steps : List Data) (actions : List Action) (i : ℕ) → map action_of steps ≡ map Some actions
    → IsBadAt steps i → ⊥
all_good steps actions i asked bad =
    none_bad (slice_get actions i)
    (sym (slice_get-map Some actions i) ∙ ap (λ l. slice_get l i) (sym asked) ∙ slice_get-map action_of steps i
    ∙ bad.here)

no_fault : (text : List ℕ) (caps : Caps) (capacity : ℕ) (actions : List Action)
    → IsDocument text caps capacity actions → IsOpenable caps capacity → (e : ScenarioFault) → IsFaultOf text e → ⊥
no_fault text caps capacity actions h opening NotJson f =
    none_some (read text) h.head.document (f h.head.json.utf8) h.head.json.value
no_fault text caps capacity actions h opening BadDocument f =
    none_some {A = Caps × ℕ × Items} (head_of f.document) (caps, capacity, h.head.items) f.none
    (ap head_of (same_value text f.document h.head.document f.json h.head.json) ∙ h.head.head)
no_fault text caps capacity actions h opening (BadStep i) f =
    let same = same_head text f.caps caps f.capacity capacity f.steps h.steps f.head h.head in
    all_good h.steps actions i h.asked (subst (λ steps. IsBadAt steps i) same.2 f.bad)
no_fault text caps capacity actions h opening BadCaps f =
    let same = same_head text f.caps caps f.capacity capacity f.steps h.steps f.head h.head in
    apart (check_caps caps) opening.good (subst (λ c. check_caps c ≡ false) same.0 f.bad.1)
no_fault text caps capacity actions h opening BadCapacity f =
    let same = same_head text f.caps caps f.capacity capacity f.steps h.steps f.head h.head in
    omega (arith, same.1, f.bad.1.1, opening.small)
no_fault text caps capacity actions h opening _ f = f

without_fault : (bytes text : List ℕ) (told : Option ScenarioFault) → IsExpansion bytes told text → told ≡ None
    → (e : ScenarioFault) → IsFaultOf text e → ⊥
without_fault bytes text told h none e f =
    let found = (subst (λ o. IsExpansion bytes o text) none h).0 in
    no_fault text found.caps found.capacity found.actions found.faultless found.opening e f

-- what a way to make a text of the strict form may give in place of a text
pub only_memory : {A : Type 0} (bytes strict text : List ℕ) (told : Option ScenarioFault) (r : Result A ScenarioFault)
    → strict ≡ text → IsExpansion bytes told text → told ≡ None
    → IfErr r (λ e. (e ≡ OutOfMemory) ⊎ IsFaultOf strict e) → IfErr r (λ e. (e ≡ OutOfMemory) ⊎ IsFaultOf bytes e)
only_memory bytes strict text told (Ok a) same h none f = f
only_memory bytes strict text told (Err e) same h none (inl memory) = inl memory
only_memory bytes strict text told (Err e) same h none (inr f) =
    absurd (without_fault bytes text told h none e (subst (λ t. IsFaultOf t e) same f))
