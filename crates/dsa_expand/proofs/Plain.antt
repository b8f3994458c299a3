-- A step with nothing in the friendly form asks what its strict form asks.
use Rattle.dsa_scenario.specs.declared.actions.StepKind.TheVariants as kind
use Rattle.std.proofs.Common.{◌≡◌, ◌∙◌, Bool, true, false, ◌||◌, List, [], ◌∷◌, ◌++◌, ℕ, Option, Some, None, refl, sym, ap, subst}
use Rattle.std.proofs.Common.{codes, option_and_then, map, inl}
use Rattle.std.specs.{Prelude.{bytes_eq, find, if◌then◌else◌, is_some, not}, List.{list_any}}
use Rattle.std.proofs.lemmas.Slice.Eq.{bytes_eq-Decides}
use Rattle.json.proofs.Found.{Some_inj}
use Rattle.serde_json.specs.Data.{Data, string, array, object}
use Rattle.serde_json.specs.Find.{as_array, as_object, as_str, get}
use Rattle.dsa_scenario.specs.{declared.actions.StepKind.{StepKind}, declared.run.Record.{Record}, Fields.{Row, text_of}}
use Rattle.dsa_scenario.specs.Actions.{action_of, kind_named, kind_of, kind_text, kinds, rows_of_kind}
use Rattle.dsa_expand.specs.Steps.{Given, Known, Pair, fields_onto, is_friendly, is_friendly_at, is_friendly_by}
use Rattle.dsa_expand.specs.Steps.{is_friendly_value}
use Rattle.dsa_expand.specs.Steps.{is_in_strict, object_with, other_members, says_command, strict_at, strict_descriptor}
use Rattle.dsa_expand.specs.Steps.{strict_name, strict_set, strict_step, strict_value, strict_word, with_given}
use Rattle.dsa_expand.specs.{Values.{pairs_of}, Expansion.{AreStrictBy}}
use Rattle.dsa_expand.proofs.AtKeys.{AreAt, AreSameAt, HasKey, action_same, at_append, filter_at, got, key_append, key_last}
use Rattle.dsa_expand.proofs.Shallow.{made_of_parts, second}

never : {A : Type 0} → true ≡ false → A
never e = absurd (apart e)
  where
    apart : true ≡ false → ⊥
    apart e = cc

-- ---- tests

neither : (a b : Bool) → (a || b) ≡ false → (a ≡ false) × (b ≡ false)
neither true b e = never e
neither false b e = (refl, e)

middle : (a b c : Bool) → b ≡ true → (a || b || c) ≡ true
middle true true c e = refl
middle false true c e = refl
middle a false c e = never (sym e)

-- a row is at the key
abbrev IsRow : List ℕ → List Row → Type 0
IsRow key rows = list_any (λ row. bytes_eq row.0 key) rows ≡ true

row_here : (row : Row) (rows : List Row) → IsRow row.0 (row ∷ rows)
row_here row rows =
    ap (λ b. b || list_any (λ (r : Row). bytes_eq r.0 row.0) rows) ((bytes_eq-Decides row.0 row.0).1 refl)

row_later : (key : List ℕ) (row : Row) (rows : List Row) → IsRow key rows → IsRow key (row ∷ rows)
row_later key row rows h = either (bytes_eq row.0 key)
  where
    either : (b : Bool) → (b || list_any (λ (r : Row). bytes_eq r.0 key) rows) ≡ true
    either true = refl
    either false = h

-- ---- what stands at keys

descriptor_plain : (d : Data) → is_some (as_object d) ≡ false → strict_descriptor d ≡ Some d
descriptor_plain (object ms) e = never e
descriptor_plain _ e = refl

set_plain : (d : Data) → is_some (as_array d) ≡ false → strict_set d ≡ Some d
set_plain (array ds) e = never e
set_plain _ e = refl

name_plain : (known : Known) (d : Data) → is_some (as_str d) ≡ false → strict_name known d ≡ Some d
name_plain known (string s) e = never e
name_plain known _ e = refl

plain_by : (a b c : Bool) (known : Known) (d : Data)
    → (if a then is_some (as_object d) else if b then is_some (as_array d) else if c then is_some (as_str d) else false)
    ≡ false
    → (if a then strict_descriptor d else if b then strict_set d else if c then strict_name known d else Some d)
    ≡ Some d
plain_by true b c known d e = descriptor_plain d e
plain_by false true c known d e = set_plain d e
plain_by false false true known d e = name_plain known d e
plain_by false false false known d e = refl

if_plain : (b : Bool) (d : Data) → is_some (if b then Some d else None) ≡ false → b ≡ false
if_plain true d e = e
if_plain false d e = refl

at_plain : (known : Known) (key : List ℕ) (o : Option Data)
    → is_some (option_and_then (λ d. if is_friendly_value key d then Some d else None) o) ≡ false
    → option_and_then (strict_value known key) o ≡ o
at_plain known key None e = refl
at_plain known key (Some d) e =
    plain_by (bytes_eq key (codes "desc")) (bytes_eq key (codes "queues") || bytes_eq key (codes "engines"))
    (bytes_eq key (codes "name")) known d (if_plain (is_friendly_value key d) d e)

word_plain : (step : Data) (word called : Option Data) → is_some called ≡ false → strict_word step word called ≡ word
word_plain step word (Some called) e = never e
word_plain step (Some word) None e = refl
word_plain step None None e = refl

-- a step with a word says no command
no_command : (kind : StepKind) (step : Data) → says_command kind step ≡ false → IsRow (codes "word") (rows_of_kind kind)
    → is_some (get (codes "command") step) ≡ false
no_command kind.Command step e h = e
no_command _ step e h = never (sym h)

-- at a key of the kind the strict form has what stands there
strict_plain : (kind : StepKind) (known : Known) (step : Data) (key : List ℕ) → says_command kind step ≡ false
    → is_friendly_at step key ≡ false → IsRow key (rows_of_kind kind) → strict_at known step key ≡ get key step
strict_plain kind known step key says friendly row =
    go (bytes_eq key (codes "word")) (bytes_eq-Decides key (codes "word")).0
  where
    go : (b : Bool) → (b ≡ true → key ≡ codes "word")
        → (if b then strict_word step (get (codes "word") step) (get (codes "command") step)
        else option_and_then (strict_value known key) (get key step)) ≡ get key step
    go true same =
        let is : key ≡ codes "word" = same refl in
        let none = no_command kind step says (subst (λ k. IsRow k (rows_of_kind kind)) is row) in
        word_plain step (get (codes "word") step) (get (codes "command") step) none ∙ ap (λ k. get k step) (sym is)
    go false same = at_plain known key (get key step) friendly

none_friendly : (step : Data) (key : List ℕ) (rows : List Row)
    → list_any (λ (row : Row). is_friendly_at step row.0) rows ≡ false → IsRow key rows
    → is_friendly_at step key ≡ false
none_friendly step key [] e h = never (sym h)
none_friendly step key (row ∷ rows) e h =
    let both = neither (is_friendly_at step row.0) (list_any (λ (r : Row). is_friendly_at step r.0) rows) e in
    go (bytes_eq row.0 key) (bytes_eq-Decides row.0 key).0 both.0 (none_friendly step key rows both.1) h
  where
    go : (b : Bool) → (b ≡ true → row.0 ≡ key) → is_friendly_at step row.0 ≡ false
        → (IsRow key rows → is_friendly_at step key ≡ false)
        → (b || list_any (λ (r : Row). bytes_eq r.0 key) rows) ≡ true → is_friendly_at step key ≡ false
    go true same here more k = subst (λ l. is_friendly_at step l ≡ false) (same refl) here
    go false same here more k = more k

-- ---- fields

fields_at : (known : Known) (step : Data) (done : List Pair) (rows : List Row) (ps : List Pair) (key : List ℕ)
    (d : Data)
    → fields_onto known step done rows ≡ Some ps → strict_at known step key ≡ Some d → AreAt key d done → AreAt key d ps
fields_at known step done [] ps key d e is h = subst (AreAt key d) (Some_inj done ps e) h
fields_at known step done (row ∷ rows) ps key d e is h =
    let found = second (λ v. fields_onto known step (done ++ (row.0, v) ∷ []) rows) (strict_at known step row.0) ps e in
    fields_at known step (done ++ (row.0, found.0) ∷ []) rows ps key d found.2 is
    (at_append key d done ((row.0, found.0) ∷ []) h
    (λ same. Some_inj found.0 d (sym found.1 ∙ ap (strict_at known step) (sym same) ∙ is), tt))

fields_keep : (known : Known) (step : Data) (done : List Pair) (rows : List Row) (ps : List Pair) (key : List ℕ)
    → fields_onto known step done rows ≡ Some ps → HasKey key done → HasKey key ps
fields_keep known step done [] ps key e h = subst (HasKey key) (Some_inj done ps e) h
fields_keep known step done (row ∷ rows) ps key e h =
    let found = second (λ v. fields_onto known step (done ++ (row.0, v) ∷ []) rows) (strict_at known step row.0) ps e in
    fields_keep known step (done ++ (row.0, found.0) ∷ []) rows ps key found.2
    (key_append key done ((row.0, found.0) ∷ []) h)

-- the strict form has a value at the key, and one of these members is there
abbrev IsHeld : Known → Data → List ℕ → List Pair → Type 0
IsHeld known step key ps = (d : Data) × (strict_at known step key ≡ Some d) × HasKey key ps

fields_has : (known : Known) (step : Data) (done : List Pair) (rows : List Row) (ps : List Pair) (key : List ℕ)
    → fields_onto known step done rows ≡ Some ps → IsRow key rows → IsHeld known step key ps
fields_has known step done [] ps key e h = never (sym h)
fields_has known step done (row ∷ rows) ps key e h =
    let found = second (λ v. fields_onto known step (done ++ (row.0, v) ∷ []) rows) (strict_at known step row.0) ps e in
    go (bytes_eq row.0 key) (bytes_eq-Decides row.0 key).0 found.0 found.1 found.2
    (fields_has known step (done ++ (row.0, found.0) ∷ []) rows ps key found.2) h
  where
    go : (b : Bool) → (b ≡ true → row.0 ≡ key) → (v : Data) → strict_at known step row.0 ≡ Some v
        → fields_onto known step (done ++ (row.0, v) ∷ []) rows ≡ Some ps → (IsRow key rows → IsHeld known step key ps)
        → (b || list_any (λ (r : Row). bytes_eq r.0 key) rows) ≡ true → IsHeld known step key ps
    go true same v at made more k = (
      v,
      subst (λ l. strict_at known step l ≡ Some v) (same refl) at,
      fields_keep known step (done ++ (row.0, v) ∷ []) rows ps key made
          (key_last key done (row.0, v) (sym (same refl))),
    )
    go false same v at made more k = more k

-- ---- kinds

found_passes : {A : Type 0} (test : A → Bool) (xs : List A) (x : A) → find test xs ≡ Some x → test x ≡ true
found_passes test [] x e = absurd cc
found_passes test (y ∷ ys) x e = go (test y) refl (found_passes test ys x) e
  where
    go : (b : Bool) → test y ≡ b → (find test ys ≡ Some x → test x ≡ true)
        → (if b then Some y else find test ys) ≡ Some x → test x ≡ true
    go true is more f = subst (λ z. test z ≡ true) (Some_inj y x f) is
    go false is more f = more f

text_is : (d : Data) (text : List ℕ) → as_str d ≡ Some text → d ≡ string text
text_is (string s) text e = ap string (Some_inj s text e)
text_is _ text e = absurd cc

-- the text `do` of a step of this kind
do_text : (step : Data) (kind : StepKind) → kind_of step ≡ Some kind
    → get (codes "do") step ≡ Some (string (kind_text kind))
do_text step kind e =
    let named = second kind_named (text_of (codes "do") step) kind e in
    let there = second as_str (get (codes "do") step) named.0 named.1 in
    let passes = found_passes (λ k. bytes_eq named.0 (kind_text k)) kinds kind named.2 in
    let same : named.0 ≡ kind_text kind = (bytes_eq-Decides named.0 (kind_text kind)).0 passes in
    there.1 ∙ ap (λ d. Some d) (text_is there.0 named.0 there.2 ∙ ap string same)

named_back : (kind : StepKind) → kind_named (kind_text kind) ≡ Some kind
named_back kind.Queue = refl
named_back _ = refl

-- ---- steps

module _ (known : Known) (step : Data) (ps : List Pair) (kind : StepKind) (fields : List Pair)
    (named : kind_of step ≡ Some kind)
    (made : fields_onto known step ((codes "do", string (kind_text kind)) ∷ []) (rows_of_kind kind) ≡ Some fields)
    (all : fields ++ other_members kind step ≡ ps) where
  do_at : strict_at known step (codes "do") ≡ Some (string (kind_text kind))
  do_at = ap (λ o. option_and_then (strict_value known (codes "do")) o) (do_text step kind named)

  others_at : (key : List ℕ) (d : Data) → is_in_strict kind step key ≡ true → AreAt key d (other_members kind step)
  others_at key d h =
      filter_at key d (λ pair. not (is_in_strict kind step pair.0)) (pairs_of step)
      (λ p is. ap not (subst (λ k. is_in_strict kind step k ≡ true) is h))

  got_at : (key : List ℕ) (d : Data) → is_in_strict kind step key ≡ true → strict_at known step key ≡ Some d
      → HasKey key fields → get key (object_with ps) ≡ Some d
  got_at key d inside at has =
      let first : key ≡ codes "do" → string (kind_text kind) ≡ d =
      λ is. Some_inj (string (kind_text kind)) d (sym do_at ∙ ap (strict_at known step) (sym is) ∙ at) in
      let front = fields_at known step ((codes "do", string (kind_text kind)) ∷ []) (rows_of_kind kind) fields key d
      made at (first, tt) in
      subst (λ qs. get key (object_with qs) ≡ Some d) all
      (got key d (fields ++ other_members kind step)
      (at_append key d fields (other_members kind step) front (others_at key d inside))
      (key_append key fields (other_members kind step) has))

  kind_same : kind_of (object_with ps) ≡ Some kind
  kind_same =
      let has = fields_keep known step ((codes "do", string (kind_text kind)) ∷ []) (rows_of_kind kind) fields
      (codes "do") made (inl refl) in
      let there = got_at (codes "do") (string (kind_text kind)) refl do_at has in
      ap (λ o. option_and_then kind_named (option_and_then as_str o)) there ∙ named_back kind

  row_same : (key : List ℕ) → says_command kind step ≡ false → is_friendly_at step key ≡ false
      → IsRow key (rows_of_kind kind) → get key step ≡ get key (object_with ps)
  row_same key says friendly row =
      let has = fields_has known step ((codes "do", string (kind_text kind)) ∷ []) (rows_of_kind kind) fields key made
      row in
      let inside = middle (bytes_eq key (codes "do")) (list_any (λ (r : Row). bytes_eq r.0 key) (rows_of_kind kind)) _
      row in
      sym (strict_plain kind known step key says friendly row) ∙ has.1 ∙ sym (got_at key has.0 inside has.1 has.2)

  rows_same : (rows : List Row) → ((key : List ℕ) → IsRow key rows → get key step ≡ get key (object_with ps))
      → AreSameAt rows step (object_with ps)
  rows_same [] h = tt
  rows_same (row ∷ rows) h =
      (h row.0 (row_here row rows), rows_same rows (λ key is. h key (row_later key row rows is)))

  pub plain_by_parts : says_command kind step ≡ false
      → list_any (λ (row : Row). is_friendly_at step row.0) (rows_of_kind kind) ≡ false
      → action_of step ≡ action_of (object_with ps)
  plain_by_parts says friendly =
      action_same kind step (object_with ps) named kind_same
      (rows_same (rows_of_kind kind)
      (λ key row. row_same key says (none_friendly step key (rows_of_kind kind) friendly row) row))

plain_step : (known : Known) (step : Data) (ps : List Pair) → strict_step known step ≡ Some ps
    → is_friendly step ≡ false → action_of step ≡ action_of (object_with ps)
plain_step known step ps e plain =
    let parts = made_of_parts known step ps e in
    let tests = subst (λ o. is_friendly_by step o ≡ false) parts.named plain in
    let both = neither (says_command parts.kind step) _ tests in
    plain_by_parts known step ps parts.kind parts.fields parts.named parts.made parts.all both.0 both.1

pub plain_steps : (given : List Given) (ds : List Data) (pss : List (List Pair)) (entries : List Record)
    → AreStrictBy given ds pss entries → list_any is_friendly ds ≡ false
    → map action_of ds ≡ map action_of (map object_with pss)
plain_steps given [] [] [] h e = refl
plain_steps given (d ∷ ds) (ps ∷ pss) (r ∷ rs) h e =
    let both = neither (is_friendly d) (list_any is_friendly ds) e in
    ap (λ a. a ∷ map action_of ds) (plain_step (Some given) d ps h.0 both.0)
    ∙ ap (λ l. action_of (object_with ps) ∷ l) (plain_steps (with_given given d r) ds pss rs h.1 both.1)
plain_steps given _ _ _ h e = absurd h
