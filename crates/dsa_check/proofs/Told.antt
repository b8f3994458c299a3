-- What is added to a list, one part more.
use Rattle.dsa_scenario.specs.declared.fields.Form.TheVariants as form
use Rattle.std.proofs.Common.{◌≡◌, ◌<◌, ◌+◌, ◌%◌, ◌==◌, ℕ, suc, Bool, true, false, List, [], ◌∷◌}
use Rattle.std.proofs.Common.{◌++◌, map, length, take}
use Rattle.std.proofs.Common.{get_or, refl, sym, subst, ◌∙◌}
use Rattle.std.specs.Prelude.{filter, is_some, Option, Some, None, String, string_bytes, Result, Ok, Err, OnOk}
use Rattle.std.specs.{Prelude.{codes, nat_lt, if◌then◌else◌, slice_get, IsSomeAnd}, Option.{unwrap_or}}
use Rattle.std.specs.declared.alloc.Global.{Global}
use Rattle.std.specs.List.{AllZip, AllByRecursion}
use Rattle.std.proofs.lemmas.List.{append_assoc, take_more, map-append}
use Rattle.std.proofs.lemmas.List.Elements.{filter-append}
use Rattle.serde_json.specs.{Data.{Data, null, boolean, number, string, array, object}, Find.{get, as_object, as_str}}
use Rattle.serde_json.specs.{View.{view}, declared.value.Value.{Value}}
use Rattle.serde_json.specs.Read.{read}
use Rattle.dsa_scenario.specs.Document.{IsJson}
use Rattle.dsa_scenario.specs.declared.faults.ScenarioFault.{ScenarioFault, TheVariants.{BadStep}}
use Rattle.dsa_scenario.specs.declared.fields.{Field.{Field}, Form.{Form}}
use Rattle.dsa_check.specs.declared.fields.Key.{Key}
use Rattle.dsa_check.specs.declared.finding.Reason.{Reason, TheVariants.{Missing, Misspelled, Unfit, OddDigits}}
use Rattle.dsa_check.specs.declared.finding.Reason.TheVariants.{ManyDigits, NoDigit, Expandable}
use Rattle.dsa_check.specs.declared.finding.Finding.{Finding}
use Rattle.dsa_check.specs.Findings.{Appends, AppendsAll, AreInCaps, IsOfOne, IsOfAny, IsFounded, AreFounded}
use Rattle.dsa_check.specs.Judgement.{step_items_of}
use Rattle.dsa_check.specs.Reasons.{is_unfit, near_key, IsStrayKey, IsReasonAt, AreReasonsAt, AreReasonsOf}
use Rattle.dsa_check.specs.Reasons.{reason_of_digits, text_reason, unfit_reason, first_no_digit, found_of, kind_row}
use Rattle.dsa_check.specs.Reasons.{HasStrayKey, TellsNearKey, IsKindReason, expands_missing}
use Rattle.dsa_scenario.specs.Fields.{Row, row_of_field}
use Rattle.dsa_check.specs.Tables.{caps_rows}
use Rattle.dsa_check.proofs.Items.{item_at}

-- ---- lists

AllZip-append : {A B : Type 0} (R : A → B → Type 0) (xs : List A) (ys : List B) (us : List A) (vs : List B)
    → AllZip R xs ys → AllZip R us vs → AllZip R (xs ++ us) (ys ++ vs)
AllZip-append R [] [] us vs h k = k
AllZip-append R [] (y ∷ ys) us vs h k = absurd h
AllZip-append R (x ∷ xs) [] us vs h k = absurd h
AllZip-append R (x ∷ xs) (y ∷ ys) us vs h k = (h.0, AllZip-append R xs ys us vs h.1 k)

AllByRecursion-append : {X : Type 0} (P : X → Type 0) (xs ys : List X)
    → AllByRecursion P xs → AllByRecursion P ys → AllByRecursion P (xs ++ ys)
AllByRecursion-append P [] ys h k = k
AllByRecursion-append P (x ∷ xs) ys h k = (h.0, AllByRecursion-append P xs ys h.1 k)

AllByRecursion-weaker : {X : Type 0} (P Q : X → Type 0) → ((x : X) → P x → Q x) → (xs : List X)
    → AllByRecursion P xs → AllByRecursion Q xs
AllByRecursion-weaker P Q f [] h = tt
AllByRecursion-weaker P Q f (x ∷ xs) h = (f x h.0, AllByRecursion-weaker P Q f xs h.1)

-- ---- parts that are added

pub appends_more : {X : Type 0} (P Q R : List X → Type 0) → ((xs ys : List X) → P xs → Q ys → R (xs ++ ys))
    → (old mid new : List X) → Appends P old mid → Appends Q mid new → Appends R old new
appends_more P Q R f old mid new h k =
    (h.0 ++ k.0, rw (k.1, h.1, append_assoc) refl, f h.0 k.0 h.2 k.2)

pub appends_both : {X : Type 0} (P : X → Type 0) (old mid new : List X)
    → AppendsAll P old mid → AppendsAll P mid new → AppendsAll P old new
appends_both P old mid new h k =
    appends_more (AllByRecursion P) (AllByRecursion P) (AllByRecursion P) (AllByRecursion-append P) old mid new h k

pub appends_weaker : {X : Type 0} (P Q : X → Type 0) → ((x : X) → P x → Q x) → (old new : List X)
    → AppendsAll P old new → AppendsAll Q old new
appends_weaker P Q f old new h = (h.0, h.1, AllByRecursion-weaker P Q f h.0 h.2)

-- what was added to nothing
pub appended_first : {X : Type 0} (P : List X → Type 0) (old new : List X) → old ≡ [] → Appends P old new → P new
appended_first P old new none h = rw (h.1, none) h.2

-- and on the way, where more is so of it
pub appends_weaker_to : {X T E : Type 0} (r : Result T E) (P Q : List X → Type 0) → ((xs : List X) → P xs → Q xs)
    → (old new : List X) → OnOk r (Appends P old new) → OnOk r (Appends Q old new)
appends_weaker_to (Ok t) P Q f old new h = (h.0, h.1, f h.0 h.2)
appends_weaker_to (Err e) P Q f old new h = tt

-- ---- findings

-- the reasons of the caps, which are an object
pub inside_caps : (caps : Data) → is_some (as_object caps) ≡ true → (reasons : List Reason)
    → AreReasonsOf caps caps_rows true reasons → AreInCaps (Some caps) reasons
inside_caps null e reasons h = cc
inside_caps (boolean b) e reasons h = cc
inside_caps (number n) e reasons h = cc
inside_caps (string s) e reasons h = cc
inside_caps (array ds) e reasons h = cc
inside_caps (object ms) e reasons h = h

-- a finding of an item is one of the items
of_any : (P : Finding → Data → Type 0) (vs : List Value) (i : ℕ) (v : Value) → i < length vs → v ≡ get_or vs i v
    → (finding : Finding) → IsOfOne P i (view v) finding → IsOfAny P (map view vs) finding
of_any P vs i v inside is finding h = (i, h.0, rw (item_at vs i v inside is) h.1)

-- and so are those that are added for it
pub appends_item : (P : Finding → Data → Type 0) (vs : List Value) (i : ℕ) (v : Value) → i < length vs
    → v ≡ get_or vs i v → (old mid new : List Finding) → AppendsAll (IsOfAny P (map view vs)) old mid
    → AppendsAll (IsOfOne P i (view v)) mid new → AppendsAll (IsOfAny P (map view vs)) old new
appends_item P vs i v inside is old mid new h k =
    appends_both (IsOfAny P (map view vs)) old mid new h
    (appends_weaker (IsOfOne P i (view v)) (IsOfAny P (map view vs)) (of_any P vs i v inside is) mid new k)

-- what is so of an item of a document is so of its part, where findings of the items are added
pub appends_items : (P : Finding → Data → Type 0) (Q : Finding → ScenarioFault → Type 0) (d : Data) (steps : List Data)
    → steps ≡ step_items_of d
    → ((finding : Finding) (i : ℕ) → IsSomeAnd (slice_get (step_items_of d) i) (P finding) → Q finding (BadStep i))
    → (old new : List Finding) → AppendsAll (IsOfAny P steps) old new
    → AppendsAll (λ finding. Q finding finding.fault) old new
appends_items P Q d steps is f =
    appends_weaker (IsOfAny P steps) (λ finding. Q finding finding.fault)
    (λ finding h. subst (Q finding) (sym h.1) (f finding h.0 (rw (← is) h.2)))

-- the bytes are no other value
pub same_value : (bytes : List ℕ) (d other : Data) → read bytes ≡ Some d → read bytes ≡ Some other → d ≡ other
same_value bytes d other is are = cc

pub founded_as : (bytes : List ℕ) (d : Data) → IsJson bytes d → (findings : List Finding)
    → AllByRecursion (IsFounded bytes d) findings → AreFounded bytes findings
founded_as bytes d is findings h = record {
  json = λ other json. rw (← same_value bytes d other is.value json.value) h;
  text = λ none. let no : Some d ≡ None = sym is.value ∙ none is.utf8 in absurd cc;
}

-- ---- reasons

-- what is so of each reason that a value may have, is so of the one that it has
module _ (P : Reason → Type 0) (key : Key) (other : Reason) (of_other : P other)
    (of_many : (n : ℕ) → P (ManyDigits key n)) (of_odd : (n : ℕ) → P (OddDigits key n))
    (of_letter : (n : ℕ) → P (NoDigit key n)) where
  by_count : (count : ℕ) (many odd : Bool) → P (unwrap_or (if many then Some (ManyDigits key count)
      else if odd then Some (OddDigits key count) else None) other)
  by_count count true odd = of_many count
  by_count count false true = of_odd count
  by_count count false false = of_other

  by_place : (count : ℕ) (place : Option ℕ) → P (unwrap_or (reason_of_digits key count place) other)
  by_place count (Some before) = of_letter (suc before)
  by_place count None = by_count count (nat_lt 128 count) (count % 2 == 1)

  by_text : (wanted : Form) (text : Option (List ℕ)) → P (unwrap_or (text_reason key wanted text) other)
  by_text form.Digits (Some text) = by_place (length text) (first_no_digit text)
  by_text form.Digits None = of_other
  by_text (form.Whole least most) text = of_other
  by_text (form.Bounded field least most) text = of_other
  by_text form.Truth text = of_other
  by_text form.Text text = of_other
  by_text form.Array text = of_other
  by_text form.Object text = of_other

module _ (d : Data) (rows : List Row) (in_caps : Bool) where
  -- a value that may not stand there
  pub unfit_at : (row : Row) (key : Key) (v : Data) (reason : Reason) → reason ≡ unfit_reason key row.1 v
      → key.name.now ≡ row.0 → key.in_caps ≡ in_caps → Some v ≡ get row.0 d → IsReasonAt d rows in_caps row reason
  unfit_at row key v reason is named holder there = record {
    key = key;
    named = named;
    holder = holder;
    so = rw (← there) is;
    stray = rw is (by_text (HasStrayKey d rows) key (Unfit key (found_of v) row.1) tt (λ n. tt) (λ n. tt) (λ n. tt)
        row.1 (as_str v));
    near = rw is (by_text (TellsNearKey d rows row.0) key (Unfit key (found_of v) row.1) tt (λ n. tt) (λ n. tt)
        (λ n. tt) row.1 (as_str v));
  }

  -- a key that is missing, and one that may be there under another name
  pub missing_at : (row : Row) (key : Key) → key.name.now ≡ row.0 → key.in_caps ≡ in_caps → None ≡ get row.0 d
      → None ≡ near_key d rows row.0 → expands_missing d row.0 ≡ false → IsReasonAt d rows in_caps row (Missing key)
  missing_at row key named holder none near unwritten =
      record { key = key; named = named; holder = holder; so = rw (← none) refl; stray = tt; near = (sym near, unwritten) }

  pub expandable_at : (row : Row) (key : Key) → key.name.now ≡ row.0 → key.in_caps ≡ in_caps → None ≡ get row.0 d
      → None ≡ near_key d rows row.0 → expands_missing d row.0 ≡ true → IsReasonAt d rows in_caps row (Expandable key)
  expandable_at row key named holder none near written =
      record { key = key; named = named; holder = holder; so = rw (← none) refl; stray = tt; near = (sym near, written) }

  pub misspelled_at : (row : Row) (key : Key) (found : String Global) → key.name.now ≡ row.0 → key.in_caps ≡ in_caps
      → None ≡ get row.0 d → IsStrayKey d rows (string_bytes found) → Some (string_bytes found) ≡ near_key d rows row.0
      → IsReasonAt d rows in_caps row (Misspelled key found)
  misspelled_at row key found named holder none stray near =
      record { key = key; named = named; holder = holder; so = rw (← none) refl; stray = stray; near = sym near }

  -- the rows of some fields, and one field more
  pub reasons_more : (fields : List Field) (i : ℕ) (none : Field) (old mid new : List Reason) → i < length fields
      → Appends (AreReasonsAt d rows in_caps (map row_of_field (take i fields))) old mid
      → Appends (AreReasonsAt d rows in_caps (row_of_field (get_or fields i none) ∷ [])) mid new
      → Appends (AreReasonsAt d rows in_caps (map row_of_field (take (i + 1) fields))) old new
  reasons_more fields i none old mid new inside before here =
      let front = map row_of_field (take i fields) in
      let last = row_of_field (get_or fields i none) ∷ [] in
      rw (take_more fields i none inside, map-append)
      (appends_more (AreReasonsAt d rows in_caps front) (AreReasonsAt d rows in_caps last)
      (AreReasonsAt d rows in_caps (front ++ last)) (λ xs ys h k. rw (filter-append (is_unfit d) front last)
      (AllZip-append (IsReasonAt d rows in_caps) (filter (is_unfit d) front) xs (filter (is_unfit d) last) ys h k))
      old mid new before here)

-- the kind of a step is no text
pub no_text_kind : (step : Data) (key : Key) (v : Data) (reason : Reason) → reason ≡ unfit_reason key form.Text v
    → key.name.now ≡ codes "do" → key.in_caps ≡ false → Some v ≡ get (codes "do") step → None ≡ as_str v
    → IsKindReason step reason
no_text_kind step key v reason is named holder there none = rw is (
  rw (← there, ← none) refl,
  unfit_at step [] false kind_row key v (Unfit key (found_of v) form.Text) refl named holder there,
)
