-- What stands at a key of an object with these members, and what a step object asks by its keys.
use Rattle.dsa_scenario.specs.declared.fields.Form.TheVariants as form
use Rattle.std.proofs.Common.{◌≡◌, ◌⊎◌, ◌∙◌, ℕ, suc, Bool, true, false, List, [], ◌∷◌, ◌++◌, Option, Some, None, refl, sym}
use Rattle.std.proofs.Common.{ap, subst, inl, inr, option_and_then}
use Rattle.std.specs.Prelude.{⊤, if◌then◌else◌, bytes_eq, filter}
use Rattle.std.proofs.lemmas.Slice.Eq.{bytes_eq-Decides}
use Rattle.serde_json.specs.{Data.{Data, object, Members, no_members, put}, Find.{get, get_member, as_number, as_u64}}
use Rattle.serde_json.specs.Find.{as_array, as_bool, as_object, as_str}
use Rattle.serde_json.proofs.Views.{get_member-put, get_member-put_other}
use Rattle.dsa_scenario.specs.declared.{actions.Action.{Action}, actions.StepKind.{StepKind}, fields.Form.{Form}}
use Rattle.dsa_scenario.specs.Fields.{Maker, Row, at_least, below_limit, hex_bytes_of, made_of, reading_at}
use Rattle.dsa_scenario.specs.Actions.{KindRow, action_by, action_of, asked_by, kind_of, kind_row, row_of_kind, rows_in}
use Rattle.dsa_scenario.specs.Actions.{rows_of_kind}
use Rattle.dsa_expand.specs.Steps.{Pair, put_all}

-- ---- members

-- each of these members at the key has this value
abbrev pub AreAt : List ℕ → Data → List Pair → Type 0
AreAt key d [] = ⊤
AreAt key d (p ∷ ps) = (key ≡ p.0 → p.1 ≡ d) × AreAt key d ps

-- one of them is at the key
abbrev pub HasKey : List ℕ → List Pair → Type 0
HasKey key [] = ⊥
HasKey key (p ∷ ps) = (key ≡ p.0) ⊎ HasKey key ps

pub at_append : (key : List ℕ) (d : Data) (ps qs : List Pair) → AreAt key d ps → AreAt key d qs → AreAt key d (ps ++ qs)
at_append key d [] qs h k = k
at_append key d (p ∷ ps) qs h k = (h.0, at_append key d ps qs h.1 k)

pub key_append : (key : List ℕ) (ps qs : List Pair) → HasKey key ps → HasKey key (ps ++ qs)
key_append key [] qs h = absurd h
key_append key (p ∷ ps) qs (inl is) = inl is
key_append key (p ∷ ps) qs (inr h) = inr (key_append key ps qs h)

pub key_after : (key : List ℕ) (ps qs : List Pair) → HasKey key qs → HasKey key (ps ++ qs)
key_after key [] qs h = h
key_after key (p ∷ ps) qs h = inr (key_after key ps qs h)

pub key_last : (key : List ℕ) (ps : List Pair) (p : Pair) → key ≡ p.0 → HasKey key (ps ++ p ∷ [])
key_last key [] p is = inl is
key_last key (q ∷ ps) p is = inr (key_last key ps p is)

either_at : (b : Bool) (key : List ℕ) (d : Data) (p : Pair) (ps : List Pair) → (key ≡ p.0 → b ≡ false) → AreAt key d ps
    → AreAt key d (if b then p ∷ ps else ps)
either_at true key d p ps h k = (λ is. absurd (true-false (h is)), k)
  where
    true-false : true ≡ false → ⊥
    true-false e = cc
either_at false key d p ps h k = k

-- members of which none is at the key
pub filter_at : (key : List ℕ) (d : Data) (test : Pair → Bool) (ps : List Pair)
    → ((p : Pair) → key ≡ p.0 → test p ≡ false) → AreAt key d (filter test ps)
filter_at key d test [] h = tt
filter_at key d test (p ∷ ps) h = either_at (test p) key d p (filter test ps) (h p) (filter_at key d test ps h)

-- ---- objects with members

put_one : (b : Bool) (key : List ℕ) (d : Data) (p : Pair) (ms : Members) → (b ≡ true → key ≡ p.0)
    → (key ≡ p.0 → b ≡ true) → (key ≡ p.0 → p.1 ≡ d) → get_member key ms ≡ Some d
    → get_member key (put p.0 p.1 ms) ≡ Some d
put_one true key d p ms same back h there =
    let is : key ≡ p.0 = same refl in
    subst (λ k. get_member k (put p.0 p.1 ms) ≡ Some d) (sym is) (get_member-put p.0 p.1 ms ∙ ap (λ v. Some v) (h is))
put_one false key d p ms same back h there =
    get_member-put_other key p.0 p.1 ms (λ is. false-true (back is)) ∙ there
  where
    false-true : false ≡ true → ⊥
    false-true e = cc

put_at : (key : List ℕ) (d : Data) (ps : List Pair) (ms : Members) → AreAt key d ps → get_member key ms ≡ Some d
    → get_member key (put_all ps ms) ≡ Some d
put_at key d [] ms h there = there
put_at key d (p ∷ ps) ms h there =
    let decides = bytes_eq-Decides key p.0 in
    put_at key d ps (put p.0 p.1 ms) h.1 (put_one (bytes_eq key p.0) key d p ms decides.0 decides.1 h.0 there)

put_has : (key : List ℕ) (d : Data) (ps : List Pair) (ms : Members) → AreAt key d ps → HasKey key ps
    → get_member key (put_all ps ms) ≡ Some d
put_has key d [] ms h has = absurd has
put_has key d (p ∷ ps) ms h (inl is) =
    put_at key d ps (put p.0 p.1 ms) h.1
    (subst (λ k. get_member k (put p.0 p.1 ms) ≡ Some d) (sym is) (get_member-put p.0 p.1 ms ∙ ap (λ v. Some v) (h.0 is)))
put_has key d (p ∷ ps) ms h (inr has) = put_has key d ps (put p.0 p.1 ms) h.1 has

-- what stands at the key of an object with these members
pub got : (key : List ℕ) (d : Data) (ps : List Pair) → AreAt key d ps → HasKey key ps
    → get key (object (put_all ps no_members)) ≡ Some d
got key d ps h has = put_has key d ps no_members h has

-- ---- what objects say at the same keys

abbrev pub AreSameAt : List Row → Data → Data → Type 0
AreSameAt [] d e = ⊤
AreSameAt (row ∷ rows) d e = (get row.0 d ≡ get row.0 e) × AreSameAt rows d e

reading_same : (wanted : Form) (key : List ℕ) (d e : Data) → get key d ≡ get key e
    → reading_at wanted key d ≡ reading_at wanted key e
reading_same (form.Whole least most) key d e is =
    ap (λ o. option_and_then (at_least least) (option_and_then (below_limit (suc most))
    (option_and_then as_u64 (option_and_then as_number o)))) is
reading_same (form.Bounded field least most) key d e is =
    ap (λ o. option_and_then (below_limit (suc field)) (option_and_then as_u64 (option_and_then as_number o))) is
reading_same form.Truth key d e is = ap (λ o. option_and_then as_bool o) is
reading_same form.Text key d e is = ap (λ o. option_and_then as_str o) is
reading_same form.Digits key d e is = ap (λ o. option_and_then hex_bytes_of (option_and_then as_str o)) is
reading_same form.Array key d e is = ap (λ o. option_and_then as_array o) is
reading_same form.Object key d e is = ap (λ o. option_and_then as_object o) is

then_same : {A B : Type 0} (o p : Option A) (f g : A → Option B) → o ≡ p → ((a : A) → f a ≡ g a)
    → option_and_then f o ≡ option_and_then g p
then_same None p f g is h = ap (λ q. option_and_then g q) is
then_same (Some a) p f g is h = h a ∙ ap (λ q. option_and_then g q) is

made_same : (A : Type 0) (rows : List Row) (made : Maker A rows) (d e : Data) → AreSameAt rows d e
    → made_of {A = A} rows made d ≡ made_of {A = A} rows made e
made_same A [] made d e h = refl
made_same A (row ∷ rows) made d e h =
    then_same (reading_at row.1 row.0 d) (reading_at row.1 row.0 e) (λ reading. made_of {A = A} rows (made reading) d)
    (λ reading. made_of {A = A} rows (made reading) e) (reading_same row.1 row.0 d e h.0)
    (λ reading. made_same A rows (made reading) d e h.1)

asked_same : (row : KindRow) (d e : Data) → AreSameAt (rows_in row) d e → asked_by row d ≡ asked_by row e
asked_same (kind_row name rows asked) d e h = made_same Action rows asked d e h

-- step objects of the same kind ask the same
pub action_same : (kind : StepKind) (d e : Data) → kind_of d ≡ Some kind → kind_of e ≡ Some kind
    → AreSameAt (rows_of_kind kind) d e → action_of d ≡ action_of e
action_same kind d e k l h =
    ap (λ o. option_and_then (λ one. action_by one d) o) k ∙ asked_same (row_of_kind kind) d e h
    ∙ sym (ap (λ o. option_and_then (λ one. action_by one e) o) l)
