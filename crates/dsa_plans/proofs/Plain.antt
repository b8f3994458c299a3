-- Labels are made of characters of own names.
use Rattle.std.proofs.Common.{◌≡◌, ◌∙◌, ◌≤◌, ◌<◌, ◌+◌, ◌/◌, ◌%◌, ◌==◌, ℕ, zero, suc, Bool, true, false, cond, ◌&&◌, not}
use Rattle.std.proofs.Common.{List, [], ◌∷◌, ◌++◌, length, map, Option, Some, None, refl, subst, arith, codes, decimal}
use Rattle.std.specs.{List.{list_all}, Prelude.{option_and_then}, Fmt.{digits, digits_onto, digit_glyph}}
use Rattle.std.proofs.lemmas.Bool.{and_parts, and_from, le-leb, lt-ltb, ne_eqb}
use Rattle.std.proofs.lemmas.List.Folds.{list_all-append, list_all-map}
use Rattle.std.proofs.lemmas.Option.{same_Some, option_and_then_some}
use Rattle.serde_json.specs.Data.{Data}
use Rattle.dsa_scenario.specs.Fields.{text_of}
use Rattle.dsa_base.specs.Numbers.{numbers_below}
use Rattle.dsa_named.specs.Names.{is_own_character, is_own_text, own_text}
use Rattle.dsa_plans.specs.PartyLabels.{act_label, act_labels, administrator_labels, client_labels, entry_labels}
use Rattle.dsa_plans.specs.PartyLabels.{items_or, label_by, letter_of, member_text, numbered_from, step_label}
use Rattle.dsa_plans.specs.PartyLabels.{step_labels}
use Rattle.dsa_plans.proofs.Fit.{cond-some}

-- ---- texts

abbrev IsOwn : List ℕ → Type 0
IsOwn text = list_all is_own_character text ≡ true

abbrev AreOwn : List (List ℕ) → Type 0
AreOwn texts = list_all (list_all is_own_character) texts ≡ true

joined : {X : Type 0} (p : X → Bool) (a b : List X) → list_all p a ≡ true → list_all p b ≡ true
    → list_all p (a ++ b) ≡ true
joined p a b x y = list_all-append p a b ∙ and_from (list_all p a) (list_all p b) x y

own-character : (c : ℕ) → 32 ≤ c → c ≤ 126 → (c ≡ 34 → ⊥) → (c ≡ 92 → ⊥) → is_own_character c ≡ true
own-character c low high quote slash =
    rw (le-leb 32 c low, le-leb c 126 high, ne_eqb c 34 quote, ne_eqb c 92 slash) refl

own-digit : (d : ℕ) → d < 10 → is_own_character (digit_glyph false d) ≡ true
own-digit d small =
    rw (lt-ltb d 10 small)
    (own-character (48 + d) (omega arith) (omega (arith, small)) (λ e. omega (arith, e)) (λ e. omega (arith, e, small)))

own-onto : (k n : ℕ) (rest : List ℕ) → IsOwn rest → IsOwn (digits_onto k 10 false n rest)
own-onto zero n rest h = h
own-onto (suc k) n rest h =
    let more = and_from (is_own_character (digit_glyph false (n % 10))) (list_all is_own_character rest)
    (own-digit (n % 10) (omega arith)) h in
    either (n / 10 == 0) (digit_glyph false (n % 10) ∷ rest)
    (digits_onto k 10 false (n / 10) (digit_glyph false (n % 10) ∷ rest)) more
    (own-onto k (n / 10) (digit_glyph false (n % 10) ∷ rest) more)
  where
    either : (b : Bool) (x y : List ℕ) → IsOwn x → IsOwn y → IsOwn (cond b x y)
    either true x y p q = p
    either false x y p q = q

own-number : (n : ℕ) → IsOwn (decimal n)
unfolding digits
own-number n = own-onto 64 n [] refl

-- ---- labels

own-label : (first party place : ℕ) (d : Data) → 65 ≤ first → first ≤ 97
    → (first + party % 26 ≡ 92 → ⊥) → IsOwn (step_label first party place d)
own-label first party place d low high slash = go (own_text d) refl
  where
    text-of : (text : List ℕ) → own_text d ≡ Some text → IsOwn text
    text-of text e = option_and_then_some
        (λ (t : List ℕ). cond (is_own_text t) (Some t) None) (text_of (codes "as") d) text e (λ found f g.
        let kept = cond-some (is_own_text found) (Some found) text g in
        let own : IsOwn found = (and_parts _ (list_all is_own_character found) kept.0).1 in
        subst IsOwn (same_Some found text kept.1) own)

    go : (o : Option (List ℕ)) → own_text d ≡ o → IsOwn (label_by first party place o)
    go (Some text) e = text-of text e
    go None e = and_from (is_own_character (letter_of first party)) (list_all is_own_character (decimal place))
        (own-character (letter_of first party) (omega (arith, low)) (omega (arith, high))
        (λ e. omega (arith, e, low)) slash)
        (own-number place)

three-own : (a b c : List ℕ) → IsOwn a → IsOwn b → IsOwn c → IsOwn (a ++ b ++ c)
three-own a b c x y z = joined is_own_character (a ++ b) c (joined is_own_character a b x y) z

own-members : (label : List ℕ) → IsOwn label → (ks : List ℕ) → AreOwn (map (member_text label) ks)
own-members label own [] = refl
own-members label own (k ∷ ks) =
    let here : IsOwn (member_text label k) = three-own label (codes "/") (decimal k) own refl (own-number k) in
    and_from (list_all is_own_character (member_text label k)) _ here (own-members label own ks)

own-each : (f : ℕ → Data → List (List ℕ)) → ((n : ℕ) (d : Data) → AreOwn (f n d)) → (n : ℕ) (ds : List Data)
    → AreOwn (numbered_from f n ds)
own-each f own n [] = refl
own-each f own n (d ∷ ds) =
    joined (list_all is_own_character) (f n d) (numbered_from f (n + 1) ds) (own n d) (own-each f own (n + 1) ds)

own-step : (party place : ℕ) (d : Data) → AreOwn (step_labels party place d)
own-step party place d =
    let label = step_label 0x61 party place d in
    let own = own-label 0x61 party place d (omega arith) (omega arith) (λ e. omega (arith, e)) in
    and_from _ _ own (own-members label own (numbers_below (length (items_or (codes "members") d))))

own-act : (party place : ℕ) (d : Data) → AreOwn (act_label party place d)
own-act party place d =
    and_from _ _ (own-label 0x41 party place d (omega arith) (omega arith) (λ e. omega (arith, e))) refl

pub entries-own : (d : Data) → AreOwn (entry_labels d)
entries-own d = own-each client_labels
    (λ party client. own-each (step_labels party) (own-step party) 0 (items_or (codes "steps") client)) 0
    (items_or (codes "clients") d)

pub acts-own : (d : Data) → AreOwn (act_labels d)
acts-own d = own-each administrator_labels
    (λ party administrator. own-each (act_label party) (own-act party) 0 (items_or (codes "steps") administrator)) 0
    (items_or (codes "admins") d)
