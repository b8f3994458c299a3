-- Labels by their texts, and the keys of objects.
use Rattle.std.proofs.Common.{◌≡◌, ◌<◌, ◌+◌, ◌∙◌, ℕ, Bool, true, false, cond, not, List, [], ◌∷◌, Some, None, ap, map, length}
use Rattle.std.proofs.Common.{Option, String, drop, refl, string_bytes, subst, sym}
use Rattle.std.proofs.lemmas.{Bool.{ltb-true}, List.{drop-map}, Option.{same_Some}}
use Rattle.std.specs.Prelude.{IfSome, bytes_eq, nat_eq, nat_lt, option_and_then, position}
use Rattle.std.specs.List.{list_any, position_or_len, prefix_len}
use Rattle.std.specs.declared.alloc.Global.{Global}
use Rattle.serde_json.specs.declared.value.Value.{Value}
use Rattle.serde_json.specs.{Data.{Data}, Find.{as_object}, View.{members_of, members_view, view}}
use Rattle.dsa_base.specs.Rows.{passes}
use Rattle.dsa_questions.specs.Conditions.{count_of_members, has_keys, number_called}

pub any_called : {X Y : Type 0} (f : X → Y) (p : Y → Bool) (xs : List X)
    → list_any (λ x. p (f x)) xs ≡ list_any p (map f xs)
any_called f p [] = refl
any_called f p (x ∷ xs) = rw (any_called f p xs) refl

lengths : {X Y : Type 0} (f : X → Y) (xs : List X) → length xs ≡ length (map f xs)
lengths f [] = refl
lengths f (x ∷ xs) = rw (lengths f xs) refl

prefixes : {X Y : Type 0} (f : X → Y) (p : Y → Bool) (xs : List X)
    → prefix_len (λ x. p (f x)) xs ≡ prefix_len p (map f xs)
prefixes f p [] = refl
prefixes f p (x ∷ xs) = rw (prefixes f p xs) refl

pub first_called : {X Y : Type 0} (f : X → Y) (p : Y → Bool) (xs : List X)
    → position (λ x. p (f x)) xs ≡ position p (map f xs)
first_called f p xs = rw (prefixes f (λ y. not (p y)) xs, lengths f xs) refl

first_within : {X : Type 0} (p : X → Bool) (xs : List X) (n : ℕ) → position p xs ≡ Some n → n < length xs
first_within p xs n e = go (position_or_len p xs) (length xs) (nat_lt (position_or_len p xs) (length xs)) refl e
  where
    go : (a b : ℕ) (t : Bool) → nat_lt a b ≡ t → cond t (Some a) None ≡ Some n → n < b
    go a b true h e = let same : a ≡ n = same_Some a n e in subst (λ k. k < b) same (ltb-true a b h)
    go a b false h e = absurd cc

pub if_within : {X : Type 0} (p : X → Bool) (xs : List X) (found : Option ℕ) → found ≡ position p xs
    → IfSome found (λ n. n < length xs)
if_within p xs None e = tt
if_within p xs (Some n) e = first_within p xs n (sym e)

members_count : (ms : List (String Global × Data)) → count_of_members (members_of ms) ≡ length ms
members_count [] = refl
members_count (m ∷ ms) = rw (members_count ms) refl

-- an object with these members has as many keys
pub keys_counted : (d : Data) (entries : List (String Global × Value)) (count n : ℕ)
    → Some (members_view entries) ≡ as_object d → n ≡ length entries → nat_eq n count ≡ has_keys count d
keys_counted d entries count n is e =
    let seen : String Global × Value → String Global × Data = λ m. (m.0, view m.1) in
    let counted : count_of_members (members_view entries) ≡ length entries =
    members_count (map seen entries) ∙ sym (lengths seen entries) in
    ap (λ k. nat_eq k count) (e ∙ sym counted)
    ∙ ap (λ o. passes (λ members. nat_eq (count_of_members members) count) o) is

-- the first label that is this text, where one behind it is, too, or not
pub sole : (labels behind : List (String Global)) (text : List ℕ) (n : ℕ) (others : Bool)
    → behind ≡ drop (n + 1) labels → Some n ≡ position (λ label. bytes_eq label text) (map string_bytes labels)
    → others ≡ list_any (λ label. bytes_eq label text) (map string_bytes behind)
    → cond others None (Some n) ≡ number_called (map string_bytes labels) text
sole labels behind text n others rest_is is any =
    let rest = any ∙ ap (λ ls. list_any (λ label. bytes_eq label text) ls)
    (ap (map string_bytes) rest_is ∙ sym (drop-map string_bytes (n + 1) labels)) in
    ap (λ (b : Bool). cond b None (Some n)) rest ∙ ap (λ o. option_and_then (λ (first : ℕ). cond
    (list_any (λ label. bytes_eq label text) (drop (first + 1) (map string_bytes labels))) None (Some first)) o) is
