-- The JSON that texts of members and of objects are.
use Rattle.std.proofs.Common.{◌≡◌, ℕ, ◌≤◌, Bool, true, false, List, [], ◌∷◌, ◌++◌, Option, Some, option_and_then, option_map}
use Rattle.std.proofs.Common.{codes, refl, sym, ap, ap₂, ◌∙◌, subst, arith, append_assoc, append-nil}
use Rattle.std.proofs.Common.{suc, map, inl}
use Rattle.std.specs.Prelude.{⊤, max}
use Rattle.json.specs.Token.{Token, begin_object, end_object, key}
use Rattle.json.specs.{Lex.{tokens}, Print.{token_text, separator, print, quoted}, Spaced.{IsGap}}
use Rattle.json.specs.Json as json
use Rattle.json.specs.Tree as tree
use Rattle.json.specs.Tree.{json_tokens, items_tokens, members_tokens, HasNumbers, MembersHaveNumbers, ItemsHaveNumbers}
use Rattle.json.proofs.{Printed.Trees.{value-json_tokens}, Numbered.{ArePrintableOrBad-tokens, value-HasNumbers}}
use Rattle.serde_json.specs.Data.{Data, array, object, Items, no_items, item, Members}
use Rattle.serde_json.specs.Data.{no_members, member, put, depth, items_depth, members_depth}
use Rattle.serde_json.specs.Read.{read, of_json, of_items, of_members, max_depth}
use Rattle.serde_json.specs.Written.{outline, items_outline, members_outline, blank, blank_items, blank_members}
use Rattle.serde_json.specs.View.{items_of}
use Rattle.dsa_expand.specs.{Steps.{Pair, put_all, object_with}, Members.{AreShallow}}
use Rattle.dsa_expand.specs.Layout.{IsValueText, AreMembersTexts, IsObjectText, AreObjectsTexts, key_with_colon}
use Rattle.dsa_expand.proofs.Spaced.{after, Spaced, spaced-append, spaced-by, spaced-after, spaced-nil}
use Rattle.dsa_expand.proofs.Spaced.{spaced-token, spaced-json, spaced-close_object, after-json}

-- ---- depths of what is written

mutual
  depth-blank : (j : json.Json) → tree.depth (blank j) ≡ tree.depth j
  depth-blank (json.array js) = ap (λ n. suc n) (depth-blank_items js)
  depth-blank (json.object ms) = ap (λ n. suc n) (depth-blank_members ms)
  depth-blank _ = refl

  depth-blank_items : (js : json.Items) → tree.items_depth (blank_items js) ≡ tree.items_depth js
  depth-blank_items json.no_items = refl
  depth-blank_items (json.item j js) = ap₂ (λ m n. max m n) (depth-blank j) (depth-blank_items js)

  depth-blank_members : (ms : json.Members) → tree.members_depth (blank_members ms) ≡ tree.members_depth ms
  depth-blank_members json.no_members = refl
  depth-blank_members (json.member k j ms) = ap₂ (λ m n. max m n) (depth-blank j) (depth-blank_members ms)

mutual
  depth-outline : (d : Data) → tree.depth (outline d) ≡ depth d
  depth-outline (array ds) = ap (λ n. suc n) (depth-outline_items ds)
  depth-outline (object ms) = ap (λ n. suc n) (depth-outline_members ms)
  depth-outline _ = refl

  depth-outline_items : (ds : Items) → tree.items_depth (items_outline ds) ≡ items_depth ds
  depth-outline_items no_items = refl
  depth-outline_items (item d ds) = ap₂ (λ m n. max m n) (depth-outline d) (depth-outline_items ds)

  depth-outline_members : (ms : Members) → tree.members_depth (members_outline ms) ≡ members_depth ms
  depth-outline_members no_members = refl
  depth-outline_members (member k d ms) = ap₂ (λ m n. max m n) (depth-outline d) (depth-outline_members ms)

-- ---- values

-- what is read of a JSON value with no tokens after it
abbrev pub whole : Option (json.Json × List Token) → Option Data
whole o = option_and_then of_json (option_and_then (λ p. json.if_last p.0 p.1) o)

-- the JSON is read as the value, can be written, and nests no deeper
pub record IsJsonOf (n : ℕ) (d : Data) (j : json.Json) : Type 0 where
  pub reads : of_json j ≡ Some d
  pub numbers : HasNumbers j
  pub shallow : tree.depth j ≤ n

pub json_of_text : (n : ℕ) (d : Data) (text : List ℕ) → n ≤ 127 → depth d ≤ n → IsValueText d text
    → (j : json.Json) × IsJsonOf n d j × (text ≡ print (json_tokens j))
json_of_text n d text low shallow t =
    let j = t.order.0 in
    let same : tokens text ≡ json_tokens j = t.order.1 in
    let deep : tree.depth j ≡ depth d = sym (depth-blank j) ∙ ap tree.depth t.order.2 ∙ depth-outline d in
    let valued : json.value max_depth (tokens text) ≡ Some (j, []) =
    ap (json.value max_depth) (same ∙ sym (append-nil (json_tokens j)))
    ∙ value-json_tokens j max_depth [] (omega (arith, deep)) in
    let back : read text ≡ Some d = t.reads_back (omega arith) in (
      j,
      record {
        reads = sym (ap whole valued) ∙ back;
        numbers = value-HasNumbers max_depth (tokens text) [] j (ArePrintableOrBad-tokens text) valued;
        shallow = omega (arith, deep);
      },
      t.compact ∙ ap print same,
    )

-- ---- members

-- keys with JSON
abbrev pub Jsons : Type 0
Jsons = List (List ℕ × json.Json)

abbrev pub jsons_tokens : Jsons → List Token
jsons_tokens [] = []
jsons_tokens (p ∷ ps) = key p.0 ∷ (json_tokens p.1 ++ jsons_tokens ps)

abbrev pub before : Jsons → json.Members → json.Members
before [] ms = ms
before (p ∷ ps) ms = json.member p.0 p.1 (before ps ms)

-- the JSON of each member
abbrev pub AreJsonsOf : ℕ → List Pair → Jsons → Type 0
AreJsonsOf n [] [] = ⊤
AreJsonsOf n [] (q ∷ qs) = ⊥
AreJsonsOf n (p ∷ ps) [] = ⊥
AreJsonsOf n (p ∷ ps) (q ∷ qs) = (q.0 ≡ p.0) × IsJsonOf n p.1 q.1 × AreJsonsOf n ps qs

pub before-tokens : (js : Jsons) (ms : json.Members)
    → members_tokens (before js ms) ≡ jsons_tokens js ++ members_tokens ms
before-tokens [] ms = refl
before-tokens (p ∷ ps) ms =
    ap (λ ts. key p.0 ∷ (json_tokens p.1 ++ ts)) (before-tokens ps ms)
    ∙ ap (λ ts. key p.0 ∷ ts) (sym (append_assoc (json_tokens p.1) (jsons_tokens ps) (members_tokens ms)))

pub before-read : (n : ℕ) (ps : List Pair) (js : Jsons) (ms : json.Members) (found : Members) → AreJsonsOf n ps js
    → of_members (before js ms) found ≡ of_members ms (put_all ps found)
before-read n [] [] ms found h = refl
before-read n (p ∷ ps) (q ∷ qs) ms found h =
    ap (λ o. option_and_then (λ d. of_members (before qs ms) (put q.0 d found)) o) h.1.reads
    ∙ ap (λ k. of_members (before qs ms) (put k p.1 found)) h.0
    ∙ before-read n ps qs ms (put p.0 p.1 found) h.2
before-read n _ _ ms found h = absurd h

pub before-numbers : (n : ℕ) (ps : List Pair) (js : Jsons) (ms : json.Members) → AreJsonsOf n ps js
    → MembersHaveNumbers ms → MembersHaveNumbers (before js ms)
before-numbers n [] [] ms h k = k
before-numbers n (p ∷ ps) (q ∷ qs) ms h k = (h.1.numbers, before-numbers n ps qs ms h.2 k)
before-numbers n _ _ ms h k = absurd h

pub before-shallow : (n : ℕ) (ps : List Pair) (js : Jsons) (ms : json.Members) → AreJsonsOf n ps js
    → tree.members_depth ms ≤ n → tree.members_depth (before js ms) ≤ n
before-shallow n [] [] ms h k = k
before-shallow n (p ∷ ps) (q ∷ qs) ms h k = omega (arith, h.1.shallow, before-shallow n ps qs ms h.2 k)
before-shallow n _ _ ms h k = absurd h

-- a member's text, in parts
parted : (s gap q v r : List ℕ)
    → (s ++ (gap ++ (q ++ 58 ∷ []))) ++ ((32 ∷ [] ++ v) ++ r) ≡ (s ++ gap) ++ ((q ++ 58 ∷ 32 ∷ []) ++ (v ++ r))
parted s gap q v r = simp append_assoc

-- the text before a member has its comma and a gap
abbrev pub Separates : Bool → List ℕ → List ℕ → Type 0
Separates c gap text = IsGap gap × ((k : List ℕ) → separator c (key k) ++ gap ≡ text)

pub spaced-member : (n : ℕ) (c : Bool) (gap first : List ℕ) (p : Pair) (value rest : List ℕ) (ts : List Token)
    → Separates c gap first → n ≤ 127 → depth p.1 ≤ n → IsValueText p.1 value → Spaced true rest ts
    → (j : json.Json) × IsJsonOf n p.1 j
    × Spaced c (first ++ (key_with_colon p.0 ++ (value ++ rest))) (key p.0 ∷ (json_tokens j ++ ts))
spaced-member n c gap first p value rest ts sep low shallow t more =
    let found = json_of_text n p.1 value low shallow t in
    let j = found.0 in
    let text = print (json_tokens j) in
    let front = spaced-token c gap (key p.0) sep.0 in
    let middle = spaced-json (32 ∷ []) j (inl refl, tt) in
    let end = spaced-after true (after false (json_tokens j)) rest ts (sym (after-json false j)) more in
    let whole = spaced-append c _ _ (key p.0 ∷ []) (json_tokens j ++ ts) front
    (spaced-append false _ _ (json_tokens j) ts middle end) in
    let is : (separator c (key p.0) ++ (gap ++ token_text (key p.0))) ++ ((32 ∷ [] ++ text) ++ rest)
    ≡ first ++ (key_with_colon p.0 ++ (value ++ rest)) =
    parted (separator c (key p.0)) gap (quoted p.0) text rest
    ∙ ap₂ (λ a b. a ++ (key_with_colon p.0 ++ (b ++ rest))) (sep.1 p.0) (sym found.2) in
    (j, found.1, spaced-by c _ _ _ is whole)

pub spaced-members : (n : ℕ) (c : Bool) (gap gap' first next : List ℕ) (ps : List Pair) (text : List ℕ)
    → Separates c gap first → Separates true gap' next → n ≤ 127 → AreShallow n ps
    → AreMembersTexts first next ps text
    → (js : Jsons) × AreJsonsOf n ps js × Spaced c text (jsons_tokens js)
spaced-members n c gap gap' first next [] text sep sep' low shallow t =
    ([], tt, spaced-by c [] text [] (sym t) (spaced-nil c))
spaced-members n c gap gap' first next (p ∷ ps) text sep sep' low shallow (value, rest, is, more, e) =
    let later = spaced-members n true gap' gap' next next ps rest sep' sep' low shallow.1 more in
    let here = spaced-member n c gap first p value rest (jsons_tokens later.0) sep low shallow.0 is later.2 in
    ((p.0, here.0) ∷ later.0, (refl, here.1, later.1), spaced-by c _ text _ (sym e) here.2)

-- ---- objects

abbrev pub object_json : Jsons → json.Json
object_json js = json.object (before js json.no_members)

pub object-of : (n : ℕ) (ps : List Pair) (js : Jsons) → AreJsonsOf n ps js
    → IsJsonOf (suc n) (object_with ps) (object_json js)
object-of n ps js h = record {
  reads = ap (λ o. option_map object o) (before-read n ps js json.no_members no_members h);
  numbers = before-numbers n ps js json.no_members h tt;
  shallow = omega (arith, before-shallow n ps js json.no_members h (omega arith));
}

-- the text before an object has its comma and a gap
abbrev pub Opens : Bool → List ℕ → List ℕ → Type 0
Opens c gap text = IsGap gap × (separator c begin_object ++ gap ≡ text)

opened : (s gap m : List ℕ) → (s ++ (gap ++ 123 ∷ [])) ++ (m ++ 125 ∷ []) ≡ (s ++ gap) ++ (123 ∷ [] ++ (m ++ 125 ∷ []))
opened s gap m = simp append_assoc

pub spaced-object : (n : ℕ) (c : Bool) (gap first : List ℕ) (ps : List Pair) (text : List ℕ)
    → Opens c gap first → n ≤ 127 → AreShallow n ps → IsObjectText ps text
    → (js : Jsons) × AreJsonsOf n ps js × Spaced c (first ++ text) (json_tokens (object_json js))
spaced-object n c gap first ps text opens low shallow (members, inside, e) =
    let found = spaced-members n false [] (32 ∷ []) [] (codes ", ") ps members (tt, λ k. refl)
    ((inl refl, tt), λ k. refl) low shallow inside in
    let js = found.0 in
    let front = spaced-token c gap begin_object opens.0 in
    let end = spaced-close_object (after false (jsons_tokens js)) [] tt in
    let whole = spaced-append c _ _ (begin_object ∷ []) (jsons_tokens js ++ end_object ∷ []) front
    (spaced-append false members _ (jsons_tokens js) (end_object ∷ []) found.2 end) in
    let is : (separator c begin_object ++ (gap ++ 123 ∷ [])) ++ (members ++ 125 ∷ []) ≡ first ++ text =
    opened (separator c begin_object) gap members ∙ ap₂ (λ a b. a ++ b) opens.1 (sym e) in
    let tokens_are : begin_object ∷ (jsons_tokens js ++ end_object ∷ []) ≡ json_tokens (object_json js) =
    ap (λ ts. begin_object ∷ ts) (sym (before-tokens js json.no_members)) in
    (js, found.1, subst (λ ts. Spaced c (first ++ text) ts) tokens_are (spaced-by c _ _ _ is whole))

-- ---- objects one after the other

abbrev pub items_json : List Jsons → json.Items
items_json [] = json.no_items
items_json (js ∷ jss) = json.item (object_json js) (items_json jss)

abbrev pub objects_tokens : List Jsons → List Token
objects_tokens [] = []
objects_tokens (js ∷ jss) = json_tokens (object_json js) ++ objects_tokens jss

abbrev pub AreAllJsonsOf : ℕ → List (List Pair) → List Jsons → Type 0
AreAllJsonsOf n [] [] = ⊤
AreAllJsonsOf n [] (q ∷ qs) = ⊥
AreAllJsonsOf n (p ∷ ps) [] = ⊥
AreAllJsonsOf n (p ∷ ps) (q ∷ qs) = AreJsonsOf n p q × AreAllJsonsOf n ps qs

abbrev pub AreAllShallow : ℕ → List (List Pair) → Type 0
AreAllShallow n [] = ⊤
AreAllShallow n (ps ∷ pss) = AreShallow n ps × AreAllShallow n pss

pub items-tokens : (jss : List Jsons) → items_tokens (items_json jss) ≡ objects_tokens jss ++ Token.end_array ∷ []
items-tokens [] = refl
items-tokens (js ∷ jss) =
    ap (λ ts. json_tokens (object_json js) ++ ts) (items-tokens jss)
    ∙ sym (append_assoc (json_tokens (object_json js)) (objects_tokens jss) (Token.end_array ∷ []))

pub items-read : (n : ℕ) (pss : List (List Pair)) (jss : List Jsons) → AreAllJsonsOf n pss jss
    → of_items (items_json jss) ≡ Some (items_of (map object_with pss))
items-read n [] [] h = refl
items-read n (p ∷ ps) (q ∷ qs) h =
    ap (λ o. option_and_then (λ d. option_map (item d) (of_items (items_json qs))) o) (object-of n p q h.0).reads
    ∙ ap (λ o. option_map (item (object_with p)) o) (items-read n ps qs h.1)
items-read n _ _ h = absurd h

pub items-numbers : (n : ℕ) (pss : List (List Pair)) (jss : List Jsons) → AreAllJsonsOf n pss jss
    → ItemsHaveNumbers (items_json jss)
items-numbers n [] [] h = tt
items-numbers n (p ∷ ps) (q ∷ qs) h = ((object-of n p q h.0).numbers, items-numbers n ps qs h.1)
items-numbers n _ _ h = absurd h

pub items-shallow : (n : ℕ) (pss : List (List Pair)) (jss : List Jsons) → AreAllJsonsOf n pss jss
    → tree.items_depth (items_json jss) ≤ suc n
items-shallow n [] [] h = omega arith
items-shallow n (p ∷ ps) (q ∷ qs) h = omega (arith, (object-of n p q h.0).shallow, items-shallow n ps qs h.1)
items-shallow n _ _ h = absurd h

pub spaced-objects : (n : ℕ) (c : Bool) (gap gap' first next : List ℕ) (pss : List (List Pair)) (text : List ℕ)
    → Opens c gap first → Opens true gap' next → n ≤ 127 → AreAllShallow n pss
    → AreObjectsTexts first next pss text
    → (jss : List Jsons) × AreAllJsonsOf n pss jss × Spaced c text (objects_tokens jss)
spaced-objects n c gap gap' first next [] text opens opens' low shallow t =
    ([], tt, spaced-by c [] text [] (sym t) (spaced-nil c))
spaced-objects n c gap gap' first next (ps ∷ pss) text opens opens' low shallow (one, rest, is, more, e) =
    let later = spaced-objects n true gap' gap' next next pss rest opens' opens' low shallow.1 more in
    let here = spaced-object n c gap first ps one opens low shallow.0 is in
    let js = here.0 in
    let end = spaced-after true (after c (json_tokens (object_json js))) rest (objects_tokens later.0)
    (sym (after-json c (object_json js))) later.2 in
    let whole = spaced-append c (first ++ one) rest (json_tokens (object_json js)) (objects_tokens later.0)
    here.2 end in
    (js ∷ later.0, (here.1, later.1), spaced-by c _ text _ (append_assoc first one rest ∙ sym e) whole)
