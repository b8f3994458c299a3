-- The text of a strict document is read as that document.
use Rattle.std.proofs.Common.{◌≡◌, ℕ, ◌≤◌, Bool, true, false, List, [], ◌∷◌, ◌++◌, Some, option_and_then, option_map}
use Rattle.std.proofs.Common.{codes, refl, sym, ap, ◌∙◌, subst, arith, append_assoc, append-nil, inl, inr}
use Rattle.json.specs.Token.{begin_object, end_object, begin_array, end_array, key}
use Rattle.json.specs.{Lex.{tokens}, Print.{escape_byte, ArePrintable}, Spaced.{IsGap}}
use Rattle.json.proofs.Found.{Some_inj}
use Rattle.dsa_scenario.specs.Document.{IsJson}
use Rattle.json.specs.Json as json
use Rattle.json.specs.Tree as tree
use Rattle.json.specs.Tree.{json_tokens, members_tokens, HasNumbers}
use Rattle.json.proofs.Printed.{Tokens.{tokens-print_spaced}, Trees.{value-json_tokens, ArePrintable-json_tokens}}
use Rattle.serde_json.specs.{Data.{Data, array, object, no_members, put}, Read.{read, of_json, of_members, max_depth}}
use Rattle.dsa_expand.specs.{Steps.{Pair, object_with, put_all}, Members.{AreShallow}, Expansion.{strict_document}}
use Rattle.dsa_expand.specs.Layout.{IsDocumentText, IsObjectText}
use Rattle.dsa_expand.proofs.Spaced.{after, after-append, after-json, Spaced, spaced-append, spaced-by, spaced-after}
use Rattle.dsa_expand.proofs.Spaced.{spaced-token, spaced-close_array, spaced-close_object}
use Rattle.dsa_expand.proofs.Jsons.{whole, Jsons, jsons_tokens, before, AreJsonsOf, before-tokens}
use Rattle.dsa_expand.proofs.Jsons.{before-read, before-numbers, before-shallow, spaced-members, items_json}
use Rattle.dsa_expand.proofs.Jsons.{objects_tokens, AreAllShallow, AreAllJsonsOf, items-tokens, items-read, items-numbers}
use Rattle.dsa_expand.proofs.Jsons.{items-shallow, spaced-objects, object-of, object_json, spaced-object}

-- a value has ended after members
ends-jsons : (c : Bool) (q : List ℕ × json.Json) (qs : Jsons) → after c (jsons_tokens (q ∷ qs)) ≡ true
ends-jsons c q [] =
    after-append false (json_tokens q.1) [] ∙ after-json false q.1
ends-jsons c q (r ∷ rs) =
    after-append false (json_tokens q.1) (jsons_tokens (r ∷ rs)) ∙ ends-jsons (after false (json_tokens q.1)) r rs

ended : (n : ℕ) (p : Pair) (ps : List Pair) (js : Jsons) → AreJsonsOf n (p ∷ ps) js → after false (jsons_tokens js) ≡ true
ended n p ps [] h = absurd h
ended n p ps (q ∷ qs) h = ends-jsons false q qs

-- the JSON of a document
abbrev steps_json : List Jsons → json.Members
steps_json jss = json.member (codes "steps") (json.array (items_json jss)) json.no_members

abbrev document_json : Jsons → List Jsons → json.Json
document_json js jss = json.object (before js (steps_json jss))

document-tokens : (js : Jsons) (jss : List Jsons)
    → begin_object ∷ (jsons_tokens js ++ (key (codes "steps") ∷ begin_array
    ∷ (objects_tokens jss ++ end_array ∷ end_object ∷ [])))
    ≡ json_tokens (document_json js jss)
document-tokens js jss =
    let close = sym (append_assoc (objects_tokens jss) (end_array ∷ []) (end_object ∷ []))
    ∙ ap (λ ts. ts ++ end_object ∷ []) (sym (items-tokens jss)) in
    ap (λ ts. begin_object ∷ ts)
    (ap (λ ts. jsons_tokens js ++ (key (codes "steps") ∷ begin_array ∷ ts)) close
    ∙ sym (before-tokens js (steps_json jss)))

-- ---- its text

two : IsGap (10 ∷ 32 ∷ 32 ∷ [])
two = (inr refl, (inl refl, (inl refl, tt)))

four : IsGap (10 ∷ 32 ∷ 32 ∷ 32 ∷ 32 ∷ [])
four = (inr refl, (inl refl, (inl refl, (inl refl, (inl refl, tt)))))

spaced-document : (p : Pair) (ps : List Pair) (pss : List (List Pair)) (text : List ℕ) → AreShallow 126 (p ∷ ps)
    → AreAllShallow 124 pss → IsDocumentText (p ∷ ps) pss text
    → (js : Jsons) × (jss : List Jsons) × AreJsonsOf 126 (p ∷ ps) js × AreAllJsonsOf 124 pss jss
    × Spaced false text (json_tokens (document_json js jss))
unfolding escape_byte
spaced-document p ps pss text shallow flat (members, objects, inside, steps, e) =
    let head = spaced-members 126 false (10 ∷ 32 ∷ 32 ∷ []) (10 ∷ 32 ∷ 32 ∷ []) (codes "\n  ") (codes ",\n  ") (p ∷ ps)
    members (two, λ k. refl) (two, λ k. refl)
    (omega arith) shallow inside in
    let each = spaced-objects 124 false (10 ∷ 32 ∷ 32 ∷ 32 ∷ 32 ∷ []) (10 ∷ 32 ∷ 32 ∷ 32 ∷ 32 ∷ []) (codes "\n    ")
    (codes ",\n    ") pss objects (four, refl) (four, refl) (omega arith) flat steps in
    let js = head.0 in
    let jss = each.0 in
    let opening = spaced-token false [] begin_object tt in
    let name = spaced-token true (10 ∷ 32 ∷ 32 ∷ []) (key (codes "steps")) two in
    let bracket = spaced-token false (32 ∷ []) begin_array (inl refl, tt) in
    let close = spaced-append (after false (objects_tokens jss)) _ _ (end_array ∷ []) (end_object ∷ [])
    (spaced-close_array (after false (objects_tokens jss)) (10 ∷ 32 ∷ 32 ∷ []) two)
    (spaced-close_object true (10 ∷ []) (inr refl, tt)) in
    let items = spaced-append false objects _ (objects_tokens jss) (end_array ∷ end_object ∷ []) each.2 close in
    let list = spaced-append false _ _ (begin_array ∷ []) (objects_tokens jss ++ end_array ∷ end_object ∷ [])
    bracket items in
    let named = spaced-append true _ _ (key (codes "steps") ∷ [])
    (begin_array ∷ (objects_tokens jss ++ end_array ∷ end_object ∷ [])) name list in
    let all = spaced-append false members _ (jsons_tokens js)
    (key (codes "steps") ∷ begin_array ∷ (objects_tokens jss ++ end_array ∷ end_object ∷ [])) head.2
    (spaced-after true (after false (jsons_tokens js)) _ _ (sym (ended 126 p ps js head.1)) named) in
    let made = spaced-append false _ _ (begin_object ∷ [])
    (jsons_tokens js ++ (key (codes "steps") ∷ begin_array ∷ (objects_tokens jss ++ end_array ∷ end_object ∷ []))) opening all in (
      js,
      jss,
      head.1,
      each.1,
      subst (λ ts. Spaced false text ts) (document-tokens js jss) (spaced-by false _ text _ (sym e) made),
    )

-- ---- and what is read of it

-- a text of the tokens of some JSON is read as its value
reads_spaced : (d : Data) (j : json.Json) (text : List ℕ) → of_json j ≡ Some d → HasNumbers j → tree.depth j ≤ 127
    → Spaced false text (json_tokens j) → read text ≡ Some d
reads_spaced d j text reads numbers deep spaced =
    let printable : ArePrintable (json_tokens j) = ArePrintable-json_tokens j numbers in
    let same : tokens text ≡ json_tokens j =
    ap tokens (sym spaced.is)
    ∙ tokens-print_spaced spaced.parts spaced.gaps (subst ArePrintable (sym spaced.made) printable) ∙ spaced.made in
    let valued : json.value max_depth (tokens text) ≡ Some (j, []) =
    ap (json.value max_depth) (same ∙ sym (append-nil (json_tokens j))) ∙ value-json_tokens j max_depth [] deep in
    ap whole valued ∙ reads

document-reads : (head : List Pair) (pss : List (List Pair)) (js : Jsons) (jss : List Jsons) → AreJsonsOf 126 head js
    → AreAllJsonsOf 124 pss jss → of_json (document_json js jss) ≡ Some (strict_document head pss)
document-reads head pss js jss h k =
    let found = put_all head no_members in
    ap (λ o. option_map object o)
    (before-read 126 head js (steps_json jss) no_members h
    ∙ ap (λ o. option_and_then (λ d. of_members json.no_members (put (codes "steps") d found)) (option_map array o))
    (items-read 124 pss jss k))

pub reads_as : (p : Pair) (ps : List Pair) (pss : List (List Pair)) (text : List ℕ) → AreShallow 126 (p ∷ ps)
    → AreAllShallow 124 pss → IsDocumentText (p ∷ ps) pss text → read text ≡ Some (strict_document (p ∷ ps) pss)
reads_as p ps pss text shallow flat t =
    let found = spaced-document p ps pss text shallow flat t in
    let js = found.0 in
    let jss = found.1 in
    let j = document_json js jss in
    let deep : tree.depth j ≤ 127 =
    omega (arith, before-shallow 126 (p ∷ ps) js (steps_json jss) found.2 (omega (arith, items-shallow 124 pss jss found.3))) in
    let numbers : HasNumbers j =
    before-numbers 126 (p ∷ ps) js (steps_json jss) found.2 (items-numbers 124 pss jss found.3, tt) in
    reads_spaced (strict_document (p ∷ ps) pss) j text (document-reads (p ∷ ps) pss js jss found.2 found.3) numbers deep
    found.4

-- ---- a step alone

pub object_reads : (ps : List Pair) (text : List ℕ) → AreShallow 126 ps → IsObjectText ps text
    → read text ≡ Some (object_with ps)
object_reads ps text shallow t =
    let found = spaced-object 126 false [] [] ps text (tt, refl) (omega arith) shallow t in
    let is = object-of 126 ps found.0 found.1 in
    reads_spaced (object_with ps) (object_json found.0) text is.reads is.numbers is.shallow found.2

-- what is read of such bytes
pub object_is : (ps : List Pair) (bytes text : List ℕ) (d : Data) → AreShallow 126 ps → IsObjectText ps text
    → bytes ≡ text → IsJson bytes d → d ≡ object_with ps
object_is ps bytes text d shallow t same json =
    Some_inj d (object_with ps) (sym json.value ∙ ap read same ∙ object_reads ps text shallow t)
