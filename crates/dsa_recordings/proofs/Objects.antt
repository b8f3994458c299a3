-- Texts of objects are read as these objects.
use Rattle.std.proofs.Common.{◌≡◌, ◌<◌, ◌≤◌, ◌^◌, ℕ, Bool, true, false, List, [], ◌∷◌, ◌++◌, Some, option_map}
use Rattle.std.proofs.Common.{option_and_then, map, codes, decimal, refl, sym, ap}
use Rattle.std.proofs.Common.{◌∙◌, subst, arith, append_assoc, append-nil, inr}
use Rattle.std.specs.Prelude.{⊤, flat_map}
use Rattle.std.proofs.lemmas.Fmt.{decimal_is_IsNumeral}
use Rattle.json.specs.Token.{Token, begin_object, end_object, begin_array, end_array, key}
use Rattle.json.specs.Token as token
use Rattle.json.specs.{Lex.{tokens}, Print.{escape, escape_byte, token_text, ends, separator, ArePrintable}}
use Rattle.json.specs.{Spaced.{AreGaps, print_spaced}}
use Rattle.json.specs.Json as json
use Rattle.json.specs.Tree as tree
use Rattle.json.specs.Tree.{json_tokens, items_tokens, members_tokens, HasNumbers, MembersHaveNumbers, ItemsHaveNumbers}
use Rattle.json.proofs.Printed.{Tokens.{tokens-print_spaced}, Trees.{value-json_tokens, ArePrintable-json_tokens}}
use Rattle.json.proofs.Printed.Decimals.{IsNumber-decimal}
use Rattle.serde_json.specs.Data.{Data, number, boolean, string, array, object, unsigned, item, Members}
use Rattle.serde_json.specs.Data.{no_members, put}
use Rattle.serde_json.specs.{Read.{read, of_json, of_items, of_members, max_depth, number_of}, Written.{number_text, outline}}
use Rattle.serde_json.specs.View.{items_of}
use Rattle.dsa_scenario.proofs.Numbers.{number_of_digits}
use Rattle.dsa_recordings.specs.Reading.{object_of_members, put_members}
use Rattle.dsa_recordings.specs.Texts.{Member, value_text, plain_member_text, further_member}
use Rattle.dsa_recordings.specs.Texts.{members_text, object_text, objects_text}

-- ---- values

abbrev token_of : Data → Token
token_of (number n) = token.number (number_text n)
token_of (boolean b) = token.boolean b
token_of (string s) = token.string s
token_of _ = token.null

-- numbers of 64 bits, truth values, and texts with nothing to escape
abbrev pub IsPlain : Data → Type 0
IsPlain (number (unsigned n)) = n < 2 ^ 64
IsPlain (boolean b) = ⊤
IsPlain (string s) = escape s ≡ s
IsPlain _ = ⊥

value_printed : (d : Data) → IsPlain d → token_text (token_of d) ≡ value_text d
value_printed (number (unsigned n)) h = refl
value_printed (boolean true) h = refl
value_printed (boolean false) h = refl
value_printed (string s) h = ap (λ t. 34 ∷ (t ++ 34 ∷ [])) h
value_printed _ h = absurd h

value_ends : (d : Data) → ends (token_of d) ≡ true
value_ends (number n) = refl
value_ends (boolean b) = refl
value_ends (string s) = refl
value_ends _ = refl

value_tokens : (d : Data) → IsPlain d → json_tokens (outline d) ≡ token_of d ∷ []
value_tokens (number (unsigned n)) h = refl
value_tokens (boolean b) h = refl
value_tokens (string s) h = refl
value_tokens _ h = absurd h

number_reads : (n : ℕ) → n < 2 ^ 64 → number_of (decimal n) ≡ Some (unsigned n)
number_reads n h =
    let numeral = decimal_is_IsNumeral n h in
    number_of_digits (decimal n) numeral.0 (subst (λ m. m < 2 ^ 64) (sym numeral.1) h)
    ∙ ap (λ m. Some (unsigned m)) numeral.1

value_reads : (d : Data) → IsPlain d → of_json (outline d) ≡ Some d
value_reads (number (unsigned n)) h = ap (option_map number) (number_reads n h)
value_reads (boolean b) h = refl
value_reads (string s) h = refl
value_reads _ h = absurd h

value_numbers : (d : Data) → IsPlain d → HasNumbers (outline d)
value_numbers (number (unsigned n)) h = IsNumber-decimal n h
value_numbers (boolean b) h = tt
value_numbers (string s) h = tt
value_numbers _ h = absurd h

value_flat : (d : Data) → IsPlain d → tree.depth (outline d) ≡ 0
value_flat (number (unsigned n)) h = refl
value_flat (boolean b) h = refl
value_flat (string s) h = refl
value_flat _ h = absurd h

-- ---- members

-- neither the keys nor the values have anything to escape
abbrev pub ArePlain : List Member → Type 0
ArePlain [] = ⊤
ArePlain (m ∷ ms) = ((escape m.0 ≡ m.0) × IsPlain m.1) × ArePlain ms

-- a token with the gap before it
abbrev Parts : Type 0
Parts = List (List ℕ × Token)

abbrev members_parts : List Member → Parts → Parts
members_parts [] rest = ([], end_object) ∷ rest
members_parts (m ∷ ms) rest = ([], key m.0) ∷ ([], token_of m.1) ∷ members_parts ms rest

members_gaps : (ms : List Member) (rest : Parts) → AreGaps rest → AreGaps (members_parts ms rest)
members_gaps [] rest h = (tt, h)
members_gaps (m ∷ ms) rest h = (tt, (tt, members_gaps ms rest h))

one_printed : (before k value more : List ℕ)
    → before ++ ((34 ∷ (k ++ 34 ∷ []) ++ 58 ∷ []) ++ (value ++ more))
    ≡ (before ++ (codes "\"" ++ k ++ codes "\":" ++ value)) ++ more
one_printed before k value more = simp append_assoc

member_printed : (c : Bool) (m : Member) (parts : Parts) (more : List ℕ) → (escape m.0 ≡ m.0) × IsPlain m.1
    → print_spaced true parts ≡ more
    → print_spaced c (([], key m.0) ∷ ([], token_of m.1) ∷ parts) ≡ (separator c (key m.0) ++ plain_member_text m) ++ more
unfolding print_spaced
member_printed c m parts more h e =
    let front = separator c (key m.0) in
    let quotes = λ (k : List ℕ). 34 ∷ (k ++ 34 ∷ []) ++ 58 ∷ [] in
    ap (λ k. front ++ (quotes k ++ (token_text (token_of m.1) ++ print_spaced (ends (token_of m.1)) parts))) h.0
    ∙ ap (λ v. front ++ (quotes m.0 ++ (v ++ print_spaced (ends (token_of m.1)) parts))) (value_printed m.1 h.1)
    ∙ ap (λ b. front ++ (quotes m.0 ++ (value_text m.1 ++ print_spaced b parts))) (value_ends m.1)
    ∙ ap (λ t. front ++ (quotes m.0 ++ (value_text m.1 ++ t))) e
    ∙ one_printed front m.0 (value_text m.1) more

next_printed : (ms : List Member) (rest : Parts) → ArePlain ms
    → print_spaced true (members_parts ms rest) ≡ flat_map further_member ms ++ (125 ∷ print_spaced true rest)
unfolding print_spaced
next_printed [] rest h = refl
next_printed (m ∷ ms) rest h =
    member_printed true m (members_parts ms rest) _ h.0 (next_printed ms rest h.1)
    ∙ sym (append_assoc (further_member m) (flat_map further_member ms) (125 ∷ print_spaced true rest))

members_printed : (ms : List Member) (rest : Parts) → ArePlain ms
    → print_spaced false (members_parts ms rest) ≡ members_text ms ++ (125 ∷ print_spaced true rest)
unfolding print_spaced
members_printed [] rest h = refl
members_printed (m ∷ ms) rest h =
    member_printed false m (members_parts ms rest) _ h.0 (next_printed ms rest h.1)
    ∙ sym (append_assoc (plain_member_text m) (flat_map further_member ms) (125 ∷ print_spaced true rest))

abbrev members_json : List Member → json.Members → json.Members
members_json [] rest = rest
members_json (m ∷ ms) rest = json.member m.0 (outline m.1) (members_json ms rest)

abbrev pub object_json : List Member → json.Json
object_json ms = json.object (members_json ms json.no_members)

members_are : (ms : List Member) (rest : Parts) → ArePlain ms
    → map (λ p. p.1) (members_parts ms rest) ≡ members_tokens (members_json ms json.no_members) ++ map (λ p. p.1) rest
members_are [] rest h = refl
members_are (m ∷ ms) rest h =
    ap (λ ts. key m.0 ∷ token_of m.1 ∷ ts) (members_are ms rest h.1)
    ∙ ap (λ ts. key m.0 ∷ ((ts ++ members_tokens (members_json ms json.no_members)) ++ map (λ p. p.1) rest))
    (sym (value_tokens m.1 h.0.1))

members_numbers : (ms : List Member) → ArePlain ms → MembersHaveNumbers (members_json ms json.no_members)
members_numbers [] h = tt
members_numbers (m ∷ ms) h = (value_numbers m.1 h.0.1, members_numbers ms h.1)

members_flat : (ms : List Member) → ArePlain ms → tree.members_depth (members_json ms json.no_members) ≡ 0
members_flat [] h = refl
members_flat (m ∷ ms) h = rw (value_flat m.1 h.0.1, members_flat ms h.1) refl

members_read : (ms : List Member) (found : Members) → ArePlain ms
    → of_members (members_json ms json.no_members) found ≡ Some (put_members ms found)
members_read [] found h = refl
members_read (m ∷ ms) found h =
    ap (option_and_then (λ d. of_members (members_json ms json.no_members) (put m.0 d found))) (value_reads m.1 h.0.1)
    ∙ members_read ms (put m.0 m.1 found) h.1

object_reads : (ms : List Member) → ArePlain ms → of_json (object_json ms) ≡ Some (object_of_members ms)
object_reads ms h = ap (option_map object) (members_read ms no_members h)

-- ---- objects

abbrev pub AreAllPlain : List (List Member) → Type 0
AreAllPlain [] = ⊤
AreAllPlain (ms ∷ mss) = ArePlain ms × AreAllPlain mss

-- the end of a document
abbrev ending : Parts
ending = (10 ∷ [], end_array) ∷ ([], end_object) ∷ []

abbrev objects_parts : List (List Member) → Parts
objects_parts [] = ending
objects_parts (ms ∷ mss) = (10 ∷ [], begin_object) ∷ members_parts ms (objects_parts mss)

-- what begins a line, where a value has or has not just ended
abbrev line_start : Bool → List ℕ
line_start true = codes ",\n"
line_start false = codes "\n"

ending_printed : (c : Bool) → print_spaced c ending ≡ codes "\n]}"
unfolding print_spaced
ending_printed true = refl
ending_printed false = refl

line_printed : (c : Bool) (parts : Parts)
    → print_spaced c ((10 ∷ [], begin_object) ∷ parts) ≡ line_start c ++ (123 ∷ print_spaced false parts)
unfolding print_spaced
line_printed true parts = refl
line_printed false parts = refl

line_in_order : (start inside more end : List ℕ)
    → start ++ (123 ∷ (inside ++ (125 ∷ (more ++ end)))) ≡ (start ++ (codes "{" ++ inside ++ codes "}") ++ more) ++ end
line_in_order start inside more end = simp append_assoc

objects_printed : (c : Bool) (mss : List (List Member)) → AreAllPlain mss
    → print_spaced c (objects_parts mss) ≡ objects_text (line_start c) (codes ",\n") mss ++ codes "\n]}"
objects_printed c [] h = ending_printed c
objects_printed c (ms ∷ mss) h =
    line_printed c (members_parts ms (objects_parts mss))
    ∙ ap (λ t. line_start c ++ (123 ∷ t)) (members_printed ms (objects_parts mss) h.0)
    ∙ ap (λ t. line_start c ++ (123 ∷ (members_text ms ++ (125 ∷ t)))) (objects_printed true mss h.1)
    ∙ line_in_order (line_start c) (members_text ms) (objects_text (codes ",\n") (codes ",\n") mss) (codes "\n]}")

objects_gaps : (mss : List (List Member)) → AreGaps (objects_parts mss)
objects_gaps [] = ((inr refl, tt), (tt, tt))
objects_gaps (ms ∷ mss) = ((inr refl, tt), members_gaps ms (objects_parts mss) (objects_gaps mss))

abbrev pub items_json : List (List Member) → json.Items
items_json [] = json.no_items
items_json (ms ∷ mss) = json.item (object_json ms) (items_json mss)

objects_are : (mss : List (List Member)) → AreAllPlain mss
    → map (λ p. p.1) (objects_parts mss) ≡ items_tokens (items_json mss) ++ end_object ∷ []
objects_are [] h = refl
objects_are (ms ∷ mss) h =
    let inside = members_tokens (members_json ms json.no_members) in
    ap (λ ts. begin_object ∷ ts) (members_are ms (objects_parts mss) h.0)
    ∙ ap (λ ts. begin_object ∷ (inside ++ ts)) (objects_are mss h.1)
    ∙ ap (λ ts. begin_object ∷ ts) (sym (append_assoc inside (items_tokens (items_json mss)) (end_object ∷ [])))

items_numbers : (mss : List (List Member)) → AreAllPlain mss → ItemsHaveNumbers (items_json mss)
items_numbers [] h = tt
items_numbers (ms ∷ mss) h = (members_numbers ms h.0, items_numbers mss h.1)

items_flat : (mss : List (List Member)) → AreAllPlain mss → tree.items_depth (items_json mss) ≤ 1
items_flat [] h = omega arith
items_flat (ms ∷ mss) h = omega (arith, members_flat ms h.0, items_flat mss h.1)

items_read : (mss : List (List Member)) → AreAllPlain mss
    → of_items (items_json mss) ≡ Some (items_of (map object_of_members mss))
items_read [] h = refl
items_read (ms ∷ mss) h =
    ap (option_and_then (λ d. option_map (item d) (of_items (items_json mss)))) (object_reads ms h.0)
    ∙ ap (option_map (item (object_of_members ms))) (items_read mss h.1)

-- ---- a document

module _ (caps : List Member) (capacity : ℕ) (mss : List (List Member)) where
  abbrev after_caps : Parts
  after_caps =
      ([], key (codes "capacity")) ∷ ([], token.number (decimal capacity)) ∷ ([], key (codes "steps"))
      ∷ ([], begin_array) ∷ objects_parts mss

  abbrev document_parts : Parts
  document_parts =
      ([], begin_object) ∷ ([], key (codes "caps")) ∷ ([], begin_object) ∷ members_parts caps after_caps

  abbrev document_json : json.Json
  document_json = json.object (json.member (codes "caps") (object_json caps)
      (json.member (codes "capacity") (json.number (decimal capacity))
      (json.member (codes "steps") (json.array (items_json mss)) json.no_members)))

  abbrev pub document_data : Data
  document_data = object (put (codes "steps") (array (items_of (map object_of_members mss)))
      (put (codes "capacity") (number (unsigned capacity)) (put (codes "caps") (object_of_members caps) no_members)))

  abbrev pub text_of_document : List ℕ
  text_of_document =
      codes "{\"caps\":" ++ object_text caps ++ codes ",\"capacity\":" ++ decimal capacity ++ codes ",\"steps\":["
      ++ objects_text (codes "\n") (codes ",\n") mss ++ codes "\n]}"

  abbrev rest_text : List ℕ
  rest_text =
      codes ",\"capacity\":" ++ (decimal capacity ++ (codes ",\"steps\":["
      ++ (objects_text (codes "\n") (codes ",\n") mss ++ codes "\n]}")))

  rest_printed : AreAllPlain mss → print_spaced true after_caps ≡ rest_text
  unfolding print_spaced escape_byte
  rest_printed h =
      ap (λ t. codes ",\"capacity\":" ++ (decimal capacity ++ (codes ",\"steps\":[" ++ t)))
      (objects_printed false mss h)

  parts_in_order : (o b i e c d s m z : List ℕ)
      → o ++ (b ++ (i ++ (e ++ (c ++ (d ++ (s ++ (m ++ z))))))) ≡ o ++ (b ++ i ++ e) ++ c ++ d ++ s ++ m ++ z
  parts_in_order o b i e c d s m z = simp append_assoc

  document_printed : ArePlain caps → AreAllPlain mss → print_spaced false document_parts ≡ text_of_document
  unfolding print_spaced escape_byte
  document_printed h k =
      ap (λ t. codes "{\"caps\":{" ++ t) (members_printed caps after_caps h)
      ∙ ap (λ t. codes "{\"caps\":{" ++ (members_text caps ++ (125 ∷ t))) (rest_printed k)
      ∙ parts_in_order (codes "{\"caps\":") (codes "{") (members_text caps) (codes "}") (codes ",\"capacity\":")
      (decimal capacity) (codes ",\"steps\":[") (objects_text (codes "\n") (codes ",\n") mss) (codes "\n]}")

  document_are : ArePlain caps → AreAllPlain mss → map (λ p. p.1) document_parts ≡ json_tokens document_json
  document_are h k =
      let opening = λ (ts : List Token). begin_object ∷ key (codes "caps") ∷ begin_object ∷ ts in
      let inside = members_tokens (members_json caps json.no_members) in
      ap opening (members_are caps after_caps h)
      ∙ ap (λ ts. opening (inside ++ (key (codes "capacity") ∷ token.number (decimal capacity) ∷ key (codes "steps")
      ∷ begin_array ∷ ts))) (objects_are mss k)

  document_gaps : AreGaps document_parts
  document_gaps = (tt, (tt, (tt, members_gaps caps after_caps (tt, (tt, (tt, (tt, objects_gaps mss)))))))

  document_numbers : ArePlain caps → AreAllPlain mss → capacity < 2 ^ 64 → HasNumbers document_json
  document_numbers h k fits =
      (members_numbers caps h, (IsNumber-decimal capacity fits, (items_numbers mss k, tt)))

  document_reads : ArePlain caps → AreAllPlain mss → capacity < 2 ^ 64 → of_json document_json ≡ Some document_data
  document_reads h k fits = rw (object_reads caps h, number_reads capacity fits, items_read mss k) refl

  -- the text of a document is read as the document
  pub reads_as : ArePlain caps → AreAllPlain mss → capacity < 2 ^ 64 → read text_of_document ≡ Some document_data
  reads_as h k fits =
      let j = document_json in
      let flat : tree.depth j ≤ 127 = omega (arith, members_flat caps h, items_flat mss k) in
      let same : map (λ p. p.1) document_parts ≡ json_tokens j = document_are h k in
      let printable = ArePrintable-json_tokens j (document_numbers h k fits) in
      let lexed : tokens text_of_document ≡ json_tokens j =
      ap tokens (sym (document_printed h k))
      ∙ tokens-print_spaced document_parts document_gaps (subst ArePrintable (sym same) printable) ∙ same in
      let valued : json.value max_depth (tokens text_of_document) ≡ Some (j, []) =
      ap (json.value max_depth) (lexed ∙ sym (append-nil (json_tokens j))) ∙ value-json_tokens j max_depth [] flat in
      ap (λ o. option_and_then of_json (option_and_then (λ p. json.if_last p.0 p.1) o)) valued ∙ document_reads h k fits
