-- Texts of tokens with gaps between them.
use Rattle.std.proofs.Common.{◌≡◌, ℕ, Bool, true, false, List, [], ◌∷◌, ◌++◌, fold, map, refl, ap, ap₂, ◌∙◌, subst}
use Rattle.std.proofs.Common.{append_assoc, append-nil}
use Rattle.std.proofs.lemmas.List.{map-append}
use Rattle.json.specs.Token.{Token, begin_object, end_object, begin_array, end_array, string, number, boolean, null}
use Rattle.json.specs.{Print.{token_text, ends, separator, print_from, print}, Spaced.{IsGap, AreGaps, print_spaced}}
use Rattle.json.specs.Json as json
use Rattle.json.specs.Tree.{json_tokens, items_tokens, members_tokens}

-- whether a value has just ended after these tokens
abbrev pub after : Bool → List Token → Bool
after c ts = fold (λ _ t. ends t) c ts

pub after-append : (c : Bool) (ts us : List Token) → after c (ts ++ us) ≡ after (after c ts) us
after-append c [] us = refl
after-append c (t ∷ ts) us = after-append (ends t) ts us

-- the text is these tokens with gaps before them, where a value has or has not just ended
pub record Spaced (c : Bool) (text : List ℕ) (ts : List Token) : Type 0 where
  pub parts : List (List ℕ × Token)
  pub gaps : AreGaps parts
  pub made : map (λ p. p.1) parts ≡ ts
  pub is : print_spaced c parts ≡ text

-- ---- parts one after the other

gaps-append : (ps qs : List (List ℕ × Token)) → AreGaps ps → AreGaps qs → AreGaps (ps ++ qs)
gaps-append [] qs h k = k
gaps-append (p ∷ ps) qs h k = (h.0, gaps-append ps qs h.1 k)

print_spaced-append : (c : Bool) (ps qs : List (List ℕ × Token))
    → print_spaced c (ps ++ qs) ≡ print_spaced c ps ++ print_spaced (after c (map (λ p. p.1) ps)) qs
unfolding print_spaced
print_spaced-append c [] qs = refl
print_spaced-append c (p ∷ ps) qs = rw (print_spaced-append (ends p.1) ps qs) (simp append_assoc)

pub spaced-append : (c : Bool) (a b : List ℕ) (ts us : List Token) → Spaced c a ts → Spaced (after c ts) b us
    → Spaced c (a ++ b) (ts ++ us)
spaced-append c a b ts us s t = record {
  parts = s.parts ++ t.parts;
  gaps = gaps-append s.parts t.parts s.gaps t.gaps;
  made = map-append (λ (p : List ℕ × Token). p.1) s.parts t.parts ∙ ap₂ (λ x y. x ++ y) s.made t.made;
  is = print_spaced-append c s.parts t.parts
      ∙ ap₂ (λ x y. x ++ y) s.is (ap (λ vs. print_spaced (after c vs) t.parts) s.made ∙ t.is);
}

-- the same text
pub spaced-by : (c : Bool) (a b : List ℕ) (ts : List Token) → a ≡ b → Spaced c a ts → Spaced c b ts
spaced-by c a b ts e s = subst (λ text. Spaced c text ts) e s

pub spaced-after : (c d : Bool) (a : List ℕ) (ts : List Token) → c ≡ d → Spaced c a ts → Spaced d a ts
spaced-after c d a ts e s = subst (λ b. Spaced b a ts) e s

-- ---- parts

pub spaced-nil : (c : Bool) → Spaced c [] []
unfolding print_spaced
spaced-nil c = record { parts = []; gaps = tt; made = refl; is = refl }

pub spaced-token : (c : Bool) (gap : List ℕ) (t : Token) → IsGap gap
    → Spaced c (separator c t ++ (gap ++ token_text t)) (t ∷ [])
unfolding print_spaced
spaced-token c gap t h = record {
  parts = (gap, t) ∷ [];
  gaps = (h, tt);
  made = refl;
  is = ap (λ l. separator c t ++ (gap ++ l)) (append-nil (token_text t));
}

abbrev plain : List Token → List (List ℕ × Token)
plain ts = map (λ t. ([], t)) ts

gaps-plain : (ts : List Token) → AreGaps (plain ts)
gaps-plain [] = tt
gaps-plain (t ∷ ts) = (tt, gaps-plain ts)

made-plain : (ts : List Token) → map (λ (p : List ℕ × Token). p.1) (plain ts) ≡ ts
made-plain [] = refl
made-plain (t ∷ ts) = ap (λ us. t ∷ us) (made-plain ts)

print_spaced-plain : (c : Bool) (ts : List Token) → print_spaced c (plain ts) ≡ print_from c ts
unfolding print_spaced print_from
print_spaced-plain c [] = refl
print_spaced-plain c (t ∷ ts) = ap (λ l. separator c t ++ (token_text t ++ l)) (print_spaced-plain (ends t) ts)

spaced-tokens : (gap : List ℕ) (t : Token) (ts : List Token) → IsGap gap
    → Spaced false (gap ++ print (t ∷ ts)) (t ∷ ts)
unfolding print_spaced print_from
spaced-tokens gap t ts h = record {
  parts = (gap, t) ∷ plain ts;
  gaps = (h, gaps-plain ts);
  made = ap (λ us. t ∷ us) (made-plain ts);
  is = ap (λ l. gap ++ (token_text t ++ l)) (print_spaced-plain (ends t) ts);
}

-- a value after a key or an open bracket
pub spaced-json : (gap : List ℕ) (j : json.Json) → IsGap gap
    → Spaced false (gap ++ print (json_tokens j)) (json_tokens j)
spaced-json gap json.null h = spaced-tokens gap null [] h
spaced-json gap (json.boolean b) h = spaced-tokens gap (boolean b) [] h
spaced-json gap (json.number s) h = spaced-tokens gap (number s) [] h
spaced-json gap (json.string s) h = spaced-tokens gap (string s) [] h
spaced-json gap (json.array js) h = spaced-tokens gap begin_array (items_tokens js) h
spaced-json gap (json.object ms) h = spaced-tokens gap begin_object (members_tokens ms) h

-- ---- what ends

mutual
  pub after-json : (c : Bool) (j : json.Json) → after c (json_tokens j) ≡ true
  after-json c (json.array js) = after-items false js
  after-json c (json.object ms) = after-members false ms
  after-json c _ = refl

  after-items : (c : Bool) (js : json.Items) → after c (items_tokens js) ≡ true
  after-items c json.no_items = refl
  after-items c (json.item j js) =
      after-append c (json_tokens j) (items_tokens js) ∙ after-items (after c (json_tokens j)) js

  after-members : (c : Bool) (ms : json.Members) → after c (members_tokens ms) ≡ true
  after-members c json.no_members = refl
  after-members c (json.member k j ms) =
      after-append false (json_tokens j) (members_tokens ms) ∙ after-members (after false (json_tokens j)) ms

-- a bracket that closes, with no comma before it
pub spaced-close_object : (c : Bool) (gap : List ℕ) → IsGap gap → Spaced c (gap ++ 125 ∷ []) (end_object ∷ [])
spaced-close_object true gap h = spaced-token true gap end_object h
spaced-close_object false gap h = spaced-token false gap end_object h

pub spaced-close_array : (c : Bool) (gap : List ℕ) → IsGap gap → Spaced c (gap ++ 93 ∷ []) (end_array ∷ [])
spaced-close_array true gap h = spaced-token true gap end_array h
spaced-close_array false gap h = spaced-token false gap end_array h
