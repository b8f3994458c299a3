-- One item more of a text: a member or an object.
use Rattle.std.proofs.Common.{◌≡◌, ◌<◌, ◌≤◌, ◌+◌, ℕ, List, [], ◌∷◌, ◌++◌, map, drop, get_or, length, refl, sym, ◌∙◌, ap, subst}
use Rattle.std.proofs.Common.{append_assoc, append-nil}
use Rattle.std.proofs.lemmas.List.{drop_all}
use Rattle.dsa_expand.specs.Steps.{Pair}
use Rattle.dsa_expand.specs.Layout.{IsValueText, AreMembersTexts, IsObjectText, AreObjectsTexts, key_with_colon}
use Rattle.dsa_expand.proofs.Lists.{next_of}

parts : (o b p r : List ℕ) → (o ++ (b ++ p)) ++ r ≡ o ++ (b ++ (p ++ r))
parts o b p r = simp append_assoc

-- each item has a piece of text, and another text comes before it
module _ {V X : Type 0} (item : V → X) (IsPiece : X → List ℕ → Type 0)
    (AreTexts : (first next : List ℕ) → List X → List ℕ → Type 0)
    (none : (first next : List ℕ) → AreTexts first next [] [])
    (more : (first next : List ℕ) (x : X) (xs : List X) (piece rest : List ℕ) → IsPiece x piece
    → AreTexts next next xs rest → AreTexts first next (x ∷ xs) (first ++ (piece ++ rest)))
    (first next : List ℕ) (vs : List V) (initial : List ℕ) where
  -- with the texts of all items from this one on, all are added
  abbrev pub Completes : (before text : List ℕ) → ℕ → Type 0
  Completes before text i =
      (rest : List ℕ) → AreTexts before next (map item (drop i vs)) rest
      → (added : List ℕ) × AreTexts first next (map item vs) added × (text ++ rest ≡ initial ++ added)

  pub item_more : (before : List ℕ) (i : ℕ) (v : V) (old new piece : List ℕ) → i < length vs → v ≡ get_or vs i v
      → IsPiece (item v) piece → new ≡ old ++ (before ++ piece) → Completes before old i → Completes next new (i + 1)
  item_more before i v old new piece inside is told made h rest texts =
      let here : AreTexts before next (map item (drop i vs)) (before ++ (piece ++ rest)) =
      subst (λ xs. AreTexts before next (map item xs) (before ++ (piece ++ rest))) (sym (next_of vs i v inside is))
      (more before next (item v) (map item (drop (i + 1) vs)) piece rest told texts) in
      let all = h (before ++ (piece ++ rest)) here in
      (all.0, all.1, ap (λ x. x ++ rest) made ∙ parts old before piece rest ∙ all.2)

  pub items_end : (before : List ℕ) (i : ℕ) (text : List ℕ) → length vs ≤ i → Completes before text i
      → (added : List ℕ) × AreTexts first next (map item vs) added × (text ≡ initial ++ added)
  items_end before i text past h =
      let all = h [] (subst (λ xs. AreTexts before next (map item xs) []) (sym (drop_all i vs past)) (none before next)) in
      (all.0, all.1, sym (append-nil text) ∙ all.2)

-- ---- members

-- a key with its value
abbrev pub IsMemberText : Pair → List ℕ → Type 0
IsMemberText p text = (value : List ℕ) × IsValueText p.1 value × (text ≡ key_with_colon p.0 ++ value)

pub no_members_text : (first next : List ℕ) → AreMembersTexts first next [] []
no_members_text first next = refl

pub member_before : (first next : List ℕ) (p : Pair) (ps : List Pair) (piece rest : List ℕ) → IsMemberText p piece
    → AreMembersTexts next next ps rest → AreMembersTexts first next (p ∷ ps) (first ++ (piece ++ rest))
member_before first next p ps piece rest (value, told, is) texts = (
  value,
  rest,
  told,
  texts,
  ap (λ x. first ++ x) (ap (λ x. x ++ rest) is ∙ append_assoc (key_with_colon p.0) value rest),
)

-- ---- objects

pub no_objects_text : (first next : List ℕ) → AreObjectsTexts first next [] []
no_objects_text first next = refl

pub object_before : (first next : List ℕ) (ps : List Pair) (pss : List (List Pair)) (piece rest : List ℕ)
    → IsObjectText ps piece → AreObjectsTexts next next pss rest
    → AreObjectsTexts first next (ps ∷ pss) (first ++ (piece ++ rest))
object_before first next ps pss piece rest told texts = (piece, rest, told, texts, refl)
