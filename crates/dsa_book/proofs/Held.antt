-- Whether a store holds an entry that passes, list by list.
use Rattle.std.proofs.Common.{◌≡◌, ℕ, ◌<◌, Bool, true, false, ◌||◌, [], ◌∷◌, length, refl, sym, ap}
use Rattle.std.proofs.Common.{◌∙◌, suc, arith}
use Rattle.std.proofs.lemmas.List.Folds.{list_any-append, list_any_at}
use Rattle.std.specs.List.{list_any}
use Rattle.dsa_store.specs.{declared.entry.Entry.{Entry}, Content.{HeldEntry, Content, chain, all_held}}
use Rattle.dsa_book.specs.State.{any_in, holds_any}

-- the store holds one exactly where some list has one
holds-lists : (test : Entry → Bool) (content : Content) → holds_any test content ≡ list_any (any_in test) content
holds-lists test [] = refl
holds-lists test (l ∷ ls) =
    list_any-append (λ (s : HeldEntry). test s.1) l (all_held ls)
    ∙ ap (λ (b : Bool). any_in test l || b) (holds-lists test ls)

-- a list that has one is enough
pub holds-hit : (test : Entry → Bool) (content : Content) (i : ℕ) → i < length content
    → any_in test (chain content i) ≡ true → holds_any test content ≡ true
holds-hit test content i h hit = holds-lists test content ∙ list_any_at (any_in test) content i [] h hit

-- by the lists one after another
pub holds-nowhere : (test : Entry → Bool) (content : Content)
    → ((i : ℕ) → i < length content → any_in test (chain content i) ≡ false) → holds_any test content ≡ false
holds-nowhere test [] none = refl
holds-nowhere test (l ∷ ls) none =
    let rest = holds-nowhere test ls (λ i h. none (suc i) (omega (arith, h))) in
    let here = none 0 (omega arith) in
    holds-lists test (l ∷ ls) ∙ ap (λ (b : Bool). b || list_any (any_in test) ls) here
    ∙ sym (holds-lists test ls) ∙ rest
