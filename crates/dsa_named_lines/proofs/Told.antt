-- The names of what a command waits for, list by list.
use Rattle.std.proofs.Common.{◌≡◌, ◌∙◌, ℕ, Bool, true, false, cond, List, [], ◌∷◌, ◌++◌, ap, refl, sym, append_assoc}
use Rattle.std.proofs.Common.{filter, flat_map, map}
use Rattle.std.proofs.lemmas.List.{map-append, Elements.{filter-append}}
use Rattle.dsa_regs.specs.declared.layout.ListUse.{ListUse}
use Rattle.dsa_store.specs.{declared.entry.Entry.{Entry}, Content.{HeldEntry}}
use Rattle.dsa_explain.specs.Held.{NamedList, named_list, names_where}

-- those of a list with one entry more
pub names-one : (p : Entry → Bool) (before : List HeldEntry) (pair : HeldEntry)
    → names_where p (before ++ pair ∷ []) ≡ names_where p before ++ cond (p pair.1) (pair.1.name ∷ []) []
names-one p before pair =
    ap (map (λ (held : HeldEntry). held.1.name)) (filter-append (λ (held : HeldEntry). p held.1) before (pair ∷ []))
    ∙ map-append (λ (held : HeldEntry). held.1.name) (filter (λ (held : HeldEntry). p held.1) before)
    (filter (λ (held : HeldEntry). p held.1) (pair ∷ []))
    ∙ ap (λ l. names_where p before ++ l) (one (p pair.1))
  where
    one : (is : Bool) → map (λ (held : HeldEntry). held.1.name) (cond is (pair ∷ []) []) ≡ cond is (pair.1.name ∷ []) []
    one true = refl
    one false = refl

-- those of a list, and those of the lists after it
listed : (list : ListUse) (names : List ℕ) (more : List NamedList)
    → flat_map (λ (named : NamedList). named.1) (named_list list names ++ more)
    ≡ names ++ flat_map (λ (named : NamedList). named.1) more
listed list [] more = refl
listed list (name ∷ names) more = refl

-- the names of one list more
pub names-next : (list : ListUse) (here : List ℕ) (all old new : List ℕ) (lists more : List NamedList)
    → all ≡ old ++ flat_map (λ (named : NamedList). named.1) lists → lists ≡ named_list list here ++ more
    → new ≡ old ++ here → all ≡ new ++ flat_map (λ (named : NamedList). named.1) more
names-next list here all old new lists more before step then =
    before ∙ ap (λ l. old ++ flat_map (λ (named : NamedList). named.1) l) step
    ∙ ap (λ l. old ++ l) (listed list here more)
    ∙ sym (append_assoc old here (flat_map (λ (named : NamedList). named.1) more))
    ∙ ap (λ l. l ++ flat_map (λ (named : NamedList). named.1) more) (sym then)
