-- The names of the entries that a command waits for, list by list.
use Rattle.std.proofs.Common.{◌≡◌, ◌≤◌, ℕ, Bool, List, [], ◌∷◌, ◌++◌, length, drop, refl, ◌∙◌, ap, sym}
use Rattle.std.proofs.lemmas.List.{drop_all}
use Rattle.std.specs.Prelude.{flat_map}
use Rattle.dsa_regs.specs.declared.{Caps.{Caps}, layout.ListUse.{ListUse}}
use Rattle.dsa_store.specs.{declared.entry.Entry.{Entry}, Content.{Content}}
use Rattle.dsa_explain.specs.Held.{NamedList, named_list, lists_from}
use Rattle.dsa_c.{specs.Buffers.{with_items, with_items_from}, proofs.Placing.{from-first}}

abbrev pub names_in : List NamedList → List ℕ
names_in lists = flat_map (λ (named : NamedList). named.1) lists

-- a list of which nothing passes has no names
list-names : (list : ListUse) (names : List ℕ) (more : List NamedList)
    → names_in (named_list list names ++ more) ≡ names ++ names_in more
list-names list [] more = refl
list-names list (name ∷ names) more = refl

-- the names of one list are written before those of the lists behind it
pub lists-next : (list : ListUse) (names all old text new : List ℕ) (here more : List NamedList) (place next : ℕ)
    → here ≡ named_list list names ++ more
    → with_items_from 0 all old ≡ with_items_from place (names_in here) text
    → ((rest : List ℕ) → with_items_from next rest new ≡ with_items_from place (names ++ rest) text)
    → with_items_from 0 all old ≡ with_items_from next (names_in more) new
lists-next list names all old text new here more place next h before after =
    before
    ∙ ap (λ (items : List ℕ). with_items_from place items text) (ap names_in h ∙ list-names list names more)
    ∙ sym (after (names_in more))

-- behind the last list nothing is left to write
pub all-written : (caps : Caps) (p : Entry → Bool) (n : ℕ) (content : Content) (all old text : List ℕ) (place : ℕ)
    → length content ≤ n
    → with_items_from 0 all old ≡ with_items_from place (names_in (lists_from caps p n (drop n content))) text
    → text ≡ with_items old all
all-written caps p n content all old text place past h =
    let none : lists_from caps p n (drop n content) ≡ [] = rw (drop_all n content past) refl in
    sym (h ∙ ap (λ (lists : List NamedList). with_items_from place (names_in lists) text) none) ∙ from-first all old
