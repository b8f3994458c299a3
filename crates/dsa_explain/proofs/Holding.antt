-- The entries of all lists, as a walk finds them list by list.
use Rattle.std.proofs.Common.{◌≡◌, ℕ, zero, suc, ◌+◌, ◌<◌, Bool, true, false, List, [], ◌∷◌, ◌++◌, map, filter, find}
use Rattle.std.proofs.Common.{length, drop, Option, Some, None, is_some, refl, ◌∙◌, arith, inl, inr, flat_map}
use Rattle.std.proofs.Common.{drop-cons}
use Rattle.std.proofs.lemmas.{Bool.{cases_Bool}, Grind.{common_steps}}
use Rattle.std.proofs.lemmas.List.{map-append, Elements.{filter-append}, Folds.{find-append}}
use Rattle.std.specs.{List.{list_any, slice_get}, Option.{option_map, option_or}}
use Rattle.dsa_regs.specs.{declared.{Caps.{Caps}, layout.ListUse.{ListUse}}, Caps.{list_use, list_count, list_number}}
use Rattle.dsa_book.specs.State.{State}
use Rattle.dsa_laws.specs.WellFormed.{HasShape}
use Rattle.dsa_store.specs.{declared.entry.Entry.{Entry}, Content.{HeldEntry, Content, chain, all_held}}
use Rattle.dsa_explain.specs.declared.held.ListedEntry.{ListedEntry}
use Rattle.dsa_explain.specs.Held.{held_in_list, held_from, held_entry_of, NamedList, names_where, named_list, lists_from}

-- ---- one list

pub find-told : (p : Entry → Bool) (list : ListUse) (l : List HeldEntry)
    → find (λ (h : ListedEntry). p h.entry) (map (held_in_list list) l)
    ≡ option_map (held_in_list list) (find (λ (s : HeldEntry). p s.1) l)
find-told p list [] = refl
find-told p list (s ∷ l) = grind (arith, common_steps, find-told p list l)

pub filter-told : (p : Entry → Bool) (list : ListUse) (l : List HeldEntry)
    → filter (λ (h : ListedEntry). p h.entry) (map (held_in_list list) l)
    ≡ map (held_in_list list) (filter (λ (s : HeldEntry). p s.1) l)
filter-told p list [] = refl
filter-told p list (s ∷ l) = grind (arith, common_steps, filter-told p list l)

-- ---- the first of two parts decides, or the second

pub get-first : {X : Type 0} (xs ys : List X) (i : ℕ) (x : X) → slice_get xs i ≡ Some x
    → slice_get (xs ++ ys) i ≡ Some x
get-first [] ys i x h = absurd cc
get-first (y ∷ xs) ys zero x h = h
get-first (y ∷ xs) ys (suc i) x h = get-first xs ys i x h

pub get-rest : {X : Type 0} (xs ys : List X) (left : ℕ) → slice_get (xs ++ ys) (left + length xs) ≡ slice_get ys left
get-rest [] ys left = grind arith
get-rest (x ∷ xs) ys left = grind (arith, common_steps, get-rest xs ys left)

-- ---- list by list

-- the list of this number stands first among those from there on
pub held-step : (caps : Caps) (n : ℕ) (content : Content) → n < length content
    → held_from caps n (drop n content)
    ≡ map (held_in_list (list_use caps n)) (chain content n) ++ held_from caps (suc n) (drop (suc n) content)
held-step caps n content h = rw (drop-cons content n [] h) refl

pub all-told : (caps : Caps) (n : ℕ) (content : Content)
    → map held_entry_of (held_from caps n content) ≡ all_held content
all-told caps n [] = refl
all-told caps n (l ∷ ls) =
    map-append held_entry_of (map (held_in_list (list_use caps n)) l) (held_from caps (suc n) ls)
    ∙ grind (arith, same l, all-told caps (suc n) ls)
  where
    same : (l : List HeldEntry) → map held_entry_of (map (held_in_list (list_use caps n)) l) ≡ l
    same [] = refl
    same (s ∷ l) = grind (arith, same l)

-- ---- their entries

pub filter-entries : (p : Entry → Bool) (hs : List ListedEntry)
    → map held_entry_of (filter (λ (h : ListedEntry). p h.entry) hs) ≡ filter (λ (s : HeldEntry). p s.1) (map held_entry_of hs)
filter-entries p [] = refl
filter-entries p (h ∷ hs) = grind (arith, common_steps, filter-entries p hs)

pub find-any : (p : Entry → Bool) (hs : List ListedEntry)
    → is_some (find (λ (h : ListedEntry). p h.entry) hs) ≡ list_any (λ (s : HeldEntry). p s.1) (map held_entry_of hs)
find-any p [] = refl
find-any p (h ∷ hs) = grind (arith, common_steps, find-any p hs)

-- ---- those of one list that pass

-- the next one is that of the index which those before it leave
pub filter-hit : (p : Entry → Bool) (list : ListUse) (before after : List HeldEntry) (s : HeldEntry) → p s.1 ≡ true
    → slice_get (filter (λ (h : ListedEntry). p h.entry) (map (held_in_list list) (before ++ s ∷ after)))
    (length (filter (λ (s : HeldEntry). p s.1) before))
    ≡ Some (held_in_list list s)
filter-hit p list [] after s h = rw h refl
filter-hit p list (x ∷ before) after s h =
    elim (cases_Bool (p x.1)) [
      | inl hit ↦ rw hit (filter-hit p list before after s h)
      | inr miss ↦ rw miss (filter-hit p list before after s h)
    ]

pub filter-count : (p : Entry → Bool) (list : ListUse) (l : List HeldEntry)
    → length (filter (λ (h : ListedEntry). p h.entry) (map (held_in_list list) l)) ≡ length (filter (λ (s : HeldEntry). p s.1) l)
filter-count p list [] = refl
filter-count p list (s ∷ l) = grind (arith, common_steps, filter-count p list l)

pub map-map : {X Y Z : Type 0} (g : Y → Z) (f : X → Y) (xs : List X) → map g (map f xs) ≡ map (λ x. g (f x)) xs
map-map g f [] = refl
map-map g f (x ∷ xs) = grind (arith, map-map g f xs)

-- ---- names, list by list

-- a list of which nothing passes has no names
list-names : (list : ListUse) (names : List ℕ) (more : List NamedList)
    → flat_map (λ (named : NamedList). named.1) (named_list list names ++ more)
    ≡ names ++ flat_map (λ (named : NamedList). named.1) more
list-names list [] more = refl
list-names list (name ∷ names) more = refl

named-told : (list : ListUse) (l : List HeldEntry)
    → map (λ (h : ListedEntry). h.entry.name) (map (held_in_list list) l) ≡ map (λ (s : HeldEntry). s.1.name) l
named-told list l = map-map (λ (h : ListedEntry). h.entry.name) (held_in_list list) l

pub all-named : (caps : Caps) (p : Entry → Bool) (n : ℕ) (content : Content)
    → flat_map (λ (named : NamedList). named.1) (lists_from caps p n content)
    ≡ map (λ (h : ListedEntry). h.entry.name) (filter (λ (h : ListedEntry). p h.entry) (held_from caps n content))
all-named caps p n [] = refl
all-named caps p n (l ∷ ls) =
    list-names (list_use caps n) (names_where p l) (lists_from caps p (suc n) ls)
    ∙ rw (
      all-named caps p (suc n) ls,
      filter-append,
      filter-told p (list_use caps n) l,
      map-append,
      named-told,
    ) refl

lists-step : (caps : Caps) (p : Entry → Bool) (n : ℕ) (content : Content) → n < length content
    → lists_from caps p n (drop n content)
    ≡ named_list (list_use caps n) (names_where p (chain content n)) ++ lists_from caps p (suc n) (drop (suc n) content)
lists-step caps p n content h = rw (drop-cons content n [] h) refl

-- ---- what a list has, and what the lists after it

or-some : (o r : Option ListedEntry) → is_some o ≡ true → option_or o r ≡ o
or-some None r h = absurd cc
or-some (Some x) r h = refl

or-none : (o r : Option ListedEntry) → is_some o ≡ false → option_or o r ≡ r
or-none None r h = refl
or-none (Some x) r h = absurd cc

module _ (s : State) (device told : Caps) (shape : HasShape device s.work) (same : told ≡ device) (list : ListUse)
    (n : ℕ) (within : n < list_count told) (found : list ≡ list_use told n) (number : list_number told list ≡ n) where
  -- the list that the device names by this number
  list-step : held_from s.work.setup.caps n (drop n s.work.content)
      ≡ map (held_in_list list) (chain s.work.content (list_number device list))
      ++ held_from s.work.setup.caps (n + 1) (drop (n + 1) s.work.content)
  list-step =
      let there : n < length s.work.content = rw (shape.lists, ← same) within in
      let more : n + 1 ≡ suc n = omega arith in
      rw (more, held-step s.work.setup.caps n s.work.content there, shape.same_caps, ← same, number, ← found) refl

  -- its names come first
  pub names-step : (p : Entry → Bool) → lists_from s.work.setup.caps p n (drop n s.work.content)
      ≡ named_list list (names_where p (chain s.work.content (list_number device list)))
      ++ lists_from s.work.setup.caps p (n + 1) (drop (n + 1) s.work.content)
  names-step p =
      let there : n < length s.work.content = rw (shape.lists, ← same) within in
      let more : n + 1 ≡ suc n = omega arith in
      rw (
        more,
        lists-step s.work.setup.caps p n s.work.content there,
        shape.same_caps,
        ← same,
        number,
        ← found,
      ) refl

  -- the first that passes is one of the list, or of those after it
  pub found-here : (p : ListedEntry → Bool) (o : Option ListedEntry)
      → o ≡ find p (map (held_in_list list) (chain s.work.content (list_number device list))) → is_some o ≡ true
      → find p (held_from s.work.setup.caps n (drop n s.work.content)) ≡ o
  found-here p o is some = rw (list-step, find-append, ← is) (or-some o _ some)

  pub found-later : (p : ListedEntry → Bool) (o : Option ListedEntry)
      → o ≡ find p (map (held_in_list list) (chain s.work.content (list_number device list))) → is_some o ≡ false
      → find p (held_from s.work.setup.caps n (drop n s.work.content))
      ≡ find p (held_from s.work.setup.caps (n + 1) (drop (n + 1) s.work.content))
  found-later p o is none = rw (list-step, find-append, ← is) (or-none o _ none)

  -- and so is the one of an index, among those that pass
  pub get-here : (p : ListedEntry → Bool) (i : ℕ) (h : ListedEntry)
      → slice_get (filter p (map (held_in_list list) (chain s.work.content (list_number device list)))) i ≡ Some h
      → slice_get (filter p (held_from s.work.setup.caps n (drop n s.work.content))) i ≡ Some h
  get-here p i h is = rw (list-step, filter-append) (get-first _ _ i h is)

  pub get-later : (p : ListedEntry → Bool) (i left : ℕ)
      → left + length (filter p (map (held_in_list list) (chain s.work.content (list_number device list)))) ≡ i
      → slice_get (filter p (held_from s.work.setup.caps n (drop n s.work.content))) i
      ≡ slice_get (filter p (held_from s.work.setup.caps (n + 1) (drop (n + 1) s.work.content))) left
  get-later p i left is = rw (list-step, filter-append, ← is) (get-rest _ _ left)
