-- Lists of held entries, and contents, where each cell is 0.
use Rattle.std.proofs.Common.{◌≡◌, ℕ, Bool, true, false, cond, List, [], ◌∷◌, ◌++◌, map, Option, Some, refl, sym, ap}
use Rattle.std.proofs.{Common.{◌∙◌, ◌+◌}, lemmas.{List.{map-append}, Simd.{map-map}}}
use Rattle.std.proofs.{lemmas.List.{map-set, map_push, drop-map}, Math.Path.{fun_ext}}
use Rattle.std.specs.{Prelude.{filter, find, sum_by, option_map, slice_set, drop, zero, suc}, List.{list_any}}
use Rattle.dsa_store.specs.{declared.entry.{Cell.{Cell}, Entry.{Entry}}, Content.{HeldEntry, Content, chain, all_held}}
use Rattle.dsa_store.specs.Content.{after_push, without_front, only_where}
use Rattle.std.proofs.lemmas.List.Sums.{sum_by-cons}
use Rattle.dsa_answers.specs.Alike.{entries_alone}

-- ---- any lists

pub filter-map : {X Y : Type 0} (f : X → Y) (p : Y → Bool) (l : List X)
    → filter p (map f l) ≡ map f (filter (λ x. p (f x)) l)
filter-map f p [] = refl
filter-map {X} {Y} f p (x ∷ l) = rw (filter-map f p l) (go (p (f x)) (filter (λ x. p (f x)) l))
  where
    go : (b : Bool) (rest : List X) → cond b (f x ∷ map f rest) (map f rest) ≡ map f (cond b (x ∷ rest) rest)
    go true rest = refl
    go false rest = refl

pub find-map : {X Y : Type 0} (f : X → Y) (p : Y → Bool) (l : List X)
    → find p (map f l) ≡ option_map f (find (λ x. p (f x)) l)
find-map f p [] = refl
find-map {X} {Y} f p (x ∷ l) = rw (find-map f p l) (go (p (f x)) (find (λ x. p (f x)) l))
  where
    go : (b : Bool) (rest : Option X) → cond b (Some (f x)) (option_map f rest) ≡ option_map f (cond b (Some x) rest)
    go true rest = refl
    go false rest = refl

pub any-map : {X Y : Type 0} (f : X → Y) (p : Y → Bool) (l : List X) → list_any p (map f l) ≡ list_any (λ x. p (f x)) l
any-map f p [] = refl
any-map f p (x ∷ l) = rw (any-map f p l) refl

pub sum-map : {X Y : Type 0} (f : X → Y) (g : Y → ℕ) (l : List X) → sum_by g (map f l) ≡ sum_by (λ x. g (f x)) l
sum-map f g [] = refl
sum-map f g (x ∷ l) = sum_by-cons g (f x) (map f l) ∙ ap (λ n. g (f x) + n) (sum-map f g l)
    ∙ sym (sum_by-cons (λ x. g (f x)) x l)

-- ---- cell 0

abbrev pub in_cell_0 : Entry → HeldEntry
in_cell_0 entry = (record { 0 = 0 }, entry)

-- the same entry in cell 0
abbrev pub bare : HeldEntry → HeldEntry
bare pair = in_cell_0 pair.1

abbrev pub bare_content : Content → Content
bare_content content = map (map bare) content

pub chain-bare : (c : Content) (i : ℕ) → chain (bare_content c) i ≡ map bare (chain c i)
chain-bare [] i = refl
chain-bare (l ∷ ls) zero = refl
chain-bare (l ∷ ls) (suc i) = chain-bare ls i

pub all_held-bare : (c : Content) → all_held (bare_content c) ≡ map bare (all_held c)
all_held-bare [] = refl
all_held-bare (l ∷ ls) = ap (λ rest. map bare l ++ rest) (all_held-bare ls) ∙ sym (map-append bare l (all_held ls))

pub bare-twice : (c : Content) → bare_content (bare_content c) ≡ bare_content c
bare-twice c = map-map (map bare) (map bare) c
    ∙ ap (λ (f : List HeldEntry → List HeldEntry). map f c) (fun_ext (λ l. map-map bare bare l))

-- ---- and the entries alone

pub bare-entries : (c : Content) → bare_content c ≡ map (map in_cell_0) (entries_alone c)
bare-entries c = sym (map-map (map in_cell_0) (map (λ pair. pair.1)) c
    ∙ ap (λ (f : List HeldEntry → List HeldEntry). map f c)
    (fun_ext (λ l. map-map in_cell_0 (λ (pair : HeldEntry). pair.1) l)))

pub entries-bare : (c : Content) → entries_alone (bare_content c) ≡ entries_alone c
entries-bare c = map-map (map (λ pair. pair.1)) (map bare) c
    ∙ ap (λ (f : List HeldEntry → List Entry). map f c) (fun_ext (λ l. map-map (λ (pair : HeldEntry). pair.1) bare l))

-- ---- what a step does to a list

pub set-bare : (c : Content) (i : ℕ) (l : List HeldEntry)
    → bare_content (slice_set c i l) ≡ slice_set (bare_content c) i (map bare l)
set-bare c i l = map-set (map bare) c i l

pub push-bare : (c : Content) (i : ℕ) (cell : Cell) (e : Entry)
    → bare_content (after_push c i cell e) ≡ after_push (bare_content c) i (record { 0 = 0 }) e
push-bare c i cell e = set-bare c i (chain c i ++ (cell, e) ∷ [])
    ∙ ap (slice_set (bare_content c) i) (map_push bare (chain c i) (cell, e)
    ∙ ap (λ l. l ++ in_cell_0 e ∷ []) (sym (chain-bare c i)))

pub without_front-bare : (c : Content) (i : ℕ) → bare_content (without_front c i) ≡ without_front (bare_content c) i
without_front-bare c i = set-bare c i (drop 1 (chain c i))
    ∙ ap (slice_set (bare_content c) i) (sym (drop-map bare 1 (chain c i)) ∙ ap (drop 1) (sym (chain-bare c i)))

pub kept-bare : (test : Entry → Bool) (c : Content)
    → bare_content (only_where test c) ≡ only_where test (bare_content c)
kept-bare test [] = refl
kept-bare test (l ∷ ls) =
    rw (filter-map bare (λ (s : HeldEntry). test s.1) l)
    (ap (λ rest. map bare (filter (λ s. test s.1) l) ∷ rest) (kept-bare test ls))
