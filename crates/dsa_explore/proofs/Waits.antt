-- The labels of the entries that are awaited: by what a key says, and list by list.
use Rattle.std.proofs.Common.{◌≡◌, ℕ, ◌+◌, ◌<◌, Bool, true, false, cond, List, [], ◌∷◌, ◌++◌, Option, refl, sym, ap}
use Rattle.std.proofs.Common.{◌∙◌}
use Rattle.std.proofs.Common.{map, filter, length, take}
use Rattle.std.specs.List.{flat_map}
use Rattle.std.proofs.lemmas.List.{append_assoc, append-nil, map-append, take_more}
use Rattle.std.proofs.lemmas.List.{Elements.{filter-append}, Concat.{flat_map-append}}
use Rattle.dsa_store.specs.Content.{HeldEntry, Content, all_held, chain}
use Rattle.dsa_book.specs.{declared.note.ActiveCommand.{ActiveCommand}, State.{State}}
use Rattle.dsa_admin.specs.Admin.{is_awaited_by}
use Rattle.dsa_keys.specs.{Labels.{Labels}, Key.{LabelledEntry, labelled_entry, key}}
use Rattle.dsa_explore.specs.Findings.{awaited_among}

-- ---- by a key

-- the labels of the entries with a mark
abbrev picked : List LabelledEntry → List Bool → List ℕ
picked [] marks = []
picked (entry ∷ entries) [] = []
picked (entry ∷ entries) (mark ∷ marks) = cond mark (entry.label ∷ picked entries marks) (picked entries marks)

picked-step : (m : Labels) (x : HeldEntry) (rest : List HeldEntry) (labels : List ℕ) (is : Bool)
    → labels ≡ map (λ (pair : HeldEntry). m pair.1.name) rest
    → cond is (m x.1.name ∷ labels) labels ≡ map (λ (pair : HeldEntry). m pair.1.name) (cond is (x ∷ rest) rest)
picked-step m x rest labels true e = ap (λ l. m x.1.name ∷ l) e
picked-step m x rest labels false e = e

-- those that are awaited are so by the labels and the marks of all
picked-is : (m : Labels) (a : Option ActiveCommand) (xs : List HeldEntry)
    → picked (map (labelled_entry m) xs) (map (λ (pair : HeldEntry). is_awaited_by a pair.1) xs) ≡ awaited_among m a xs
picked-is m a [] = refl
picked-is m a (x ∷ xs) = picked-step m x (filter (λ (pair : HeldEntry). is_awaited_by a pair.1) xs)
    (picked (map (labelled_entry m) xs) (map (λ (pair : HeldEntry). is_awaited_by a pair.1) xs)) (is_awaited_by a x.1)
    (picked-is m a xs)

map-flat : {X Y : Type 0} (f : X → Y) (xss : List (List X))
    → map f (flat_map (λ list. list) xss) ≡ flat_map (λ list. list) (map (map f) xss)
map-flat f [] = refl
map-flat f (xs ∷ xss) = map-append f xs (flat_map (λ list. list) xss) ∙ ap (λ l. map f xs ++ l) (map-flat f xss)

-- with equal keys the same are awaited
pub same-awaited : (m n : Labels) (s t : State) → key m s ≡ key n t
    → awaited_among m s.active (all_held s.work.content) ≡ awaited_among n t.active (all_held t.work.content)
same-awaited m n s t e =
    let entries : map (labelled_entry m) (all_held s.work.content) ≡ map (labelled_entry n) (all_held t.work.content)
    = map-flat (labelled_entry m) s.work.content ∙ (λ i. flat_map (λ list. list) ((e i).lists))
    ∙ sym (map-flat (labelled_entry n) t.work.content) in
    sym (picked-is m s.active (all_held s.work.content)) ∙ (λ i. picked (entries i) ((e i).awaited))
    ∙ picked-is n t.active (all_held t.work.content)

-- ---- list by list

pub awaited-append : (m : Labels) (a : Option ActiveCommand) (xs ys : List HeldEntry)
    → awaited_among m a (xs ++ ys) ≡ awaited_among m a xs ++ awaited_among m a ys
awaited-append m a xs ys =
    ap (map (λ (pair : HeldEntry). m pair.1.name)) (filter-append (λ (pair : HeldEntry). is_awaited_by a pair.1) xs ys)
    ∙ map-append (λ (pair : HeldEntry). m pair.1.name) (filter (λ (pair : HeldEntry). is_awaited_by a pair.1) xs)
    (filter (λ (pair : HeldEntry). is_awaited_by a pair.1) ys)

-- all that is held in one list more
pub held-more : (content : Content) (i : ℕ) → i < length content
    → all_held (take i content) ++ chain content i ≡ all_held (take (i + 1) content)
held-more content i within =
    sym (ap (flat_map (λ (list : List HeldEntry). list)) (take_more content i [] within)
    ∙ flat_map-append (λ (list : List HeldEntry). list) (take i content) (chain content i ∷ [])
    ∙ ap (λ last. all_held (take i content) ++ last) (append-nil (chain content i)))

-- those of one list more
pub awaited-more : (m : Labels) (a : Option ActiveCommand) (content : Content) (i : ℕ) (old new : List ℕ)
    → i < length content → old ≡ awaited_among m a (all_held (take i content))
    → new ≡ old ++ awaited_among m a (chain content i)
    → new ≡ awaited_among m a (all_held (take (i + 1) content))
awaited-more m a content i old new within before step =
    step ∙ ap (λ l. l ++ awaited_among m a (chain content i)) before
    ∙ sym (awaited-append m a (all_held (take i content)) (chain content i))
    ∙ ap (awaited_among m a) (held-more content i within)

-- one entry more
pub awaited-one : (m : Labels) (a : Option ActiveCommand) (found : List ℕ) (x : HeldEntry) (xs : List HeldEntry)
    → is_awaited_by a x.1 ≡ true
    → (found ++ m x.1.name ∷ []) ++ awaited_among m a xs ≡ found ++ awaited_among m a (x ∷ xs)
awaited-one m a found x xs is =
    append_assoc found (m x.1.name ∷ []) (awaited_among m a xs)
    ∙ ap (λ (b : Bool). found ++ map (λ (pair : HeldEntry). m pair.1.name)
    (cond b (x ∷ filter (λ (pair : HeldEntry). is_awaited_by a pair.1) xs)
    (filter (λ (pair : HeldEntry). is_awaited_by a pair.1) xs))) (sym is)

pub awaited-none : (m : Labels) (a : Option ActiveCommand) (found : List ℕ) (x : HeldEntry) (xs : List HeldEntry)
    → is_awaited_by a x.1 ≡ false → found ++ awaited_among m a xs ≡ found ++ awaited_among m a (x ∷ xs)
awaited-none m a found x xs is =
    ap (λ (b : Bool). found ++ map (λ (pair : HeldEntry). m pair.1.name)
    (cond b (x ∷ filter (λ (pair : HeldEntry). is_awaited_by a pair.1) xs)
    (filter (λ (pair : HeldEntry). is_awaited_by a pair.1) xs))) (sym is)
