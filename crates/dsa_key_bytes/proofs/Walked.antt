-- What is written entry by entry is what a key says.
use Rattle.std.proofs.Common.{◌≡◌, ℕ, ◌+◌, ◌<◌, Bool, true, false, cond, List, [], ◌∷◌, ◌++◌, length, take, map, refl, ap, sym, ◌∙◌}
use Rattle.std.specs.List.{flat_map}
use Rattle.std.proofs.lemmas.List.Concat.{flat_map-append}
use Rattle.dsa_desc.specs.Descriptor.{is_drain}
use Rattle.dsa_store.specs.Content.{HeldEntry, Content, all_held, chain}
use Rattle.dsa_book.specs.State.{State}
use Rattle.dsa_admin.specs.Admin.{is_awaited_by}
use Rattle.dsa_keys.specs.{Labels.{Labels}, Key.{waits_of, waits_as_drain}, Short.{short_entry, drains_among}}
use Rattle.dsa_key_bytes.specs.declared.entries.Mark.{TheVariants.{Awaited, WaitedForBy}}
use Rattle.dsa_key_bytes.specs.KeyBytes.{with_end, numbers_of_entry, numbers_of_wait, numbers_of_row}
use Rattle.dsa_key_bytes.specs.Line.{Written, with_numbers}
use Rattle.dsa_key_bytes.specs.Marks.{mark_numbers, label_numbers, drain_numbers}
use Rattle.dsa_key_bytes.proofs.Lines.{each-more, written-more}

pub flat_map-map : {X Y A : Type 0} (numbers : Y → List A) (f : X → Y) (xs : List X)
    → flat_map numbers (map f xs) ≡ flat_map (λ x. numbers (f x)) xs
flat_map-map numbers f [] = refl
flat_map-map numbers f (x ∷ xs) = ap (λ rest. numbers (f x) ++ rest) (flat_map-map numbers f xs)

-- ---- list by list

-- the entries of one list more
pub held-more : (numbers : HeldEntry → List ℕ) (content : Content) (i : ℕ) → i < length content
    → flat_map numbers (all_held (take i content)) ++ flat_map numbers (chain content i)
    ≡ flat_map numbers (all_held (take (i + 1) content))
held-more numbers content i within =
    sym (flat_map-append numbers (all_held (take i content)) (chain content i))
    ∙ ap (flat_map numbers) (each-more (λ (list : List HeldEntry). list) content i [] within)

-- the numbers of one list more
pub lists-more : (numbers : HeldEntry → List ℕ) (first line next : Written) (content : Content) (i : ℕ)
    → i < length content → line ≡ with_numbers first (flat_map numbers (all_held (take i content)))
    → next ≡ with_numbers line (flat_map numbers (chain content i))
    → next ≡ with_numbers first (flat_map numbers (all_held (take (i + 1) content)))
lists-more numbers first line next content i within before step =
    written-more first line next (flat_map numbers (all_held (take i content))) (flat_map numbers (chain content i))
    before step
    ∙ ap (with_numbers first) (held-more numbers content i within)

-- the entries of a list by their labels
pub labels-numbers : (labels : Labels) (pairs : List HeldEntry)
    → flat_map numbers_of_entry (map (short_entry labels) pairs)
    ≡ flat_map (λ (pair : HeldEntry). numbers_of_entry (short_entry labels pair)) pairs
labels-numbers labels pairs = flat_map-map numbers_of_entry (short_entry labels) pairs

-- each list by the labels of its entries, and a 0
pub lists-numbers : (labels : Labels) (content : Content)
    → flat_map (with_end numbers_of_entry) (map (map (short_entry labels)) content)
    ≡ flat_map (λ (pairs : List HeldEntry).
    label_numbers labels pairs) content
lists-numbers labels [] = refl
lists-numbers labels (pairs ∷ content) =
    λ j. (labels-numbers labels pairs j ++ 0 ∷ []) ++ lists-numbers labels content j

-- ---- Drains

-- the row of one more, if it is a Drain
drain-step : (s : State) (pair : HeldEntry) (drains : List HeldEntry) (rest : List ℕ) (is : Bool)
    → flat_map numbers_of_row (waits_of drains s.work.content) ≡ rest
    → flat_map numbers_of_row (waits_of (cond is (pair ∷ drains) drains) s.work.content)
    ≡ cond is (1 ∷ (flat_map (mark_numbers s (WaitedForBy pair.1)) (all_held s.work.content) ++ 0 ∷ [])) [] ++ rest
drain-step s pair drains rest true same = λ j. (1 ∷ (flat_map-map numbers_of_wait
    (λ (other : HeldEntry). waits_as_drain pair.1 other.1) (all_held s.work.content) j ++ 0 ∷ [])) ++ same j
drain-step s pair drains rest false same = same

-- a row for each Drain among these
pub drains-numbers : (s : State) (pairs : List HeldEntry)
    → flat_map numbers_of_row (waits_of (drains_among pairs) s.work.content) ≡ flat_map (drain_numbers s) pairs
drains-numbers s [] = refl
drains-numbers s (pair ∷ pairs) = drain-step s pair (drains_among pairs) (flat_map (drain_numbers s) pairs)
    (is_drain pair.1.desc) (drains-numbers s pairs)

-- what is written of an entry that is no Drain
pub drain-none : (s : State) (pair : HeldEntry) → is_drain pair.1.desc ≡ false → drain_numbers s pair ≡ []
drain-none s pair is = ap (λ b. cond b
    (1 ∷ (flat_map (mark_numbers s (WaitedForBy pair.1)) (all_held s.work.content) ++ 0 ∷ [])) []) is

-- and of a Drain
pub drain-some : (s : State) (pair : HeldEntry) → is_drain pair.1.desc ≡ true
    → drain_numbers s pair ≡ 1 ∷ (flat_map (mark_numbers s (WaitedForBy pair.1)) (all_held s.work.content) ++ 0 ∷ [])
drain-some s pair is = ap (λ b. cond b
    (1 ∷ (flat_map (mark_numbers s (WaitedForBy pair.1)) (all_held s.work.content) ++ 0 ∷ [])) []) is

-- which entries are awaited
pub awaited-numbers : (s : State) (pairs : List HeldEntry)
    → flat_map (mark_numbers s Awaited) pairs
    ≡ flat_map numbers_of_wait (map (λ (pair : HeldEntry). is_awaited_by s.active pair.1) pairs)
awaited-numbers s pairs = sym (flat_map-map numbers_of_wait (λ (pair : HeldEntry). is_awaited_by s.active pair.1) pairs)
