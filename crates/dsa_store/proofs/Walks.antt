-- A walk along a list, by its front and what follows each cell.
use Rattle.std.proofs.Common.{◌≡◌, ℕ, zero, suc, ◌<◌, ◌≤◌, List, [], ◌∷◌, drop, length, get_or, Option, Some}
use Rattle.std.proofs.Common.{None, inl, inr, refl, sym, ap, ◌∙◌, arith, drop-cons}
use Rattle.std.proofs.lemmas.{Iterator.{YieldsList, Consumers.{YieldsList-from_first}}, List.{append-nil}}
use Rattle.std.specs.Iterator.{YieldsFirst}
use Rattle.dsa_store.specs.declared.entry.{Cell.{Cell}, Entry.{Entry}}
use Rattle.dsa_store.specs.Content.{HeldEntry, Content, chain, place_count, use_count, first_cell, entry_of}
use Rattle.dsa_store.specs.Content.{next_of, StandsAt}
use Rattle.dsa_store.specs.Walk.{from_cell, entries_from}
use Rattle.dsa_store.proofs.{Places.{count-cons, looked-at}, Lists.{uses-cons}}
use Rattle.dsa_store.proofs.Finding.{absent-before, absent-after, tail-stands, is_cell-pair, placed, entry_of-at}
use Rattle.dsa_store.proofs.Finding.{entry_of-none, next_of-at}

-- a list without the cell has nothing from it on
from_cell-absent : (cell : Cell) (l : List HeldEntry) → place_count cell l ≡ 0 → from_cell cell l ≡ []
from_cell-absent cell [] h = refl
from_cell-absent cell (s ∷ l) h = grind (arith, count-cons cell s l, from_cell-absent cell l)

-- from a cell that no list names on there is nothing
entries_from-none : (content : Content) (cell : Cell) → use_count content cell ≡ 0 → entries_from content (Some cell) ≡ []
entries_from-none [] cell h = refl
entries_from-none (l ∷ ls) cell h =
    grind (arith, uses-cons l ls cell, from_cell-absent cell l, entries_from-none ls cell)

-- from the cell at place k of list i on there is what stands from there
pub entries_from-at : (content : Content) (i k : ℕ) (cell : Cell) (e : Entry) → use_count content cell ≤ 1
    → StandsAt content i k cell e → entries_from content (Some cell) ≡ drop k (chain content i)
entries_from-at [] i k cell e o h = absurd (omega (arith, h.within))
entries_from-at (l ∷ ls) zero k cell e o h =
    let a = absent-after o h in
    let s : HeldEntry = (cell, e) in
    let here = looked-at (λ s l. s ∷ l) (from_cell cell) cell (λ s l. refl) l k s h.within
    (is_cell-pair cell e _ h.pair) (omega arith) in
    rw (here ∙ sym (drop-cons l k s h.within), entries_from-none ls cell a.1) (append-nil (drop k l))
entries_from-at (l ∷ ls) (suc i) k cell e o h =
    let a = absent-before o h in rw (from_cell-absent cell l a.0) (entries_from-at ls i k cell e a.1 (tail-stands h))

-- what is left of a list has its first cell at that place
drop-front : (l : List HeldEntry) (k : ℕ) (s : HeldEntry) (m : List HeldEntry) → drop k l ≡ s ∷ m
    → (k < length l) × (get_or l k s ≡ s)
drop-front [] zero s m h = absurd cc
drop-front [] (suc k) s m h = absurd cc
drop-front (x ∷ l) zero s m h = (omega arith, cc)
drop-front (x ∷ l) (suc k) s m h =
    let r = drop-front l k s m h in
    (omega (arith, r.0), r.1)

-- what is left of a list is what stands from its first cell on
pub entries_from-rest : (content : Content) (i k : ℕ) → ((c : Cell) → use_count content c ≤ 1)
    → entries_from content (first_cell (drop k (chain content i))) ≡ drop k (chain content i)
entries_from-rest content i k once = go (drop k (chain content i)) refl
  where
    go : (l : List HeldEntry) → drop k (chain content i) ≡ l → entries_from content (first_cell l) ≡ l
    go [] h = refl
    go (s ∷ m) h =
        let p = drop-front (chain content i) k s m h in
        entries_from-at content i k s.0 s.1 (once s.0) (record { within = p.0; pair = p.1 }) ∙ h

-- and so is the whole list, from its front on
pub entries_from-front : (content : Content) (i : ℕ) (at : Option Cell) → ((c : Cell) → use_count content c ≤ 1)
    → at ≡ first_cell (chain content i) → entries_from content at ≡ chain content i
entries_from-front content i at once h = ap (entries_from content) h ∙ entries_from-rest content i 0 once

-- where a cell has no entry the walk has ended
pub entries_from-end : (content : Content) (cell : Cell) → ((c : Cell) → use_count content c ≤ 1)
    → entry_of content cell ≡ None → entries_from content (Some cell) ≡ []
entries_from-end content cell once h =
    elim (placed content cell) [
      | inl none ↦ entries_from-none content cell none
      | inr s ↦
          let both : ◌≡◌ {A = Option Entry} None (Some s.entry) =
          sym h ∙ entry_of-at content s.list s.place cell s.entry (once cell) s.at in
          absurd (cc)
    ]

-- where a cell has an entry the walk goes on behind it
pub entries_from-turn : (content : Content) (cell : Cell) (e : Entry) → ((c : Cell) → use_count content c ≤ 1)
    → entry_of content cell ≡ Some e
    → entries_from content (Some cell) ≡ (cell, e) ∷ entries_from content (next_of content cell)
entries_from-turn content cell e once h =
    elim (placed content cell) [
      | inl none ↦
          let both : ◌≡◌ {A = Option Entry} None (Some e) = sym (entry_of-none content cell none) ∙ h in
          absurd (cc)
      | inr s ↦
          let both : ◌≡◌ {A = Option Entry} (Some s.entry) (Some e) =
          sym (entry_of-at content s.list s.place cell s.entry (once cell) s.at) ∙ h in
          let same : s.entry ≡ e = cc in
          let pair = (s.at.pair ∙ ap (λ x. let y : HeldEntry = (cell, x) in y) same) in
          let next = next_of-at content s.list s.place cell s.entry (once cell) s.at in
          entries_from-at content s.list s.place cell s.entry (once cell) s.at
          ∙ drop-cons (chain content s.list) s.place (cell, s.entry) s.at.within
          ∙ rw (pair, next, entries_from-rest content s.list (suc s.place) once) refl
    ]

-- a walk that has a list left gives that list
pub walked : {s l : List HeldEntry} → s ≡ l → YieldsList (YieldsFirst (λ rest. rest)) (λ x. x) s l
walked h = YieldsList-from_first (λ x. x) (λ rest. rest) _ h
