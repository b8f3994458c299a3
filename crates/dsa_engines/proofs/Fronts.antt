-- A front that gets another entry, and goes to the end of another list.
use Rattle.std.proofs.Common.{◌≡◌, ℕ, ◌<◌, ◌≤◌, ◌≢◌, List, [], ◌∷◌, drop, length, set, slice_get, Some, refl, sym, ap}
use Rattle.std.proofs.lemmas.List.{get_or-set_same, get_or-set_other, set-set}
use Rattle.dsa_store.specs.declared.entry.{Cell.{Cell}, Entry.{Entry}}
use Rattle.dsa_store.specs.Content.{HeldEntry, Content, chain, use_count, after_move, after_push, after_set, without_front}
use Rattle.dsa_store.proofs.Turns.{seam}

front-cut : (l : List HeldEntry) (s : HeldEntry) → slice_get l 0 ≡ Some s → l ≡ s ∷ drop 1 l
front-cut [] s h = cc
front-cut (x ∷ l) s h = let same : x ≡ s = cc in ap (λ y. y ∷ l) same

pub moved-replaced : (content : Content) (from to : ℕ) (cell : Cell) (e new : Entry)
    → ((c : Cell) → use_count content c ≤ 1) → from < length content → from ≢ to
    → slice_get (chain content from) 0 ≡ Some (cell, e)
    → after_move (after_set content cell new) from to ≡ after_push (without_front content from) to cell new
moved-replaced content from to cell e new once hf ne front =
    let rest = drop 1 (chain content from) in
    let l : List HeldEntry = (cell, new) ∷ rest in
    let mine : chain content from ≡ (cell, e) ∷ rest = front-cut (chain content from) (cell, e) front in
    let here : after_set content cell new ≡ set content from l =
    (seam content from [] rest cell e (once cell) mine).replaced new in
    rw (
      here,
      get_or-set_same content from l [] hf,
      set-set content from l rest,
      get_or-set_other content from to l [] (λ is. ne (sym is)),
      get_or-set_other content from to rest [] (λ is. ne (sym is)),
    ) refl
