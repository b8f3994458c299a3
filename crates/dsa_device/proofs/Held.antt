-- Whether an entry is held, as it is found by its cell, and how many are awaited at most.
use Rattle.std.proofs.Common.{◌≡◌, ℕ, ◌≤◌, ◌==◌, Bool, false, ◌||◌, List, [], ◌∷◌}
use Rattle.std.proofs.Common.{Option, Some, None, refl, ◌∙◌, ap, arith, inl, inr}
use Rattle.std.proofs.lemmas.{Bool.{cases_Bool, cases_eq}, List.{Folds.{list_any-append}, Sums.{count_by-le-length}}}
use Rattle.std.specs.List.{find, list_any}
use Rattle.std.specs.Option.{option_map}
use Rattle.dsa_base.specs.Rows.{passes}
use Rattle.dsa_store.specs.declared.entry.{Entry.{Entry}}
use Rattle.dsa_store.specs.Content.{HeldEntry, Content, is_cell, place_count, use_count, entry_of, all_held}
use Rattle.dsa_store.specs.Content.{held_count, count_where}
use Rattle.dsa_store.proofs.{Places.{count-cons, list_any-absent, list_any-present}, Lists.{uses-cons}}
use Rattle.dsa_store.proofs.Sums.{held-counted}
use Rattle.dsa_book.specs.{declared.answer.Ticket.{Ticket}, State.{is_ticket}}
use Rattle.dsa_book.specs.declared.note.ActiveCommand.{ActiveCommand}
use Rattle.dsa_admin.specs.Admin.{is_waited_for}
use Rattle.dsa_device.specs.Reads.{is_held}

module _ (t : Ticket) where
  abbrev is_named : Entry → Bool
  is_named entry = entry.name == t.name

  -- not in a list without the cell
  absent : (l : List HeldEntry) → place_count t.cell l ≡ 0 → list_any (is_ticket t) l ≡ false
  absent [] h = refl
  absent (s ∷ l) h = grind (arith, count-cons t.cell s l, absent l)

  -- in a list that has the cell once, where its entry has the name
  there : (l : List HeldEntry) → place_count t.cell l ≤ 1
      → list_any (is_ticket t) l ≡ passes (λ (s : HeldEntry). is_named s.1) (find (is_cell t.cell) l)
  there [] one = refl
  there (s ∷ l) one =
      let count = count-cons t.cell s l in
      elim (cases_Bool (is_cell t.cell s)) [
        | inl hit ↦ let rest = absent l (grind (arith, count, hit, one)) in grind (arith, hit, rest)
        | inr miss ↦ let rest = there l (grind (arith, count, miss, one)) in grind (arith, miss, rest)
      ]

  nowhere : (content : Content) → use_count content t.cell ≡ 0 → list_any (is_ticket t) (all_held content) ≡ false
  nowhere [] h = refl
  nowhere (l ∷ ls) h =
      let counts = uses-cons l ls t.cell in
      list_any-append (is_ticket t) l (all_held ls)
      ∙ ap (λ (b : Bool). b || list_any (is_ticket t) (all_held ls)) (absent l (omega (arith, counts, h)))
      ∙ nowhere ls (omega (arith, counts, h))

  name-of : (o : Option HeldEntry) → passes (λ (s : HeldEntry). is_named s.1) o
      ≡ passes is_named (option_map (λ (s : HeldEntry). s.1) o)
  name-of None = refl
  name-of (Some s) = refl

  -- where no cell stands twice, it is the entry in the cell that has to have the name
  pub held-entry : (content : Content) → use_count content t.cell ≤ 1
      → is_held content t ≡ passes is_named (entry_of content t.cell)
  held-entry [] once = refl
  held-entry (l ∷ ls) once =
      let counts = uses-cons l ls t.cell in
      let split = list_any-append (is_ticket t) l (all_held ls) in
      elim (cases_eq (place_count t.cell l) 0) [
        | inl none ↦
            let rest = held-entry ls (omega (arith, counts, once)) in
            rw (list_any-absent t.cell l none) (grind (arith, split, absent l none, rest))
        | inr some ↦
            let here = there l (omega (arith, counts, once)) in
            let rest = nowhere ls (omega (arith, counts, once, some)) in
            let name = name-of (find (is_cell t.cell) l) in
            rw (list_any-present t.cell l (omega (arith, some))) (grind (arith, split, here, rest, name))
      ]

-- no more entries are awaited than there are cells
pub awaited-few : (o : Option ActiveCommand) (content : Content) (n cells : ℕ)
    → Some n ≡ option_map (λ (active : ActiveCommand). count_where (is_waited_for active) content) o
    → held_count content ≤ cells → n ≤ cells
awaited-few None content n cells is room = absurd cc
awaited-few (Some active) content n cells is room =
    let same : n ≡ count_where (is_waited_for active) content = cc in
    omega (
      arith,
      same,
      count_by-le-length (λ (s : HeldEntry). is_waited_for active s.1) (all_held content),
      held-counted content,
      room,
    )
