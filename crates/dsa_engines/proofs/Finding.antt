-- The running entry of an engine that has a ticket's cell and name, as it is found by the cell.
use Rattle.std.proofs.Common.{◌≡◌, ℕ, zero, suc, ◌+◌, ◌<◌, ◌≤◌, ◌≢◌, Bool, true, false, ◌&&◌, ◌||◌, ◌==◌}
use Rattle.std.proofs.Common.{nat_lt, List, [], ◌∷◌, ◌++◌, length, get_or, Option, Some, None, refl, sym, ◌∙◌, ap, ◌⊎◌}
use Rattle.std.proofs.Common.{inl, inr, arith, length-append}
use Rattle.std.proofs.lemmas.{Bool.{lt-ltb, cases_eq, cases_lt, and_parts}}
use Rattle.std.proofs.lemmas.List.{get_or_append_left, get_or-append-add}
use Rattle.std.specs.List.{find, filter}
use Rattle.dsa_base.{specs.Rows.{when}, proofs.Tables.{when-some}}
use Rattle.dsa_store.specs.declared.entry.{Cell.{Cell}, Entry.{Entry}}
use Rattle.dsa_store.specs.Content.{HeldEntry, Content, is_cell, chain, place_count, use_count, list_of_cell, entry_of}
use Rattle.dsa_store.specs.Content.{StandsAt}
use Rattle.dsa_store.proofs.Places.{count-nil, count-cons, count-append, count-at, is_cell-itself}
use Rattle.dsa_store.proofs.Lists.{uses-cons, count-le-uses}
use Rattle.dsa_store.proofs.Finding.{Stands, placed, count-stands, list_of-at, entry_of-at, list_of-none}
use Rattle.dsa_book.specs.{declared.answer.Ticket.{Ticket}, State.{Setup, is_ticket}}
use Rattle.dsa_book.specs.Work.{progress_list, member_list, running_on}
use Rattle.dsa_engines.{specs.Engines.{lists_alone, is_running}, proofs.Used.{IsMine}}

-- two lists together name a cell no more often than all do
count-apart : (content : Content) (i j : ℕ) (cell : Cell) → i ≢ j
    → place_count cell (chain content i) + place_count cell (chain content j) ≤ use_count content cell
count-apart [] i j cell ne = omega (arith, count-nil cell)
count-apart (l ∷ ls) zero zero cell ne = absurd (ne refl)
count-apart (l ∷ ls) zero (suc j) cell ne = omega (arith, uses-cons l ls cell, count-le-uses ls j cell)
count-apart (l ∷ ls) (suc i) zero cell ne = omega (arith, uses-cons l ls cell, count-le-uses ls i cell)
count-apart (l ∷ ls) (suc i) (suc j) cell ne =
    omega (arith, uses-cons l ls cell, count-apart ls i j cell (λ e. ne (ap suc e)))

-- ---- one list

module _ (t : Ticket) where
  -- in a list without the cell nothing is found
  find-absent : (l : List HeldEntry) → place_count t.cell l ≡ 0 → find (is_ticket t) (filter is_running l) ≡ None
  find-absent [] h = refl
  find-absent (s ∷ l) h = grind (arith, count-cons t.cell s l, find-absent l)

  -- in a list with the cell its entry is, if it is meant
  find-there : (l : List HeldEntry) (k : ℕ) (e : Entry) → k < length l → get_or l k (t.cell, e) ≡ (t.cell, e)
      → place_count t.cell l ≤ 1
      → find (is_ticket t) (filter is_running l) ≡ when (e.running && e.name == t.name) (t.cell, e)
  find-there [] k e h is one = absurd (omega (arith, h))
  find-there (s ∷ l) zero e h is one =
      let same : is_cell t.cell s ≡ true = rw is (is_cell-itself t.cell e) in
      let rest : find (is_ticket t) (filter is_running l) ≡ None =
      find-absent l (grind (arith, count-cons t.cell s l, same)) in
      rw is (grind (arith, rest))
  find-there (s ∷ l) (suc k) e h is one =
      let low : 1 ≤ place_count t.cell l =
      count-at t.cell l k (t.cell, e) (omega (arith, h)) (rw is (is_cell-itself t.cell e)) in
      let rest = find-there l k e (omega (arith, h)) is (omega (arith, count-cons t.cell s l, one)) in
      grind (arith, count-cons t.cell s l, low, rest)

-- ---- the two lists of an engine

-- the test of the code
pub either : (a x y : ℕ) → (a == x || a == y) ≡ true → (a ≡ x) ⊎ (a ≡ y)
either a x y h =
    elim (cases_eq a x) [
      | inl p ↦ inl p
      | inr np ↦ elim (cases_eq a y) [ inl q ↦ inr q | inr nq ↦ absurd (grind (arith, h, np, nq)) ]
    ]

-- and where it fails
neither : (a x y : ℕ) → (a == x || a == y) ≡ false → (a ≢ x) × (a ≢ y)
neither a x y h = (λ p. absurd (grind (arith, h, p)), λ q. absurd (grind (arith, h, q)))

-- what is meant, by the list and the entry of the ticket's cell
abbrev pub meant_in : Setup → ℕ → Ticket → Option ℕ → Option Entry → Option HeldEntry
meant_in setup e t (Some i) (Some entry) =
    when ((i == progress_list setup e || i == member_list setup e) && (entry.running && entry.name == t.name))
    (t.cell, entry)
meant_in setup e t _ _ = None

-- an engine that the device does not have runs nothing
running-past : (setup : Setup) (content : Content) (e : ℕ) (t : Ticket) → setup.caps.engines ≤ e
    → find (is_ticket t) (running_on (lists_alone setup content) e) ≡ None
running-past setup content e t h = let past : nat_lt e setup.caps.engines ≡ false = grind arith in rw past refl

module _ (setup : Setup) (content : Content) (e : ℕ) (t : Ticket) (once : use_count content t.cell ≤ 1)
    (h : e < setup.caps.engines) where
  -- a cell in neither list is not found
  absent : place_count t.cell (chain content (progress_list setup e)) ≡ 0
      → place_count t.cell (chain content (member_list setup e)) ≡ 0
      → find (is_ticket t) (running_on (lists_alone setup content) e) ≡ None
  absent p m =
      let first : List HeldEntry = chain content (progress_list setup e) in
      let second : List HeldEntry = chain content (member_list setup e) in
      rw (lt-ltb e setup.caps.engines h)
      (find-absent t (first ++ second) (omega (arith, count-append t.cell first second, p, m)))

  -- nor is a cell that stands nowhere
  nowhere : use_count content t.cell ≡ 0 → find (is_ticket t) (running_on (lists_alone setup content) e) ≡ None
  nowhere none = absent (omega (arith, none, count-le-uses content (progress_list setup e) t.cell))
      (omega (arith, none, count-le-uses content (member_list setup e) t.cell))

  module _ {i k : ℕ} {entry : Entry} (at : StandsAt content i k t.cell entry) where
    -- a cell in one of them is found there
    mine : IsMine setup e i → find (is_ticket t) (running_on (lists_alone setup content) e)
        ≡ when (entry.running && entry.name == t.name) (t.cell, entry)
    mine is =
        let first : List HeldEntry = chain content (progress_list setup e) in
        let second : List HeldEntry = chain content (member_list setup e) in
        let lengths = length-append first second in
        let low : place_count t.cell (first ++ second) ≤ 1 =
        omega (
          arith,
          once,
          count-append t.cell first second,
          count-apart content (progress_list setup e) (member_list setup e) t.cell (omega (arith, h)),
        ) in
        rw (lt-ltb e setup.caps.engines h) (elim is [
          | inl p ↦
              let there = rw p at at in
              find-there t (first ++ second) k entry (omega (arith, lengths, there.within))
              (get_or_append_left first second (t.cell, entry) k there.within ∙ there.pair) low
          | inr m ↦
              let there = rw m at at in
              find-there t (first ++ second) (length first + k) entry (omega (arith, lengths, there.within))
              (get_or-append-add first second k (t.cell, entry) ∙ there.pair) low
        ])

    -- a cell that stands there is looked for in its list
    found-at : find (is_ticket t) (running_on (lists_alone setup content) e) ≡ meant_in setup e t (Some i) (Some entry)
    found-at = go (i == progress_list setup e || i == member_list setup e) refl
      where
        elsewhere : (j : ℕ) → j ≢ i → place_count t.cell (chain content j) ≡ 0
        elsewhere j ne = omega (arith, once, count-stands at, count-apart content j i t.cell ne)

        go : (b : Bool) → (i == progress_list setup e || i == member_list setup e) ≡ b
            → find (is_ticket t) (running_on (lists_alone setup content) e)
            ≡ when (b && (entry.running && entry.name == t.name)) (t.cell, entry)
        go true is = mine (either i _ _ is)
        go false is =
            let ne = neither i _ _ is in
            absent (elsewhere _ (λ q. ne.0 (sym q))) (elsewhere _ (λ q. ne.1 (sym q)))

  -- by what the store answers
  pub found : find (is_ticket t) (running_on (lists_alone setup content) e)
      ≡ meant_in setup e t (list_of_cell content t.cell) (entry_of content t.cell)
  found = elim (placed content t.cell) [
    | inl none ↦ rw (list_of-none content t.cell none) (nowhere none)
    | inr s ↦ rw (
      list_of-at content s.list s.place t.cell s.entry once s.at,
      entry_of-at content s.list s.place t.cell s.entry once s.at,
    ) (found-at s.at)
  ]

-- ---- what is known of an entry that is found

-- the entry stands in one of the engine's lists, and runs
pub record RunsAt (setup : Setup) (content : Content) (e : ℕ) (cell : Cell) (entry : Entry) : Type 0 where
  pub engine : e < setup.caps.engines
  pub list : ℕ
  pub mine : IsMine setup e list
  pub place : ℕ
  pub stands : StandsAt content list place cell entry
  pub running : entry.running ≡ true

-- what is found stands in one of them, and runs
pub running-place : (setup : Setup) (content : Content) (e : ℕ) (t : Ticket) (entry : Entry)
    → use_count content t.cell ≤ 1 → find (is_ticket t) (running_on (lists_alone setup content) e)
    ≡ Some (t.cell, entry) → RunsAt setup content e t.cell entry
running-place setup content e t entry once is = on (cases_lt e setup.caps.engines) (placed content t.cell)
  where
    none : find (is_ticket t) (running_on (lists_alone setup content) e) ≡ None → ⊥
    none n = let both : ◌≡◌ {A = Option HeldEntry} None (Some (t.cell, entry)) = sym n ∙ is in cc

    on : (e < setup.caps.engines) ⊎ (setup.caps.engines ≤ e) → (use_count content t.cell ≡ 0) ⊎ Stands content t.cell
        → RunsAt setup content e t.cell entry
    on (inr past) s = absurd (none (running-past setup content e t past))
    on (inl h) (inl z) = absurd (none (nowhere setup content e t once h z))
    on (inl h) (inr s) =
        let meant = when-some _ (t.cell, s.entry) (t.cell, entry) (sym (found-at setup content e t once h s.at) ∙ is) in
        let parts = and_parts (s.list == progress_list setup e || s.list == member_list setup e) _ meant.0 in
        let same : s.entry ≡ entry = ap (λ (x : HeldEntry). x.1) meant.1 in
        record {
          engine = h;
          list = s.list;
          mine = either s.list _ _ parts.0;
          place = s.place;
          stands = rw same at s.at;
          running =
              sym (ap (λ (x : Entry). x.running) same) ∙ (and_parts s.entry.running _ parts.1).0;
        }
