-- Where cells and names are used once, names tell what cells tell.
use Rattle.std.proofs.Common.{◌≡◌, ◌⊎◌, inl, inr, ℕ, ◌≤◌, Bool, true, false, not, cond, ◌&&◌, List, [], ◌∷◌, ◌++◌, map, Some}
use Rattle.std.proofs.Common.{refl, sym, ap, ◌+◌, arith}
use Rattle.std.proofs.lemmas.{Bool.{eq-eqb, eqb-true, and_parts}, List.Sums.{sum_by-cons}}
use Rattle.std.specs.{Prelude.{filter, find, count_by, nat_lt, slice_get, ◌==◌}}
use Rattle.dsa_base.proofs.{Counts.{In-same, In-counted}, Lists.{In-find, In-filter, In-append, In-left, In-right}}
use Rattle.dsa_base.specs.{Lists.{In}, Rows.{passes}}
use Rattle.dsa_store.specs.declared.entry.{Cell.{Cell}}
use Rattle.dsa_store.specs.Content.{HeldEntry, Content, chain, all_held, is_cell, use_count, after_unlink, only_where}
use Rattle.dsa_store.proofs.Sums.{uses-counted}
use Rattle.dsa_book.specs.declared.answer.Ticket.{Ticket}
use Rattle.dsa_book.specs.State.{Work, State, is_ticket}
use Rattle.dsa_book.specs.Work.{in_progress, members, running_on, progress_list, member_list, first_waiting, is_front}
use Rattle.dsa_laws.proofs.{Contents.{In-chain, sum-list-le}, Flows.{names-counted}}
use Rattle.dsa_laws.specs.WellFormed.{CellsOnce, NamesOnce, held_named, fates_named}
use Rattle.dsa_answers.specs.Alike.{IsTicketIn}

-- ---- tests that agree

agree : (b c : Bool) → (b ≡ true → c ≡ true) → (c ≡ true → b ≡ true) → b ≡ c
agree true c f g = sym (f refl)
agree false true f g = g refl
agree false false f g = refl

filter-agree : {X : Type 0} (p q : X → Bool) (l : List X) → ((x : X) → In x l → p x ≡ q x) → filter p l ≡ filter q l
filter-agree p q [] h = refl
filter-agree p q (x ∷ l) h = rw (h x (inl refl), filter-agree p q l (λ y i. h y (inr i))) refl

find-agree : {X : Type 0} (p q : X → Bool) (l : List X) → ((x : X) → In x l → p x ≡ q x) → find p l ≡ find q l
find-agree p q [] h = refl
find-agree p q (x ∷ l) h = rw (h x (inl refl), find-agree p q l (λ y i. h y (inr i))) refl

lists-agree : (p q : HeldEntry → Bool) (c : Content) → ((x : HeldEntry) → In x (all_held c) → p x ≡ q x)
    → map (filter p) c ≡ map (filter q) c
lists-agree p q [] h = refl
lists-agree p q (l ∷ ls) h = rw (
  filter-agree p q l (λ x i. h x (In-left x l (all_held ls) i)),
  lists-agree p q ls (λ x i. h x (In-right x l (all_held ls) i)),
) refl

-- ---- the first that waits is the front

first-front : (l : List HeldEntry) (pair : HeldEntry) → count_by (is_cell pair.0) l ≤ 1
    → find (λ x. not x.1.running) l ≡ Some pair
    → passes (is_cell pair.0) (slice_get l 0) ≡ passes (λ x. not x.1.running) (slice_get l 0)
first-front [] pair once is = refl
first-front (x ∷ l) pair once is = go x.1.running is
  where
    go : (b : Bool) → cond (not b) (Some x) (find (λ y. not y.1.running) l) ≡ Some pair → is_cell pair.0 x ≡ not b
    go false h = let same : x ≡ pair = cc in eq-eqb x.0.0 pair.0.0 (ap (λ (y : HeldEntry). y.0.0) same)
    go true h =
        let here = (In-find (λ y. not y.1.running) pair l h).0 in
        two (is_cell pair.0 x) (In-counted (is_cell pair.0) pair l here (eq-eqb pair.0.0 pair.0.0 refl))
        (sum_by-cons (λ s. cond (is_cell pair.0 s) 1 0) x l)
      where
        two : (b : Bool) → 1 ≤ count_by (is_cell pair.0) l
            → count_by (is_cell pair.0) (x ∷ l) ≡ cond b 1 0 + count_by (is_cell pair.0) l → b ≡ false
        two true one sum = absurd (omega (arith, once, sum, one))
        two false one sum = refl

-- ---- an engine's entries are held

In-own : (x : HeldEntry) (b : Bool) (c : Content) (k : ℕ) → In x (cond b (chain c k) []) → In x (all_held c)
In-own x true c k i = In-chain x c k i
In-own x false c k i = absurd i

pub In-members : (w : Work) (e : ℕ) (x : HeldEntry) → In x (members w e) → In x (all_held w.content)
In-members w e x i = In-own x (nat_lt e w.setup.caps.engines) w.content (member_list w.setup e) i

pub In-running : (w : Work) (e : ℕ) (x : HeldEntry) → In x (running_on w e) → In x (all_held w.content)
In-running w e x i = both (In-append x (in_progress w e) (members w e)
    (In-filter (λ pair. pair.1.running) x (in_progress w e ++ members w e) i).0)
  where
    both : In x (in_progress w e) ⊎ In x (members w e) → In x (all_held w.content)
    both (inl j) = In-own x (nat_lt e w.setup.caps.engines) w.content (progress_list w.setup e) j
    both (inr j) = In-members w e x j

-- ---- in a state that is well formed

count-own : (b : Bool) (c : Content) (k : ℕ) (cell : Cell) → use_count c cell ≤ 1
    → count_by (is_cell cell) (cond b (chain c k) []) ≤ 1
count-own true c k cell once = omega (arith, uses-counted c cell, sum-list-le (λ s. cond (is_cell cell s) 1 0) c k)
count-own false c k cell once = omega arith

pub front-by_order : {caps : _} (w : Work) (e : ℕ) (pair : HeldEntry) → CellsOnce caps w → first_waiting w e ≡ Some pair
    → is_front w e pair ≡ passes (λ x. not x.1.running) (slice_get (members w e) 0)
front-by_order w e pair cells is = first-front (members w e) pair
    (count-own (nat_lt e w.setup.caps.engines) w.content (member_list w.setup e) pair.0 (cells.once pair.0)) is

-- of two that are held, one cell is one name
same-named : {caps : _} (w : Work) (x y : HeldEntry) → CellsOnce caps w → NamesOnce w → In x (all_held w.content)
    → In y (all_held w.content) → is_cell x.0 y ≡ (y.1.name == x.1.name)
same-named w x y cells names i j = agree (is_cell x.0 y) (y.1.name == x.1.name)
    (λ t. eq-eqb y.1.name x.1.name (ap (λ (s : HeldEntry). s.1.name)
    (In-same (is_cell x.0) y x (all_held w.content) (omega (arith, cells.once x.0, uses-counted w.content x.0)) j i t
    (eq-eqb x.0.0 x.0.0 refl))))
    (λ t. eq-eqb y.0.0 x.0.0 (ap (λ (s : HeldEntry). s.0.0)
    (In-same (λ s. s.1.name == x.1.name) y x (all_held w.content) most j i t (eq-eqb x.1.name x.1.name refl))))
  where
    most : count_by (λ s. s.1.name == x.1.name) (all_held w.content) ≤ 1
    most = one (held_named w x.1.name) (fates_named w x.1.name) (nat_lt x.1.name w.setup.next_name)
        (names-counted w names x.1.name)
      where
        one : (n m : ℕ) (b : Bool) → n + m ≡ cond b 1 0 → n ≤ 1
        one n m true h = omega arith
        one n m false h = omega arith

pub unlinked-by_name : {caps : _} (w : Work) (x : HeldEntry) → CellsOnce caps w → NamesOnce w
    → In x (all_held w.content)
    → after_unlink w.content x.0 ≡ only_where (λ entry. not (entry.name == x.1.name)) w.content
unlinked-by_name w x cells names i =
    lists-agree (λ s. not (is_cell x.0 s)) (λ s. not (s.1.name == x.1.name)) w.content
    (λ y j. ap not (same-named w x y cells names i j))

-- ---- tickets

pub found-by_name : (s : State) (ticket : Ticket) (e : ℕ) → IsTicketIn s ticket
    → find (is_ticket ticket) (running_on s.work e) ≡ find (λ pair. pair.1.name == ticket.name) (running_on s.work e)
found-by_name s ticket e is = find-agree (is_ticket ticket) (λ pair. pair.1.name == ticket.name) (running_on s.work e)
    (λ x i. agree (is_ticket ticket x) (x.1.name == ticket.name)
    (λ t. (and_parts (is_cell ticket.cell x) (x.1.name == ticket.name) t).1)
    (λ t. both (is_cell ticket.cell x) (x.1.name == ticket.name)
    (eq-eqb x.0.0 ticket.cell.0 (ap (λ (c : Cell). c.0)
    (is x (In-running s.work e x i) (eqb-true x.1.name ticket.name t)))) t))
  where
    both : (a b : Bool) → a ≡ true → b ≡ true → (a && b) ≡ true
    both true b p q = q
    both false b p q = absurd cc
