-- What every change does to the entries, and what follows for cells, names and their number.
use Rattle.std.{specs.Prelude.{sum_by, slice_get, filter, nat_lt, count_by}, proofs.lemmas.Bool.Decides.{nat_tests}}
use Rattle.std.proofs.lemmas.List.{length-map, append-nil, Sums.{sum_by-append, sum_by-cons}, length-set}
use Rattle.std.proofs.Common.{cond, length-append, true, ℕ, not, List, sym, ◌++◌, ◌≡◌}
use Rattle.std.proofs.Common.{Some, ◌≤◌, map, length, ◌∷◌, ap, Bool, eq-eqb, drop, ◌∙◌, ◌+◌, [], refl, ◌==◌, arith, ◌<◌}
use Rattle.dsa_base.proofs.{Counts.{count-cons}, NumberSums.{sum-map}}
use Rattle.dsa_regs.specs.{declared.Caps.{Caps}, Caps.{cell_count}}
use Rattle.dsa_store.proofs.Sums.{is_free-unused, sum-set, sum-pushed, held-counted, all_held-filtered}
use Rattle.dsa_store.{proofs.Sums.{uses-counted, sum-split}, specs.Content.{is_free, use_count, without_front}}
use Rattle.dsa_store.specs.{Content.{is_cell, after_push, HeldEntry, Content, all_held, chain}, declared.entry.Cell.{Cell}}
use Rattle.dsa_book.specs.{State.{State, Work}, Commands.{is_in_scope}, Work.{member_list}}
use Rattle.dsa_book.specs.Work.{with_running_entry, with_first_run, progress_list, as_running, members, fate_row}
use Rattle.dsa_book.specs.declared.fate.{FateRow.{FateRow}, Fate.{TheVariants.{Abandoned}, Fate}}
use Rattle.dsa_laws.specs.{Change.{Change}, WellFormed.{HasShape, CellsOnce, NamesOnce, held_named, fates_named}}
use Rattle.dsa_laws.proofs.{Effects.{by_effect}, Contents.{In-chain, sum-without}}
use Rattle.dsa_laws.proofs.Shapes.{on-queue, queue_list-in, noted-engine, waiting-engine, a_taker, running-place}

-- ---- cells and names, as sums

-- each cell stands once, or not at all where it is none of the store's
abbrev pub UsesOnce : Caps → Work → Type 0
UsesOnce caps w = (cell : Cell) → use_count w.content cell ≤ cond (nat_lt cell.0 (cell_count caps)) 1 0

-- each name stands once, or not at all where it was not given
abbrev pub NamesCounted : Work → Type 0
NamesCounted w = (name : ℕ) → held_named w name + fates_named w name ≡ cond (nat_lt name w.setup.next_name) 1 0

pub uses-once : (caps : Caps) (w : Work) → CellsOnce caps w → UsesOnce caps w
uses-once caps w h cell = let a = h.once cell in let b = h.inside cell in grind (arith, nat_tests, a, b)

pub of-uses : (caps : Caps) (w : Work) → UsesOnce caps w → CellsOnce caps w
of-uses caps w h = record {
  once = λ cell. let a = h cell in grind (arith, nat_tests, a);
  inside = λ cell past. let a = h cell in grind (arith, nat_tests, a, past);
}

pub names-counted : (w : Work) → NamesOnce w → NamesCounted w
names-counted w h name = let a = h.given name in let b = h.not_given name in grind (arith, nat_tests, a, b)

-- what every change says of entries: some came, some are gone with a row each, and all others are
-- held as before (they may have begun to run)
pub record IsFlow (caps : Caps) (w w' : Work) : Type 0 where
  pub came : List HeldEntry
  pub gone : List HeldEntry
  pub sums : (f : HeldEntry → ℕ) → ((pair : HeldEntry) → f (with_running_entry pair) ≡ f pair)
      → sum_by f (all_held w'.content) + sum_by f gone ≡ sum_by f (all_held w.content) + sum_by f came
  pub fate : Fate
  pub fates : w'.fates ≡ w.fates ++ map (fate_row fate) gone
  pub next : w'.setup.next_name ≡ w.setup.next_name + length came
  pub names : (name : ℕ) → count_by (λ pair. pair.1.name == name) came + cond (nat_lt name w.setup.next_name) 1 0
      ≡ cond (nat_lt name w'.setup.next_name) 1 0
  pub cells : (cell : Cell) → use_count w.content cell
      + count_by (is_cell cell) came ≤ cond (nat_lt cell.0 (cell_count caps)) 1 0

abbrev next_of : Work → ℕ
next_of w = w.setup.next_name

-- ---- words

pub length-rows : (fates : List FateRow) (fate : Fate) (xs : List HeldEntry)
    → length (fates ++ map (fate_row fate) xs) ≡ length fates + length xs
length-rows fates fate xs = length-append fates (map (fate_row fate) xs)
    ∙ ap (λ n. length fates + n) (length-map xs (fate_row fate))

-- a count of rows, by the entries that the new ones are of
pub rows-counted : (g : FateRow → Bool) (fates : List FateRow) (fate : Fate) (xs : List HeldEntry)
    → count_by g (fates ++ map (fate_row fate) xs) ≡ count_by g fates + count_by (λ pair. g (fate_row fate pair)) xs
rows-counted g fates fate xs =
    omega (
      arith,
      sum_by-append (λ row. cond (g row) 1 0) fates (map (fate_row fate) xs),
      sum-map
          (λ row. cond (g row) 1 0) (fate_row fate) xs,
    )

pub sum-first_run : (f : HeldEntry → ℕ) → ((pair : HeldEntry) → f (with_running_entry pair) ≡ f pair) → (xs : List HeldEntry)
    → sum_by f (with_first_run xs) ≡ sum_by f xs
sum-first_run f alike [] = refl
sum-first_run f alike (x ∷ xs) = grind (arith, sum-first_run f alike xs, alike x, sum_by-cons f)

uses-with_free : (cells : ℕ) (content : Content) (x : HeldEntry) → is_free cells content x.0 ≡ true
    → ((cell : Cell) → use_count content cell ≤ cond (nat_lt cell.0 cells) 1 0) → (cell : Cell)
    → use_count content cell + count_by (is_cell cell) (x ∷ []) ≤ cond (nat_lt cell.0 cells) 1 0
uses-with_free cells content x free once cell =
    let fresh = is_free-unused cells content x.0 free in
    let old = once cell in
    let one = count-cons (is_cell cell) x [] _ refl in
    let same = λ (e : x.0.0 ≡ cell.0). ap (λ (n : ℕ). let at : Cell = record { 0 = n } in use_count content at) e in
    grind (arith, nat_tests)

-- ---- flows

-- nothing comes, and some go, each with a row
left : (caps : Caps) (w w' : Work) (fate : Fate) (gone : List HeldEntry) → UsesOnce caps w
    → ((f : HeldEntry → ℕ) → ((pair : HeldEntry) → f (with_running_entry pair) ≡ f pair)
    → sum_by f (all_held w'.content) + sum_by f gone ≡ sum_by f (all_held w.content))
    → w'.fates ≡ w.fates ++ map (fate_row fate) gone → next_of w' ≡ next_of w → IsFlow caps w w'
left caps w w' fate gone once sums fates next = record {
  came = [];
  gone = gone;
  sums = λ f alike. omega (arith, sums f alike);
  fate = fate;
  fates = fates;
  next = omega arith;
  names = λ n. rw next (omega arith);
  cells = λ n. omega (arith, once n);
}

-- nothing comes and nothing goes
still : (caps : Caps) (w w' : Work) → UsesOnce caps w
    → ((f : HeldEntry → ℕ) → ((pair : HeldEntry) → f (with_running_entry pair) ≡ f pair)
    → sum_by f (all_held w'.content) ≡ sum_by f (all_held w.content))
    → w'.fates ≡ w.fates → next_of w' ≡ next_of w → IsFlow caps w w'
still caps w w' once sums fates = left caps w w' Abandoned [] once (λ f alike. omega (arith, sums f alike))
    (fates ∙ sym (append-nil w.fates))

-- one comes, with the next name and a free cell
entered : (caps : Caps) (w w' : Work) (x : HeldEntry) → HasShape caps w → UsesOnce caps w
    → ((f : HeldEntry → ℕ) → sum_by f (all_held w'.content) ≡ sum_by f (all_held w.content) + f x)
    → w'.fates ≡ w.fates → next_of w' ≡ next_of w + 1 → x.1.name ≡ next_of w
    → is_free (cell_count w.setup.caps) w.content x.0 ≡ true → IsFlow caps w w'
entered caps w w' x shape once sums fates next name free = record {
  came = x ∷ [];
  gone = [];
  sums = λ f alike. omega (arith, sums f, sum_by-cons f x []);
  fate = Abandoned;
  fates = fates ∙ sym (append-nil w.fates);
  next = omega arith;
  names = λ n. rw next (let c = count-cons (λ pair. pair.1.name == n) x [] _ refl in grind (arith, nat_tests));
  cells = uses-with_free (cell_count caps) w.content x (rw shape.same_caps at free) once;
}

sum-front : (f : HeldEntry → ℕ) (l : List HeldEntry) (front : HeldEntry) → slice_get l 0 ≡ Some front
    → sum_by f l ≡ f front + sum_by f (drop 1 l)
sum-front f [] front h = absurd cc
sum-front f (x ∷ rest) front h = let is : x ≡ front = cc in omega (arith, sum_by-cons f x rest, ap f is)

-- the sum where a front moves and runs
pub sum-taken : (f : HeldEntry → ℕ) → ((pair : HeldEntry) → f (with_running_entry pair) ≡ f pair)
    → (content : Content) (q to : ℕ) (front : HeldEntry) → q < length content → to < length content
    → slice_get (chain content q) 0 ≡ Some front
    → sum_by f (all_held (after_push (without_front content q) to front.0 (as_running front.1)))
    ≡ sum_by f (all_held content)
sum-taken f alike content q to front qin toin h =
    let rest = drop 1 (chain content q) in
    let more = sum-pushed f (without_front content q) to front.0 (as_running front.1)
    (omega (arith, length-set content q rest)) in
    omega (arith, sum-set f content q rest qin, sum-front f (chain content q) front h, alike front)

pub flow-change : (caps : Caps) (s s' : State) → HasShape caps s.work → CellsOnce caps s.work → Change s s'
    → IsFlow caps s.work s'.work
flow-change caps s s' h once c =
    let use_count = uses-once caps s.work once in
    by_effect (IsFlow caps s.work) s s' c
    (λ e. still caps s.work s'.work use_count (λ f alike. ap (λ c. sum_by f (all_held c)) e.content)
    e.fates e.names)
    (λ c. entered caps s.work _ _ h use_count (λ f.
    sum-pushed f s.work.content c.queue _ _ (queue_list-in h c.queue (on-queue h c.queue c.on))) refl refl refl c.free)
    (λ c.
    let k = a_taker h c.engine c.queue c.front c.qualifies c.is_front in
    still caps s.work _ use_count (λ f alike.
    sum-taken f alike s.work.content c.queue (progress_list s.work.setup c.engine) c.front
    (queue_list-in h c.queue k.queue) k.engine.progress_inside c.is_front) refl refl)
    (λ c. entered caps s.work _ _ h use_count (λ f.
    sum-pushed f s.work.content (member_list s.work.setup c.engine) _ _
    (noted-engine h c.engine c.note c.is_note).members_inside) refl refl refl c.free)
    (λ c.
    let k = waiting-engine h c.engine c.pair c.is_first in
    still caps s.work _ use_count (λ f alike.
    omega (
      arith,
      sum-set f s.work.content (member_list s.work.setup c.engine)
          (with_first_run (members s.work c.engine)) k.members_inside,
      sum-first_run f alike (members s.work c.engine),
      ap (sum_by f) k.members,
    )) refl refl)
    (λ c.
    let k = waiting-engine h c.engine c.pair c.is_first in
    left caps s.work _ Abandoned (members s.work c.engine) use_count (λ f alike.
    omega (
      arith,
      sum-set f s.work.content (member_list s.work.setup c.engine) [] k.members_inside,
      ap (sum_by f) k.members,
    )) refl refl)
    (λ c.
    let place = running-place s.work c.engine c.ticket c.pair c.is_found in
    let one : count_by (is_cell c.pair.0) (all_held s.work.content) ≤ 1 =
    omega (arith, once.once c.pair.0, uses-counted s.work.content c.pair.0) in
    left caps s.work _ _ (c.pair ∷ []) use_count (λ f alike.
    omega (
      arith,
      sum-without f (is_cell c.pair.0) c.pair (all_held s.work.content) one
          (In-chain c.pair s.work.content place.list place.at) (eq-eqb c.pair.0.0 c.pair.0.0 refl),
      ap (sum_by f) (all_held-filtered (λ pair. not (is_cell c.pair.0 pair)) s.work.content),
      sum_by-cons f c.pair [],
    ))
    refl refl)
    (λ c.
    let test : HeldEntry → Bool = λ pair. is_in_scope c.scope pair.1 in
    left caps s.work _ _ (filter test (all_held s.work.content)) use_count (λ f alike.
    omega (
      arith,
      ap (sum_by f) (all_held-filtered (λ pair. not (test pair)) s.work.content),
      sum-split f test (all_held s.work.content),
    )) refl c.names)

-- ---- what follows

pub cells-flow : (caps : Caps) (w w' : Work) → IsFlow caps w w' → CellsOnce caps w'
cells-flow caps w w' flow = of-uses caps w' (λ cell.
    omega (
      arith,
      flow.sums (λ s. cond (is_cell cell s) 1 0) (λ s. refl),
      flow.cells cell,
      uses-counted w.content cell,
      uses-counted w'.content cell,
    ))

length-sum : (xs : List HeldEntry) → sum_by (λ pair. 1) xs ≡ length xs
length-sum [] = refl
length-sum (x ∷ xs) = omega (arith, length-sum xs, sum_by-cons (λ pair. 1) x xs)

pub names-flow : (caps : Caps) (w w' : Work) → NamesOnce w → IsFlow caps w w' → NamesOnce w'
names-flow caps w w' names flow = record {
  given = λ name below. let all = counted name in grind (arith, nat_tests);
  not_given = λ name past. let all = counted name in grind (arith, nat_tests);
  counted =
      omega (
        arith,
        flow.sums (λ pair. 1) (λ pair. refl),
        length-sum (all_held w.content),
        length-sum
            (all_held w'.content),
        held-counted w.content,
        held-counted w'.content,
        length-sum flow.came,
        length-sum flow.gone,
        ap length flow.fates ∙ length-rows w.fates flow.fate flow.gone,
      );
}
  where
    counted : NamesCounted w'
    counted name =
        omega (
          arith,
          flow.sums (λ pair. cond (pair.1.name == name) 1 0) (λ pair. refl),
          ap (count_by (λ row. row.name == name)) flow.fates
              ∙ rows-counted (λ row. row.name == name) w.fates flow.fate flow.gone,
          flow.names name,
          names-counted w names name,
        )
