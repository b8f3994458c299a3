-- Lists that a command is taken out of, one after the other.
use Rattle.std.proofs.Common.{◌≡◌, ℕ, ◌+◌, ◌<◌, ◌≤◌, true, false, not, cond, List, [], ◌∷◌, ◌++◌, take, drop, length}
use Rattle.std.proofs.Common.{map, set, Option, Some, None, refl, sym, subst, append_assoc, ap, ◌∙◌, arith}
use Rattle.std.proofs.Common.{length-append}
use Rattle.std.proofs.lemmas.Grind.{common_steps, flat_map-append}
use Rattle.std.proofs.lemmas.List.{length-map, length-set, map-append, append-nil, take_more, Edits.{map_over_more}}
use Rattle.std.proofs.lemmas.List.{Elements.{filter-append, filter_more}, Filters.{length-filter_both}}
use Rattle.std.specs.List.{filter}
use Rattle.dsa_regs.specs.declared.Scope.{Scope, TheVariants.{Device}}
use Rattle.dsa_regs.specs.{declared.Command.{Command}, Command.{number_of_command, scope_of}}
use Rattle.dsa_store.specs.declared.entry.{Cell.{Cell}, Entry.{Entry}}
use Rattle.dsa_store.specs.Content.{HeldEntry, Content, chain, use_count, held_count, first_cell, entry_of, next_of}
use Rattle.dsa_store.specs.Content.{after_unlink, only_where, all_held, StandsAt}
use Rattle.dsa_store.proofs.{Finding.{entry_of-none}, Lists.{held-set, held-unlinked}}
use Rattle.dsa_store.proofs.{Sums.{held-counted, all_held-kept}, Turns.{AtTurn, at-turn, thinned}}
use Rattle.dsa_book.specs.{declared.fate.{Fate.TheVariants.{Aborted}, FateRow.{FateRow}}, Records.{Records}}
use Rattle.dsa_book.specs.{Work.{fate_row}, Commands.{is_in_scope, count_in_scope}}
use Rattle.dsa_admin.specs.Admin.{is_meant, is_spared, row_of_abort, rows_of_abort}

-- a cell that has an entry is one of those held
used-entry : (content : Content) (cell : Cell) {e : Entry} → entry_of content cell ≡ Some e → 1 ≤ use_count content cell
used-entry content cell h = grind (arith, h, entry_of-none content cell)

-- ---- the places of one list

-- the first k places of list i were looked at, and each that the command is about has left it with its row
pub record IsWithdrawn (command : Command) (content : Content) (first : Records) (i k : ℕ) (now : Content)
    (book : Records) : Type 0 where
  pub left : now ≡ thinned (is_spared command) content i k
  pub rows : book ≡ record first { fates = first.fates ++ rows_of_abort command (take k (chain content i)) }
  pub room : length book.fates + held_count now ≤ book.row_room

-- and the lists are as many
pub withdrawn-list : {command : Command} {content now : Content} {first book : Records} {i k : ℕ}
    → IsWithdrawn command content first i k now book → i < length content → i < length now
withdrawn-list {command = command} {content = content} {i = i} {k = k} w h =
    rw (
      w.left,
      length-set content i (filter (is_spared command) (take k (chain content i)) ++ drop k (chain content i)),
    ) h

-- what is known of the cell at place k, with the entry that the store gives for it
pub record LooksAt (command : Command) (content : Content) (i k : ℕ) (now : Content) (cell : Cell)
    (e : Entry) : Type 0 where
  pub stands : StandsAt content i k cell e
  pub now_stands : StandsAt now i (length (filter (is_spared command) (take k (chain content i)))) cell e
  pub found : entry_of now cell ≡ Some e
  pub next : next_of now cell ≡ first_cell (drop (k + 1) (chain content i))
  pub out : is_spared command (cell, e) ≡ false → after_unlink now cell ≡ thinned (is_spared command) content i (k + 1)
  pub stay : is_spared command (cell, e) ≡ true → now ≡ thinned (is_spared command) content i (k + 1)

-- the walk stands at a cell
module _ {command : Command} {content now : Content} {first book : Records} {i k size : ℕ} {at : Option Cell}
    {cell : Cell} {got : Option Entry} (w : IsWithdrawn command content first i k now book)
    (once : (c : Cell) → use_count now c ≤ 1) (hi : i < length content) (long : size ≡ length (chain content i))
    (hk : k < size) (here : at ≡ first_cell (drop k (chain content i))) (is : at ≡ Some cell)
    (read : got ≡ entry_of now cell) where
  -- what the calls answer there
  turn : AtTurn (is_spared command) content i k now cell
  turn = at-turn (is_spared command) content i k now cell once hi (omega (arith, long, hk)) w.left (sym here ∙ is)

  -- what the store gives for it is an entry
  pub withdrawn-found : got ≡ None → ⊥
  withdrawn-found none = let told : ◌≡◌ {A = Option Entry} None (Some turn.entry) = sym none ∙ read ∙ turn.get in cc

  -- and that entry is looked at
  pub looks-at : {e : Entry} → got ≡ Some e → LooksAt command content i k now cell e
  looks-at {e} some =
      let t = turn in
      let told : ◌≡◌ {A = Option Entry} (Some t.entry) (Some e) = sym t.get ∙ sym read ∙ some in
      let same : t.entry ≡ e = cc in
      subst (LooksAt command content i k now cell) same
      (record { stands = t.stands; now_stands = t.now_stands; found = t.get; next = t.next; out = t.out; stay = t.stay })

-- and a row of it has room
pub withdrawn-room : {command : Command} {content now : Content} {first book : Records} {i k : ℕ} {got : Option Entry}
    {e : Entry} (cell : Cell) → IsWithdrawn command content first i k now book → got ≡ entry_of now cell
    → got ≡ Some e → length book.fates < book.row_room
withdrawn-room {now = now} cell w read is =
    omega (arith, w.room, used-entry now cell (sym read ∙ is), held-unlinked now cell)

-- one more place
module _ {command : Command} {content now : Content} {first book : Records} {i k : ℕ} {cell : Cell} {e : Entry}
    (t : LooksAt command content i k now cell e) (w : IsWithdrawn command content first i k now book) where
  -- the rows of one more place
  rows-more : rows_of_abort command (take (k + 1) (chain content i))
      ≡ map (fate_row (Aborted (number_of_command command))) (filter (is_meant command) (take k (chain content i))
      ++ cond (is_in_scope (scope_of command) e) ((cell, e) ∷ []) [])
  rows-more = rw (filter_more (is_meant command) (chain content i) k (cell, e) t.stands.within, t.stands.pair) refl

  -- a cell that the command is not about stays
  pub withdrawn-stays : is_in_scope (scope_of command) e ≡ false → IsWithdrawn command content first i (k + 1) now book
  withdrawn-stays outside = record {
    left = t.stay (ap not outside);
    rows = rw (rows-more, outside, append-nil (filter (is_meant command) (take k (chain content i)))) w.rows;
    room = w.room;
  }

  -- a cell that the command is about leaves, with its row
  pub withdrawn-leaves : {after : Content} {later : Records} {row : FateRow} → is_in_scope (scope_of command) e ≡ true
      → after ≡ after_unlink now cell → row ≡ row_of_abort command e
      → later ≡ record book { fates = book.fates ++ row ∷ [] }
      → IsWithdrawn command content first i (k + 1) after later
  withdrawn-leaves {row = row} inside left row_is rows =
      let meant : List HeldEntry = filter (is_meant command) (take k (chain content i)) in
      record {
        left = left ∙ t.out (ap not inside);
        rows = rw (
          rows-more,
          inside,
          map-append (fate_row (Aborted (number_of_command command))) meant ((cell, e) ∷ []),
          rows,
          row_is,
          w.rows,
        ) (ap (λ (l : List FateRow). record first { fates = l })
            (append_assoc first.fates (rows_of_abort command (take k (chain content i)))
            (row_of_abort command e ∷ [])));
        room = rw (rows, left) (omega (
          arith,
          length-append book.fates (row ∷ []),
          held-unlinked now cell,
          used-entry now cell t.found,
          w.room,
        ));
      }

-- ---- the lists

-- the first n lists without what the command is about
abbrev pub swept : Command → Content → ℕ → Content
swept command content n = map (filter (is_spared command)) (take n content) ++ drop n content

-- the first n lists were walked, and what the command is about has left them with its rows
pub record IsSwept (command : Command) (content : Content) (first : Records) (n : ℕ) (now : Content)
    (book : Records) : Type 0 where
  pub left : now ≡ swept command content n
  pub rows : book ≡ record first { fates = first.fates ++ rows_of_abort command (all_held (take n content)) }
  pub room : length book.fates + held_count now ≤ book.row_room

-- the rows of one list after those of the lists before it
rows-lists : (command : Command) (content : Content) (n : ℕ) → n < length content
    → rows_of_abort command (all_held (take (n + 1) content))
    ≡ rows_of_abort command (all_held (take n content)) ++ rows_of_abort command (chain content n)
rows-lists command content n h = rw (
  take_more content n [] h,
  flat_map-append (λ (l : List HeldEntry). l) (take n content) (chain content n ∷ []),
  append-nil (chain content n),
  filter-append (is_meant command) (all_held (take n content)) (chain content n),
) (map-append (fate_row (Aborted (number_of_command command))) (filter (is_meant command) (all_held (take n content)))
    (filter (is_meant command) (chain content n)))

-- one more list
module _ {command : Command} {content now : Content} {first book : Records} {n : ℕ} (h : n < length content)
    (s : IsSwept command content first n now book) where
  -- that list is as it was at first
  pub swept-chain : chain now n ≡ chain content n
  swept-chain = let left = s.left in grind (arith, common_steps, left, h)

  -- once it is walked too, one more list is swept
  pub swept-next : {after : Content} {later : Records} → after ≡ set now n (filter (is_spared command) (chain now n))
      → later ≡ record book { fates = book.fates ++ rows_of_abort command (chain now n) }
      → IsSwept command content first (n + 1) after later
  swept-next left rows =
      let so_far = s.left in
      let within : n < length now = grind (arith, common_steps, so_far, h) in
      let both = length-filter_both (is_meant command) (is_spared command) (λ x. refl) (chain now n) in
      let count = length-map (filter (is_meant command) (chain now n))
      (fate_row (Aborted (number_of_command command))) in
      record {
        left = left ∙ map_over_more (filter (is_spared command)) content now n (chain now n) h so_far
            (grind (arith, common_steps, so_far, h));
        rows = rw (rows, swept-chain, s.rows, rows-lists command content n h)
            (ap (λ (l : List FateRow). record first { fates = l }) (append_assoc first.fates
            (rows_of_abort command (all_held (take n content))) (rows_of_abort command (chain content n))));
        room = rw (rows, left) (omega (
          arith,
          both,
          count,
          length-append book.fates (rows_of_abort command (chain now n)),
          held-set now n (filter (is_spared command) (chain now n)) within,
          s.room,
        ));
      }

-- ---- a command that is about all

module _ (command : Command) (all : scope_of command ≡ Device) where
  -- nothing of a list stays
  pub spares-none : (l : List HeldEntry) → filter (is_spared command) l ≡ []
  spares-none l = ap (λ (s : Scope). filter (λ (x : HeldEntry). not (is_in_scope s x.1)) l) all ∙ none l
    where
      none : (l : List HeldEntry) → filter (λ (s : HeldEntry). false) l ≡ []
      none [] = refl
      none (s ∷ l) = none l

  -- one place more is one row more
  pub rows-pushed : (l : List HeldEntry) (s : HeldEntry)
      → rows_of_abort command (l ++ s ∷ []) ≡ rows_of_abort command l ++ row_of_abort command s.1 ∷ []
  rows-pushed l s = rw (filter-append (is_meant command) l (s ∷ []), all)
      (map-append (fate_row (Aborted (number_of_command command))) _ (s ∷ []))

-- a list has no fewer places than rows
pub rows-few : (command : Command) (l : List HeldEntry) → length (rows_of_abort command l) ≤ length l
rows-few command l =
    omega (
      arith,
      length-filter_both (is_meant command) (is_spared command) (λ x. refl) l,
      length-map (filter (is_meant command) l) (fate_row (Aborted (number_of_command command))),
    )

-- ---- an abort as a whole

-- what is taken out and what stays are all that was held
pub held-kept : (command : Command) (content : Content)
    → held_count (only_where (λ entry. not (is_in_scope (scope_of command) entry)) content)
    + count_in_scope (scope_of command) content ≡ held_count content
held-kept command content =
    let spared : Content = only_where (λ entry. not (is_in_scope (scope_of command) entry)) content in
    omega (
      arith,
      length-filter_both (is_meant command) (is_spared command) (λ x. refl) (all_held content),
      held-counted content,
      held-counted spared,
      ap length (all_held-kept (λ entry. not (is_in_scope (scope_of command) entry)) content),
    )
