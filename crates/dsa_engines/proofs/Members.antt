-- What a start finds among the members, and leaves.
use Rattle.std.proofs.Common.{◌≡◌, ◌==◌, ℕ, zero, suc, ◌+◌, ◌<◌, ◌≤◌, Bool, true, false, not, cond, ◌&&◌, List, [], ◌∷◌}
use Rattle.std.proofs.Common.{length, drop, filter, set, get_or, slice_get, Option, Some, None, ◌⊎◌, refl, sym, ◌∙◌, ap, subst, inl}
use Rattle.std.proofs.Common.{inr, arith}
use Rattle.std.proofs.lemmas.{Grind.{common_steps}, Bool.{and_parts, eqb-true, lt-ltb, not-true}}
use Rattle.std.proofs.lemmas.List.{get_or-set_same, get_or-set_other, length-set}
use Rattle.std.specs.List.{find}
use Rattle.dsa_base.{specs.Rows.{passes}, proofs.Lists.{In-find}}
use Rattle.dsa_desc.specs.Descriptor.{is_fenced}
use Rattle.dsa_regs.specs.Buffers.{fits}
use Rattle.dsa_store.specs.declared.entry.{Cell.{Cell}, Entry.{Entry}}
use Rattle.dsa_store.specs.Content.{HeldEntry, Content, is_cell, chain, place_count, use_count, after_set, after_give_back}
use Rattle.dsa_store.specs.{Content.{entry_of, list_of_cell}, Walk.{entries_from}}
use Rattle.dsa_store.proofs.Places.{count-cons, count-at, is_cell-itself}
use Rattle.dsa_store.proofs.{Lists.{count-le-uses}, Walks.{entries_from-at}}
use Rattle.dsa_store.proofs.Finding.{replaced-at, placed, list_of-at, list_of-none, entry_of-at}
use Rattle.dsa_book.specs.declared.{note.BatchNote.{BatchNote}, answer.StartAnswer.TheVariants.{Started, NoBuffers}}
use Rattle.dsa_book.specs.declared.fate.FateRow.{FateRow}
use Rattle.dsa_book.specs.State.{Setup, is_off, need_of, held_by}
use Rattle.dsa_book.specs.Work.{member_list, members, with_first_run, with_running_entry, as_running, has_room, start}
use Rattle.dsa_queues.{specs.Queues.{Kept, IsCounted}, proofs.Counts.{counted-replaced}}
use Rattle.dsa_engines.specs.Engines.{EnginesState, work, lists_alone, Holds, IsInStep, WaitInOrder, is_running}
use Rattle.dsa_engines.proofs.{Homes.{home-of}, Keeping.{awake-found, in_step-moved}}
use Rattle.dsa_engines.proofs.Used.{load, load-nil, load-cons, load-set, held-is, none-load, HoldsMore, gives-back}
use Rattle.dsa_engines.proofs.Used.{taken-of, buffers-same, written-less}

-- an entry that does not run
abbrev pub waits : HeldEntry → Bool
waits pair = not pair.1.running

-- ---- the first that waits

-- what runs then, by whether the front does
first-run : (x : HeldEntry) (l : List HeldEntry) (b : Bool) → x.1.running ≡ b
    → with_first_run (x ∷ l) ≡ cond b (x ∷ with_first_run l) (with_running_entry x ∷ l)
first-run x l b is = ap (λ (c : Bool). let m : List HeldEntry =
    cond c (x ∷ with_first_run l) (with_running_entry x ∷ l) in m) is

-- it is found at the front or behind one that runs
first-found : (x : HeldEntry) (l : List HeldEntry) (s : HeldEntry) → find waits (x ∷ l) ≡ Some s
    → ((x.1.running ≡ true) × (find waits l ≡ Some s)) ⊎ ((x.1.running ≡ false) × (x ≡ s))
first-found x l s h = go x.1.running refl h
  where
    go : (b : Bool) → x.1.running ≡ b → cond (not b) (Some x) (find waits l) ≡ Some s
        → ((x.1.running ≡ true) × (find waits l ≡ Some s)) ⊎ ((x.1.running ≡ false) × (x ≡ s))
    go true is found = inl (is, found)
    go false is found = inr (is, cc)

-- where none of these runs, none at any place does
waits-at : (l : List HeldEntry) (k : ℕ) (s : HeldEntry) → filter is_running l ≡ [] → k < length l → get_or l k s ≡ s
    → s.1.running ≡ false
waits-at [] k s none h at = absurd (omega (arith, h))
waits-at (x ∷ l) zero s none h at = grind (arith, common_steps)
waits-at (x ∷ l) (suc k) s none h at = grind (arith, common_steps, waits-at l k s)

-- from one that runs on, the first that waits is the first of all
found-after : (l : List HeldEntry) (k : ℕ) (s : HeldEntry) → WaitInOrder l → k < length l → get_or l k s ≡ s
    → s.1.running ≡ true → find waits (drop k l) ≡ find waits l
found-after [] k s order h at runs = absurd (omega (arith, h))
found-after (x ∷ l) zero s order h at runs = refl
found-after (x ∷ l) (suc k) s order h at runs =
    go x.1.running refl (found-after l k s order.1 (omega (arith, h)) at runs)
  where
    go : (b : Bool) → x.1.running ≡ b → find waits (drop k l) ≡ find waits l
        → find waits (drop k l) ≡ find waits (x ∷ l)
    go true is later = later ∙ rw is refl
    go false is later =
        let no : true ≡ false = sym runs ∙ waits-at l k s (order.0 is) (omega (arith, h)) at in absurd cc

-- and so from the cell of one that runs on
pub found-from : (content : Content) (i : ℕ) (cell : Cell) → ((c : Cell) → use_count content c ≤ 1)
    → (passes (λ at. at == i) (list_of_cell content cell) && passes (λ (entry : Entry). entry.running) (entry_of content cell)) ≡ true
    → WaitInOrder (chain content i) → find waits (entries_from content (Some cell)) ≡ find waits (chain content i)
found-from content i cell once runs order =
    elim (placed content cell) [
      | inl none ↦
          let no : false ≡ true = rw (list_of-none content cell none) at runs in absurd cc
      | inr s ↦
          let both = and_parts (s.list == i) s.entry.running (rw (
            list_of-at content s.list s.place cell s.entry (once cell) s.at,
            entry_of-at content s.list s.place cell s.entry (once cell) s.at,
          ) at runs) in
          let here : s.list ≡ i = eqb-true s.list i both.0 in
          let ordered : WaitInOrder (chain content s.list) = rw here order in
          ap (find waits) (entries_from-at content s.list s.place cell s.entry (once cell) s.at)
          ∙ found-after (chain content s.list) s.place (cell, s.entry) ordered s.at.within s.at.pair both.1
          ∙ ap (λ n. find waits (chain content n)) here
    ]

-- its place in the list
pub record WaitsIn (l : List HeldEntry) (s : HeldEntry) : Type 0 where
  pub place : ℕ
  pub within : place < length l
  pub pair : get_or l place s ≡ s
  pub started : with_first_run l ≡ set l place (with_running_entry s)

-- where one is found it has a place
pub waits-in : (l : List HeldEntry) (s : HeldEntry) → find waits l ≡ Some s → WaitsIn l s
waits-in [] s h = absurd cc
waits-in (x ∷ l) s h =
    elim (first-found x l s h) [
      | inl later ↦
          let w = waits-in l s later.1 in
          record {
            place = suc w.place;
            within = omega (arith, w.within);
            pair = w.pair;
            started = first-run x l true later.0 ∙ ap (λ (m : List HeldEntry). let n : List HeldEntry = x ∷ m in n) w.started;
          }
      | inr front ↦ record {
        place = zero;
        within = omega arith;
        pair = front.1;
        started = first-run x l false front.0
            ∙ ap (λ (y : HeldEntry). let m : List HeldEntry = with_running_entry y ∷ l in m) front.1;
      }
    ]

-- once it runs, the list needs what it needs more
load-started : (setup : Setup) (l : List HeldEntry) (s : HeldEntry) → find waits l ≡ Some s
    → load setup (with_first_run l) ≡ load setup l + need_of setup s.1
load-started setup l s h =
    let w = waits-in l s h in
    let none = held-is setup s.1 (not-true s.1.running (In-find waits s l h).1) in
    let same = ap (λ (y : HeldEntry). held_by setup y.1) w.pair in
    rw w.started (omega (arith, load-set setup l w.place (with_running_entry s) s w.within, same, none))

-- its cell is named there
found-counted : (l : List HeldEntry) (s : HeldEntry) → find waits l ≡ Some s → 1 ≤ place_count s.0 l
found-counted l s h =
    let w = waits-in l s h in
    count-at s.0 l w.place s w.within (rw w.pair (is_cell-itself s.0 s.1))

-- where it stands in front none runs
none-runs : (setup : Setup) (l : List HeldEntry) (s : HeldEntry) → place_count s.0 l ≤ 1 → find waits l ≡ Some s
    → passes (is_cell s.0) (slice_get l 0) ≡ true → WaitInOrder l → load setup l ≡ 0
none-runs setup [] s once h front order = load-nil setup
none-runs setup (x ∷ l) s once h here order =
    elim (first-found x l s h) [
      | inl later ↦
          let one : ◌≡◌ {A = ℕ} (cond (is_cell s.0 x) 1 0) 1 = rw here refl in
          absurd (omega (arith, once, one, count-cons s.0 x l, found-counted l s later.1))
      | inr front ↦
          omega (arith, load-cons setup x l, held-is setup x.1 front.0, none-load setup l (order.0 front.0))
    ]

-- ---- a start

-- the member that runs now counts as it did
pub started-counted : {cells : ℕ} {k : Kept} {engines_state : EnginesState} {content now : Content} {e i : ℕ} {cell : Cell}
    {entry : Entry}
    → IsInStep k.setup engines_state cells content → ((c : Cell) → use_count content c ≤ 1) → e < k.setup.caps.engines
    → i ≡ member_list k.setup e → find waits (chain content i) ≡ Some (cell, entry) → IsCounted k content
    → now ≡ after_set content cell (as_running entry) → IsCounted k now
started-counted {k = k} {content = content} {i = i} {cell = cell} {entry = entry} s once he ie h c is =
    let w = waits-in (chain content i) (cell, entry) h in
    rw is (counted-replaced k content i w.place cell entry (as_running entry) (once cell)
    (omega (arith, s.store.lists, he, ie)) (record { within = w.within; pair = w.pair }) refl c)

module _ {cells : ℕ} {setup : Setup} {engines_state : EnginesState} {content : Content} {e i : ℕ} {cell : Cell} {entry : Entry}
    (s : IsInStep setup engines_state cells content) (once : (c : Cell) → use_count content c ≤ 1)
    (he : e < setup.caps.engines) (ie : i ≡ member_list setup e)
    (h : find waits (chain content i) ≡ Some (cell, entry)) where
  -- while the device is Off no member waits
  on : is_off setup.device ≡ false
  on = awake-found s (find waits) i refl h

  -- the group has none in use at least
  pub holds-none : Holds (get_or engines_state.homes e None) 0 engines_state.buffers
  holds-none = (gives-back s on {after = content} {i = i} (record {
    engine = he;
    list = inr ie;
    others = λ j low ne. refl;
    mine = omega arith;
  })).holds

  -- the member that runs now, as the store leaves it
  started-is : after_set content cell (as_running entry) ≡ set content i (with_first_run (chain content i))
  started-is =
      let w = waits-in (chain content i) (cell, entry) h in
      rw w.started (replaced-at content i w.place cell entry (as_running entry) (once cell)
      (record { within = w.within; pair = w.pair }))

  -- its list needs what it needs more
  started-more : HoldsMore setup content (set content i (with_first_run (chain content i))) e i (need_of setup entry)
  started-more =
      let lists = s.store.lists in
      let l : List HeldEntry = with_first_run (chain content i) in
      record {
        engine = he;
        list = inr ie;
        others = λ j low ne. get_or-set_other content i j l [] ne;
        mine = rw (get_or-set_same content i l [] (omega (arith, lists, he, ie)))
            (load-started setup (chain content i) (cell, entry) h);
      }

  -- once it runs all is in step again
  pub in_step-started : {more g n : ℕ} {after : EnginesState} {now : Content} → more ≡ cells
      → get_or engines_state.homes e None ≡ Some g → n ≡ need_of setup entry
      → after ≡ record engines_state {
        buffers = record engines_state.buffers {
          used =
              set engines_state.buffers.used g (get_or engines_state.buffers.used g 0 + n);
        };
      }
      → now ≡ after_set content cell (as_running entry) → IsInStep setup after more now
  in_step-started kept home ne ae is =
      rw (ae, is ∙ started-is, ne) (in_step-moved s on kept
      (length-set content i (with_first_run (chain content i))) refl refl (taken-of s on started-more home))

  module _ (fence : false ≡ (is_fenced entry.desc && not (passes (is_cell cell) (slice_get (chain content i) 0)))) where
    -- the first that waits stands in front, so none runs
    pub in_step-abandoned : {more : ℕ} {after : EnginesState} {now : Content} (new : Option BatchNote) (fails : Bool)
        → more ≡ cells → WaitInOrder (members (lists_alone setup content) e)
        → true ≡ (is_fenced entry.desc && fails) → after ≡ record engines_state { notes = set engines_state.notes e new }
        → now ≡ after_give_back content i → IsInStep setup after more now
    in_step-abandoned new fails kept order failing ae is =
        let front : passes (is_cell cell) (slice_get (chain content i) 0) ≡ true =
        grind (arith, common_steps, fence, failing) in
        let low : place_count cell (chain content i) ≤ 1 = omega (arith, once cell, count-le-uses content i cell) in
        let all : members (lists_alone setup content) e ≡ chain content (member_list setup e) =
        rw (lt-ltb e setup.caps.engines he) refl in
        let none = none-runs setup (chain content i) (cell, entry) low h front
        (subst WaitInOrder (all ∙ ap (chain content) (sym ie)) order) in
        rw (ae, is) (in_step-moved s on kept (length-set content i []) (length-set engines_state.notes e new) refl
        (buffers-same s on (written-less [] s.store.lists he (inr ie) (omega (arith, none, load-nil setup)))))

    module _ (failing : false ≡ (is_fenced entry.desc
        && passes (λ (note : BatchNote). note.failed) (get_or engines_state.notes e None)))
        {n : ℕ} (ne : n ≡ need_of setup entry) (fates : List FateRow) where
      -- there is room for it where the code finds room
      room-is : has_room (work setup engines_state content fates) e (need_of setup entry)
          ≡ passes (λ g. fits engines_state.buffers.total engines_state.buffers.groups engines_state.buffers.used g n) (get_or engines_state.homes e None)
      room-is = rw (ne, home-of s on he, s.buffers on) refl

      -- without room it waits for buffers
      pub start-refused : passes (λ g. fits engines_state.buffers.total engines_state.buffers.groups engines_state.buffers.used g n)
          (get_or engines_state.homes e None) ≡ false
          → start (work setup engines_state content fates) e ≡ (NoBuffers, work setup engines_state content fates)
      start-refused no_room = rw (lt-ltb e setup.caps.engines he, rw ie at h)
          (rw (lt-ltb e setup.caps.engines he, sym (rw ie at fence), sym failing, room-is ∙ no_room) refl)

      -- with room it is started
      pub start-done : {g : ℕ} {after : EnginesState} {now : Content} → get_or engines_state.homes e None ≡ Some g
          → fits engines_state.buffers.total engines_state.buffers.groups engines_state.buffers.used g n ≡ true
          → after ≡ record engines_state {
            buffers = record engines_state.buffers {
              used =
                  set engines_state.buffers.used g (get_or engines_state.buffers.used g 0 + n);
            };
          }
          → now ≡ after_set content cell (as_running entry) → start (work setup engines_state content fates) e
          ≡ (Started (record { cell = cell; name = entry.name }), work setup after now fates)
      start-done home fitting ae is = rw (ae, is ∙ started-is, ie, lt-ltb e setup.caps.engines he, rw ie at h)
          (rw (lt-ltb e setup.caps.engines he, sym (rw ie at fence), sym failing, (rw home at room-is) ∙ fitting) refl)
