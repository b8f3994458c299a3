-- What the laws of the machine say of a device.
use Rattle.std.proofs.Common.{◌≡◌, ◌≢◌, ℕ, suc, ◌+◌, ◌^◌, ◌<◌, ◌≤◌, ◌==◌, Bool, true, false, List, [], ◌∷◌, ◌++◌, length}
use Rattle.std.proofs.Common.{Option, Some, None, refl, sym, ap, ◌∙◌, arith, get_or}
use Rattle.std.proofs.lemmas.Bool.{lt-ltb, ltb-true, eqb-false, not-true, and_parts, cond_both}
use Rattle.std.proofs.lemmas.List.{get_or-replicate}
use Rattle.std.specs.Prelude.{is_none, is_some, filter, not, ◌&&◌, nat_lt}
use Rattle.dsa_base.{specs.Rows.{passes, when}, proofs.NumberLists.{get_or-each}}
use Rattle.dsa_regs.specs.declared.{Phase.{Phase, TheVariants.{Off}}, Caps.{Caps}}
use Rattle.dsa_regs.specs.Caps.{cell_count, HasList, list_number}
use Rattle.dsa_regs.specs.declared.layout.ListUse.{ListUse, TheVariants.{Queue, Progress, Members}}
use Rattle.dsa_regs.proofs.CapsLemmas.{total_size-bound}
use Rattle.dsa_store.specs.Content.{HeldEntry, Content, chain, held_count}
use Rattle.dsa_store.proofs.Lists.{held-nil, held-cons, length-le-held}
use Rattle.dsa_book.specs.declared.{event.{Portal.{Portal}, Kind.{Kind}}, note.BatchNote.{BatchNote}}
use Rattle.dsa_book.specs.State.{is_off, has_queue}
use Rattle.dsa_book.specs.Work.{used, all_used, members, member_list, note_at, batch_on, is_all_fetched}
use Rattle.dsa_queues.specs.Queues.{intake, is_accepting}
use Rattle.dsa_laws.specs.WellFormed.{IsWellFormed, HasShape, CellsOnce, HasLawfulEntries, none_runs, runs_first}
use Rattle.dsa_laws.specs.Forgotten.{with_past_fates}
use Rattle.dsa_laws.proofs.{Histories.{replay-well_formed}, Orders.{none-first}}
use Rattle.dsa_accounts.proofs.FreeCells.{accepting-room, fetching-room, queue-fits}
use Rattle.dsa_engines.specs.Engines.{EnginesState, WaitInOrder, IsInPlace, QueuesRise, is_fetching}
use Rattle.dsa_engines.specs.Engines.{is_running, lists_alone}
use Rattle.dsa_engines.proofs.{Used.{buffers-at_rest}}
use Rattle.dsa_buffers.specs.Buffers.{Buffers}
use Rattle.dsa_device.specs.Running.{Running, IsReplay, HasPast, HasRows, IsWholeDevice}

pub well_formed : (d : Running) → IsReplay d → IsWellFormed d.caps d.state
well_formed d i = replay-well_formed d.caps d.history d.state i.replayed

-- whatever came before, the state is well formed with the fates that were forgotten
pub lawful : (d : Running) (p : HasPast d) → IsWellFormed d.caps (with_past_fates p.forgotten d.state)
lawful d p = replay-well_formed d.caps (p.past ++ d.history) (with_past_fates p.forgotten d.state) p.replayed

-- of which these parts ask for no fate
pub shape_of : (d : Running) → HasPast d → HasShape d.caps d.state.work
shape_of d p =
    let shape = (lawful d p).shape in
    record {
      same_caps = shape.same_caps;
      lists = shape.lists;
      configs = shape.configs;
      phases = shape.phases;
      groups = shape.groups;
      notes = shape.notes;
    }

pub cells_of : (d : Running) → HasPast d → CellsOnce d.caps d.state.work
cells_of d p = let cells = (lawful d p).cells in record { once = cells.once; inside = cells.inside }

pub entries_of : (d : Running) → HasPast d → HasLawfulEntries d.caps d.state.work
entries_of d p =
    let entries = (lawful d p).entries in
    record { placed = entries.placed; none_off = entries.none_off; pasids = entries.pasids }

pub none-held_all : (c : Content) → ((k : ℕ) → chain c k ≡ []) → held_count c ≡ 0
none-held_all [] h = held-nil
none-held_all (l ∷ ls) h =
    omega (arith, held-cons l ls, ap (λ (xs : List HeldEntry). length xs) (h 0), none-held_all ls (λ k. h (suc k)))

-- the store has the cells of the device
pub cells-are : (cells : ℕ) (engines_state : EnginesState) (d : Running) → IsWholeDevice cells engines_state d → cells ≡ cell_count d.caps
cells-are cells engines_state d w = w.in_step.store.cells ∙ ap cell_count (lawful d w.past).shape.same_caps

is_none-None : {X : Type 0} (o : Option X) → is_none o ≡ true → o ≡ None
is_none-None None h = refl
is_none-None (Some x) h = absurd cc

-- where a submission is accepted a cell is free
pub accepting : (cells : ℕ) (engines_state : EnginesState) (d : Running) (queue : ℕ) (portal : Portal) (kind : Kind)
    → IsWholeDevice cells engines_state d
    → is_accepting (intake d.state.work.setup d.state.work.content) queue portal kind ≡ true
    → held_count d.state.work.content < cells
accepting cells engines_state d queue portal kind w h =
    rw (cells-are cells engines_state d w) (accepting-room (lawful d w.past) queue portal kind (is_none-None _ h))

-- names do not run over while the history has room
pub names_fit : (d : Running) → HasPast d → (length d.history == d.capacity) ≡ false
    → d.state.work.setup.next_name + 1 < 2 ^ 32
names_fit d p room =
    let n : length d.history ≢ d.capacity = eqb-false _ _ room in omega (arith, p.named, p.within, n)

-- there is a row for each entry
pub rows_fit : (rows : ℕ) (d : Running) → HasPast d → HasRows rows d
    → length d.state.work.fates + held_count d.state.work.content ≤ rows
rows_fit rows d p fit = omega (arith, fit, p.within)

-- and for one more where the history has room
pub row_fits : (rows : ℕ) (d : Running) → HasPast d → HasRows rows d → (length d.history == d.capacity) ≡ false
    → length d.state.work.fates < rows
row_fits rows d p fit room =
    let n : length d.history ≢ d.capacity = eqb-false _ _ room in omega (arith, fit, p.within, n)

-- ---- what a start asks

none_runs-filter : (xs : List HeldEntry) → none_runs xs ≡ true → filter is_running xs ≡ []
none_runs-filter [] h = refl
none_runs-filter (pair ∷ rest) h = cond_both pair.1.running (pair ∷ filter is_running rest) (filter is_running rest)
    (λ xs. xs ≡ []) (λ on. let no : false ≡ true = rw on at h in absurd cc) (λ off. none_runs-filter rest (rw off at h))

wait_in_order : (xs : List HeldEntry) → runs_first xs ≡ true → WaitInOrder xs
wait_in_order [] h = tt
wait_in_order (pair ∷ rest) h = ((λ waits. none_runs-filter rest (rw waits at h)), wait_in_order rest (go pair.1.running refl))
  where
    go : (b : Bool) → pair.1.running ≡ b → runs_first rest ≡ true
    go true is = rw is at h
    go false is = none-first rest (rw is at h)

pub members_wait : (d : Running) (engine : ℕ) → HasPast d
    → WaitInOrder (members (lists_alone d.state.work.setup d.state.work.content) engine)
members_wait d engine p = wait_in_order (members d.state.work engine) ((lawful d p).order engine)

-- there is a row for each member of an engine
pub member_rows_fit : (rows : ℕ) (d : Running) (engine : ℕ) → HasPast d → HasRows rows d
    → length d.state.work.fates + length
    (members (lists_alone d.state.work.setup d.state.work.content) engine) ≤ rows
member_rows_fit rows d engine p fit =
    let w = d.state.work in
    cond_both (nat_lt engine w.setup.caps.engines) (chain w.content (member_list w.setup engine)) []
    (λ xs. length w.fates + length xs ≤ rows)
    (λ on. omega (arith, length-le-held w.content (member_list w.setup engine), rows_fit rows d p fit))
    (λ off. omega (arith, rows_fit rows d p fit))

-- ---- what a fetch asks

-- where a member may be fetched a cell is free
pub fetching : (cells : ℕ) (engines_state : EnginesState) (d : Running) (engine : ℕ) → IsWholeDevice cells engines_state d
    → is_fetching d.state.work engine ≡ true → held_count d.state.work.content < cells
fetching cells engines_state d engine w h = rw (cells-are cells engines_state d w) (go (note_at d.state.work engine) refl h)
  where
    go : (note : Option BatchNote) → note_at d.state.work engine ≡ note
        → passes (λ note. is_some (batch_on d.state.work engine note) && not (is_all_fetched note)) note ≡ true
        → held_count d.state.work.content < cell_count d.caps
    go None is h = absurd cc
    go (Some note) is h = fetching-room (lawful d w.past) engine note is
        (not-true (is_all_fetched note) (and_parts (is_some (batch_on d.state.work engine note)) _ h).1)

-- ---- what the end of a Drain asks

pub in_place : (d : Running) → HasPast d → IsInPlace d.state.work.setup d.state.work.content
in_place d p =
    let w = d.state.work in
    let same = (lawful d p).shape.same_caps in
    let queues : w.setup.caps.queues ≡ d.caps.queues = ap (λ (c : Caps). c.queues) same in
    let engines : w.setup.caps.engines ≡ d.caps.engines = ap (λ (c : Caps). c.engines) same in
    let placed = (lawful d p).entries.placed in
    record {
      queued = λ q pair h at. (placed q pair at).queue (omega (arith, h, queues));
      members = λ e pair h at. (placed (member_list w.setup e) pair at).member (omega (arith, queues, engines));
    }

pub queues_rise : (d : Running) → HasPast d → QueuesRise d.state.work.setup d.state.work.content
queues_rise d p =
    let same = ap (λ (c : Caps). c.queues) (lawful d p).shape.same_caps in
    λ q h. (lawful d p).rising q (omega (arith, h, same))

-- ---- what a reader of the occupancy asks

-- no queue is longer than all of them together may be
pub occupancy_fits : (cells : ℕ) (engines_state : EnginesState) (d : Running) (queue : ℕ) → IsWholeDevice cells engines_state d
    → has_queue d.state.work.setup queue ≡ true → length (chain d.state.work.content queue) < 2 ^ 16
occupancy_fits cells engines_state d queue w has =
    let setup = d.state.work.setup in
    let same = (lawful d w.past).shape.same_caps in
    let there : queue < d.caps.queues =
    omega (arith, ltb-true queue setup.caps.queues has, ap (λ (c : Caps). c.queues) same) in
    omega (
      arith,
      queue-fits (lawful d w.past) queue there,
      total_size-bound setup.caps w.in_step.queues.lawful,
      ap (λ (c : Caps). c.total_size) same,
    )

-- ---- read buffers

-- what the lists say of a group that is there
used-listed : (d : Running) (group : ℕ) → HasPast d → group < d.caps.groups
    → Some (get_or (all_used (lists_alone d.state.work.setup d.state.work.content)) group 0)
    ≡ when (nat_lt group d.caps.groups) (used d.state.work group)
used-listed d group p h =
    let same = ap (λ (c : Caps). c.groups) (lawful d p).shape.same_caps in
    rw (lt-ltb group d.caps.groups h)
    (ap Some (get_or-each (used d.state.work) d.state.work.setup.caps.groups group 0 (omega (arith, h, same))))

-- while the device is Off nothing runs
pub used-off : (cells : ℕ) (engines_state : EnginesState) (d : Running) (group : ℕ) → IsWholeDevice cells engines_state d → group < d.caps.groups
    → is_off d.state.work.setup.device ≡ true → Some 0 ≡ when (nat_lt group d.caps.groups) (used d.state.work group)
used-off cells engines_state d group w h off =
    let setup = d.state.work.setup in
    let inside : group < length setup.groups = omega (arith, h, (lawful d w.past).shape.groups) in
    ap Some (sym (get_or-replicate {A = ℕ} (length setup.groups) group 0 0 inside))
    ∙ ap (λ (b : Buffers). Some (get_or b.used group 0))
    (buffers-at_rest setup d.state.work.content w.in_step.queues.groups (w.in_step.idle off))
    ∙ used-listed d group w.past h

-- and else the engines keep the number
pub used-on : (cells n : ℕ) (engines_state : EnginesState) (d : Running) (group : ℕ) → IsWholeDevice cells engines_state d → group < d.caps.groups
    → is_off d.state.work.setup.device ≡ false → n ≡ get_or engines_state.buffers.used group 0
    → Some n ≡ when (nat_lt group d.caps.groups) (used d.state.work group)
used-on cells n engines_state d group w h on is =
    rw (is, w.in_step.buffers on) (used-listed d group w.past h)

pub groups-on : (cells : ℕ) (engines_state : EnginesState) (d : Running) (group : ℕ) → IsWholeDevice cells engines_state d → group < d.caps.groups
    → is_off d.state.work.setup.device ≡ false → group < length engines_state.buffers.groups
groups-on cells engines_state d group w h on = rw (w.in_step.buffers on)
    (omega (arith, (lawful d w.past).shape.groups, h))

pub not_off : (phase : Phase) → (phase ≡ Off → ⊥) → is_off phase ≡ false
not_off Off h = absurd (h refl)
not_off _ h = refl

-- each list of the device is one of the store's
pub has-list : (cells : ℕ) (engines_state : EnginesState) (d : Running) (list : ListUse) → IsWholeDevice cells engines_state d
    → HasList d.caps list
    → list_number d.caps list < length d.state.work.content
has-list cells engines_state d (Queue q) w h = omega (arith, h, (lawful d w.past).shape.lists)
has-list cells engines_state d (Progress e) w h = omega (arith, h, (lawful d w.past).shape.lists)
has-list cells engines_state d (Members e) w h = omega (arith, h, (lawful d w.past).shape.lists)
