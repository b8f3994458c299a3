-- Why an engine starts no member, and which answer that is.
use Rattle.dsa_book.specs.declared.answer.StartAnswer.TheVariants as answer
use Rattle.dsa_engines.specs.declared.starting.StartBlock.TheVariants as block
use Rattle.std.proofs.Common.{◌≡◌, ℕ, ◌<◌, ◌≤◌, Bool, true, false, not, cond, ◌&&◌, nat_lt, [], ◌∷◌, ◌++◌, length, map, get_or}
use Rattle.std.proofs.Common.{slice_get, List, Option, Some, None, refl, sym, ap, ◌∙◌, arith, inl, inr}
use Rattle.std.proofs.lemmas.{Grind.{common_steps}, Bool.{lt-ltb, cases_lt}}
use Rattle.std.specs.{Prelude.{find, is_none, is_some, unwrap_or}, Option.{option_map}}
use Rattle.dsa_base.specs.Rows.{first_row, first_row_or, passes}
use Rattle.dsa_desc.specs.Descriptor.{is_fenced}
use Rattle.dsa_regs.specs.Buffers.{fits}
use Rattle.dsa_store.specs.declared.entry.{Cell.{Cell}, Entry.{Entry}}
use Rattle.dsa_store.specs.Content.{HeldEntry, Content, chain, is_cell, after_give_back}
use Rattle.dsa_book.specs.declared.{answer.{StartAnswer.{StartAnswer}, Ticket.{Ticket}}}
use Rattle.dsa_book.specs.declared.{note.BatchNote.{BatchNote}, fate.{FateRow.{FateRow}, Fate.TheVariants.{Abandoned}}}
use Rattle.dsa_book.specs.State.{Setup, Work, is_off, need_of, ticket_of_entry}
use Rattle.dsa_book.specs.Work.{first_waiting, start_table, start_of, start, is_front, has_failed_member, has_room}
use Rattle.dsa_book.specs.Work.{group_of_engine, group_in, member_list, with_note, fate_row}
use Rattle.dsa_book.specs.Work.{members, after_abandon, after_start}
use Rattle.dsa_queues.specs.Reasons.{with_reasons}
use Rattle.dsa_buffers.specs.{declared.want.BufferWant.{BufferWant}, Buffers.{Buffers, want_of}}
use Rattle.dsa_engines.specs.declared.reasons.StartReason.{StartReason, TheVariants.{Nothing, Fence, Failed}}
use Rattle.dsa_engines.specs.declared.reasons.StartReason.TheVariants.{NoBuffers, NoGroup}
use Rattle.dsa_engines.specs.declared.starting.StartBlock.{StartBlock}
use Rattle.dsa_engines.specs.Engines.{EnginesState, IsInStep, work, buffers_at, buffers_of}
use Rattle.dsa_engines.specs.Batch.{start_reasons, start_reason_of, start_reason, start_answer, unstarted, name_of_entry}
use Rattle.dsa_engines.specs.Batch.{first_member, failed_member, want_reason, told_as, block_of_group}
use Rattle.dsa_engines.proofs.Keeping.{awake-found}
use Rattle.dsa_engines.proofs.Homes.{home-of}
use Rattle.dsa_engines.proofs.Members.{waits}

-- a member that waits has a reason for the answer, and none where it starts
started : (w : Work) (e : ℕ) (pair : HeldEntry)
    → option_map start_answer (start_reason_of w e (Some pair)) ≡ unstarted (start_of w e (Some pair)).0
started w e pair = go (is_fenced pair.1.desc && not (is_front w e pair))
    (is_fenced pair.1.desc && has_failed_member w e)
    (not (has_room w e (need_of w.setup pair.1))) (is_none (group_of_engine w e)) pair.1.name
    (name_of_entry (first_member w e))
    (failed_member w e) (length (members w e)) (want_of (buffers_at w) (unwrap_or (group_of_engine w e) 0) (need_of w.setup pair.1))
    (after_abandon w e) (after_start w e) (ticket_of_entry pair)
  where
    go : (fence failed full alone : Bool) (member first : ℕ) (one : Option ℕ) (left : ℕ)
        (want : BufferWant) (abandoned after : Work) (t : Ticket)
        → option_map start_answer (first_row ((fence, Fence member first) ∷ (failed, Failed member one left) ∷
        (full, cond alone NoGroup (NoBuffers want)) ∷ []))
        ≡ unstarted (first_row_or {X = StartAnswer × Work} ((fence, (answer.FenceWait, w)) ∷
        (failed, (answer.Abandoned left, abandoned)) ∷ (full, (answer.NoBuffers, w)) ∷ []) (answer.Started t, after)).0
    go true failed full alone member first one left want abandoned after t = refl
    go false true full alone member first one left want abandoned after t = refl
    go false false true true member first one left want abandoned after t = refl
    go false false true false member first one left want abandoned after t = refl
    go false false false alone member first one left want abandoned after t = refl

-- so of each reason
pub started-told : (w : Work) (e : ℕ) → option_map start_answer (start_reason w e) ≡ unstarted (start w e).0
started-told w e = go (first_waiting w e)
  where
    go : (pair : Option HeldEntry) → option_map start_answer (start_reason_of w e pair) ≡ unstarted (start_of w e pair).0
    go None = refl
    go (Some pair) = started w e pair

-- a failure that is told names a member, where one is there to name
pub failure-named : (w : Work) (e : ℕ) (member left : ℕ) (failed : Option ℕ)
    → (has_failed_member w e ≡ true → is_some (failed_member w e) ≡ true)
    → start_reason w e ≡ Some (Failed member failed left) → is_some failed ≡ true
failure-named w e member left failed h = of (first_waiting w e)
  where
    go : (waits fenced fails full alone : Bool) (name first count : ℕ) (one : Option ℕ) (want : BufferWant)
        → (fails ≡ true → is_some one ≡ true)
        → first_row ((waits, Fence name first) ∷ (fenced && fails, Failed name one count) ∷
        (full, cond alone NoGroup (NoBuffers want)) ∷ []) ≡ Some (Failed member failed left) → is_some failed ≡ true
    go true fenced fails full alone name first count one want h r = absurd cc
    go false true true full alone name first count one want h r = let is : one ≡ failed = cc in rw (← is) (h refl)
    go false true false true true name first count one want h r = absurd cc
    go false true false true false name first count one want h r = absurd cc
    go false true false false alone name first count one want h r = absurd cc
    go false false fails true true name first count one want h r = absurd cc
    go false false fails true false name first count one want h r = absurd cc
    go false false fails false alone name first count one want h r = absurd cc

    of : (pair : Option HeldEntry) → start_reason_of w e pair ≡ Some (Failed member failed left) → is_some failed ≡ true
    of None told = absurd cc
    of (Some pair) told = go (is_fenced pair.1.desc && not (is_front w e pair)) (is_fenced pair.1.desc)
        (has_failed_member w e) (not (has_room w e (need_of w.setup pair.1))) (is_none (group_of_engine w e)) pair.1.name
        (name_of_entry (first_member w e)) (length (members w e)) (failed_member w e)
        (want_of (buffers_at w) (unwrap_or (group_of_engine w e) 0) (need_of w.setup pair.1)) h told

-- ---- a start that is refused

-- what it leaves: a failure at a fence ends all that is left
abbrev pub after_reason : Work → ℕ → StartReason → Work
after_reason w e (Failed member failed left) = after_abandon w e
after_reason w e reason = w

-- a start without a member is answered by its reason
pub start-refused_by : (w : Work) (e : ℕ) (reason : StartReason) → start_reason w e ≡ Some reason
    → start w e ≡ (start_answer reason, after_reason w e reason)
start-refused_by w e reason = of (first_waiting w e)
  where
    go : (fence failed full alone : Bool) (member first : ℕ) (one : Option ℕ) (left : ℕ)
        (want : BufferWant) (after : Work) (t : Ticket)
        → first_row ((fence, Fence member first) ∷ (failed, Failed member one left) ∷
        (full, cond alone NoGroup (NoBuffers want)) ∷ []) ≡ Some reason
        → first_row_or {X = StartAnswer × Work} ((fence, (answer.FenceWait, w)) ∷
        (failed, (answer.Abandoned left, after_abandon w e)) ∷ (full, (answer.NoBuffers, w)) ∷ []) (answer.Started t, after)
        ≡ (start_answer reason, after_reason w e reason)
    go true failed full alone member first one left want after t r =
        let is : reason ≡ Fence member first = cc in rw is refl
    go false true full alone member first one left want after t r =
        let is : reason ≡ Failed member one left = cc in rw is refl
    go false false true true member first one left want after t r = let is : reason ≡ NoGroup = cc in rw is refl
    go false false true false member first one left want after t r =
        let is : reason ≡ NoBuffers want = cc in rw is refl
    go false false false alone member first one left want after t r = absurd cc

    of : (pair : Option HeldEntry) → start_reason_of w e pair ≡ Some reason
        → start_of w e pair ≡ (start_answer reason, after_reason w e reason)
    of None r = let is : reason ≡ Nothing = cc in rw is refl
    of (Some pair) r = go (is_fenced pair.1.desc && not (is_front w e pair))
        (is_fenced pair.1.desc && has_failed_member w e) (not (has_room w e (need_of w.setup pair.1)))
        (is_none (group_of_engine w e)) pair.1.name (name_of_entry (first_member w e)) (failed_member w e)
        (length (members w e)) (want_of (buffers_at w) (unwrap_or (group_of_engine w e) 0) (need_of w.setup pair.1))
        (after_start w e) (ticket_of_entry pair) r

-- so by what the step found
pub start-refused_with : (w : Work) (b : Buffers) (e : ℕ) (found kind : StartBlock)
    → Some (told_as w b e found) ≡ start_reason w e → found ≡ kind
    → start w e ≡ (start_answer (told_as w b e kind), after_reason w e (told_as w b e kind))
start-refused_with w b e found kind told is =
    start-refused_by w e (told_as w b e kind) (sym told ∙ ap (λ (x : StartBlock). Some (told_as w b e x)) is)

-- ---- what the step finds

-- an engine that the device does not have starts nothing
pub none-there : (setup : Setup) (engines_state : EnginesState) (content : Content) (fates : List FateRow) (e : ℕ)
    → setup.caps.engines ≤ e → Some Nothing ≡ start_reason (work setup engines_state content fates) e
none-there setup engines_state content fates e past =
    let off : nat_lt e setup.caps.engines ≡ false = grind (arith, common_steps, past) in rw off refl

-- the first member that waits, which neither a fence nor a failure keeps
module _ {setup : Setup} {engines_state : EnginesState} {content : Content} {e : ℕ} (he : e < setup.caps.engines)
    (fates : List FateRow) {cell : Cell} {entry : Entry}
    (h : find waits (chain content (member_list setup e)) ≡ Some (cell, entry))
    (fence : false ≡ (is_fenced entry.desc
    && not (passes (is_cell cell) (slice_get (chain content (member_list setup e)) 0))))
    {cells : ℕ} (s : IsInStep setup engines_state cells content) (failing : false ≡ (is_fenced entry.desc
    && passes (λ (note : BatchNote). note.failed) (get_or engines_state.notes e None)))
    {need : ℕ} (ne : need ≡ need_of setup entry) where
  on : is_off setup.device ≡ false
  on = awake-found s (find waits) (member_list setup e) refl h

  same-home : get_or engines_state.homes e None ≡ group_in setup.groups e
  same-home = home-of s on he

  room : has_room (work setup engines_state content fates) e (need_of setup entry)
      ≡ passes (λ g. fits engines_state.buffers.total engines_state.buffers.groups engines_state.buffers.used g need)
      (get_or engines_state.homes e None)
  room = rw (ne, same-home, s.buffers on) refl

  -- the read buffers do not fit
  pub no-room : {found : StartBlock}
      → passes (λ g. fits engines_state.buffers.total engines_state.buffers.groups engines_state.buffers.used g need)
      (get_or engines_state.homes e None) ≡ false
      → found ≡ block_of_group need (get_or engines_state.homes e None)
      → Some (told_as (work setup engines_state content fates) engines_state.buffers e found)
      ≡ start_reason (work setup engines_state content fates) e
  no-room full is = rw (is, same-home, lt-ltb e setup.caps.engines he, h)
      (rw (lt-ltb e setup.caps.engines he, ← fence, ← failing, room ∙ full, ne, s.buffers on)
      (go (group_in setup.groups e)))
    where
      go : (home : Option ℕ) → Some (told_as (work setup engines_state content fates) (buffers_of setup content) e
          (block_of_group (need_of setup entry) home))
          ≡ Some (cond (is_none home) NoGroup (NoBuffers (want_of (buffers_of setup content) (unwrap_or home 0)
          (need_of setup entry))))
      go None = refl
      go (Some g) = refl

  -- they fit
  pub has-room : passes (λ g. fits engines_state.buffers.total engines_state.buffers.groups engines_state.buffers.used g need)
      (get_or engines_state.homes e None) ≡ true
      → None ≡ start_reason (work setup engines_state content fates) e
  has-room fitting = rw (lt-ltb e setup.caps.engines he, h)
      (rw (lt-ltb e setup.caps.engines he, ← fence, ← failing, room ∙ fitting) refl)

-- ---- a failure at a fence

-- the first member that waits has a fence, stands in front, and a member before it failed
pub record Fails (setup : Setup) (engines_state : EnginesState) (content : Content) (e : ℕ) : Type 0 where
  pub engine : e < setup.caps.engines
  pub cell : Cell
  pub entry : Entry
  pub waiting : find waits (chain content (member_list setup e)) ≡ Some (cell, entry)
  pub fence : false
      ≡ (is_fenced entry.desc && not (passes (is_cell cell) (slice_get (chain content (member_list setup e)) 0)))
  pub failing : true
      ≡ (is_fenced entry.desc && passes (λ (note : BatchNote). note.failed) (get_or engines_state.notes e None))

-- so where that is the reason
pub fails-where : (setup : Setup) (engines_state : EnginesState) (content : Content) (e : ℕ) (member left : ℕ)
    (failed : Option ℕ) → start_reason (work setup engines_state content []) e ≡ Some (Failed member failed left)
    → Fails setup engines_state content e
fails-where setup engines_state content e member left failed told = elim (cases_lt e setup.caps.engines) [
  | inl he ↦ of he (find waits (chain content (member_list setup e))) refl (rw (lt-ltb e setup.caps.engines he) at told)
  | inr past ↦
      let nothing : Some Nothing ≡ Some (Failed member failed left) = none-there setup engines_state content [] e past ∙ told in
      absurd cc
]
  where
    w : Work
    w = work setup engines_state content []

    rows : (he : e < setup.caps.engines) (pair : HeldEntry) (fence fails full alone : Bool) (first count : ℕ) (one : Option ℕ)
        (want : BufferWant)
        → find waits (chain content (member_list setup e)) ≡ Some pair
        → (is_fenced pair.1.desc && not (passes (is_cell pair.0) (slice_get (chain content (member_list setup e)) 0))) ≡ fence
        → (is_fenced pair.1.desc && passes (λ (note : BatchNote). note.failed) (get_or engines_state.notes e None)) ≡ fails
        → first_row ((fence, Fence pair.1.name first) ∷ (fails, Failed pair.1.name one count) ∷
        (full, cond alone NoGroup (NoBuffers want)) ∷ []) ≡ Some (Failed member failed left)
        → Fails setup engines_state content e
    rows he pair true fails full alone first count one want h fe fa r = absurd cc
    rows he pair false true full alone first count one want h fe fa r = record {
      engine = he;
      cell = pair.0;
      entry = pair.1;
      waiting = h;
      fence = sym fe;
      failing = sym fa;
    }
    rows he pair false false true true first count one want h fe fa r = absurd cc
    rows he pair false false true false first count one want h fe fa r = absurd cc
    rows he pair false false false alone first count one want h fe fa r = absurd cc

    of : (he : e < setup.caps.engines) (pair : Option HeldEntry) → find waits (chain content (member_list setup e)) ≡ pair
        → start_reason_of w e pair ≡ Some (Failed member failed left) → Fails setup engines_state content e
    of he None h r = absurd cc
    of he (Some pair) h r = rows he pair _ _ _ _ _ _ _ _ h
        (rw (lt-ltb e setup.caps.engines he) refl) refl r

-- and by what the step found
pub fails-with : (setup : Setup) (engines_state : EnginesState) (content : Content) (e : ℕ) (found : StartBlock)
    (member left : ℕ) → ((fates : List FateRow)
    → Some (told_as (work setup engines_state content fates) engines_state.buffers e found)
    ≡ start_reason (work setup engines_state content fates) e) → found ≡ block.Failed member left
    → Fails setup engines_state content e
fails-with setup engines_state content e found member left told is =
    let w : Work = work setup engines_state content [] in
    fails-where setup engines_state content e member left (failed_member w e)
    (sym (told []) ∙ ap (λ (x : StartBlock). Some (told_as w engines_state.buffers e x)) is)

-- all that is left ends, and the batch is closed
pub abandoned : {setup : Setup} {engines_state : EnginesState} {content : Content} {e : ℕ}
    (f : Fails setup engines_state content e) (fates : List FateRow)
    → start (work setup engines_state content fates) e
    ≡ (
      answer.Abandoned (length (chain content (member_list setup e))),
      record {
        setup = setup;
        content = after_give_back content (member_list setup e);
        notes = with_note engines_state.notes e
            (option_map (λ (note : BatchNote). record note { closed = true }) (get_or engines_state.notes e None));
        fates = fates ++ map (fate_row Abandoned) (chain content (member_list setup e));
      },
    )
abandoned {setup} {e = e} f fates = rw (lt-ltb e setup.caps.engines f.engine, f.waiting)
    (rw (lt-ltb e setup.caps.engines f.engine, ← f.fence, ← f.failing) refl)
