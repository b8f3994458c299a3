-- What a fetch finds and leaves.
use Rattle.dsa_book.specs.declared.answer.FetchAnswer.TheVariants as answer
use Rattle.dsa_book.specs.declared.answer.Reply.TheVariants as reply
use Rattle.std.proofs.Common.{◌≡◌, ℕ, ◌+◌, ◌<◌, Bool, true, false, ◌==◌, ◌++◌, nat_lt, List, [], ◌∷◌, set, get_or}
use Rattle.std.proofs.Common.{Option, Some, None, refl, sym, arith, inl, inr}
use Rattle.std.proofs.lemmas.{Grind.{common_steps}, Bool.{lt-ltb, cases_lt}, List.{length-set}}
use Rattle.std.specs.{List.{find}, Option.{option_map}}
use Rattle.dsa_base.{specs.{Lists.{In}, Rows.{first_row_or, when}}, proofs.Lists.{In-find}}
use Rattle.dsa_desc.specs.{declared.Descriptor.{Descriptor}, Descriptor.{with_pasid}}
use Rattle.dsa_store.specs.{declared.entry.{Cell.{Cell}, Entry.{Entry}}, Content.{HeldEntry, Content, chain, after_push}}
use Rattle.dsa_store.proofs.Lists.{length-pushed}
use Rattle.dsa_book.specs.declared.{note.BatchNote.{BatchNote}, answer.FetchAnswer.{FetchAnswer, TheVariants.{Fetched}}}
use Rattle.dsa_book.specs.Choice.{choice_of, may_enter}
use Rattle.dsa_book.specs.declared.fate.FateRow.{FateRow}
use Rattle.dsa_book.specs.{State.{Setup, Work, has_queue}, Work.{progress_list, member_list, fetch, is_all_fetched}}
use Rattle.dsa_book.specs.Work.{note_at, batch_on, fetch_for, fetch_of, after_fetch}
use Rattle.dsa_queues.{specs.Queues.{Kept, IsCounted}, proofs.Counts.{named-in}}
use Rattle.dsa_engines.specs.Engines.{EnginesState, work, IsInStep, is_fetching}
use Rattle.dsa_engines.specs.declared.reasons.FetchReason.{FetchReason, TheVariants.{NoEngine, NoBatch, AllFetched}}
use Rattle.dsa_engines.specs.Batch.{fetch_reason, fetch_reason_for, fetch_reason_of, fetch_answer, unfetched}
use Rattle.dsa_engines.proofs.Keeping.{awake-found, in_step-moved}
use Rattle.dsa_engines.proofs.Used.{load-push, buffers-same, written-less}

-- a name that is given changes nothing of it
in_step-next_name : {cells : ℕ} {setup : Setup} {engines_state : EnginesState} {content : Content} (name : ℕ)
    → IsInStep setup engines_state cells content → IsInStep (record setup { next_name = name }) engines_state cells content
in_step-next_name name s = assumption

-- the batch is held, so it names a queue of the device
pub batch-named : {cells : ℕ} {k : Kept} {engines_state : EnginesState} {content : Content} {e i : ℕ} {batch : HeldEntry}
    (name : ℕ) → IsInStep k.setup engines_state cells content → IsCounted k content → e < k.setup.caps.engines
    → i ≡ progress_list k.setup e → find (λ pair. pair.1.name == name) (chain content i) ≡ Some batch
    → has_queue k.setup batch.1.queue ≡ true
batch-named {k = k} {content = content} {i = i} {batch = batch} name s c he ie found =
    let at : In batch (chain content i) =
    (In-find (λ (pair : HeldEntry). pair.1.name == name) batch (chain content i) found).0
    in
    named-in k content i batch (omega (arith, s.store.lists, he, ie)) at c

-- a fetch without a member is answered by its reason
pub fetch-refused : (w : Work) (e : ℕ) (reason : FetchReason) → Some reason ≡ fetch_reason w e
    → (desc : Descriptor) (cell : Cell) → fetch w e desc cell ≡ (fetch_answer reason, w)
fetch-refused w e reason is desc cell = elim (cases_lt e w.setup.caps.engines) [
  | inl here ↦ noted (note_at w e) (rw (lt-ltb e w.setup.caps.engines here) at is)
  | inr past ↦
      let off : nat_lt e w.setup.caps.engines ≡ false = grind (arith, common_steps, past) in
      missing off (note_at w e) (rw off at is)
]
  where
    missing : nat_lt e w.setup.caps.engines ≡ false → (note : Option BatchNote) → Some reason ≡ Some NoEngine
        → fetch_for w e desc cell note ≡ (fetch_answer reason, w)
    missing off None is = let same : reason ≡ NoEngine = cc in rw same refl
    missing off (Some note) is = let same : reason ≡ NoEngine = cc in rw (same, off) refl

    all : (note : BatchNote) (batch : HeldEntry) (b : Bool)
        → Some reason ≡ when b (AllFetched note.count note.fetched note.closed)
        → first_row_or {X = FetchAnswer × Work} ((b, (answer.AllFetched, w)) ∷ []) (after_fetch w e desc cell note batch.1)
        ≡ (fetch_answer reason, w)
    all note batch true is = let same : reason ≡ AllFetched note.count note.fetched note.closed = cc in rw same refl
    all note batch false is = absurd cc

    found : (note : BatchNote) (batch : Option HeldEntry) → Some reason ≡ fetch_reason_of note batch
        → fetch_of w e desc cell note batch ≡ (fetch_answer reason, w)
    found note None is = let same : reason ≡ NoBatch = cc in rw same refl
    found note (Some batch) is = all note batch (is_all_fetched note) is

    noted : (note : Option BatchNote) → Some reason ≡ fetch_reason_for w e note
        → fetch_for w e desc cell note ≡ (fetch_answer reason, w)
    noted None is = let same : reason ≡ NoBatch = cc in rw same refl
    noted (Some note) is = found note (batch_on w e note) is

-- so each answer that fetches none is a reason's
pub fetch-told : (w : Work) (e : ℕ) (desc : Descriptor) (cell : Cell)
    → option_map fetch_answer (fetch_reason w e) ≡ unfetched (fetch w e desc cell).0
fetch-told w e desc cell = elim (cases_lt e w.setup.caps.engines) [
  | inl here ↦ rw (lt-ltb e w.setup.caps.engines here) (noted (note_at w e))
  | inr past ↦
      let off : nat_lt e w.setup.caps.engines ≡ false = grind (arith, common_steps, past) in
      let same = fetch-refused w e NoEngine (rw off refl) desc cell in
      rw (same, off) refl
]
  where
    all : (note : BatchNote) (batch : HeldEntry) (b : Bool)
        → option_map fetch_answer (when b (AllFetched note.count note.fetched note.closed))
        ≡ unfetched (first_row_or {X = FetchAnswer × Work} ((b, (answer.AllFetched, w)) ∷ []) (after_fetch w e desc cell note batch.1)).0
    all note batch true = refl
    all note batch false = refl

    found : (note : BatchNote) (batch : Option HeldEntry)
        → option_map fetch_answer (fetch_reason_of note batch) ≡ unfetched (fetch_of w e desc cell note batch).0
    found note None = refl
    found note (Some batch) = all note batch (is_all_fetched note)

    noted : (note : Option BatchNote)
        → option_map fetch_answer (fetch_reason_for w e note) ≡ unfetched (fetch_for w e desc cell note).0
    noted None = refl
    noted (Some note) = found note (batch_on w e note)

-- and needs no cell
pub refused-enters : (setup : Setup) (content : Content) (reason : FetchReason)
    → may_enter setup content (choice_of (reply.Fetch (fetch_answer reason))) ≡ true
refused-enters setup content NoEngine = refl
refused-enters setup content NoBatch = refl
refused-enters setup content (AllFetched count fetched closed) = refl

module _ {cells : ℕ} {setup : Setup} {engines_state : EnginesState} {content : Content} {e i : ℕ} {note : BatchNote} {batch : HeldEntry}
    (s : IsInStep setup engines_state cells content) (he : e < setup.caps.engines) (ie : i ≡ progress_list setup e)
    (noted : Some note ≡ get_or engines_state.notes e None)
    (found : find (λ pair. pair.1.name == note.batch) (chain content i) ≡ Some batch)
    (left : false ≡ is_all_fetched note) where
  -- the engine has members to fetch
  pub is-fetching : is_fetching (work setup engines_state content []) e ≡ true
  is-fetching = rw (← noted) (rw (lt-ltb e setup.caps.engines he, rw ie at found, sym left) refl)

  module _ {j : ℕ} {more : Setup} {after : EnginesState} {now : Content} (name : ℕ) (own : Descriptor) (cell : Cell)
      (je : j ≡ member_list setup e) (se : more ≡ record setup { next_name = setup.next_name + 1 })
      (is : now ≡ after_push content j cell (
      record { name = name; parent = Some note.batch; desc = own; queue = batch.1.queue; running = false }
      ))
      (ae : after ≡ record engines_state { notes = set engines_state.notes e (Some (record note { fetched = note.fetched + 1 })) }) where
    -- a member that waits needs nothing yet
    pub in_step-fetched : {later : ℕ} → later ≡ cells → IsInStep more after later now
    in_step-fetched kept =
        let on = awake-found s (find (λ (pair : HeldEntry). pair.1.name == note.batch)) i refl found in
        let member : Entry =
        record { name = name; parent = Some note.batch; desc = own; queue = batch.1.queue; running = false } in
        rw (se, ae, is) (in_step-next_name (setup.next_name + 1)
        (in_step-moved s on kept (length-pushed content j cell member) (length-set engines_state.notes e _) refl
        (buffers-same s on (written-less (chain content j ++ (cell, member) ∷ []) s.store.lists he (inr je)
        (omega (arith, load-push setup (chain content j) (cell, member)))))))

    -- the step, by what the calls answer one after another
    pub fetch-done : {fates : List FateRow} (desc : Descriptor) → name ≡ setup.next_name
        → own ≡ with_pasid desc batch.1.desc.pasid
        → fetch (work setup engines_state content fates) e desc cell
        ≡ (Fetched (record { cell = cell; name = name }), work more after now fates)
    fetch-done desc ne oe = rw (se, ae, is, oe, ne, je)
        (rw (← noted) (rw (lt-ltb e setup.caps.engines he, rw ie at found, sym left) refl))
